-- The joined value is the best one.
use Rattle.std.proofs.Common.{◌≡◌, ℕ, ℤ, ◌+ℤ◌, ◌≤ℤ◌, int_le, true, false, cond, List, [], ◌∷◌, Option, Some, None, ◌⊎◌, inl, inr, refl, sym, subst, arith}
use Rattle.std.proofs.lemmas.Int.{ints}
use Rattle.dp_model.specs.Dp.{Dp}
use Rattle.dp_model.specs.Best.{best, IsBest}
use Rattle.dp_model.specs.Cover.{Covers}
use Rattle.dp_model.specs.Lists.{Each, OneOf}
use Rattle.dp_model.specs.Numbers.{AtMost}
use Rattle.dp_model.specs.Prefixes.{IsCompletion, IsSolution, IsMatched, value_of}
use Rattle.dp_model.proofs.Members.{Each-map, Each-then, Has}
use Rattle.board_laws.specs.Board.{reach_of}
use Rattle.board_laws.proofs.Starting.{own-covers}
use Rattle.dp_model.proofs.Solutions.{best-is_best, IsBest-unique}
use Rattle.frontier_parts.specs.Settled.{Settled, IsShown, IsSettled, IsSettledWithin, DealsOut, better, joined, prefixes, values}

better_left : (z : ℤ) (a b : Option ℤ) → AtMost z a → AtMost z (better a b)
better_left z None b h = absurd h
better_left z (Some a) None h = h
better_left z (Some a) (Some b) h = elim (int_le a b) as (λ t. int_le a b ≡ t → AtMost z (cond t (Some b) (Some a))) [
  | true ↦ λ e. (let low : z ≤ℤ a = h in let up : a ≤ℤ b = grind (arith, ints) in let sum : z ≤ℤ b = omega (arith, ints) in sum)
  | false ↦ λ e. h
] refl

better_right : (z : ℤ) (a b : Option ℤ) → AtMost z b → AtMost z (better a b)
better_right z None b h = h
better_right z (Some a) None h = absurd h
better_right z (Some a) (Some b) h = elim (int_le a b) as (λ t. int_le a b ≡ t → AtMost z (cond t (Some b) (Some a))) [
  | true ↦ λ e. h
  | false ↦ λ e. (let low : z ≤ℤ b = h in let up : b ≤ℤ a = grind (arith, ints) in let sum : z ≤ℤ a = omega (arith, ints) in sum)
] refl

shown_better : (dp : Dp) (a b : Option ℤ) → IsShown dp a → IsShown dp b → IsShown dp (better a b)
shown_better dp None b h k = k
shown_better dp (Some a) None h k = h
shown_better dp (Some a) (Some b) h k = elim (int_le a b) as (λ t. IsShown dp (cond t (Some b) (Some a))) [ true ↦ k | false ↦ h ]

-- a reading of values by which the greater of two reads as no less than each of them
pub record IsRising (r : Option ℤ → Option ℤ) : Type 0 where
  pub left : (z : ℤ) (a b : Option ℤ) → AtMost z (r a) → AtMost z (r (better a b))
  pub right : (z : ℤ) (a b : Option ℤ) → AtMost z (r b) → AtMost z (r (better a b))

pub itself_rising : IsRising (λ a. a)
itself_rising = record { left = better_left; right = better_right }

reach_left : (within z : ℤ) (a b : Option ℤ) → AtMost z (reach_of within a) → AtMost z (reach_of within (better a b))
reach_left within z None b h = absurd h
reach_left within z (Some a) None h = h
reach_left within z (Some a) (Some b) h = elim (int_le a b) as (λ t. int_le a b ≡ t → AtMost z (reach_of within (cond t (Some b) (Some a)))) [
  | true ↦ λ e. (let low : z ≤ℤ (a +ℤ within) = h in let up : a ≤ℤ b = grind (arith, ints) in let sum : z ≤ℤ (b +ℤ within) = omega (arith, ints) in sum)
  | false ↦ λ e. h
] refl

reach_right : (within z : ℤ) (a b : Option ℤ) → AtMost z (reach_of within b) → AtMost z (reach_of within (better a b))
reach_right within z None b h = h
reach_right within z (Some a) None h = absurd h
reach_right within z (Some a) (Some b) h = elim (int_le a b) as (λ t. int_le a b ≡ t → AtMost z (reach_of within (cond t (Some b) (Some a)))) [
  | true ↦ λ e. h
  | false ↦ λ e. (let low : z ≤ℤ (b +ℤ within) = h in let up : b ≤ℤ a = grind (arith, ints) in let sum : z ≤ℤ (a +ℤ within) = omega (arith, ints) in sum)
] refl

pub reach_rising : (within : ℤ) → IsRising (reach_of within)
reach_rising within = record { left = reach_left within; right = reach_right within }

pub lower : (y z : ℤ) (o : Option ℤ) → y ≤ℤ z → AtMost z o → AtMost y o
lower y z None h k = absurd k
lower y z (Some a) h k = (let up : z ≤ℤ a = k in let sum : y ≤ℤ a = omega (arith, ints) in sum)

-- as they are read, each completion is at most the value of the part or the incumbent's
abbrev pub HoldsBy : Dp → (Option ℤ → Option ℤ) → Option ℤ → Settled → Type 0
HoldsBy dp r inc part = (x : List ℕ) → IsCompletion dp part.prefix x → AtMost (value_of dp x) (r part.best) ⊎ AtMost (value_of dp x) (r inc)

module _ (dp : Dp) (r : Option ℤ → Option ℤ) (rising : IsRising r) (inc : Option ℤ) where
  pub inc_within : (z : ℤ) (acc : Option ℤ) (vs : List (Option ℤ)) → AtMost z (r acc) → AtMost z (r (joined acc vs))
  inc_within z acc [] h = h
  inc_within z acc (value ∷ vs) h = inc_within z (better acc value) vs (rising.left z acc value h)

  -- what is at most one of the values is at most the joined one
  pub has_within : (z : ℤ) (acc : Option ℤ) (vs : List (Option ℤ)) (v : Option ℤ) → Has v vs → AtMost z (r v) → AtMost z (r (joined acc vs))
  has_within z acc [] v has low = absurd has
  has_within z acc (value ∷ vs) v (inl same) low = inc_within z (better acc value) vs (rising.right z acc value (subst (λ o. AtMost z (r o)) (sym same) low))
  has_within z acc (value ∷ vs) v (inr later) low = has_within z (better acc value) vs v later low

  matched_within : (acc : Option ℤ) (parts : List Settled) (x : List ℕ) → ((z : ℤ) → AtMost z (r inc) → AtMost z (r acc)) → Each (HoldsBy dp r inc) parts → OneOf (IsMatched dp x) (prefixes parts)
      → AtMost (value_of dp x) (r (joined acc (values parts)))
  matched_within acc [] x low each h = absurd h
  matched_within acc (part ∷ parts) x low each (inl here) =
      let more = better acc part.best in
      lower (value_of dp x) (value_of dp here.by) (r (joined more (values parts))) here.least (elim (each.0 here.by here.completion) as (λ _. AtMost (value_of dp here.by) (r (joined more (values parts)))) [
        | inl own ↦ inc_within (value_of dp here.by) more (values parts) (rising.right (value_of dp here.by) acc part.best own)
        | inr old ↦ inc_within (value_of dp here.by) more (values parts) (rising.left (value_of dp here.by) acc part.best (low (value_of dp here.by) old))
      ])
  matched_within acc (part ∷ parts) x low each (inr later) = matched_within (better acc part.best) parts x (λ z h. rising.left z acc part.best (low z h)) each.1 later

  -- no solution is more than the joined value, as it is read
  within_joined : (parts : List Settled) → Covers dp (r inc) (prefixes parts) → Each (HoldsBy dp r inc) parts → (x : List ℕ) → IsSolution dp x → AtMost (value_of dp x) (r (joined inc (values parts)))
  within_joined parts covers each x h = elim (covers x h) as (λ _. AtMost (value_of dp x) (r (joined inc (values parts)))) [
    | inl old ↦ inc_within (value_of dp x) inc (values parts) old
    | inr matched ↦ matched_within inc parts x (λ z low. low) each matched
  ]

module _ (dp : Dp) (inc : Option ℤ) where
  pub shown_joined : (acc : Option ℤ) (vs : List (Option ℤ)) → IsShown dp acc → Each (IsShown dp) vs → IsShown dp (joined acc vs)
  shown_joined acc [] h each = h
  shown_joined acc (value ∷ vs) h each = shown_joined (better acc value) vs (shown_better dp acc value h each.0) each.1

  pub greatest_is : (o : Option ℤ) → IsShown dp o → ((x : List ℕ) → IsSolution dp x → AtMost (value_of dp x) o) → IsBest dp o
  greatest_is None shown most = most
  greatest_is (Some v) shown most = record { by = shown.by; solution = shown.solution; value = shown.value; most = most }

  -- the law of joining: over the frontier of a stopped search
  pub joined_is_best : (parts : List Settled) → IsShown dp inc → Covers dp inc (prefixes parts) → Each (IsSettled dp inc) parts → IsBest dp (joined inc (values parts))
  joined_is_best parts shown covers each = greatest_is (joined inc (values parts)) (shown_joined inc (values parts) shown (Each-map (λ (part : Settled). part.best) (IsShown dp) parts (Each-then (IsSettled dp inc) (λ part. IsShown dp part.best) parts (λ part is. is.shown) each)))
      (within_joined dp (λ a. a) itself_rising inc parts covers (Each-then (IsSettled dp inc) (HoldsBy dp (λ a. a) inc) parts (λ part is. is.held) each))

  pub joined_best : (parts : List Settled) → IsShown dp inc → Covers dp inc (prefixes parts) → Each (IsSettled dp inc) parts → joined inc (values parts) ≡ best dp
  joined_best parts shown covers each = IsBest-unique dp (joined inc (values parts)) (best dp) (joined_is_best parts shown covers each) (best-is_best dp)

  -- within a distance
  pub joined_within : (within : ℤ) (parts : List Settled) → Covers dp (reach_of within inc) (prefixes parts) → Each (IsSettledWithin dp within inc) parts
      → (x : List ℕ) → IsSolution dp x → AtMost (value_of dp x) (reach_of within (joined inc (values parts)))
  joined_within within parts covers each =
      within_joined dp (reach_of within) (reach_rising within) inc parts covers (Each-then (IsSettledWithin dp within inc) (HoldsBy dp (reach_of within) inc) parts (λ part is. is.held) each)

  -- prefixes that deal out the solutions cover them
  pub dealt_covers : (P : List (List ℕ)) → DealsOut dp inc P → Covers dp inc P
  dealt_covers P deals x h = elim (deals x h) as (λ _. AtMost (value_of dp x) inc ⊎ OneOf (IsMatched dp x) P) [
    | inl old ↦ inl old
    | inr one ↦ own-covers dp inc P x h one
  ]
