-- A beam is made, layer by layer.
use Rattle.std.proofs.Common.{◌≡◌, ℕ, suc, ◌+◌, ◌-◌, ◌*◌, ◌^◌, ◌<◌, ◌≤◌, nat_lt, nat_le, nat_eq, ℤ, Bool, true, false, not, cond, ◌&&◌, ◌||◌, List, [], ◌∷◌, ◌++◌, length, take, filter, find, is_some, Option, Some, None, vec_capacity, mul-le-mul_right, refl, sym, ap, ap₂, subst, ◌∙◌, ◌⊎◌, inl, inr, arith}
use Rattle.std.proofs.lemmas.Int.{ints}
use Rattle.std.proofs.lemmas.Bool.Decides.{nat_tests}
use Rattle.std.proofs.Math.Nat.{suc-mul}
use Rattle.std.proofs.lemmas.List.{take_all, length-map}
use Rattle.dp_model.specs.Decisions.{below}
use Rattle.dp_model.specs.Dp.{Dp}
use Rattle.dp_model.specs.Gaps.{is_struck_by}
use Rattle.dp_model.specs.Laws.{IsLawful}
use Rattle.dp_model.specs.Lists.{Each}
use Rattle.dp_model.specs.Prefixes.{IsPrefix, value_of}
use Rattle.dp_model.specs.Reached.{Reached, reached}
use Rattle.dp_model.proofs.Paths.{IsPrefix-length}
use Rattle.dp_model.proofs.Sizes.{value_of-size}
use Rattle.dp_laws.specs.Restricted.Beam.{layer_below, whole_layer, is_too_wide, is_reduced, expanded}
use Rattle.dp_laws.specs.Restricted.Leaders.{unstruck, dominated, leaders_after, undominated}
use Rattle.dp_laws.specs.Restricted.Members.{IsMember}
use Rattle.dp_laws.proofs.Prefixes.{layers-prefixes}
use Rattle.dp_laws.proofs.Restricted.InOrder.{few-expanded}
use Rattle.layer_candidates.specs.declared.beam.Beam.{Beam}
use Rattle.layer_candidates.specs.declared.candidates.Candidates.{Candidates}
use Rattle.layer_candidates.specs.declared.member.Member.{Member}
use Rattle.layer_candidates.specs.Beaming.{AreEnough, AreEnoughMembers, HasBeamRows, kept_at, took, IsBuilt, most_at, is_between, IsNext}
use Rattle.layer_candidates.specs.Layering.{HasMemory}
use Rattle.layer_candidates.specs.Members.{members_as}
use Rattle.layer_candidates.specs.Steps.{path_at}
use Rattle.layer_candidates.specs.Ways.{IsNear}
use Rattle.layer_candidates.proofs.WayTables.{room-kept, keeps-self}
use Rattle.row_region.specs.Region.{RegionView}

-- Members are prefixes, so their values are near.

pub near-value : (dp : Dp) → IsLawful dp → (p : List ℕ) → IsPrefix dp p → IsNear (value_of dp p)
near-value dp laws p h =
    let size = value_of-size dp laws p h in
    let short = IsPrefix-length dp p h in
    let few = laws.sizes.vars in
    record { low = omega (arith, ints); high = omega (arith, ints) }

near-of : (dp : Dp) → IsLawful dp → (p : List ℕ) (k : ℕ) (paths : ℕ → List ℕ) (region : RegionView) (members : List Member)
    → Each (IsMember dp p k) (members_as paths region members) → Each (λ (m : Member). IsNear m.value) members
near-of dp laws p k paths region [] h = tt
near-of dp laws p k paths region (m ∷ members) h = (subst IsNear (sym h.0.value) (near-value dp laws (paths m.step) h.0.prefix), near-of dp laws p k paths region members h.1)

-- How many there are.

few-filter : {X : Type 0} (p : X → Bool) (xs : List X) → length (filter p xs) ≤ length xs
few-filter p [] = omega arith
few-filter p (x ∷ xs) = let rest = few-filter p xs in elim (p x) as (λ b. length (cond b (x ∷ filter p xs) (filter p xs)) ≤ length (x ∷ xs)) [ true ↦ omega arith | false ↦ omega arith ]

few-undominated : (dp : Dp) (k : ℕ) (leaders rs : List Reached) → length (undominated dp k leaders rs) ≤ length rs
few-undominated dp k leaders [] = omega arith
few-undominated dp k leaders (r ∷ rs) =
    let rest = few-undominated dp k (leaders_after dp k leaders r) rs in
    elim (dominated dp k leaders r) as (λ b. length (cond b [] (r ∷ []) ++ undominated dp k (leaders_after dp k leaders r) rs) ≤ length (r ∷ rs)) [ true ↦ omega arith | false ↦ omega arith ]

pub few-whole : (dp : Dp) (k : ℕ) (t : Option ℤ) (layer : List Reached) → length (whole_layer dp k t layer) ≤ length layer * dp.choices k
few-whole dp k t layer =
    let one = few-expanded dp k layer in
    let two = few-filter (λ (r : Reached). not (is_struck_by r.value (dp.rough (k + 1) r.row) t)) (expanded dp k layer) in
    let three = few-undominated dp (k + 1) [] (unstruck dp (k + 1) t (expanded dp k layer)) in
    omega arith

-- Whether the width took something.

find-push : {X : Type 0} (p : X → Bool) (xs : List X) (x : X) → is_some (find p (xs ++ x ∷ [])) ≡ (is_some (find p xs) || p x)
find-push p [] x = elim (p x) as (λ b. is_some (cond b (Some x) None) ≡ b) [ true ↦ refl | false ↦ refl ]
find-push p (y ∷ xs) x = elim (p y) as (λ b. is_some (cond b (Some y) (find p (xs ++ x ∷ []))) ≡ (is_some (cond b (Some y) (find p xs)) || p x)) [ true ↦ refl | false ↦ find-push p xs x ]

pub took-more : (dp : Dp) (p : List ℕ) (w : ℕ) (t : Option ℤ) (m : ℕ) → took dp p w t (suc m) ≡ (took dp p w t m || is_too_wide dp (reached dp p) w t (suc m))
took-more dp p w t m = find-push (is_too_wide dp (reached dp p) w t) (below (suc m)) (suc m)

-- One layer more.

and-false : (b : Bool) → (b && false) ≡ false
and-false true = refl
and-false false = refl

and-true : (b : Bool) → (b && true) ≡ b
and-true true = refl
and-true false = refl

pub record IsChosen (dp : Dp) (p : List ℕ) (w : ℕ) (t : Option ℤ) (m most : ℕ) : Type 0 where
  pub kept : take most (whole_layer dp (length p + m) t (layer_below dp (reached dp p) w t m)) ≡ kept_at dp (length p + m + 1) (layer_below dp (reached dp p) w t (suc m))
  pub flag : (more : Bool) → more ≡ nat_lt most (length (whole_layer dp (length p + m) t (layer_below dp (reached dp p) w t m)))
      → (more && is_between (length p + m) (length p) dp.vars) ≡ is_too_wide dp (reached dp p) w t (suc m)
  pub small : m ≡ 0 → most ≤ dp.choices (length p)
  pub narrow : 0 < m → most ≤ w

module _ (dp : Dp) (laws : IsLawful dp) (p : List ℕ) (w : ℕ) (t : Option ℤ) (m : ℕ) (low : length p + m < dp.vars) (positive : 1 ≤ w) where
  abbrev k : ℕ
  k = length p + m

  abbrev whole_of : List Reached
  whole_of = whole_layer dp k t (layer_below dp (reached dp p) w t m)

  unreduced : is_reduced dp (length p) (k + 1) ≡ false → layer_below dp (reached dp p) w t (suc m) ≡ whole_of
  unreduced e = ap (λ b. cond b (take w whole_of) whole_of) e

  at-last : k + 1 ≡ dp.vars → IsChosen dp p w t m 1
  at-last e =
      let last : nat_lt (k + 1) dp.vars ≡ false = grind (arith, nat_tests) in
      let none : is_reduced dp (length p) (k + 1) ≡ false = ap (λ b. nat_le (length p + 2) (k + 1) && b) last ∙ and-false (nat_le (length p + 2) (k + 1)) in
      record {
        kept = sym (ap (λ b. cond b (layer_below dp (reached dp p) w t (suc m)) (take 1 (layer_below dp (reached dp p) w t (suc m)))) last ∙ ap (take 1) (unreduced none));
        flag = λ more is. ap (λ b. more && (nat_lt (length p) k && b)) last ∙ (ap (λ b. more && b) (and-false (nat_lt (length p) k)) ∙ (and-false more ∙ sym (ap (λ b. b && nat_lt w (length whole_of)) none)));
        small = λ z. subst (λ n. 1 ≤ dp.choices n) (let e : k ≡ length p = omega arith in e) (laws.sizes.some_choices k low);
        narrow = λ more. positive;
      }

  at-first : k + 1 < dp.vars → m ≡ 0 → IsChosen dp p w t m (dp.choices k)
  at-first less z =
      let inner : nat_lt (k + 1) dp.vars ≡ true = grind (arith, nat_tests) in
      let near : nat_le (length p + 2) (k + 1) ≡ false = grind (arith, nat_tests) in
      let none : is_reduced dp (length p) (k + 1) ≡ false = ap (λ b. b && nat_lt (k + 1) dp.vars) near in
      let not_past : nat_lt (length p) k ≡ false = grind (arith, nat_tests) in
      let one : length (layer_below dp (reached dp p) w t m) ≡ 1 = ap (λ n. length (layer_below dp (reached dp p) w t n)) z in
      let few = few-whole dp k t (layer_below dp (reached dp p) w t m) in
      let fits : length whole_of ≤ dp.choices k = subst (λ n. length whole_of ≤ n) (ap (λ n. n * dp.choices k) one ∙ (let e : 1 * dp.choices k ≡ dp.choices k = omega arith in e)) few in
      record {
        kept = take_all (dp.choices k) whole_of fits ∙ sym (ap (λ b. cond b (layer_below dp (reached dp p) w t (suc m)) (take 1 (layer_below dp (reached dp p) w t (suc m)))) inner ∙ unreduced none);
        flag = λ more is. ap (λ b. more && (b && nat_lt (k + 1) dp.vars)) not_past ∙ (and-false more ∙ sym (ap (λ b. b && nat_lt w (length whole_of)) none));
        small = λ z. (let e : k ≡ length p = omega arith in let f = ap dp.choices e in omega arith);
        narrow = λ more. absurd (omega arith);
      }

  between : k + 1 < dp.vars → 0 < m → IsChosen dp p w t m w
  between less more =
      let inner : nat_lt (k + 1) dp.vars ≡ true = grind (arith, nat_tests) in
      let far : nat_le (length p + 2) (k + 1) ≡ true = grind (arith, nat_tests) in
      let some : is_reduced dp (length p) (k + 1) ≡ true = ap₂ (λ a b. a && b) far inner in
      let past : nat_lt (length p) k ≡ true = grind (arith, nat_tests) in
      record {
        kept = sym (ap (λ b. cond b (layer_below dp (reached dp p) w t (suc m)) (take 1 (layer_below dp (reached dp p) w t (suc m)))) inner ∙ ap (λ b. cond b (take w whole_of) whole_of) some);
        flag = λ more is. ap₂ (λ a b. more && (a && b)) past inner ∙ (and-true more ∙ (is ∙ sym (ap (λ b. b && nat_lt w (length whole_of)) some)));
        small = λ z. absurd (omega arith);
        narrow = λ more. omega arith;
      }

  pub chosen : IsChosen dp p w t m (most_at dp k (length p) w)
  chosen = last (nat_eq (k + 1) dp.vars) refl
    where
      first : k + 1 < dp.vars → (b : Bool) → nat_eq k (length p) ≡ b → IsChosen dp p w t m (cond b (dp.choices k) w)
      first less true e = at-first less (grind (arith, nat_tests))
      first less false e = between less (grind (arith, nat_tests))

      last : (a : Bool) → nat_eq (k + 1) dp.vars ≡ a → IsChosen dp p w t m (cond a 1 (cond (nat_eq k (length p)) (dp.choices k) w))
      last true e = at-last (grind (arith, nat_tests))
      last false e = first (grind (arith, nat_tests)) (nat_eq k (length p)) refl

-- what the next layer needs
pub record MayDescend (dp : Dp) (k most : ℕ) (b : Beam) (region : RegionView) : Type 0 where
  pub near : Each (λ (m : Member). IsNear m.value) b.members.items
  pub memory : HasMemory dp.words (length b.members.items * dp.choices k) b.candidates
  pub spare : length b.members.items * dp.choices k + 1 ≤ region.spare
  pub members_room : most ≤ vec_capacity b.members
  pub steps_room : length b.steps.items + most ≤ vec_capacity b.steps
  pub small : length b.steps.items + most < 2 ^ 32

memory-less : (words m n : ℕ) (c : Candidates) → HasMemory words n c → m ≤ n → HasMemory words m c
memory-less words m n c h less =
    let four = h.keys in let five = h.kept in let six = h.small in
    record { parent = h.parent; table = room-kept m n c.table c.table (keeps-self c.table) less h.table; keys = omega arith; kept = omega arith; small = omega arith }

zero-or : (m : ℕ) → (m ≡ 0) ⊎ ((m ≡ 1) ⊎ (1 < m))
zero-or m = grind arith

module _ (dp : Dp) (laws : IsLawful dp) (p : List ℕ) (w : ℕ) (t : Option ℤ) (k : ℕ) (b : Beam) (region : RegionView) (reduced : Bool) (h : IsBuilt dp p w t k b region reduced) (is_prefix : IsPrefix dp p) (low : k < dp.vars) where
  abbrev past : ℕ
  past = k - length p

  deep : k ≡ length p + past
  deep = let d = h.deep in omega arith

  here : members_as (path_at p b.steps.items) region b.members.items ≡ layer_below dp (reached dp p) w t past
  here = let inside : nat_lt k dp.vars ≡ true = grind (arith, nat_tests) in h.list ∙ ap (λ c. cond c (layer_below dp (reached dp p) w t past) (take 1 (layer_below dp (reached dp p) w t past))) inside

  -- there are no more candidates, and no more members, than what is enough
  module _ (room widest : ℕ) (enough : AreEnough dp w room widest) where
    count-few : length b.members.items * dp.choices k ≤ room
    count-few = go (zero-or past)
      where
        go : (past ≡ 0) ⊎ ((past ≡ 1) ⊎ (1 < past)) → length b.members.items * dp.choices k ≤ room
        go (inl z) =
            let d = deep in
            let one = h.one (omega arith) in
            let first = enough.first k low in
            subst (λ n. n * dp.choices k ≤ room) (sym one) (omega arith)
        go (inr (inl z)) =
            let d = deep in
            let next : k ≡ length p + 1 = omega arith in
            let few = mul-le-mul_right (dp.choices k) (h.second next) in
            let second = subst (λ n. dp.choices (length p) * dp.choices n ≤ room) (sym next) (enough.second (length p) (omega arith)) in
            omega arith
        go (inr (inr z)) =
            let d = deep in
            let few = mul-le-mul_right (dp.choices k) (h.later (omega arith)) in
            let later = enough.later k low in
            omega arith

    members-few : length b.members.items ≤ widest
    members-few = go (zero-or past)
      where
        go : (past ≡ 0) ⊎ ((past ≡ 1) ⊎ (1 < past)) → length b.members.items ≤ widest
        go (inl z) = let d = deep in let one = h.one (omega arith) in let c = enough.members.one in omega arith
        go (inr (inl z)) = let d = deep in let few = h.second (omega arith) in let c = enough.members.choices (length p) (omega arith) in omega arith
        go (inr (inr z)) = let d = deep in let few = h.later (omega arith) in let c = enough.members.width in omega arith

  abbrev most : ℕ
  most = most_at dp (length p + past) (length p) w

  choice : IsChosen dp p w t past most
  choice = chosen dp laws p w t past (let d = deep in omega arith) h.has_room.positive

  most-wide : (widest : ℕ) → AreEnoughMembers dp w widest → most ≤ widest
  most-wide widest enough = go (zero-or past)
    where
      go : (past ≡ 0) ⊎ ((past ≡ 1) ⊎ (1 < past)) → most ≤ widest
      go (inl z) = let d = deep in let small = choice.small z in let c = enough.choices (length p) (omega arith) in omega arith
      go (inr (inl z)) = let narrow = choice.narrow (omega arith) in let c = enough.width in omega arith
      go (inr (inr z)) = let narrow = choice.narrow (omega arith) in let c = enough.width in omega arith

  steps-fit : length b.steps.items + most ≤ h.has_room.widest + dp.vars * w
  steps-fit = go (zero-or past)
    where
      later : 0 < past → length b.steps.items + most ≤ h.has_room.widest + dp.vars * w
      later more =
          let d = deep in
          let narrow = choice.narrow more in
          let few = h.few (omega arith) in
          let c = h.has_room.enough.members.choices (length p) (omega arith) in
          let all : suc past * w ≤ dp.vars * w = mul-le-mul_right w (omega arith) in
          let sum : suc past * w ≡ past * w + w = suc-mul past w in
          omega arith

      go : (past ≡ 0) ⊎ ((past ≡ 1) ⊎ (1 < past)) → length b.steps.items + most ≤ h.has_room.widest + dp.vars * w
      go (inl z) = let d = deep in let none = h.none (omega arith) in let wide = most-wide h.has_room.widest h.has_room.enough.members in omega arith
      go (inr (inl z)) = later (omega arith)
      go (inr (inr z)) = later (omega arith)

  pub may-descend : MayDescend dp k most b region
  may-descend =
      let room = h.has_room in
      let rows = h.region_room in
      let few = count-few room.room room.widest room.enough in
      let free = rows.fits in
      let candidates = count-few rows.room rows.widest rows.enough in
      let still = members-few rows.room rows.widest rows.enough in
      let wide = most-wide room.widest room.enough.members in
      let fit = steps-fit in
      let hold = room.steps in let limit = room.small in let members = room.members in
      record {
        near = near-of dp laws p k (path_at p b.steps.items) region b.members.items
            (subst (Each (IsMember dp p k)) (sym here) (subst (λ n. Each (IsMember dp p n) (layer_below dp (reached dp p) w t past)) (sym deep) (layers-prefixes dp p w t past is_prefix (let d = deep in omega arith))));
        memory = memory-less dp.words (length b.members.items * dp.choices k) room.room b.candidates room.candidates few;
        spare = omega arith;
        members_room = omega arith;
        steps_room = omega arith;
        small = omega arith;
      }

  pub built-next : (new : Beam) (below : RegionView) (more : Bool) → IsNext dp k t most b region new below more → IsBuilt dp p w t (k + 1) new below (reduced || (more && is_between k (length p) dp.vars))
  built-next new below more n =
      let d = deep in
      let next : (k + 1) - length p ≡ suc past = omega arith in
      let whole : whole_layer dp k t (members_as (path_at p b.steps.items) region b.members.items) ≡ whole_layer dp (length p + past) t (layer_below dp (reached dp p) w t past) =
      ap₂ (λ j l. whole_layer dp j t l) deep here in
      let listed : members_as (path_at p new.steps.items) below new.members.items ≡ kept_at dp (k + 1) (layer_below dp (reached dp p) w t (suc past)) =
      n.list p ∙ (ap (take most) whole ∙ (choice.kept ∙ ap (λ j. kept_at dp (j + 1) (layer_below dp (reached dp p) w t (suc past))) (sym deep))) in
      let flag : (more && is_between k (length p) dp.vars) ≡ is_too_wide dp (reached dp p) w t (suc past) =
      ap (λ j. more && is_between j (length p) dp.vars) deep ∙ choice.flag more (n.more_stay p ∙ ap (λ l. nat_lt most (length l)) whole) in
      let few = n.few in
      let sum = n.steps in
      let old_rows = length-map b.members.items (λ (m : Member). m.row) in
      let new_rows = length-map new.members.items (λ (m : Member). m.row) in
      let free = n.exchanged.spare in
      let spare : below.spare + length new.members.items ≡ region.spare + length b.members.items = omega arith in
      record {
        has_room = n.has_room w h.has_room;
        region_words = n.exchanged.words ∙ h.region_words;
        region_room = subst (HasBeamRows dp w) (sym spare) h.region_room;
        live = n.exchanged.live;
        deep = omega arith;
        list = listed ∙ ap (λ j. kept_at dp (k + 1) (layer_below dp (reached dp p) w t j)) (sym next);
        held = n.held;
        reached_by = n.reached_by;
        backward = n.backward h.backward;
        one = λ e. absurd (omega arith);
        none = λ e. absurd (omega arith);
        second = λ e. (let small = choice.small (omega arith) in omega arith);
        later = λ less. (let narrow = choice.narrow (omega arith) in omega arith);
        few = λ less. subst (λ j. length new.steps.items ≤ dp.choices (length p) + j * w) (sym next) (count (zero-or past));
        reduced_is = ap₂ (λ a c. a || c) h.reduced_is flag ∙ (sym (took-more dp p w t past) ∙ ap (took dp p w t) (sym next));
      }
    where
      count : (past ≡ 0) ⊎ ((past ≡ 1) ⊎ (1 < past)) → length new.steps.items ≤ dp.choices (length p) + suc past * w
      count (inl z) = let d = deep in let small = choice.small z in let none = h.none (omega arith) in let few = n.few in let sum = n.steps in omega arith
      count (inr (inl z)) = let d = deep in let narrow = choice.narrow (omega arith) in let old = h.few (omega arith) in let few = n.few in let sum = n.steps in let more = suc-mul past w in omega arith
      count (inr (inr z)) = let d = deep in let narrow = choice.narrow (omega arith) in let old = h.few (omega arith) in let few = n.few in let sum = n.steps in let more = suc-mul past w in omega arith

pub depth : (f k : ℕ) → f ≤ k → k ≡ f + (k - f)
depth f k le = omega arith
