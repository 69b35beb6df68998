-- Gaps, merges and rough bounds of a table whose tests hold.
use Rattle.std.proofs.Common.{◌≡◌, ℕ, ◌+◌, ◌-◌, ◌<◌, ◌≤◌, ◌^◌, max, ℤ, pos, neg_ℤ, ◌+ℤ◌, ◌≤ℤ◌, Bool, true, false, cond, not, ◌||◌, ◌&&◌, List, [], ◌∷◌, length, Option, Some, None, refl, sym, ap, subst, ◌∙◌, arith}
use Rattle.std.specs.Prelude.{is_some, nat_eq}
use Rattle.std.proofs.lemmas.Bool.{and_parts, cond-true, cond-false, eq-eqb, ne_eqb, false≢true}
use Rattle.std.proofs.lemmas.Int.{ints}
use Rattle.dp_model.specs.Dp.{IsAllowed}
use Rattle.dp_model.specs.Gaps.{IsStateOf, IsSoundGap, Matches, HasGap, HasGapWithin}
use Rattle.dp_model.specs.NumberLaws.{int_le-is}
use Rattle.dp_model.specs.Numbers.{AtMost, int_same}
use Rattle.dp_model.specs.Prefixes.{IsPath, IsContinuation, gain_of}
use Rattle.table_model.specs.Laws.Places.{Passes, holds_each, passes_at}
use Rattle.table_model.specs.Laws.Shaped.{IsTable, IsBetween, HasStates, HasDecisions, IsLast, some_between, grid_passes, row_passes, states_at, decisions_at, after_is, last_is}
use Rattle.table_model.specs.Laws.Steps.{IsTransition, Has, has_from, some_from, IsWithin, transition_within, gain_step, path_step, path_from_step}
use Rattle.table_model.specs.Laws.Tested.{IsTested, tested_at}
use Rattle.table_model.specs.Program.{number_in, row_of_number, program_of}
use Rattle.table_model.specs.Table.{LayerTable, Table, layer_at, layer_after, gap_at, merge_at, rough_at, transition_at}
use Rattle.table_model.specs.Tests.{is_enough, matches_by, is_match, is_matched, is_matched_at, is_sound_gap, is_zero, is_own_gap, covers_as, covers_both, bounds_next, bounds_transition, is_bounded, is_within_sum, adds_up_by, first_failure}
use Rattle.table_model.specs.declared.transition.Transition.{Transition}

-- ---- a gap is sound

-- a decision of a that matches a decision w of a state to which a has the gap g
record IsMatched (l after : LayerTable) (a : ℕ) (w : Transition) (g : ℤ) : Type 0 where
  decision : ℕ
  below : decision < l.choices
  to : Transition
  is : transition_at l a decision ≡ Some to
  following : ℤ
  gap : gap_at after to.next w.next ≡ Some following
  enough : (w.gain +ℤ following) ≤ℤ (to.gain +ℤ g)

enough_by : (l after : LayerTable) (a e : ℕ) (w v : Transition) (g : ℤ) (o : Option ℤ) → e < l.choices → transition_at l a e ≡ Some v → gap_at after v.next w.next ≡ o
    → is_enough w.gain v.gain g o ≡ true → IsMatched l after a w g
enough_by l after a e w v g None below is gap h = absurd (false≢true h)
enough_by l after a e w v g (Some q) below is gap h = record { decision = e; below = below; to = v; is = is; following = q; gap = gap; enough = int_le-is _ _ h }

match_by : (l after : LayerTable) (a e : ℕ) (w : Transition) (g : ℤ) (o : Option Transition) → e < l.choices → transition_at l a e ≡ o → matches_by after w g o ≡ true → IsMatched l after a w g
match_by l after a e w g None below is h = absurd (false≢true h)
match_by l after a e w g (Some v) below is h = enough_by l after a e w v g (gap_at after v.next w.next) below is refl h

-- each decision of s is matched, where a has a gap to it
matched : (l after : LayerTable) (a s d : ℕ) (g : ℤ) (w : Transition) → is_sound_gap l after a s (gap_at l a s) ≡ true → gap_at l a s ≡ Some g → d < l.choices
    → transition_at l s d ≡ Some w → IsMatched l after a w g
matched l after a s d g w h gap below is =
    let all : is_sound_gap l after a s (Some g) ≡ true = subst (λ (o : Option ℤ). is_sound_gap l after a s o ≡ true) gap h in
    let one : is_matched l after a g (Some w) ≡ true = subst (λ (o : Option Transition). is_matched l after a g o ≡ true) is (holds_each (is_matched_at l after a s g) l.choices d all below) in
    let p = passes_at (is_match l after a w g) l.choices one in
    match_by l after a p.place w g (transition_at l a p.place) p.below refl p.passes

module _ (t : Table) (shape : IsTable t) (tests : first_failure t.layers ≡ None) where
  -- the states of the layer after a decision are some
  some_after : (k : ℕ) → k < length t.layers - 1 → 1 ≤ (layer_at t.layers (k + 1)).states
  some_after k below = (states_at t.layers (k + 1) shape.layers (omega arith)).some

  pub gap_between : (k a s : ℕ) (g : ℤ) → k < length t.layers → a < (layer_at t.layers k).states → s < (layer_at t.layers k).states → gap_at (layer_at t.layers k) a s ≡ Some g
      → IsBetween (pos 0) (pos (2 ^ 50)) g
  gap_between k a s g below one two is =
      let l = layer_at t.layers k in
      some_between (pos 0) (pos (2 ^ 50)) g (gap_at l a s) (grid_passes _ _ _ l.gap a s None (states_at t.layers k shape.layers below).gap one two) is

  pub sound_from : (k : ℕ) (a s : List ℤ) (g : ℤ) (c : List ℕ) → number_in a < (layer_at t.layers k).states → number_in s < (layer_at t.layers k).states
      → gap_at (layer_at t.layers k) (number_in a) (number_in s) ≡ Some g → IsPath (program_of t) k s c → k + length c ≡ length t.layers - 1
      → Matches (program_of t) k a g (gain_of (program_of t) k s c)
  sound_from k a s g [] one two gap path whole =
      let some = shape.some in
      let low = (gap_between k (number_in a) (number_in s) g (omega (arith, some, whole)) one two gap).low in
      record { by = []; continuation = record { path = tt; whole = whole }; enough = omega (arith, ints, low) }
  sound_from k a s g (d ∷ c) one two gap path whole =
      let l = layer_at t.layers k in
      let after = layer_at t.layers (k + 1) in
      let below : k + 1 < length t.layers = let layer = path.0.layer in omega (arith, layer) in
      let w = has_from (transition_at l (number_in s) d) path.0.test in
      let some = (states_at t.layers (k + 1) shape.layers below).some in
      let decisions = decisions_at t.layers k shape.layers below in
      let tested : IsTested l (layer_after t.layers k) = tested_at t.layers k tests (omega arith) in
      let sound : is_sound_gap l after (number_in a) (number_in s) (gap_at l (number_in a) (number_in s)) ≡ true =
      subst (λ (b : LayerTable). is_sound_gap l b (number_in a) (number_in s) (gap_at l (number_in a) (number_in s)) ≡ true) (after_is t.layers k below)
      (tested.sound (number_in a) (number_in s) one two) in
      let m = matched l after (number_in a) (number_in s) d g w.by sound gap path.0.choice w.is in
      let from = transition_within after.states l (number_in s) d w.by some decisions two path.0.choice w.is in
      let to = transition_within after.states l (number_in a) m.decision m.to some decisions one m.below m.is in
      let rest = sound_from (k + 1) (row_of_number m.to.next) (row_of_number w.by.next) m.following c to.next from.next m.gap (path_step t k s d c w.by w.is path.1) (omega (arith, whole)) in
      let gained = gain_step t k s d c w.by w.is in
      let gains = gain_step t k a m.decision rest.by m.to m.is in
      let enough = rest.enough in
      let more = m.enough in
      record {
        by = m.decision ∷ rest.by;
        continuation = record {
          path = (record { layer = path.0.layer; choice = m.below; test = some_from _ m.to m.is }, path_from_step t k a m.decision rest.by m.to m.is rest.continuation.path);
          whole = let left = rest.continuation.whole in omega (arith, left);
        };
        enough = omega (arith, ints, gained, gains, enough, more);
      }

  -- ---- the own gap is zero

  zero_is : (o : Option ℤ) → is_zero o ≡ true → o ≡ Some (pos 0)
  zero_is None h = absurd (false≢true h)
  zero_is (Some z) h =
      let parts = and_parts _ _ h in
      let low : pos 0 ≤ℤ z = int_le-is _ _ parts.1 in
      let high : z ≤ℤ pos 0 = int_le-is _ _ parts.0 in
      let zero : z ≡ pos 0 = omega (arith, ints, low, high) in
      ap (λ (y : ℤ). let o : Option ℤ = Some y in o) zero

  pub own_gap : (k s : ℕ) → k < length t.layers → s < (layer_at t.layers k).states → gap_at (layer_at t.layers k) s s ≡ Some (pos 0)
  own_gap k s below one =
      let h = (tested_at t.layers k tests below).own s s one one in
      zero_is _ (sym (cond-true _ _ _ (eq-eqb s s refl)) ∙ h)

  -- ---- a merged state covers both

  has_gap : (k : ℕ) (a s : List ℤ) (o : Option ℤ) → gap_at (layer_at t.layers k) (number_in a) (number_in s) ≡ o → is_some o ≡ true → HasGap (program_of t) k a s
  has_gap k a s None e h = absurd (false≢true h)
  has_gap k a s (Some g) e h = record { gap = g; is = e }

  pub merge_new : (k : ℕ) (a s : List ℤ) → k < length t.layers → number_in a < (layer_at t.layers k).states → number_in s < (layer_at t.layers k).states
      → HasGap (program_of t) k ((program_of t).merged k a s) s
  merge_new k a s below one two =
      has_gap k ((program_of t).merged k a s) s _ refl (and_parts _ _ ((tested_at t.layers k tests below).covers (number_in a) (number_in s) one two)).0

  covers_then : (l : LayerTable) (z x y : ℕ) (g : ℤ) → gap_at l x y ≡ Some g → covers_as l z x y ≡ true → is_some (gap_at l z y) ≡ true
  covers_then l z x y g e h = subst (λ (o : Option ℤ). (not (is_some o) || is_some (gap_at l z y)) ≡ true) e h

  pub merge_old : (k : ℕ) (a s u : List ℤ) → k < length t.layers → number_in a < (layer_at t.layers k).states → number_in s < (layer_at t.layers k).states
      → number_in u < (layer_at t.layers k).states → HasGap (program_of t) k a u → HasGap (program_of t) k ((program_of t).merged k a s) u
  merge_old k a s u below one two three has =
      let l = layer_at t.layers k in
      let z = merge_at l (number_in a) (number_in s) in
      let all = (and_parts _ _ ((tested_at t.layers k tests below).covers (number_in a) (number_in s) one two)).1 in
      has_gap k ((program_of t).merged k a s) u _ refl
      (covers_then l z (number_in a) (number_in u) has.gap has.is (holds_each (covers_as l z (number_in a)) l.states (number_in u) all three))

  -- ---- rough bounds

  bounded_next : (rough rest : Option ℤ) (gain z : ℤ) → bounds_next rough gain rest ≡ true → AtMost z rest → AtMost (gain +ℤ z) rough
  bounded_next rough None gain z h least = absurd least
  bounded_next None (Some r) gain z h least = absurd (false≢true h)
  bounded_next (Some b) (Some r) gain z h least = let more : (gain +ℤ r) ≤ℤ b = int_le-is _ _ h in omega (arith, ints, more, least)

  pub last_rough : (k s : ℕ) → k + 1 ≡ length t.layers → s < (layer_at t.layers k).states → rough_at (layer_at t.layers k) s ≡ Some (pos 0)
  last_rough k s last one =
      let none = (last_is t.layers k shape.layers last).choices in
      let l = layer_at t.layers k in
      let h = (tested_at t.layers k tests (omega arith)).bounds s 0 one (omega arith) in
      zero_is _ (sym (cond-true _ _ _ (eq-eqb l.choices 0 none)) ∙ h)

  pub bounds_from : (k : ℕ) (s : List ℤ) (c : List ℕ) → number_in s < (layer_at t.layers k).states → IsPath (program_of t) k s c → k + length c ≡ length t.layers - 1
      → AtMost (gain_of (program_of t) k s c) (rough_at (layer_at t.layers k) (number_in s))
  bounds_from k s [] one path whole =
      let some = shape.some in
      let zero = last_rough k (number_in s) (omega (arith, some, whole)) one in
      let least : AtMost (pos 0) (Some (pos 0)) = omega (arith, ints) in
      subst (λ (o : Option ℤ). AtMost (pos 0) o) (sym zero) least
  bounds_from k s (d ∷ c) one path whole =
      let l = layer_at t.layers k in
      let after = layer_at t.layers (k + 1) in
      let below : k + 1 < length t.layers = let layer = path.0.layer in omega (arith, layer) in
      let w = has_from (transition_at l (number_in s) d) path.0.test in
      let some = (states_at t.layers (k + 1) shape.layers below).some in
      let decisions = decisions_at t.layers k shape.layers below in
      let from = transition_within after.states l (number_in s) d w.by some decisions one path.0.choice w.is in
      let choice = path.0.choice in
      let h = (tested_at t.layers k tests (omega arith)).bounds (number_in s) d one (omega (arith, choice)) in
      let few : nat_eq l.choices 0 ≡ false = ne_eqb l.choices 0 (λ e. omega (arith, choice, e)) in
      let inner : bounds_transition l (layer_after t.layers k) (number_in s) (transition_at l (number_in s) d) ≡ true = sym (cond-false _ _ _ few) ∙ h in
      let next : bounds_transition l after (number_in s) (Some w.by) ≡ true =
      subst (λ (b : LayerTable). bounds_transition l b (number_in s) (Some w.by) ≡ true) (after_is t.layers k below)
      (subst (λ (o : Option Transition). bounds_transition l (layer_after t.layers k) (number_in s) o ≡ true) w.is inner) in
      let rest = bounds_from (k + 1) (row_of_number w.by.next) c from.next (path_step t k s d c w.by w.is path.1) (omega (arith, whole)) in
      subst (λ (z : ℤ). AtMost z (rough_at l (number_in s))) (sym (gain_step t k s d c w.by w.is))
      (bounded_next (rough_at l (number_in s)) (rough_at after w.by.next) w.by.gain _ next rest)

  -- ---- gaps add up

  within_sum : (k : ℕ) (a c : List ℤ) (g h : ℤ) (o : Option ℤ) → gap_at (layer_at t.layers k) (number_in a) (number_in c) ≡ o → is_within_sum (Some g) (Some h) o ≡ true
      → HasGapWithin (program_of t) k a c (g +ℤ h)
  within_sum k a c g h None e less = absurd (false≢true less)
  within_sum k a c g h (Some z) e less = record { gap = z; is = e; within = int_le-is _ _ less }

  pub chained_at : (k : ℕ) (a b c : List ℤ) (g h : ℤ) → k < length t.layers → number_in a < (layer_at t.layers k).states → number_in b < (layer_at t.layers k).states
      → number_in c < (layer_at t.layers k).states → gap_at (layer_at t.layers k) (number_in a) (number_in b) ≡ Some g
      → gap_at (layer_at t.layers k) (number_in b) (number_in c) ≡ Some h → HasGapWithin (program_of t) k a c (g +ℤ h)
  chained_at k a b c g h below one two three first second =
      let l = layer_at t.layers k in
      let all = (tested_at t.layers k tests below).adds_up (number_in a) (number_in c) one three in
      let here : is_within_sum (gap_at l (number_in a) (number_in b)) (gap_at l (number_in b) (number_in c)) (gap_at l (number_in a) (number_in c)) ≡ true =
      holds_each (adds_up_by l (number_in a) (number_in c)) l.states (number_in b) all two in
      within_sum k a c g h _ refl
      (subst (λ (o : Option ℤ). is_within_sum (Some g) o (gap_at l (number_in a) (number_in c)) ≡ true) second
      (subst (λ (o : Option ℤ). is_within_sum o (gap_at l (number_in b) (number_in c)) (gap_at l (number_in a) (number_in c)) ≡ true) first here))
