-- The tests of a table's laws, and the first that fails.
use Rattle.std.specs.Prelude.{ℕ, zero, suc, ◌+◌, max, ℤ, pos, ◌+ℤ◌, int_le, nat_eq, Bool, true, false, cond, ◌&&◌, ◌||◌, not, is_some, List, length, Option, Some, None}
use Rattle.dp_model.specs.Numbers.{int_same}
use Rattle.table_model.specs.Places.{or_else, first_of, holds_at_all, holds_at_one}
use Rattle.table_model.specs.Table.{LayerTable, layer_at, layer_after, gap_at, merge_at, rough_at, transition_at}
use Rattle.table_refusal.specs.declared.failure.Failure.{Failure}
use Rattle.table_refusal.specs.declared.failure.Law.{Law}
use Rattle.table_refusal.specs.declared.failure.Law.TheVariants.{GapIsSound, OwnGapIsZero, MergeCovers, RoughBounds, GapsAddUp}
use Rattle.table_model.specs.declared.transition.Transition.{Transition}

-- ---- gap is sound

-- with the gap between the next states, v and the gap g gain at least what w gains
abbrev pub is_enough : ℤ → ℤ → ℤ → Option ℤ → Bool
is_enough w v g None = false
is_enough w v g (Some q) = int_le (w +ℤ q) (v +ℤ g)

-- a decision of a that matches the decision w of a state to which a has the gap g
abbrev pub matches_by : LayerTable → Transition → ℤ → Option Transition → Bool
matches_by after w g None = false
matches_by after w g (Some v) = is_enough w.gain v.gain g (gap_at after v.next w.next)

abbrev pub is_match : LayerTable → LayerTable → ℕ → Transition → ℤ → ℕ → Bool
is_match l after a w g e = matches_by after w g (transition_at l a e)

-- a decision of a state to which a has the gap g is matched by one of a, where it is allowed
abbrev pub is_matched : LayerTable → LayerTable → ℕ → ℤ → Option Transition → Bool
is_matched l after a g None = true
is_matched l after a g (Some w) = holds_at_one (is_match l after a w g) 0 l.choices

abbrev pub is_matched_at : LayerTable → LayerTable → ℕ → ℕ → ℤ → ℕ → Bool
is_matched_at l after a s g d = is_matched l after a g (transition_at l s d)

abbrev pub is_sound_gap : LayerTable → LayerTable → ℕ → ℕ → Option ℤ → Bool
is_sound_gap l after a s None = true
is_sound_gap l after a s (Some g) = holds_at_all (is_matched_at l after a s g) 0 l.choices

-- ---- own gap is zero

abbrev pub is_zero : Option ℤ → Bool
is_zero None = false
is_zero (Some z) = int_same z (pos 0)

abbrev pub is_own_gap : LayerTable → ℕ → ℕ → Bool
is_own_gap l a s = cond (nat_eq a s) (is_zero (gap_at l a s)) true

-- ---- merge covers

-- z has a gap to y where x has one
abbrev pub covers_as : LayerTable → ℕ → ℕ → ℕ → Bool
covers_as l z x y = not (is_some (gap_at l x y)) || is_some (gap_at l z y)

abbrev pub covers_both : LayerTable → ℕ → ℕ → ℕ → Bool
covers_both l z x s = is_some (gap_at l z s) && holds_at_all (covers_as l z x) 0 l.states

-- ---- rough bounds

-- no rough bound of the next state, or one of the state that is at least the gain and it
abbrev pub bounds_next : Option ℤ → ℤ → Option ℤ → Bool
bounds_next rough gain None = true
bounds_next None gain (Some rest) = false
bounds_next (Some bound) gain (Some rest) = int_le (gain +ℤ rest) bound

abbrev pub bounds_transition : LayerTable → LayerTable → ℕ → Option Transition → Bool
bounds_transition l after s None = true
bounds_transition l after s (Some w) = bounds_next (rough_at l s) w.gain (rough_at after w.next)

-- at the last layer, which has no choices, the rough bound is 0
abbrev pub is_bounded : LayerTable → LayerTable → ℕ → ℕ → Bool
is_bounded l after s d = cond (nat_eq l.choices 0) (is_zero (rough_at l s)) (bounds_transition l after s (transition_at l s d))

-- ---- gaps add up

-- the gap is there and at most the sum of two, where both are there
abbrev pub is_within_sum : Option ℤ → Option ℤ → Option ℤ → Bool
is_within_sum None second whole = true
is_within_sum (Some x) None whole = true
is_within_sum (Some x) (Some y) None = false
is_within_sum (Some x) (Some y) (Some z) = int_le z (x +ℤ y)

abbrev pub adds_up_by : LayerTable → ℕ → ℕ → ℕ → Bool
adds_up_by l a c b = is_within_sum (gap_at l a b) (gap_at l b c) (gap_at l a c)

abbrev pub adds_up : LayerTable → ℕ → ℕ → Bool
adds_up l a c = holds_at_all (adds_up_by l a c) 0 l.states

-- ---- all of them

-- the test of a law at a layer, with the layer after it
abbrev pub holds : Law → LayerTable → LayerTable → ℕ → ℕ → Bool
holds GapIsSound l after a s = is_sound_gap l after a s (gap_at l a s)
holds OwnGapIsZero l after a s = is_own_gap l a s
holds MergeCovers l after x s = covers_both l (merge_at l x s) x s
holds RoughBounds l after s d = is_bounded l after s d
holds GapsAddUp l after a c = adds_up l a c

-- how many numbers the second place of the test takes: a decision where rough bounds are tested, else a state
abbrev pub seconds : Law → LayerTable → ℕ
seconds GapIsSound l = l.states
seconds OwnGapIsZero l = l.states
seconds MergeCovers l = l.states
seconds RoughBounds l = max l.choices 1
seconds GapsAddUp l = l.states

abbrev pub failure_at : LayerTable → LayerTable → ℕ → Law → ℕ → ℕ → Option Failure
failure_at l after k law a s = cond (holds law l after a s) None (Some (record { law = law; layer = k; first = a; second = s }))

abbrev pub failure_from : LayerTable → LayerTable → ℕ → Law → ℕ → Option Failure
failure_from l after k law a = first_of (failure_at l after k law a) 0 (seconds law l)

-- the first two numbers, in order, at which the law's test fails
abbrev pub failure_of : LayerTable → LayerTable → ℕ → Law → Option Failure
failure_of l after k law = first_of (failure_from l after k law) 0 l.states

-- the first law whose test fails at the layer
abbrev pub layer_failure : LayerTable → LayerTable → ℕ → Option Failure
layer_failure l after k =
    or_else (failure_of l after k GapIsSound)
    (or_else (failure_of l after k OwnGapIsZero)
    (or_else (failure_of l after k MergeCovers)
    (or_else (failure_of l after k RoughBounds)
    (failure_of l after k GapsAddUp))))

abbrev pub failure_in : List LayerTable → ℕ → Option Failure
failure_in layers k = layer_failure (layer_at layers k) (layer_after layers k) k

-- the first test that fails, in order of layer, law, first and second number
abbrev pub first_failure : List LayerTable → Option Failure
first_failure layers = first_of (failure_in layers) 0 (length layers)
