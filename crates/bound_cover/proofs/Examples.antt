-- The checker on the knapsack of one item, of profit 4 and weight 1, with capacity 1.
use Rattle.std.proofs.Common.{◌≡◌, ℕ, ◌-◌, ◌*◌, ℤ, pos, List, [], ◌∷◌, length, get_or, cond, nat_le, nat_lt, nat_eq, int_le, Some, None, Option, refl, unsigned_abs, ◌&&◌}
use Rattle.dp_model.specs.Dp.{Dp}
use Rattle.bound_cover.specs.declared.cover.CoverArc.{CoverArc}
use Rattle.bound_cover.specs.declared.cover.Why.TheVariants.{Root, Row, Arc, Target, Terminal, Assignment, Value, Rough, Layers}
use Rattle.bound_cover.specs.declared.cover.Verdict.TheVariants.{Accepted, Refused}
use Rattle.bound_cover.specs.Covers.{CoverRow}
use Rattle.bound_cover.specs.Verdicts.{verdict, checked_rows}

-- the capacity that is left
abbrev left : List ℤ → ℕ
left s = unsigned_abs (get_or s 0 (pos 0))

abbrev pub one_item : Dp
one_item = record {
  vars = 1;
  words = 1;
  choices = λ k. 2;
  root = pos 1 ∷ [];
  root_value = pos 0;
  is_state = λ k s. nat_eq (length s) 1 && (int_le (pos 0) (get_or s 0 (pos 0)) && int_le (get_or s 0 (pos 0)) (pos 1));
  allowed = λ k s d. nat_le d (left s);
  step = λ k s d. pos (left s - d) ∷ [];
  gain = λ k s d. pos (d * 4);
  merged = λ k a s. cond (nat_le (left s) (left a)) a s;
  gap = λ k a s. cond (nat_le (left s) (left a)) (Some (pos 0)) None;
  rough = λ k s. cond (nat_lt k 1) (Some (pos (left s * 4))) (Some (pos 0));
  rank = λ k s. pos (left s);
  bucket = λ k s. 0;
  hash = λ k s. 0;
}

abbrev arc : ℕ → Option ℕ → CoverArc
arc d t = record { decision = d; target = t }

abbrev row : Option ℤ → List ℤ → Option (List CoverArc) → CoverRow
row bound words arcs = record { bound = bound; words = words; arcs = arcs }

abbrev last : List CoverRow
last = row (Some (pos 0)) (pos 1 ∷ []) None ∷ []

-- a cover of two layers, the first with one row of this bound and these arcs
abbrev with : Option ℤ → List CoverArc → List (List CoverRow)
with bound arcs = (row bound (pos 1 ∷ []) (Some arcs) ∷ []) ∷ last ∷ []

abbrev both : List CoverArc
both = arc 0 (Some 0) ∷ arc 1 (Some 0) ∷ []

accepted : verdict one_item (Some (pos 4)) (pos 0) (1 ∷ []) (with (Some (pos 4)) both) ≡ Accepted
accepted = refl

-- the row's bound 4 lowered to 3
lowered : verdict one_item (Some (pos 4)) (pos 0) (1 ∷ []) (with (Some (pos 3)) both) ≡ Refused (Arc 0 0 1)
lowered = refl

-- the order of the tests
too_few_layers : verdict one_item (Some (pos 4)) (pos 0) (7 ∷ []) (last ∷ []) ≡ Refused Layers
too_few_layers = refl

no_solution : verdict one_item (Some (pos 5)) (pos 0) (2 ∷ []) (with (Some (pos 9)) both) ≡ Refused Assignment
no_solution = refl

not_the_value : verdict one_item (Some (pos 5)) (pos 0) (1 ∷ []) (with (Some (pos 9)) both) ≡ Refused Value
not_the_value = refl

above_best : verdict one_item (Some (pos 4)) (pos 0) (1 ∷ []) (with (Some (pos 5)) both) ≡ Refused Root
above_best = refl

-- the capacity 0 covers no root of capacity 1, and 2 is no state
no_cover : checked_rows one_item (Some (pos 4)) ((row (Some (pos 4)) (pos 0 ∷ []) None ∷ []) ∷ last ∷ []) ≡ Some Root
no_cover = refl

no_state : checked_rows one_item (Some (pos 4)) ((row (Some (pos 4)) (pos 1 ∷ []) None ∷ row None (pos 2 ∷ []) None ∷ []) ∷ last ∷ []) ≡ Some (Row 0 1)
no_state = refl

too_many_words : checked_rows one_item (Some (pos 4)) ((row (Some (pos 4)) (pos 1 ∷ []) None ∷ row (Some (pos 4)) (pos 1 ∷ pos 1 ∷ []) None ∷ []) ∷ last ∷ []) ≡ Some (Row 0 1)
too_many_words = refl

-- a rough row
by_rough : checked_rows one_item (Some (pos 4)) ((row (Some (pos 4)) (pos 1 ∷ []) None ∷ []) ∷ [] ∷ []) ≡ None
by_rough = refl

rough_above : checked_rows one_item (Some (pos 4)) ((row (Some (pos 3)) (pos 1 ∷ []) None ∷ []) ∷ [] ∷ []) ≡ Some (Rough 0 0)
rough_above = refl

-- arcs by the rough bound
by_rough_arcs : checked_rows one_item (Some (pos 4)) (with (Some (pos 4)) (arc 0 None ∷ arc 1 None ∷ [])) ≡ None
by_rough_arcs = refl

-- decisions that are left out, listed twice, out of order, or not allowed
left_out : checked_rows one_item (Some (pos 4)) (with (Some (pos 3)) (arc 1 (Some 0) ∷ [])) ≡ Some (Target 0 0 0)
left_out = refl

listed_twice : checked_rows one_item (Some (pos 4)) (with (Some (pos 3)) (arc 0 (Some 0) ∷ arc 1 (Some 0) ∷ arc 1 (Some 0) ∷ [])) ≡ Some (Target 0 0 1)
listed_twice = refl

out_of_order : checked_rows one_item (Some (pos 4)) (with (Some (pos 3)) (arc 1 (Some 0) ∷ arc 0 (Some 0) ∷ [])) ≡ Some (Target 0 0 0)
out_of_order = refl

-- an arc of a smaller decision is tested to its end before
arc_before : checked_rows one_item (Some (pos 4)) (with (Some (pos 3)) (arc 0 (Some 0) ∷ arc 1 (Some 0) ∷ arc 9 (Some 0) ∷ [])) ≡ Some (Arc 0 0 1)
arc_before = refl

not_allowed : checked_rows one_item (Some (pos 4)) (with (Some (pos 4)) (arc 0 (Some 0) ∷ arc 1 (Some 0) ∷ arc 4000000000 None ∷ [])) ≡ Some (Target 0 0 4000000000)
not_allowed = refl

-- a large decision stands before one that is not allowed: the lesser one is answered
lesser_first : checked_rows one_item (Some (pos 4)) (with (Some (pos 3)) (arc 0 (Some 0) ∷ arc 1 (Some 0) ∷ arc 9 (Some 0) ∷ arc 5 (Some 0) ∷ [])) ≡ Some (Arc 0 0 1)
lesser_first = refl

no_row : checked_rows one_item (Some (pos 4)) (with (Some (pos 4)) (arc 0 (Some 0) ∷ arc 1 (Some 1) ∷ [])) ≡ Some (Target 0 0 1)
no_row = refl

-- the last layer
with_arcs : checked_rows one_item (Some (pos 4)) ((row (Some (pos 4)) (pos 1 ∷ []) None ∷ []) ∷ (row (Some (pos 0)) (pos 1 ∷ []) (Some []) ∷ []) ∷ []) ≡ Some (Terminal 0)
with_arcs = refl

below_zero : checked_rows one_item (Some (pos 4)) ((row (Some (pos 4)) (pos 1 ∷ []) None ∷ []) ∷ (row None (pos 1 ∷ []) None ∷ []) ∷ []) ≡ Some (Terminal 0)
below_zero = refl
