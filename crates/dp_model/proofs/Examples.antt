-- The definitions on one instance: a knapsack of capacity 10 and the items 60 by 5, 50 by 4, 70 by 6 (profit by weight).
use Rattle.std.proofs.Common.{◌≡◌, ℕ, ◌+◌, ◌-◌, ◌*◌, ◌/◌, ℤ, pos, List, [], ◌∷◌, length, get_or, cond, nat_le, nat_lt, nat_eq, int_le, Some, None, ◌⊎◌, inl, inr, refl, arith, unsigned_abs, ◌&&◌}
use Rattle.std.proofs.lemmas.Int.{ints}
use Rattle.dp_model.specs.Dp.{Dp}
use Rattle.dp_model.specs.Prefixes.{IsPrefix, value_of, IsSolution, IsMatched}
use Rattle.dp_model.specs.Best.{best, solutions}
use Rattle.dp_model.specs.Counts.{pot, tree}
use Rattle.dp_model.specs.Cover.{Covers}
use Rattle.dp_model.specs.Lists.{OneOf}
use Rattle.dp_model.specs.Numbers.{AtMost}
use Rattle.dp_model.proofs.Members.{each-has}
use Rattle.dp_model.proofs.Solutions.{solutions-all, solutions-are}

abbrev profits : List ℕ
profits = 60 ∷ 50 ∷ 70 ∷ []

abbrev weights : List ℕ
weights = 5 ∷ 4 ∷ 6 ∷ []

-- the capacity that is left
abbrev left : List ℤ → ℕ
left s = unsigned_abs (get_or s 0 (pos 0))

-- an item from the layer on, where it fits, by whole copies; else the part of its profit that fits
abbrev filled : ℕ → ℕ → List ℕ → ℕ
filled k rest [] = 0
filled k rest (i ∷ order) =
    cond (nat_lt i k) (filled k rest order)
    (cond (nat_le (get_or weights i 0) rest) (get_or profits i 0 + filled k (rest - get_or weights i 0) order) (rest * get_or profits i 0 / get_or weights i 0))

abbrev pub three_items : Dp
three_items = record {
  vars = 3;
  words = 1;
  choices = λ k. 2;
  root = pos 10 ∷ [];
  root_value = pos 0;
  is_state = λ k s. nat_eq (length s) 1 && (int_le (pos 0) (get_or s 0 (pos 0)) && int_le (get_or s 0 (pos 0)) (pos 10));
  allowed = λ k s d. nat_le (d * get_or weights k 0) (left s);
  step = λ k s d. pos (left s - d * get_or weights k 0) ∷ [];
  gain = λ k s d. pos (d * get_or profits k 0);
  merged = λ k a s. cond (nat_le (left s) (left a)) a s;
  gap = λ k a s. cond (nat_le (left s) (left a)) (Some (pos 0)) None;
  rough = λ k s. Some (pos (filled k (left s) (1 ∷ 0 ∷ 2 ∷ [])));
  rank = λ k s. pos (left s);
  bucket = λ k s. 0;
  hash = λ k s. 0;
}

value-0-1-1 : value_of three_items (0 ∷ 1 ∷ 1 ∷ []) ≡ pos 120
value-0-1-1 = refl

-- 1 1 1 is no prefix: the third item does not fit
no_prefix-1-1-1 : IsPrefix three_items (1 ∷ 1 ∷ 1 ∷ []) → ⊥
no_prefix-1-1-1 h = let test = h.1.1.0.test in grind arith

root_bound : three_items.rough 0 three_items.root ≡ Some (pos 121)
root_bound = refl

all_solutions : solutions three_items ≡ ((0 ∷ 0 ∷ 0 ∷ []) ∷ (0 ∷ 0 ∷ 1 ∷ []) ∷ (0 ∷ 1 ∷ 0 ∷ []) ∷ (0 ∷ 1 ∷ 1 ∷ []) ∷ (1 ∷ 0 ∷ 0 ∷ []) ∷ (1 ∷ 1 ∷ 0 ∷ []) ∷ [])
all_solutions = refl

best_value : best three_items ≡ Some (pos 120)
best_value = refl

pot-0 : pot three_items (0 ∷ []) ≡ 3
pot-0 = refl

pot-1 : pot three_items (1 ∷ []) ≡ 3
pot-1 = refl

all_prefixes : tree three_items ≡ 7
all_prefixes = refl

-- the best solution, and a completion of the prefix 0
best_solution : IsSolution three_items (0 ∷ 1 ∷ 1 ∷ [])
best_solution = solutions-are three_items (0 ∷ 1 ∷ 1 ∷ []) (inr (inr (inr (inl refl))))

-- with 110 in hand, the prefix 0 covers what is left
abbrev IsLeftCovered : List ℕ → Type 0
IsLeftCovered x = AtMost (value_of three_items x) (Some (pos 110)) ⊎ OneOf (IsMatched three_items x) ((0 ∷ []) ∷ [])

frontier_covers : Covers three_items (Some (pos 110)) ((0 ∷ []) ∷ [])
frontier_covers x h =
    each-has IsLeftCovered (solutions three_items) x (
      inl (omega (arith, ints)),
      (
        inl (omega (arith, ints)),
        (
          inl (omega (arith, ints)),
          (
            inr (inl (record { by = 0 ∷ 1 ∷ 1 ∷ []; completion = record { solution = best_solution; rest = 1 ∷ 1 ∷ []; begins = refl }; least = omega (arith, ints) })),
            (
              inl (omega (arith, ints)),
              (inl (omega (arith, ints)), tt),
            ),
          ),
        ),
      ),
    ) (solutions-all three_items x h)
