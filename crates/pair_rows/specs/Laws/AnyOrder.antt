-- States may be merged in any order.
use Rattle.std.proofs.Common.{◌≡◌, ℤ, List, [], ◌∷◌, refl, ap₂, arith}
use Rattle.std.proofs.lemmas.Int.{ints, clamps}
use Rattle.dp_model.specs.Laws.{MergesInAnyOrder}
use Rattle.benefit_rows.specs.Benefits.{benefit_merged, merged_of}
use Rattle.pair_rows.specs.Instance.{Instance}
use Rattle.pair_rows.specs.Program.{program_of}

-- the one that is nearer to zero, or zero where the signs differ: two change places
benefit-swapped : (a s : ℤ) → benefit_merged a s ≡ benefit_merged s a
benefit-swapped a s = grind (arith, ints, clamps)

-- and of three any two are merged first
benefit-regrouped : (a b c : ℤ) → benefit_merged (benefit_merged a b) c ≡ benefit_merged a (benefit_merged b c)
benefit-regrouped a b c = grind (arith, ints, clamps)

row-swapped : (as_ ss : List ℤ) → merged_of as_ ss ≡ merged_of ss as_
row-swapped [] [] = refl
row-swapped [] (s ∷ ss) = refl
row-swapped (a ∷ as_) [] = refl
row-swapped (a ∷ as_) (s ∷ ss) = ap₂ (λ x xs. x ∷ xs) (benefit-swapped a s) (row-swapped as_ ss)

row-regrouped : (as_ bs cs : List ℤ) → merged_of (merged_of as_ bs) cs ≡ merged_of as_ (merged_of bs cs)
row-regrouped [] bs cs = refl
row-regrouped (a ∷ as_) [] cs = refl
row-regrouped (a ∷ as_) (b ∷ bs) [] = refl
row-regrouped (a ∷ as_) (b ∷ bs) (c ∷ cs) = ap₂ (λ x xs. x ∷ xs) (benefit-regrouped a b c) (row-regrouped as_ bs cs)

pub any_order : (i : Instance) → MergesInAnyOrder (program_of i)
any_order i = record {
  swapped = λ k a b one two. row-swapped a b;
  regrouped = λ k a b c one two three. row-regrouped a b c;
}
