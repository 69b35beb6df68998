-- Whether a gap is within the difference of two values.
use Rattle.std.proofs.Common.{◌≡◌, ℕ, ℤ, ◌-ℤ◌, ◌<ℤ◌, Bool, true, false, cond, List, Option, Some, None, is_some, inl, inr, refl, ◌∙◌, arith, w64}
use Rattle.std.specs.Prelude.{◌&&◌, nat_eq}
use Rattle.std.proofs.lemmas.Bool.{cases_eq, ne_eqb}
use Rattle.std.specs.Prelude.{int_le}
use Rattle.std.specs.Int.{saturate_signed}
use Rattle.std.proofs.lemmas.Int.{ints}
use Rattle.dp_model.specs.Dp.{Dp}
use Rattle.dp_model.specs.Gaps.{IsStateOf, covers_at, within}
use Rattle.dp_model.specs.Laws.{IsLawful}
use Rattle.dominance_table.specs.declared.entry.Entry.{Entry}
use Rattle.dominance_table.specs.Dominator.{IsReached, entry_dominates}
use Rattle.dominance_table.specs.Entries.{with_row}

some-cond : (b : Bool) (g : ℤ) → is_some (cond b (Some g) None) ≡ b
some-cond true g = refl
some-cond false g = refl

-- the value of the entry is less
pub less_covers : (dp : Dp) (k : ℕ) (a s : List ℤ) (above value : ℤ) → IsLawful dp → IsStateOf dp k a → IsStateOf dp k s → above <ℤ value → false ≡ covers_at (dp.gap k a s) above value
less_covers dp k a s above value laws x y less = by (dp.gap k a s) refl
  where
    by : (gap : Option ℤ) → dp.gap k a s ≡ gap → false ≡ covers_at gap above value
    by None is = refl
    by (Some g) is = let small = laws.sizes.gap k a s g x y is in let low = small.0 in grind (arith, ints)

-- it is not
pub within_covers : (dp : Dp) (k : ℕ) (a s : List ℤ) (above value : ℤ) → IsLawful dp → IsStateOf dp k a → IsStateOf dp k s
    → is_some (within (saturate_signed w64 (above -ℤ value)) (dp.gap k a s)) ≡ covers_at (dp.gap k a s) above value
within_covers dp k a s above value laws x y = by (dp.gap k a s) refl
  where
    by : (gap : Option ℤ) → dp.gap k a s ≡ gap → is_some (within (saturate_signed w64 (above -ℤ value)) gap) ≡ covers_at gap above value
    by None is = refl
    by (Some g) is =
        let small = laws.sizes.gap k a s g x y is in
        let low = small.1.low in let high = small.1.high in
        some-cond (int_le g (saturate_signed w64 (above -ℤ value))) g ∙ grind (arith, ints)

third_false : (a b c : Bool) → false ≡ c → false ≡ (a && (b && c))
third_false true true c h = h
third_false true false c h = refl
third_false false b c h = refl

first_false : (a b c : Bool) → a ≡ false → false ≡ (a && (b && c))
first_false true b c h = let no : true ≡ false = h in absurd (cc)
first_false false b c h = refl

-- an entry of less value doesn't dominate
pub less_dominates : (dp : Dp) (depth : ℕ) (row : List ℤ) (value : ℤ) (e : Entry) (own : List ℤ) → IsLawful dp → (e.depth ≡ depth → IsReached dp depth own e.rank) → IsStateOf dp depth row → e.value <ℤ value
    → false ≡ entry_dominates dp depth row value (with_row e own)
less_dominates dp depth row value e own laws reached state less = elim (cases_eq e.depth depth) as (λ _. false ≡ entry_dominates dp depth row value (with_row e own)) [
  | inl same ↦ third_false (nat_eq e.depth depth) (nat_eq e.bucket (dp.bucket depth row)) (covers_at (dp.gap depth own row) e.value value)
      (less_covers dp depth own row e.value value laws (reached same).state state less)
  | inr other ↦ first_false (nat_eq e.depth depth) (nat_eq e.bucket (dp.bucket depth row)) (covers_at (dp.gap depth own row) e.value value) (ne_eqb e.depth depth other)
]
