-- The greedy fill, item by item.
use Rattle.std.proofs.Common.{◌≡◌, ℕ, ◌+◌, ◌-◌, ◌*◌, ◌/◌, ◌<◌, ◌≤◌, Bool, true, false, cond, List, ◌∷◌, refl, sym, ap, ◌∙◌, arith, ltb, eqb}
use Rattle.std.proofs.lemmas.Bool.{lt-ltb, le-ltb}
use Rattle.std.proofs.lemmas.Bool.Decides.{nat_tests}
use Rattle.std.proofs.lemmas.Nat.{le-div, mul-le, div_below}
use Rattle.std.proofs.Math.Nat.{div-mul-le_self, mul-add-div_right, div-le_of_le-mul}
use Rattle.knapsack.specs.declared.item.Item.{Item}
use Rattle.knapsack.specs.declared.running.Begun.{Begun}
use Rattle.knapsack.specs.Order.{fitting, fill}
use Rattle.knapsack.specs.Runs.{part_of, IsPart}

-- an item of which not all copies fit weighs something
some_weight : (c w rest : ℕ) → rest < c * w → 0 < w
some_weight c w rest h =
    elim (eqb w 0) as (λ b. eqb w 0 ≡ b → 0 < w) [
      | true ↦ λ e. let none : w ≡ 0 = grind (arith, nat_tests) in absurd (omega (arith, ap (λ (n : ℕ). c * n) none))
      | false ↦ λ e. grind (arith, nat_tests)
    ] refl

pub weighs : (x : Item) (rest : ℕ) → rest < x.copies * x.weight → 0 < x.weight
weighs x rest h = some_weight x.copies x.weight rest h

-- all copies fit where they weigh no more than what is left
fitting-whole : (x : Item) (rest : ℕ) → x.copies * x.weight ≤ rest → fitting x rest ≡ x.copies
fitting-whole x rest h =
    elim (eqb x.weight 0) as (λ b. eqb x.weight 0 ≡ b → fitting x rest ≡ x.copies) [
      | true ↦ λ e. rw e refl
      | false ↦ λ e. let some : 0 < x.weight = grind (arith, nat_tests) in let few : x.copies ≤ rest / x.weight = le-div x.copies rest x.weight some h in rw e (omega arith)
    ] refl

-- fewer fit where they weigh more
pub few_fit : (x : Item) (rest : ℕ) → rest < x.copies * x.weight → rest / x.weight < x.copies
few_fit x rest h = div_below rest x.weight x.copies (weighs x rest h) h

fitting-part : (x : Item) (rest : ℕ) → rest < x.copies * x.weight → fitting x rest ≡ rest / x.weight
fitting-part x rest h =
    let some : 0 < x.weight = weighs x rest h in
    let few : rest / x.weight < x.copies = few_fit x rest h in
    grind (arith, nat_tests)

pub fill-whole : (x : Item) (xs : List Item) (rest : ℕ) → x.copies * x.weight ≤ rest
    → fill (x ∷ xs) rest ≡ x.copies * x.profit + fill xs (rest - x.copies * x.weight)
fill-whole x xs rest h =
    ap (λ (q : ℕ). cond (ltb q x.copies) (q * x.profit + (rest - q * x.weight) * x.profit / x.weight) (q * x.profit + fill xs (rest - q * x.weight))) (fitting-whole x rest h)
    ∙ ap (λ (b : Bool). cond b (x.copies * x.profit + (rest - x.copies * x.weight) * x.profit / x.weight) (x.copies * x.profit + fill xs (rest - x.copies * x.weight))) (le-ltb x.copies x.copies (omega arith))

-- whole copies and the part of one more are worth what their weight is, rounded down
pub two_divisions : (rest p w : ℕ) → 0 < w → rest / w * p + (rest - rest / w * w) * p / w ≡ rest * p / w
two_divisions rest p w some =
    let q = rest / w in
    let r = rest - q * w in
    let whole : q * w + r ≡ rest = omega (arith, div-mul-le_self rest w) in
    let product : q * p * w + r * p ≡ rest * p = omega arith ∙ ap (λ (n : ℕ). n * p) whole in
    sym (mul-add-div_right some (q * p) (r * p)) ∙ ap (λ (n : ℕ). n / w) product

pub fill-part : (x : Item) (xs : List Item) (rest : ℕ) → rest < x.copies * x.weight → fill (x ∷ xs) rest ≡ rest * x.profit / x.weight
fill-part x xs rest h =
    let q = rest / x.weight in
    ap (λ (q : ℕ). cond (ltb q x.copies) (q * x.profit + (rest - q * x.weight) * x.profit / x.weight) (q * x.profit + fill xs (rest - q * x.weight))) (fitting-part x rest h)
    ∙ (ap (λ (b : Bool). cond b (q * x.profit + (rest - q * x.weight) * x.profit / x.weight) (q * x.profit + fill xs (rest - q * x.weight))) (lt-ltb q x.copies (few_fit x rest h))
    ∙ two_divisions rest x.profit x.weight (weighs x rest h))

-- where the items end, nothing is worth anything
pub no_part : (before rest : ℕ) → part_of (record { before = before; profit = 0; weight = 0 }) rest ≡ 0
no_part before rest = omega arith

-- what a part of an item within the limits is worth
pub part_small : (b : Begun) (rest : ℕ) → IsPart b rest → 0 < b.weight → rest * b.profit / b.weight ≤ 1000000000000
part_small b rest part some =
    let most : rest * b.profit ≤ 1000 * b.weight * 1000000000 = mul-le rest b.profit (1000 * b.weight) 1000000000 (part.few some) part.profit in
    div-le_of_le-mul b.weight (omega arith)
