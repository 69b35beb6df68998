-- Widths whose layers stay within the cost formula.
use Rattle.std.proofs.Common.{ℕ, zero, suc, ◌*◌, ◌≤◌, arith}
use Rattle.dp_model.specs.Dp.{Dp}
use Rattle.dp_model.specs.Laws.{IsLawful}
use Rattle.dp_laws.specs.Width.{cost_below, FitsWidth, WidthsFit}

-- a layer's node costs at most 4 * 1024 + 1024
cost-most : (dp : Dp) → IsLawful dp → (n : ℕ) → n ≤ dp.vars → cost_below dp n ≤ n * 5120
cost-most dp laws zero few = omega arith
cost-most dp laws (suc n) few =
    let rest = cost-most dp laws n (omega arith) in
    let choices = laws.sizes.choices n (omega arith) in
    let words = laws.sizes.words in
    omega arith

-- and at least 5
pub cost-least : (dp : Dp) → IsLawful dp → (n : ℕ) → n ≤ dp.vars → n * 5 ≤ cost_below dp n
cost-least dp laws zero few = omega arith
cost-least dp laws (suc n) few =
    let rest = cost-least dp laws n (omega arith) in
    let choices = laws.sizes.some_choices n (omega arith) in
    let words = laws.sizes.some_words in
    omega arith

one-fits : (dp : Dp) → IsLawful dp → FitsWidth dp 1
one-fits dp laws =
    let cost = cost-most dp laws dp.vars (omega arith) in
    let vars = laws.sizes.vars in
    record { most = omega arith; cost = omega arith }

pub widths-fit : (dp : Dp) → IsLawful dp → WidthsFit dp
widths-fit dp laws w h = h.greatest 1 (one-fits dp laws)
