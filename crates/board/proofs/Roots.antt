-- The bound of the root fits.
use Rattle.std.proofs.Common.{◌≡◌, ℤ, length, sym, ◌∙◌, ap, Option, Some, None, FitsSigned, w64, arith}
use Rattle.std.proofs.lemmas.Int.{ints}
use Rattle.dp_model.specs.Dp.{Dp}
use Rattle.dp_model.specs.Laws.{IsLawful}
use Rattle.dp_model.specs.Subproblem.{Subproblem}
use Rattle.board_laws.specs.Steps.{root_bound, root_with, root_subproblem}
use Rattle.board_laws.proofs.First.{root-state}
use Rattle.board.proofs.Sums.{IsSum, far-sum}

pub root-sum : (dp : Dp) → IsLawful dp → (value rough : ℤ) → value ≡ dp.root_value → Some rough ≡ dp.rough 0 dp.root → IsSum value rough
root-sum dp laws value rough value-is rough-is =
    let small = laws.sizes.root_value in
    let small_rough = laws.sizes.rough 0 dp.root rough (root-state dp laws) (sym rough-is) in
    let fits : FitsSigned w64 value = omega (arith, ints) in
    let fits_rough : FitsSigned w64 rough = omega (arith, ints) in
    far-sum value rough fits fits_rough (record { low = omega (arith, ints); high = omega (arith, ints) })

cells-with : (dp : Dp) → IsLawful dp → (bound : Option ℤ) (c : Subproblem) → Some c ≡ root_with dp bound → length c.row ≡ dp.words
cells-with dp laws None c is = absurd (cc)
cells-with dp laws (Some bound) c is = ap length (let same : c.row ≡ dp.root = cc in same) ∙ laws.sizes.cells 0 dp.root (root-state dp laws)

-- the root has as many cells as any state
pub root-cells : (dp : Dp) → IsLawful dp → (c : Subproblem) → Some c ≡ root_subproblem dp → length c.row ≡ dp.words
root-cells dp laws c is = cells-with dp laws (root_bound dp) c is
