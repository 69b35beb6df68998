use Rattle.std.proofs.Common.{rules, ◌≡◌, ◌-◌, ◌+ℤ◌, pos, drop, get_or, to_z, of_z, w64, arith, ap, sym, ◌∙◌}
use Rattle.std.specs.Int.{int_wrap}
use Rattle.std.specs.Prelude.{◌*ℤ◌}
use Rattle.std.proofs.lemmas.Int.{to_z-of_z}
use Rattle.pair_rows.specs.Hashes.{base, polynomial}
use Rattle.pair_rows.proofs.Hashing.{polynomial-before, wrapped-read}
use Rattle.pair_rows.proofs.hashes.polynomial.Goals as goal

pub cells-preserved : goal.cells-preserved
cells-preserved c =
    let row = c.args.row.now in
    let i = c.cells.i in
    let cell : to_z w64 (of_z w64 (get_or row (i - 1) (pos 0))) ≡ get_or row (i - 1) (pos 0) = search (rules, to_z-of_z) in
    let more : c.with_cell-total.result ≡ int_wrap w64 (polynomial (drop (i - 1) row)) =
    c.with_cell-total.ensures (polynomial (drop i row)) c.cells.invariant.0 ∙ (ap (λ z. int_wrap w64 ((polynomial (drop i row) *ℤ base) +ℤ z)) cell
    ∙ ap (int_wrap w64) (sym (polynomial-before row i c.cells-test.true c.cells.invariant.1))) in
    (wrapped-read c.with_cell-total.result (polynomial (drop (i - 1) row)) more ∙ more, omega (arith, c.cells.invariant.1))
