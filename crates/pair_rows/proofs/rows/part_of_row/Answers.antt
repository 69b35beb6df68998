use Rattle.std.proofs.Common.{arith, ◌≡◌, suc, take, drop, ap}
use Rattle.pair_rows.specs.Pairs.{entries_before}
use Rattle.pair_rows.specs.Laws.Pairs.{entries_before-more, entries_before-most, pair_count-most}
use Rattle.pair_rows.proofs.rows.part_of_row.Goals as goal

pub overflow_add-end : goal.overflow_add-end
overflow_add-end g c =
    omega (arith, entries_before-more c.args.variables c.args.k c.requires.variable, entries_before-most c.args.variables (suc c.args.k), pair_count-most c.args.variables c.requires.few)

pub offset_bounds-entries-start : goal.offset_bounds-entries-start
offset_bounds-entries-start g c =
    omega (arith, entries_before-most c.args.variables c.args.k, pair_count-most c.args.variables c.requires.few)

pub slice_bounds-result-end : goal.slice_bounds-result-end
slice_bounds-result-end g c =
    omega (arith, entries_before-more c.args.variables c.args.k c.requires.variable, entries_before-most c.args.variables (suc c.args.k), c.start_of_row-start.ensures, c.requires.whole)

pub returns : goal.returns
returns g c =
    let begins : c.start_of_row-start.result ≡ entries_before c.args.variables c.args.k = c.start_of_row-start.ensures in
    rw begins (ap (λ m. take m (drop (entries_before c.args.variables c.args.k) c.args.entries.now)) (omega arith))
