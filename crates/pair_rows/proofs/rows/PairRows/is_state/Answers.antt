use Rattle.std.proofs.Common.{arith, ◌≡◌, length}
use Rattle.std.proofs.lemmas.List.{length-drop}
use Rattle.pair_rows.specs.Instance.{Instance}
use Rattle.pair_rows.specs.Shown.{instance_in}
use Rattle.pair_rows.specs.Program.{words_of}
use Rattle.pair_rows.proofs.Layers.{state-then, state-else}
use Rattle.pair_rows.proofs.Writing.{tail-is}
use Rattle.pair_rows.proofs.rows.PairRows.is_state.Goals as goal

pub limits-requires : goal.limits-requires
limits-requires c = c.requires.layer

pub are_within-requires-clause-cells : goal.are_within-requires-clause-cells
are_within-requires-clause-cells c =
    let i : Instance = instance_in c.args.self.now in
    let cells : length c.args.s.now ≡ words_of (length i.units) = c.requires.cells in
    rw tail-is (omega (arith, length-drop c.args.k c.args.s.now, c.limits.ensures.cells))

pub returns-then-is_zero_row : goal.returns-then-is_zero_row
returns-then-is_zero_row c =
    let i : Instance = instance_in c.args.self.now in
    let cells : length c.args.s.now ≡ words_of (length i.units) = c.requires.cells in
    let within = rw (tail-is c.args.k c.args.s.now, c.limits.ensures.limits) at c.are_within.ensures in
    state-then i c.args.k c.args.s.now c.is_zero_row.result c.are_within.result cells c.if-is_zero_row.true c.is_zero_row.ensures within

pub returns-else-is_zero_row : goal.returns-else-is_zero_row
returns-else-is_zero_row c =
    let i : Instance = instance_in c.args.self.now in
    let cells : length c.args.s.now ≡ words_of (length i.units) = c.requires.cells in
    state-else i c.args.k c.args.s.now c.is_zero_row.result cells c.if-is_zero_row.false c.is_zero_row.ensures
