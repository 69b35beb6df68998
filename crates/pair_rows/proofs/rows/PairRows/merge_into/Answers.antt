use Rattle.std.proofs.Common.{length, arith}
use Rattle.std.proofs.lemmas.List.{length-drop}
use Rattle.benefit_rows.proofs.Merging.{merged_written}
use Rattle.pair_rows.specs.Shown.{instance_in}
use Rattle.pair_rows.proofs.Layers.{layer-has, none-before, words-over}
use Rattle.pair_rows.proofs.Writing.{tail-is}
use Rattle.pair_rows.proofs.rows.PairRows.merge_into.Goals as goal

pub merge_into-requires : goal.merge_into-requires
merge_into-requires c =
    let i = instance_in c.args.self.now in
    let kept = (layer-has i c.args.k c.args.acc.now c.args.self.now.kept (c.requires.kept)).cells in
    let state = (layer-has i c.args.k c.args.s.now c.args.self.now.kept c.requires.state).cells in
    rw (tail-is c.args.k c.args.acc.now, tail-is c.args.k c.args.s.now) (omega (arith, kept, state, length-drop c.args.k c.args.acc.now, length-drop c.args.k c.args.s.now))

pub returns : goal.returns
returns c =
    let i = instance_in c.args.self.now in
    let kept = c.requires.kept in
    let state = c.requires.state in
    let cells = (layer-has i c.args.k c.args.acc.now c.args.self.now.kept kept).cells in
    merged_written c.args.k c.args.acc.now c.args.s.now _ (omega (arith, kept.layer, cells, words-over (length i.units)))
    (none-before i c.args.k c.args.acc.now kept) (none-before i c.args.k c.args.s.now state) (rw (tail-is c.args.k c.args.s.now) at c.merge_into.ensures)
