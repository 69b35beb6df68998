use Rattle.std.proofs.Common.{arith, ap, Some, ◌∙◌, w64}
use Rattle.std.proofs.lemmas.Int.{ints, to_z-of_z}
use Rattle.pair_rows.specs.Shown.{instance_in}
use Rattle.pair_rows.proofs.Layers.{layer-has}
use Rattle.pair_rows.proofs.Writing.{tail-is}
use Rattle.pair_rows.proofs.rows.PairRows.gap.Goals as goal

pub gap-requires-clause-from_rank : goal.gap-requires-clause-from_rank
gap-requires-clause-from_rank c =
    let i = instance_in c.args.self.now in
    rw tail-is (omega (arith, ints, (layer-has i c.args.k c.args.a.now c.args.self.now.kept c.requires.covering).rank))

pub gap-requires-clause-to_rank : goal.gap-requires-clause-to_rank
gap-requires-clause-to_rank c =
    let i = instance_in c.args.self.now in
    rw tail-is (omega (arith, ints, (layer-has i c.args.k c.args.s.now c.args.self.now.kept c.requires.state).rank))

pub returns : goal.returns
returns c =
    ap (λ g. Some g) (to_z-of_z w64 c.gap.result (record { sfits = c.gap.type_inv }) ∙ (rw (tail-is c.args.k c.args.a.now, tail-is c.args.k c.args.s.now) at c.gap.ensures))
