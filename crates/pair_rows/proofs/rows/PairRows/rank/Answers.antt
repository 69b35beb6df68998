use Rattle.std.proofs.Common.{arith, w64, sym, ◌∙◌}
use Rattle.std.proofs.lemmas.Int.{ints, to_z-of_z}
use Rattle.pair_rows.specs.Shown.{instance_in}
use Rattle.pair_rows.specs.Laws.Sizes.{rank_of-state}
use Rattle.pair_rows.proofs.Layers.{layer-has}
use Rattle.pair_rows.proofs.Writing.{tail-is}
use Rattle.pair_rows.proofs.rows.PairRows.rank.Goals as goal

pub rank-requires : goal.rank-requires
rank-requires c =
    let i = instance_in c.args.self.now in
    rw tail-is (omega (arith, ints, (layer-has i c.args.k c.args.s.now c.args.self.now.kept c.requires).rank))

pub returns : goal.returns
returns c =
    let i = instance_in c.args.self.now in
    to_z-of_z w64 c.rank.result (record { sfits = c.rank.type_inv })
    ∙ ((rw (tail-is c.args.k c.args.s.now) at c.rank.ensures) ∙ sym (rank_of-state i c.args.k c.args.s.now c.requires))
