use Rattle.layer_build.specs.Layers.{IsPreparedFor}
use Rattle.bound_cover.specs.Clamping.{AreWritable}
use Rattle.cover_book.proofs.thinning.next_layers.Given as goal

abbrev pub invariant-layers : goal.invariant-layers
invariant-layers g l = record {
  prepared : IsPreparedFor (g.M.DpModel.meaning (g.M.DpModel.numbers l.aim.model.now)) l.supply.space;
  writable : AreWritable l.cover;
}
