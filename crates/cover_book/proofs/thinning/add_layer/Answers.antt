use Rattle.std.proofs.Common.{sym, subst}
use Rattle.std.proofs.lemmas.Result.{on_ok_weaker}
use Rattle.bound_cover.specs.Clamping.{AreWritable}
use Rattle.cover_book.proofs.Writable.{writable-layer}
use Rattle.cover_book.proofs.thinning.add_layer.Goals as goal

pub returns : goal.returns
returns c = on_ok_weaker c.add_layer.result (λ e w. subst AreWritable (sym e) (writable-layer c.args.cover.now w)) c.add_layer.ensures.ok
