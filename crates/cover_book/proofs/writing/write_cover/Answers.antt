use Rattle.cover_book.proofs.Written.{layers-more}
use Rattle.cover_book.proofs.writing.write_cover.Goals as goal

pub layers-preserved : goal.layers-preserved
layers-preserved g c =
    layers-more (g.M.DpModel.meaning (g.M.DpModel.numbers c.args.model.now)) c.layers.k c.args.rows.now c.layers.cover c.add_layer.new.cover c.index-rows-k.result c.index-rows-k.result c.layers-test.true c.index-rows-k.is c.layers.invariant c.in_ok-add_layer.ensures
