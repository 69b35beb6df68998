use Rattle.std.proofs.Common.{◌<◌, length}
use Rattle.cover_text.proofs.Places.{kept_layers_from, layers_from}
use Rattle.cover_text.proofs.printing.push_layers.Goals as goal

pub loop-layer-preserved : goal.loop-layer-preserved
loop-layer-preserved c =
    let below : c.loop-layer.layer < length c.args.cover.now = rw (← c.layers-layer-end.ensures.count) c.loop-layer-test.true in (
      layers_from c.args.cover.now c.loop-layer.layer c.loop-layer.out.items c.push_layer.new.out.items _ below c.in_ok-push_layer.ensures.pushed c.loop-layer.invariant.0,
      kept_layers_from c.args.cover.now c.loop-layer.layer below c.in_ok-push_layer.ensures.fits c.loop-layer.invariant.1,
    )
