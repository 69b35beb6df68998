use Rattle.layer_candidates.proofs.Blocks.{block-held}
use Rattle.layer_candidates.proofs.block.Block.of.Goals as goal

pub returns : goal.returns
returns c place held =
    block-held c.args.region.now c.cells-cells.result.now c.words-words.result c.args.live place c.words-words.ensures.words c.words-words.ensures.positive held c.cells-cells.ensures.rows c.cells-cells.ensures.fits
