use Rattle.std.proofs.Common.{◌∙◌, sym}
use Rattle.relaxed_dd.specs.Shown.{layers_of}
use Rattle.cover_pages.proofs.Rows.{cells-at, put-node}
use Rattle.cover_pages.proofs.writing.put_layer.Goals as goal

pub put_row-requires-clause-cells : goal.put_row-requires-clause-cells
put_row-requires-clause-cells c =
    cells-at c.args.region.now.words (layers_of c.args.diagram.now) c.args.depth c.nodes.node c.row.result.now c.requires.keep c.row.ensures ∙ sym c.nodes.invariant.put.words

pub nodes-preserved : goal.nodes-preserved
nodes-preserved c = record {
  put = put-node (layers_of c.args.diagram.now) c.args.depth c.nodes.node c.row.result.now c.args.region.now c.nodes.region c.put_row.new.region c.args.ids.now.items c.nodes.ids.items c.put_row.new.ids.items c.row.ensures c.nodes.invariant.put c.put_row.ensures.put;
  room = c.put_row.ensures.room ∙ c.nodes.invariant.room;
}
