use Rattle.std.proofs.Common.{List, sym, subst}
use Rattle.layer_candidates.specs.declared.way.Way.{Way}
use Rattle.layer_candidates.specs.HeldRows.{AreLive}
use Rattle.layer_candidates.specs.Ways.{rows_of, way_row, AreDistinct}
use Rattle.layer_nodes.specs.Reducing.{AreListed}
use Rattle.layer_nodes.proofs.Listed.{unstruck-listed}
use Rattle.layer_nodes.proofs.numbering.Arrangement.list.Goals as goal

pub returns-clause-listed : goal.returns-clause-listed
returns-clause-listed g c =
    let dp = g.M.DpModel.meaning (g.M.DpModel.numbers c.args.model.now) in
    let a = c.args in
    let ways = c.as_slice-ways.result.now in
    let value = c.as_slice-ways.ensures.value in
    subst (λ (ws : List Way). AreListed dp a.k c.list_unstruck.new.region ws c.list_unstruck.new.keys.items) value
    (unstruck-listed dp a.k a.threshold a.region.now c.list_unstruck.new.region ways c.list_unstruck.new.keys.items
    (subst (λ (ws : List Way). AreDistinct dp a.k (way_row a.region.now ws) ws) (sym value) c.requires.distinct)
    (subst (λ (ws : List Way). AreLive a.region.now (rows_of ws)) (sym value) c.requires.held)
    c.list_unstruck.ensures.keys c.list_unstruck.ensures.left)
