use Rattle.std.proofs.Common.{◌<◌, length, sym, ◌∙◌, ap, ap₂, subst}
use Rattle.dp_model.specs.Numbers.{add_some}
use Rattle.layer_candidates.specs.declared.key.Key.{Key}
use Rattle.layer_candidates.specs.HeldRows.{held_row}
use Rattle.layer_nodes.specs.declared.node.Node.{Node}
use Rattle.layer_nodes.specs.Expanding.{key_in}
use Rattle.layer_nodes.specs.Merging.{greater}
use Rattle.layer_nodes.specs.Reducing.{merged_route}
use Rattle.layer_nodes.proofs.MergedKeys.{led-more}
use Rattle.layer_nodes.proofs.Stored.{each-get}
use Rattle.layer_nodes.proofs.reducing.lead_to_merged.Goals as goal

pub keys-preserved : goal.keys-preserved
keys-preserved g c =
    let dp = g.M.DpModel.meaning (g.M.DpModel.numbers c.args.model.now) in
    let a = c.args in
    let l = c.keys in
    let into = a.into.state.now in
    let same = l.invariant.same in
    let within = each-get (λ (key : Key). key.place < length a.routes.now) a.keys.now l.i _ c.requires.within c.keys-test.true in
    let node = c.key_node-node.ensures in
    let gap = c.gap_to-gap.ensures.gap ∙ ap (λ (n : Node). dp.gap a.k into (held_row a.region.now n.row)) node in
    led-more dp a.k (held_row a.region.now) into a.into.place a.keys.now a.routes.now l.best c.greater-best.result l.routes c.merged_route.result l.i _ l.invariant c.keys-test.true c.requires.apart (subst (λ n. (key_in a.keys.now l.i).place < n) (sym same) within)
    (c.greater-best.ensures ∙ ap (greater l.best) (c.lifted.ensures ∙ ap₂ add_some (ap (λ (n : Node). n.value) node) gap))
    (c.merged_route.ensures ∙ ap (merged_route a.into.place) gap)
