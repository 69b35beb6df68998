use Rattle.std.proofs.Common.{◌≡◌, ◌+◌, sym, ◌∙◌, ap, subst}
use Rattle.dp_model.specs.Numbers.{add_some}
use Rattle.dp_laws.specs.Rules.Reducing.{redirect_by}
use Rattle.layer_candidates.specs.HeldRows.{held_row}
use Rattle.layer_nodes.specs.declared.node.Node.{Node}
use Rattle.layer_nodes.specs.Merging.{greater}
use Rattle.layer_nodes.proofs.Merged.{AreLifted, lifted-more}
use Rattle.layer_nodes.proofs.merging.merge_targets.Goals as goal

pub nodes-preserved : goal.nodes-preserved
nodes-preserved g c =
    let dp = g.M.DpModel.meaning (g.M.DpModel.numbers c.args.model.now) in
    let a = c.args in
    let l = c.nodes in
    let h = l.invariant.lifted in
    let node = c.index-nodes-i.result in
    let into = a.into.state.now in
    let row = held_row a.region.now in
    record {
      lifted = subst (λ r. AreLifted dp a.k (held_row a.region.now) a.into.state.now a.nodes.now a.into.place a.redirects.now.items c.greater-best.result r (l.i + 1)) (sym c.push_reserved.ensures.items)
          (lifted-more dp a.k (held_row a.region.now) a.into.state.now a.nodes.now a.into.place a.redirects.now.items l.best c.greater-best.result l.redirects.items c.redirect_by.result l.i node h c.nodes-test.true
          (subst (λ (n : Node). c.greater-best.result ≡ greater l.best (add_some n.value (dp.gap a.k into (row n.row)))) c.index-nodes-i.is
          (c.greater-best.ensures ∙ ap (greater l.best) (c.lifted.ensures ∙ ap (add_some node.value) c.gap_to-gap.ensures.gap)))
          (subst (λ (n : Node). c.redirect_by.result ≡ redirect_by a.into.place (dp.gap a.k into (row n.row))) c.index-nodes-i.is
          (c.redirect_by.ensures.redirect ∙ ap (redirect_by a.into.place) c.gap_to-gap.ensures.gap))
          c.redirect_by.ensures.short);
      capacity = c.push_reserved.ensures.capacity ∙ l.invariant.capacity;
    }
