use Rattle.std.proofs.Common.{◌+◌, map, sym, subst, arith}
use Rattle.dp_model.specs.Lists.{Each}
use Rattle.dp_laws.specs.declared.arc.DdArc.{DdArc}
use Rattle.dp_laws.specs.Diagrams.Nodes.{DdNode}
use Rattle.layer_nodes.specs.Nodes.{NodeView}
use Rattle.layer_nodes.specs.Ending.{MayAdd, MayLead}
use Rattle.layer_build.specs.contracts.workspace.Workspace.{the_view}
use Rattle.layer_build.specs.Layers.{SpaceView, layer_at}
use Rattle.layer_build.specs.Stacked.{nodes_in}
use Rattle.layer_build.proofs.Going.{under}
use Rattle.layer_build.proofs.Standing.{has-all-depths}
use Rattle.layer_build.proofs.Ended.{is-within, suffixes-seen, arcs-seen, ended-space, ended-under-way, all-ended}
use Rattle.layer_build.proofs.workspace.Workspace.set_suffixes.Goals as goal

pub end_layer-requires-clause-last : goal.end_layer-requires-clause-last
end_layer-requires-clause-last c = (is-within c.self.inside c.self.invariant c.args.self.now c.self.view_is c.args.depth c.requires.first c.requires.last).low

pub end_layer-requires-clause-stored : goal.end_layer-requires-clause-stored
end_layer-requires-clause-stored c = has-all-depths c.self.inside c.self.invariant

pub end_layer-requires-clause-arcs : goal.end_layer-requires-clause-arcs
end_layer-requires-clause-arcs c = λ less.
    let i = c.self.inside in
    let h = c.self.invariant in
    let at = is-within i h c.args.self.now c.self.view_is c.args.depth c.requires.first c.requires.last in
    let deep = at.deep in
    arcs-seen (Each MayAdd) i h c.args.depth at.above at.low
    (subst (λ (v : SpaceView). Each (λ (node : DdNode). Each MayAdd node.arcs) (layer_at v c.args.depth)) (sym c.self.view_is) (c.requires.arcs (omega arith)))

pub end_layer-requires-clause-leads : goal.end_layer-requires-clause-leads
end_layer-requires-clause-leads c = λ less.
    let i = c.self.inside in
    let h = c.self.invariant in
    let at = is-within i h c.args.self.now c.self.view_is c.args.depth c.requires.first c.requires.last in
    let deep = at.deep in
    let above = at.above in
    let all = subst (λ (v : SpaceView). Each (λ (node : DdNode). Each (λ (arc : DdArc). MayLead (map (λ (n : DdNode). n.suffix) (layer_at v (c.args.depth + 1))) arc.target) node.arcs) (layer_at v c.args.depth)) (sym c.self.view_is) (c.requires.leads (omega arith)) in
    subst (λ s. Each (λ (node : NodeView). Each (λ (arc : DdArc). MayLead s arc.target) node.arcs) (nodes_in i.stack c.args.depth)) (suffixes-seen i h (c.args.depth + 1) (omega arith) (omega arith))
    (arcs-seen (Each (λ (arc : DdArc). MayLead (map (λ (n : DdNode). n.suffix) (layer_at (the_view i) (c.args.depth + 1))) arc.target)) i h c.args.depth at.above at.low all)

pub invariant_of-self : goal.invariant_of-self
invariant_of-self c =
    let i = c.self.inside in
    let h = c.self.invariant in
    let at = is-within i h c.args.self.now c.self.view_is c.args.depth c.requires.first c.requires.last in
    ended-space i h c.args.depth c.end_layer.new.stack at.above at.low c.end_layer.ensures

pub returns-clause-layers : goal.returns-clause-layers
returns-clause-layers c = λ dp vars.
    all-ended dp c.self.inside c.self.invariant c.args.self.now c.self.view_is c.args.depth c.end_layer.new.stack c.requires.first c.requires.last c.requires.whole vars c.end_layer.ensures

pub returns-clause-under_way : goal.returns-clause-under_way
returns-clause-under_way c = λ dp u.
    let i = c.self.inside in
    let h = c.self.invariant in
    let at = is-within i h c.args.self.now c.self.view_is c.args.depth c.requires.first c.requires.last in
    ended-under-way dp i h c.args.depth c.end_layer.new.stack at.above at.low c.end_layer.ensures (under dp i c.args.self.now c.self.view_is u)
