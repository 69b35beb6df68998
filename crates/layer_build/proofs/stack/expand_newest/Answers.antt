use Rattle.std.proofs.Common.{◌∙◌, sym, ap, subst, false}
use Rattle.dp_laws.specs.Rules.Compiling.{TwoLayers}
use Rattle.layer_nodes.specs.Nodes.{shown_layer}
use Rattle.layer_nodes.proofs.Holding.{held-nodes}
use Rattle.layer_build.specs.Within.{expanded_as, MayMerge}
use Rattle.layer_build.proofs.Bare.{alike-next, alike-above, alike-parents, alike-within, alike-merged}
use Rattle.layer_build.proofs.Places.{held-more}
use Rattle.layer_build.proofs.stack.expand_newest.Goals as goal

pub expand-requires-clause-nodes : goal.expand-requires-clause-nodes
expand-requires-clause-nodes g c κs within =
    let dp = g.M.DpModel.meaning (g.M.DpModel.numbers c.args.model.now) in
    alike-parents dp c.args.k c.args.newest.now.nodes c.keep.new.self.nodes c.keep.ensures.nodes c.requires.nodes

pub expand_merged-requires-clause-nodes : goal.expand_merged-requires-clause-nodes
expand_merged-requires-clause-nodes g c κs within =
    let dp = g.M.DpModel.meaning (g.M.DpModel.numbers c.args.model.now) in
    alike-parents dp c.args.k c.args.newest.now.nodes c.keep.new.self.nodes c.keep.ensures.nodes c.requires.nodes

pub returns-in-By-clause-above : goal.returns-in-By-clause-above
returns-in-By-clause-above g c paths =
    let dp = g.M.DpModel.meaning (g.M.DpModel.numbers c.args.model.now) in
    let old = c.args.newest.now.nodes in
    c.expand.ensures.above paths
    ∙ (alike-above c.in-By.strikes dp c.args.k paths old c.keep.new.self.nodes c.keep.ensures.nodes ∙ ap (λ m. (expanded_as m false dp c.args.width c.args.k (shown_layer paths old)).above) (sym c.in-By.is))

pub returns-in-By-clause-next : goal.returns-in-By-clause-next
returns-in-By-clause-next g c paths =
    let dp = g.M.DpModel.meaning (g.M.DpModel.numbers c.args.model.now) in
    let old = c.args.newest.now.nodes in
    c.expand.ensures.next paths
    ∙ (alike-next c.in-By.strikes dp c.args.k paths old c.keep.new.self.nodes c.keep.ensures.nodes ∙ ap (λ m. (expanded_as m false dp c.args.width c.args.k (shown_layer paths old)).next) (sym c.in-By.is))

pub returns-in-By-clause-rest : goal.returns-in-By-clause-rest
returns-in-By-clause-rest g c = c.expand.ensures.rest.nodes ∙ c.keep.ensures.nodes

pub returns-in-By-clause-places : goal.returns-in-By-clause-places
returns-in-By-clause-places g c = c.expand.ensures.rest.places ∙ c.keep.ensures.places

pub returns-in-By-clause-above_held : goal.returns-in-By-clause-above_held
returns-in-By-clause-above_held g c =
    held-more c.args.region.now c.expand.new.region _ c.expand.ensures.exchanged c.expand.new.above.nodes (held-nodes c.args.region.now c.keep.new.self c.expand.new.above c.expand.ensures.rest c.keep.ensures.held)

pub returns-in-Within-clause-above : goal.returns-in-Within-clause-above
returns-in-Within-clause-above g c paths =
    let dp = g.M.DpModel.meaning (g.M.DpModel.numbers c.args.model.now) in
    let a = c.args in
    let e = c.expand_merged in
    let old = a.newest.now.nodes in
    e.ensures.above paths
    ∙ (ap (λ (two : TwoLayers). two.above) (alike-within c.in-Within.threshold e.result dp a.width a.k paths old c.keep.new.self.nodes c.keep.ensures.nodes (λ merged. e.ensures.wide merged paths))
    ∙ ap (λ m. (expanded_as m e.result dp a.width a.k (shown_layer paths old)).above) (sym c.in-Within.is))

pub returns-in-Within-clause-next : goal.returns-in-Within-clause-next
returns-in-Within-clause-next g c paths =
    let dp = g.M.DpModel.meaning (g.M.DpModel.numbers c.args.model.now) in
    let a = c.args in
    let e = c.expand_merged in
    let old = a.newest.now.nodes in
    e.ensures.next paths
    ∙ (ap (λ (two : TwoLayers). two.next) (alike-within c.in-Within.threshold e.result dp a.width a.k paths old c.keep.new.self.nodes c.keep.ensures.nodes (λ merged. e.ensures.wide merged paths))
    ∙ ap (λ m. (expanded_as m e.result dp a.width a.k (shown_layer paths old)).next) (sym c.in-Within.is))

pub returns-in-Within-clause-merged : goal.returns-in-Within-clause-merged
returns-in-Within-clause-merged g c merged paths =
    let dp = g.M.DpModel.meaning (g.M.DpModel.numbers c.args.model.now) in
    let a = c.args in
    let e = c.expand_merged in
    let old = a.newest.now.nodes in
    subst (λ m. MayMerge m dp a.width a.k (shown_layer paths old)) (sym c.in-Within.is)
    (alike-merged c.in-Within.threshold dp a.width a.k paths old c.keep.new.self.nodes c.keep.ensures.nodes (e.ensures.wide merged paths) (e.ensures.inexact merged paths))

pub returns-in-Within-clause-rest : goal.returns-in-Within-clause-rest
returns-in-Within-clause-rest g c = c.expand_merged.ensures.rest.nodes ∙ c.keep.ensures.nodes

pub returns-in-Within-clause-places : goal.returns-in-Within-clause-places
returns-in-Within-clause-places g c = c.expand_merged.ensures.rest.places ∙ c.keep.ensures.places

pub returns-in-Within-clause-above_held : goal.returns-in-Within-clause-above_held
returns-in-Within-clause-above_held g c =
    held-more c.args.region.now c.expand_merged.new.region _ c.expand_merged.ensures.exchanged c.expand_merged.new.above.nodes (held-nodes c.args.region.now c.keep.new.self c.expand_merged.new.above c.expand_merged.ensures.rest c.keep.ensures.held)
