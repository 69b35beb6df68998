use Rattle.std.proofs.Common.{pos, sym, subst, ap, ◌∙◌, ◌+ℤ◌, arith}
use Rattle.std.proofs.lemmas.List.{take_all}
use Rattle.dp_model.specs.Numbers.{add_some, greatest}
use Rattle.dp_laws.specs.declared.arc.DdArc.{DdArc}
use Rattle.layer_nodes.specs.declared.routing.StoredArc.{StoredArc}
use Rattle.layer_nodes.specs.Ending.{suffix_of, lengths, MayAdd, MayLead, suffixes_in}
use Rattle.layer_nodes.specs.Merging.{greater}
use Rattle.layer_nodes.specs.Routing.{routed_arcs}
use Rattle.layer_nodes.proofs.Ended.{longer-more, routed-get}
use Rattle.layer_nodes.proofs.ending.longest.Goals as goal

abbrev none : StoredArc
none = record { decision = 0; way = 0; gain = pos 0 }

pub along-requires-clause-arc : goal.along-requires-clause-arc
along-requires-clause-arc c = subst MayAdd (sym c.routed-arc.ensures) (routed-get MayAdd c.args.routes.now c.args.arcs.now c.arcs.i none c.requires.add c.arcs-test.true)

pub suffix_of-requires : goal.suffix_of-requires
suffix_of-requires c =
    subst (λ (arc : DdArc). MayLead (suffixes_in c.args.next.now) arc.target) (sym c.routed-arc.ensures)
    (routed-get (λ (arc : DdArc). MayLead (suffixes_in c.args.next.now) arc.target) c.args.routes.now c.args.arcs.now c.arcs.i none c.requires.lead c.arcs-test.true)

pub arcs-preserved : goal.arcs-preserved
arcs-preserved c =
    let suffixes = suffixes_in c.args.next.now in
    longer-more suffixes c.args.routes.now c.args.arcs.now c.arcs.i none c.arcs.best c.greater-best.result c.arcs-test.true c.arcs.invariant
    (c.greater-best.ensures ∙ ap (greater c.arcs.best) (c.along.ensures ∙ (ap (add_some _) c.suffix_of.ensures.suffix
    ∙ ap (λ (arc : DdArc). add_some (arc.gain +ℤ arc.longer) (suffix_of suffixes arc.target)) c.routed-arc.ensures)))

pub returns : goal.returns
returns c = c.arcs.invariant ∙ ap (λ l. greatest (lengths (suffixes_in c.args.next.now) (routed_arcs c.args.routes.now l))) (take_all c.arcs.i c.args.arcs.now (omega arith))
