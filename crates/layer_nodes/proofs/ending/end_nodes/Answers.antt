use Rattle.std.proofs.Common.{rules, ◌≢◌, ◌+◌, ◌≤◌, IfSome, sym, ◌∙◌, ap, subst, arith}
use Rattle.std.proofs.lemmas.List.{length-map}
use Rattle.dp_model.specs.Lists.{Each}
use Rattle.dp_model.specs.Numbers.{greatest}
use Rattle.dp_laws.specs.declared.arc.DdArc.{DdArc}
use Rattle.layer_nodes.specs.Ending.{lengths, MayAdd, MayLead, MayEnd, suffixes_in, arcs_in, ended_in}
use Rattle.layer_nodes.specs.Packed.{no_length}
use Rattle.layer_nodes.specs.Routing.{routed, routed_arcs}
use Rattle.layer_nodes.proofs.Ended.{greatest-packs, end-may, end-more, mapped-all}
use Rattle.layer_nodes.proofs.Routed.{routed-in}
use Rattle.layer_nodes.proofs.Stored.{read-is}
use Rattle.layer_nodes.proofs.ending.end_nodes.Goals as goal

pub arcs_of-own-requires : goal.arcs_of-own-requires
arcs_of-own-requires c =
    let arcs = routed_arcs c.args.routes.now c.args.arcs.now in
    let node = c.index-nodes-i.result in
    let may = subst (MayEnd arcs (suffixes_in c.args.next.now)) (sym c.index-nodes-i.is) (end-may arcs (suffixes_in c.args.next.now) c.args.nodes.now c.nodes.nodes c.nodes.i node c.requires c.nodes-test.true c.nodes.invariant) in
    subst (λ n. node.first_arc + node.arcs ≤ n) (length-map c.args.arcs.now (routed c.args.routes.now)) may.lie

pub longest-requires-clause-add : goal.longest-requires-clause-add
longest-requires-clause-add c =
    let arcs = routed_arcs c.args.routes.now c.args.arcs.now in
    let node = c.index-nodes-i.result in
    let may = subst (MayEnd arcs (suffixes_in c.args.next.now)) (sym c.index-nodes-i.is) (end-may arcs (suffixes_in c.args.next.now) c.args.nodes.now c.nodes.nodes c.nodes.i node c.requires c.nodes-test.true c.nodes.invariant) in
    let own = ap (routed_arcs c.args.routes.now) c.arcs_of-own.ensures ∙ routed-in c.args.routes.now c.args.arcs.now node in
    subst (Each MayAdd) (sym own) may.add

pub longest-requires-clause-lead : goal.longest-requires-clause-lead
longest-requires-clause-lead c =
    let arcs = routed_arcs c.args.routes.now c.args.arcs.now in
    let node = c.index-nodes-i.result in
    let may = subst (MayEnd arcs (suffixes_in c.args.next.now)) (sym c.index-nodes-i.is) (end-may arcs (suffixes_in c.args.next.now) c.args.nodes.now c.nodes.nodes c.nodes.i node c.requires c.nodes-test.true c.nodes.invariant) in
    let own = ap (routed_arcs c.args.routes.now) c.arcs_of-own.ensures ∙ routed-in c.args.routes.now c.args.arcs.now node in
    subst (Each (λ (arc : DdArc). MayLead (suffixes_in c.args.next.now) arc.target)) (sym own) may.lead

pub of-requires : goal.of-requires
of-requires c =
    let arcs = routed_arcs c.args.routes.now c.args.arcs.now in
    let suffixes = suffixes_in c.args.next.now in
    let node = c.index-nodes-i.result in
    let may = subst (MayEnd arcs suffixes) (sym c.index-nodes-i.is) (end-may arcs suffixes c.args.nodes.now c.nodes.nodes c.nodes.i node c.requires c.nodes-test.true c.nodes.invariant) in
    let own = ap (routed_arcs c.args.routes.now) c.arcs_of-own.ensures ∙ routed-in c.args.routes.now c.args.arcs.now node in
    subst (λ o. IfSome o (λ z. z ≢ no_length)) (sym (c.longest.ensures ∙ ap (λ l. greatest (lengths suffixes l)) own)) (greatest-packs suffixes (arcs_in arcs node) may.add may.lead)

pub nodes-preserved : goal.nodes-preserved
nodes-preserved c =
    let arcs = routed_arcs c.args.routes.now c.args.arcs.now in
    let node = c.index-nodes-i.result in
    let d = c.index-nodes-i-in-nodes.result in
    let read = read-is c.nodes.nodes c.nodes.i node d (let more = c.nodes-test.true in let same = c.nodes.auto.nodes in omega arith) c.index-nodes-i.is in
    let own = ap (routed_arcs c.args.routes.now) c.arcs_of-own.ensures ∙ (routed-in c.args.routes.now c.args.arcs.now node ∙ ap (arcs_in arcs) read) in
    end-more arcs (suffixes_in c.args.next.now) c.args.nodes.now c.nodes.nodes c.nodes.i d (routed_arcs c.args.routes.now c.arcs_of-own.result.now) c.of.result c.nodes-test.true c.nodes.invariant own (c.of.ensures ∙ c.longest.ensures)

pub returns : goal.returns
returns c = c.nodes.invariant ∙ mapped-all (ended_in (routed_arcs c.args.routes.now c.args.arcs.now) (suffixes_in c.args.next.now)) c.nodes.i c.args.nodes.now (search rules)
