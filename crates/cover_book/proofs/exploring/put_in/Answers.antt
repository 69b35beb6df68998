use Rattle.std.proofs.Common.{◌+◌, List, slice_get, ◌++◌, ◌∙◌, ap, sym, subst, option_map, ℕ, arith}
use Rattle.dp_model.specs.Laws.{IsLawful}
use Rattle.bound_cover.specs.Covers.{CoverRow}
use Rattle.cover_book.specs.declared.waiting.WaitingRow.{WaitingRow}
use Rattle.cover_book.specs.Adding.{AreAdded}
use Rattle.cover_book.specs.Waits.{waiting_of}
use Rattle.cover_book.specs.Steps.{waits_after}
use Rattle.cover_book.proofs.Owning.{can-put}
use Rattle.cover_book.proofs.Stepping.{puts-in}
use Rattle.cover_book.proofs.Putting.{root-long}
use Rattle.cover_book.proofs.exploring.put_in.Given as given
use Rattle.cover_book.proofs.exploring.put_in.Goals as goal

laws_of : (g : given.Over) (m : g.row.M.Denot) → IsLawful (g.M.DpModel.meaning (g.M.DpModel.numbers m))
laws_of g m = (g.met.M.DpModel g.world.𝓛 g.world.𝓜 g.world.𝓡 ((λ s x. x), (λ x. x), (λ x. x), λ x. x)).lawful m

pub add_cut-requires-clause-cut : goal.add_cut-requires-clause-cut
add_cut-requires-clause-cut g c κs within = (can-put (g.M.DpModel.meaning (g.M.DpModel.numbers c.args.model.now)) c.args.claim (slice_get c.args.waiting.now.items c.args.next) (g.D.ShownDiagram.layers c.args.diagram.now) c.requires.diagram).own

pub set_root_arcs-requires-clause-root : goal.set_root_arcs-requires-clause-root
set_root_arcs-requires-clause-root g c = (can-put (g.M.DpModel.meaning (g.M.DpModel.numbers c.args.model.now)) c.args.claim (slice_get c.args.waiting.now.items c.args.next) (g.D.ShownDiagram.layers c.args.diagram.now) c.requires.diagram).root

pub set_root_arcs-requires-clause-layer : goal.set_root_arcs-requires-clause-layer
set_root_arcs-requires-clause-layer g c = let p = can-put (g.M.DpModel.meaning (g.M.DpModel.numbers c.args.model.now)) c.args.claim (slice_get c.args.waiting.now.items c.args.next) (g.D.ShownDiagram.layers c.args.diagram.now) c.requires.diagram in let deep = p.deep in let long = c.requires.long in omega arith

pub last_needed-end-requires : goal.last_needed-end-requires
last_needed-end-requires g c = (can-put (g.M.DpModel.meaning (g.M.DpModel.numbers c.args.model.now)) c.args.claim (slice_get c.args.waiting.now.items c.args.next) (g.D.ShownDiagram.layers c.args.diagram.now) c.requires.diagram).cut

pub overflow_add-end : goal.overflow_add-end
overflow_add-end g c =
    let p = can-put (g.M.DpModel.meaning (g.M.DpModel.numbers c.args.model.now)) c.args.claim (slice_get c.args.waiting.now.items c.args.next) (g.D.ShownDiagram.layers c.args.diagram.now) c.requires.diagram in
    let e = c.last_needed-end.ensures in let a = p.last in let b = p.low in let few = (laws_of g c.args.model.now).sizes.vars in
    omega arith

pub add_layers-requires-clause-low : goal.add_layers-requires-clause-low
add_layers-requires-clause-low g c =
    let p = can-put (g.M.DpModel.meaning (g.M.DpModel.numbers c.args.model.now)) c.args.claim (slice_get c.args.waiting.now.items c.args.next) (g.D.ShownDiagram.layers c.args.diagram.now) c.requires.diagram in
    let e = c.last_needed-end.ensures in let a = p.last in let b = p.low in let few = (laws_of g c.args.model.now).sizes.vars in
    omega arith

pub add_layers-requires-clause-first : goal.add_layers-requires-clause-first
add_layers-requires-clause-first g c =
    let p = can-put (g.M.DpModel.meaning (g.M.DpModel.numbers c.args.model.now)) c.args.claim (slice_get c.args.waiting.now.items c.args.next) (g.D.ShownDiagram.layers c.args.diagram.now) c.requires.diagram in
    let e = c.last_needed-end.ensures in let a = p.first in
    omega arith

pub add_layers-requires-clause-last : goal.add_layers-requires-clause-last
add_layers-requires-clause-last g c =
    let p = can-put (g.M.DpModel.meaning (g.M.DpModel.numbers c.args.model.now)) c.args.claim (slice_get c.args.waiting.now.items c.args.next) (g.D.ShownDiagram.layers c.args.diagram.now) c.requires.diagram in
    let e = c.last_needed-end.ensures in let a = p.last in
    omega arith

pub add_layers-requires-clause-long : goal.add_layers-requires-clause-long
add_layers-requires-clause-long g c =
    let p = can-put (g.M.DpModel.meaning (g.M.DpModel.numbers c.args.model.now)) c.args.claim (slice_get c.args.waiting.now.items c.args.next) (g.D.ShownDiagram.layers c.args.diagram.now) c.requires.diagram in
    let e = c.last_needed-end.ensures in let a = p.last in let b = p.low in let long = c.requires.long in
    let same = root-long (g.D.ShownDiagram.layers c.args.diagram.now) c.number_at-place.result c.args.rows.now.items c.set_root_arcs.new.rows.items c.in_ok-set_root_arcs.ensures in
    omega arith

pub returns-clause-put : goal.returns-clause-put
returns-clause-put g c =
    let dp = (g.M.DpModel.meaning (g.M.DpModel.numbers c.args.model.now)) in
    let d = (g.D.ShownDiagram.layers c.args.diagram.now) in
    let claim = c.args.claim in
    let rows = c.args.rows.now.items in
    let start = c.set_root_arcs.new.rows.items in
    let new = c.add_layers.new.rows.items in
    let old = c.args.waiting.now.items in
    puts-in dp claim (slice_get old c.args.next) c.number_at-place.result d rows start new (waiting_of old) (waiting_of c.add_cut.new.waiting.items) c.requires.diagram
    (ap (λ (l : List WaitingRow). option_map (λ (r : WaitingRow). r.place) (slice_get l c.args.next)) (sym c.as_slice.ensures.value) ∙ c.number_at-place.ensures) c.requires.long c.in_ok-set_root_arcs.ensures
    (subst (λ (e : ℕ). AreAdded dp claim d (e + 1) start new) c.last_needed-end.ensures c.in_ok-add_layers.ensures)
    (c.in_ok-add_cut.ensures.waiting ∙ ap (λ (l : List (List CoverRow)). waiting_of old ++ waits_after claim d l d.first_reduced) c.as_slice-2.ensures.value)
