use Rattle.std.proofs.Common.{sym, ◌∙◌, ap, subst}
use Rattle.std.specs.Arc.{arc_value}
use Rattle.std.specs.Prelude.{IsSome}
use Rattle.dp_model.specs.Laws.{IsLawful}
use Rattle.board_laws.specs.Board.{reach, slot_at}
use Rattle.board_laws.specs.Steps.{back_among, given_back}
use Rattle.board.specs.View.{BoardView, tag_of}
use Rattle.board.proofs.Keeping.{back-at, back-kept, back-step, goes-back}
use Rattle.board.proofs.board.Board.give_back.Given as given
use Rattle.board.proofs.board.Board.give_back.Goals as goal

laws_of : (g : given.Over) (m : g.row.M.Denot) → IsLawful (g.M.DpModel.meaning (g.M.DpModel.numbers m))
laws_of g m = (g.met.M.DpModel g.world.𝓛 g.world.𝓜 g.world.𝓡 ((λ s x. x), (λ x. x), (λ x. x), λ x. x)).lawful m

pub put_back-requires-clause-room : goal.put_back-requires-clause-room
put_back-requires-clause-room g c =
    let full = subst (λ (v : BoardView). IsSome (slot_at v.board c.args.who)) (sym c.self.view_is) c.requires.full in
    let at = back-at c.self.inside.slots.items c.args.who c.index_mut.result.now c.in-Some.one full c.index_mut.ensures.value (sym c.in-Some.ensures.value) in
    (goes-back _ (laws_of g (arc_value c.self.inside.model)) _ _ c.args.who c.in-Some.one _ _ _ _ _ _ c.self.invariant at).room

pub put_back-requires-clause-cells : goal.put_back-requires-clause-cells
put_back-requires-clause-cells g c =
    let full = subst (λ (v : BoardView). IsSome (slot_at v.board c.args.who)) (sym c.self.view_is) c.requires.full in
    let at = back-at c.self.inside.slots.items c.args.who c.index_mut.result.now c.in-Some.one full c.index_mut.ensures.value (sym c.in-Some.ensures.value) in
    (goes-back _ (laws_of g (arc_value c.self.inside.model)) _ _ c.args.who c.in-Some.one _ _ _ _ _ _ c.self.invariant at).cells ∙ sym c.self.invariant.has_room.fringe_words

pub put_back-requires-clause-new : goal.put_back-requires-clause-new
put_back-requires-clause-new g c =
    let full = subst (λ (v : BoardView). IsSome (slot_at v.board c.args.who)) (sym c.self.view_is) c.requires.full in
    let at = back-at c.self.inside.slots.items c.args.who c.index_mut.result.now c.in-Some.one full c.index_mut.ensures.value (sym c.in-Some.ensures.value) in
    (goes-back _ (laws_of g (arc_value c.self.inside.model)) _ _ c.args.who c.in-Some.one _ _ _ _ _ _ c.self.invariant at).new

pub invariant_of-self : goal.invariant_of-self
invariant_of-self g c =
    let full = subst (λ (v : BoardView). IsSome (slot_at v.board c.args.who)) (sym c.self.view_is) c.requires.full in
    let halted = subst (λ (v : BoardView). IsSome v.board.cause) (sym c.self.view_is) c.requires.halted in
    let at = back-at c.self.inside.slots.items c.args.who c.index_mut.result.now c.in-Some.one full c.index_mut.ensures.value (sym c.in-Some.ensures.value) in
    let put = c.put_back.ensures.put ∙ ap (λ r. back_among r c.in-Some.one c.self.inside.fringe.open_ones) (c.reach-reach.ensures ∙ ap (λ (v : BoardView). reach v.board) (sym c.self.view_is)) in
    rw c.replace-slot.ensures.after
    (back-kept _ (laws_of g (arc_value c.self.inside.model)) _ _ c.args.who c.in-Some.one c.self.inside.fringe c.put_back.new.fringe _ _ _ _ _ c.self.invariant at halted put c.put_back.ensures.words c.put_back.ensures.spare)

pub returns-clause-step : goal.returns-clause-step
returns-clause-step g c =
    let full = subst (λ (v : BoardView). IsSome (slot_at v.board c.args.who)) (sym c.self.view_is) c.requires.full in
    let at = back-at c.self.inside.slots.items c.args.who c.index_mut.result.now c.in-Some.one full c.index_mut.ensures.value (sym c.in-Some.ensures.value) in
    let put = c.put_back.ensures.put ∙ ap (λ r. back_among r c.in-Some.one c.self.inside.fringe.open_ones) (c.reach-reach.ensures ∙ ap (λ (v : BoardView). reach v.board) (sym c.self.view_is)) in
    rw c.replace-slot.ensures.after
    (back-step _ c.args.who c.in-Some.one c.put_back.new.fringe.open_ones at put ∙ ap (λ (v : BoardView). given_back v.board c.args.who) c.self.view_is)

pub returns-clause-tag : goal.returns-clause-tag
returns-clause-tag g c = ap tag_of c.self.view_is

pub returns-clause-room : goal.returns-clause-room
returns-clause-room g c = ap (λ (v : BoardView). v.room) c.self.view_is
