use Rattle.std.proofs.Common.{◌≡◌, ℕ, List, Some, None, sym, ◌∙◌, ap, subst, arith}
use Rattle.std.proofs.lemmas.Option.{slice_get_within}
use Rattle.std.specs.Arc.{arc_value}
use Rattle.std.specs.List.{slice_get}
use Rattle.std.specs.Prelude.{option_map}
use Rattle.dp_model.specs.Laws.{IsLawful}
use Rattle.fringe.specs.Firsts.{first_taken, IsFirstTaken}
use Rattle.fringe.specs.Popping.{after_pop}
use Rattle.fringe.specs.Tickets.{Ticketed}
use Rattle.board_laws.specs.Taking.{after_take, copy_of, take_gives, HasFirst}
use Rattle.board_laws.specs.declared.taken.Taken.TheVariants.{Sub}
use Rattle.fringe.proofs.Takings.{first_taken-is}
use Rattle.board.specs.View.{BoardView, tag_of}
use Rattle.board.proofs.Keeping.{handed, take-kept, take-step, take-copies, slot-set}
use Rattle.board.proofs.board.Board.check_out.Given as given
use Rattle.board.proofs.board.Board.check_out.Goals as goal

laws_of : (g : given.Over) (m : g.row.M.Denot) → IsLawful (g.M.DpModel.meaning (g.M.DpModel.numbers m))
laws_of g m = (g.met.M.DpModel g.world.𝓛 g.world.𝓜 g.world.𝓡 ((λ s x. x), (λ x. x), (λ x. x), λ x. x)).lawful m

-- the step, on the board as the caller sees it
taken-at : (v w : BoardView) (who : ℕ) (o : Ticketed) (os : List Ticketed) → v ≡ w → take_gives w.board ≡ Sub → Some o ≡ first_taken v.board.open_ones → os ≡ after_pop v.board.open_ones → handed v.board who o os ≡ after_take w.board who
taken-at v w who o os same may best popped = subst (λ (w : BoardView). take_gives w.board ≡ Sub → handed v.board who o os ≡ after_take w.board who) same (λ may. take-step v.board who o os may best popped) may

pub copy_from-requires-clause-room : goal.copy_from-requires-clause-room
copy_from-requires-clause-room g c =
    let copies = take-copies _ (laws_of g (arc_value c.self.inside.model)) _ c.self.invariant.board _ c.in-Some.ensures.best in
    let room = rw (← c.self.view_is) at c.requires.room in
    let few = copies.few in
    omega arith

pub copy_from-requires-clause-cells : goal.copy_from-requires-clause-cells
copy_from-requires-clause-cells g c =
    let copies = take-copies _ (laws_of g (arc_value c.self.inside.model)) _ c.self.invariant.board _ c.in-Some.ensures.best in
    let cells = rw (← c.self.view_is) at c.requires.cells in
    copies.cells ∙ sym cells

pub index_mut-requires : goal.index_mut-requires
index_mut-requires g c =
    let empty = subst (λ (v : BoardView). slice_get v.board.slots c.args.who ≡ Some None) (sym c.self.view_is) c.requires.empty in
    let within = slice_get_within c.self.inside.slots.items c.args.who None empty in
    let long = c.self.inside.slots.ok.0 in
    omega arith

pub invariant_of-self : goal.invariant_of-self
invariant_of-self g c =
    let may = subst (λ (v : BoardView). take_gives v.board ≡ Sub) (sym c.self.view_is) c.requires.may in
    let empty = subst (λ (v : BoardView). slice_get v.board.slots c.args.who ≡ Some None) (sym c.self.view_is) c.requires.empty in
    take-kept _ _ _ c.args.who _ c.self.inside.fringe c.pop_best.new.self _ _ _ _ _ c.self.invariant may empty c.in-Some.ensures.best c.pop_best.ensures.step c.pop_best.ensures.words c.in-Some.ensures.more

pub returns-clause-first : goal.returns-clause-first
returns-clause-first g c =
    let o : Ticketed = record { ticket = c.in-Some.ticket; subproblem = c.in-Some.sub.subproblem } in
    let empty = subst (λ (v : BoardView). slice_get v.board.slots c.args.who ≡ Some None) (sym c.self.view_is) c.requires.empty in
    let slot = slot-set c.self.inside.slots.items c.args.who o (slice_get_within c.self.inside.slots.items c.args.who None empty) in
    subst (HasFirst c.args.self.now.board.open_ones) (sym slot)
    (subst (λ (v : BoardView). IsFirstTaken v.board.open_ones o) c.self.view_is (first_taken-is c.self.inside.fringe.open_ones o c.in-Some.ensures.best))

pub returns-clause-out : goal.returns-clause-out
returns-clause-out g c =
    let o : Ticketed = record { ticket = c.in-Some.ticket; subproblem = c.in-Some.sub.subproblem } in
    let empty = subst (λ (v : BoardView). slice_get v.board.slots c.args.who ≡ Some None) (sym c.self.view_is) c.requires.empty in
    let within = slice_get_within c.self.inside.slots.items c.args.who None empty in
    ap (option_map (λ (o : Ticketed). o.subproblem)) (slot-set c.self.inside.slots.items c.args.who o within) ∙ ap (λ p. Some p) (sym c.copy_from.ensures.copied)

pub returns-clause-step : goal.returns-clause-step
returns-clause-step g c = taken-at _ _ c.args.who _ _ c.self.view_is c.requires.may c.in-Some.ensures.best c.pop_best.ensures.step

pub returns-clause-copied : goal.returns-clause-copied
returns-clause-copied g c =
    c.copy_from.ensures.copied ∙ ap (copy_of c.args.into.now.subproblem) (c.in-Some.ensures.best ∙ ap (λ (v : BoardView). first_taken v.board.open_ones) c.self.view_is)

pub returns-clause-tag : goal.returns-clause-tag
returns-clause-tag g c = ap tag_of c.self.view_is

pub returns-clause-room : goal.returns-clause-room
returns-clause-room g c = ap (λ (v : BoardView). v.room) c.self.view_is
