use Rattle.std.proofs.Common.{◌≡◌, ◌<◌, ◌≤◌, ◌^◌, refl, length, sym, ◌∙◌, ap, subst, arith, rules, map}
use Rattle.std.specs.Arc.{arc_value}
use Rattle.dp_model.specs.Gaps.{IsStateOf}
use Rattle.dp_model.specs.Laws.{IsLawful}
use Rattle.dp_model.specs.Lists.{Each}
use Rattle.dp_model.specs.Subproblem.{SubView}
use Rattle.board_laws.specs.Entering.{entering, entry_of}
use Rattle.board_laws.specs.Finishing.{MayFinish}
use Rattle.board_laws.specs.Pushes.{put_each}
use Rattle.board_laws.specs.Steps.{finished_by}
use Rattle.board.specs.Contents.{contents}
use Rattle.board.specs.View.{BoardView, tag_of}
use Rattle.board.proofs.Keeping.{contents-many, children-cells, children-states, children-own, fates-threaded, fates-long, open-given, finish-step, finish-kept, finish-fits}
use Rattle.board.proofs.board.Board.finish.Given as given
use Rattle.board.proofs.board.Board.finish.Goals as goal

laws_of : (g : given.Over) (m : g.row.M.Denot) → IsLawful (g.M.DpModel.meaning (g.M.DpModel.numbers m))
laws_of g m = (g.met.M.DpModel g.world.𝓛 g.world.𝓜 g.world.𝓡 ((λ s x. x), (λ x. x), (λ x. x), λ x. x)).lawful m

pub enter_all-self-inside-requires-clause-fates : goal.enter_all-self-inside-requires-clause-fates
enter_all-self-inside-requires-clause-fates g c κs _ =
    fates-long _ _ c.args.who c.args.threshold (contents c.args.subs.now.items) c.args.fates.now c.requires.may ∙ contents-many c.args.subs.now.items

pub enter_all-self-inside-requires-clause-threaded : goal.enter_all-self-inside-requires-clause-threaded
enter_all-self-inside-requires-clause-threaded g c κs _ =
    let may = subst (λ (v : BoardView). MayFinish (g.M.DpModel.meaning v.numbers) v.board c.args.who c.args.threshold (contents c.args.subs.now.items) c.args.fates.now) (sym c.self.view_is) c.requires.may in
    fates-threaded _ _ c.args.who c.args.threshold (contents c.args.subs.now.items) c.args.fates.now may

pub enter_all-self-inside-requires-clause-below : goal.enter_all-self-inside-requires-clause-below
enter_all-self-inside-requires-clause-below g c κs _ = open-given _ _ c.self.invariant.board

pub enter_all-self-inside-requires-clause-cells : goal.enter_all-self-inside-requires-clause-cells
enter_all-self-inside-requires-clause-cells g c κs _ =
    let may = subst (λ (v : BoardView). MayFinish (g.M.DpModel.meaning v.numbers) v.board c.args.who c.args.threshold (contents c.args.subs.now.items) c.args.fates.now) (sym c.self.view_is) c.requires.may in
    children-cells _ (laws_of g (arc_value c.self.inside.model)) c.args.subs.now.items _ c.self.invariant.has_room.fringe_words (children-own _ _ _ may.children.own)

pub enter_all-self-inside-requires-clause-states : goal.enter_all-self-inside-requires-clause-states
enter_all-self-inside-requires-clause-states g c κs _ =
    let may = subst (λ (v : BoardView). MayFinish (g.M.DpModel.meaning v.numbers) v.board c.args.who c.args.threshold (contents c.args.subs.now.items) c.args.fates.now) (sym c.self.view_is) c.requires.may in
    subst (λ m. Each (λ (h : SubView). IsStateOf (g.M.DpModel.meaning (g.M.DpModel.numbers m)) (length h.subproblem.decisions) h.subproblem.row) c.args.subs.now.items) (sym c.deref.ensures)
    (children-states _ (laws_of g (arc_value c.self.inside.model)) c.args.subs.now.items (children-own _ _ _ may.children.own))

pub enter_all-self-inside-requires-clause-tickets : goal.enter_all-self-inside-requires-clause-tickets
enter_all-self-inside-requires-clause-tickets g c κs _ =
    let may = subst (λ (v : BoardView). MayFinish (g.M.DpModel.meaning v.numbers) v.board c.args.who c.args.threshold (contents c.args.subs.now.items) c.args.fates.now) (sym c.self.view_is) c.requires.may in
    let fits = finish-fits _ _ c.args.who c.args.threshold (contents c.args.subs.now.items) c.args.fates.now c.self.invariant.board may in
    let tickets = fits.tickets in
    let long : length (contents c.args.subs.now.items) ≡ length c.args.subs.now.items = contents-many c.args.subs.now.items in
    omega arith

pub overflow_add-self : goal.overflow_add-self
overflow_add-self g c =
    let may = subst (λ (v : BoardView). MayFinish (g.M.DpModel.meaning v.numbers) v.board c.args.who c.args.threshold (contents c.args.subs.now.items) c.args.fates.now) (sym c.self.view_is) c.requires.may in
    let fits = finish-fits _ _ c.args.who c.args.threshold (contents c.args.subs.now.items) c.args.fates.now c.self.invariant.board may in
    let finished = fits.finished in
    let taken : c.self.inside.taken < 2 ^ 64 = search rules in
    omega arith

pub invariant_of-self : goal.invariant_of-self
invariant_of-self g c =
    let dp = g.M.DpModel.meaning (g.M.DpModel.numbers (arc_value c.self.inside.model)) in
    let may = subst (λ (v : BoardView). MayFinish (g.M.DpModel.meaning v.numbers) v.board c.args.who c.args.threshold (contents c.args.subs.now.items) c.args.fates.now) (sym c.self.view_is) c.requires.may in
    let room = subst (λ (v : BoardView). length c.args.subs.now.items ≤ v.room) (sym c.self.view_is) c.requires.room in
    let long : length (contents c.args.subs.now.items) ≡ length c.args.subs.now.items = contents-many c.args.subs.now.items in
    let noted = subst (λ m. c.enter_all-self-inside.new.table ≡ put_each c.self.inside.table (map (entry_of (g.M.DpModel.meaning (g.M.DpModel.numbers m))) (entering (contents c.args.subs.now.items) c.args.fates.now))) c.deref.ensures c.enter_all-self-inside.ensures.noted in
    let spare = c.enter_all-self-inside.ensures.spare in
    let count = c.len-count.ensures in
    finish-kept dp (laws_of g (arc_value c.self.inside.model)) _ _ c.args.who c.args.threshold (contents c.args.subs.now.items) c.args.fates.now c.self.inside.fringe c.enter_all-self-inside.new.fringe c.self.inside.table c.enter_all-self-inside.new.table
    c.enter_all-self-inside.result c.self.inside.room _ _ _ _ c.self.invariant may refl c.enter_all-self-inside.ensures.«open» noted c.enter_all-self-inside.ensures.next c.enter_all-self-inside.ensures.words (omega arith) (omega arith)

pub returns-clause-step : goal.returns-clause-step
returns-clause-step g c =
    let dp = g.M.DpModel.meaning (g.M.DpModel.numbers (arc_value c.self.inside.model)) in
    let may = subst (λ (v : BoardView). MayFinish (g.M.DpModel.meaning v.numbers) v.board c.args.who c.args.threshold (contents c.args.subs.now.items) c.args.fates.now) (sym c.self.view_is) c.requires.may in
    let noted = subst (λ m. c.enter_all-self-inside.new.table ≡ put_each c.self.inside.table (map (entry_of (g.M.DpModel.meaning (g.M.DpModel.numbers m))) (entering (contents c.args.subs.now.items) c.args.fates.now))) c.deref.ensures c.enter_all-self-inside.ensures.noted in
    finish-step dp _ c.args.who c.args.threshold (contents c.args.subs.now.items) c.args.fates.now c.enter_all-self-inside.new.fringe.open_ones c.self.inside.table c.enter_all-self-inside.new.table c.enter_all-self-inside.result
    c.self.invariant.board may refl c.self.invariant.has_room.limit c.enter_all-self-inside.ensures.«open» noted c.enter_all-self-inside.ensures.next
    ∙ ap (λ (v : BoardView). finished_by (g.M.DpModel.meaning v.numbers) v.board c.args.who (contents c.args.subs.now.items)) c.self.view_is

pub returns-clause-tag : goal.returns-clause-tag
returns-clause-tag g c = ap tag_of c.self.view_is
