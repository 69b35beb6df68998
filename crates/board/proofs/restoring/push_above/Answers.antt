use Rattle.std.proofs.Common.{◌≡◌, ◌∷◌, [], List, ℕ, length, sym, ◌∙◌, ap, subst, refl, arith}
use Rattle.std.specs.Vec.Iter.{into_iter_items}
use Rattle.dp_model.specs.Subproblem.{SubView}
use Rattle.board_laws.specs.Restoring.{pushed_above}
use Rattle.board.specs.Opened.{ticketed}
use Rattle.board.proofs.Listed.{IsRestoring, all-restored, new-ticket, restore-all, restore-one}
use Rattle.board.proofs.restoring.push_above.Goals as goal

pub loop-ticket-init : goal.loop-ticket-init
loop-ticket-init c =
    let same = c.into_iter-ticket-iterator.ensures.into_iter_gives.0 in
    record {
      restoring = restore-all c.args.reach c.args.opened.items (into_iter_items c.into_iter-ticket-iterator.result) c.args.fringe.now.open_ones c.args.fringe.now.words c.args.fringe.now.spare same c.requires.empty c.requires.ordered c.requires.cells c.requires.room;
      words = refl;
      left = (let count = c.into_iter-ticket-iterator.ensures.into_iter_gives.1 in let long = ap length same in let size = c.args.opened.ok.0 in omega arith);
    }

-- before the push
here : (c : goal.After-put_back-arg-1)
    → IsRestoring (pushed_above c.args.reach [] (ticketed c.args.opened.items)) c.args.reach (record { ticket = c.in-Some.ticket; subproblem = c.in-Some.sub.subproblem } ∷ ticketed (into_iter_items c.next.new.self)) c.loop-ticket.fringe.open_ones c.loop-ticket.fringe.words c.loop-ticket.fringe.spare
here c =
    subst (λ (l : List (ℕ × SubView)). IsRestoring (pushed_above c.args.reach [] (ticketed c.args.opened.items)) c.args.reach (ticketed l) c.loop-ticket.fringe.open_ones c.loop-ticket.fringe.words c.loop-ticket.fringe.spare) c.in-Some.ensures.steps.0 c.loop-ticket.invariant.restoring

pub put_back-requires-clause-room : goal.put_back-requires-clause-room
put_back-requires-clause-room c = (let room = (here c).room in omega arith)

pub put_back-requires-clause-cells : goal.put_back-requires-clause-cells
put_back-requires-clause-cells c = (here c).cells.0

pub put_back-requires-clause-new : goal.put_back-requires-clause-new
put_back-requires-clause-new c = new-ticket _ _ _ _ _ _ _ (here c)

pub loop-ticket-preserved : goal.loop-ticket-preserved
loop-ticket-preserved c =
    let steps : into_iter_items c.loop-ticket.ticket-iterator ≡ (c.in-Some.ticket, c.in-Some.sub) ∷ into_iter_items c.next.new.self = c.in-Some.ensures.steps.0 in
    let before = subst (λ (l : List (ℕ × SubView)). IsRestoring (pushed_above c.args.reach [] (ticketed c.args.opened.items)) c.args.reach (ticketed l) c.loop-ticket.fringe.open_ones c.loop-ticket.fringe.words c.loop-ticket.fringe.spare) steps c.loop-ticket.invariant.restoring in
    record {
      restoring = restore-one _ _ _ _ _ _ _ _ _ _ c.put_back.ensures.put c.put_back.ensures.words c.put_back.ensures.spare before;
      words = c.put_back.ensures.words ∙ c.loop-ticket.invariant.words;
      left = (let was = c.loop-ticket.invariant.left in let gone = c.in-Some.ensures.steps.1 in let short = ap length steps in omega arith);
    }

pub returns-clause-pushed : goal.returns-clause-pushed
returns-clause-pushed c =
    let none = c.in-None.ensures.steps in
    let over : length (into_iter_items c.loop-ticket.ticket-iterator) ≡ 0 = sym c.loop-ticket.invariant.left ∙ none.0 in
    all-restored _ c.args.reach (into_iter_items c.loop-ticket.ticket-iterator) _ _ _ over c.loop-ticket.invariant.restoring
