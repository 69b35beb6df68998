use Rattle.std.proofs.Common.{◌≡◌, ◌+◌, Some, sym, subst, arith}
use Rattle.journal_replay.specs.declared.state.Place.{Place}
use Rattle.journal_replay.specs.Places.{AreInOrder}
use Rattle.journal_replay.proofs.Places.{more-state, order-more}
use Rattle.journal_replay.proofs.state.State.add.Goals as goal

pub invariant_of-self-2 : goal.invariant_of-self-2
invariant_of-self-2 c =
    let next = c.self.inside.next_ticket in
    let p : Place = record { ticket = next; sub = Some c.args.sub } in
    let more = c.in-Some.ensures in
    subst (AreInOrder c.in-Some.next) (sym c.in_ok-push.ensures.items) (order-more next c.in-Some.next c.self.inside.places.items p c.self.invariant (omega arith) (omega arith))

pub returns : goal.returns
returns c =
    let more = c.in-Some.ensures in
    let next : c.in-Some.next ≡ c.self.inside.next_ticket + 1 = omega arith in
    rw (← c.self.view_is) (more-state c.self.inside.best c.self.inside.next_ticket c.in-Some.next c.args.sub c.self.inside.places.items c.push.new.self.items c.in_ok-push.ensures.items next)
