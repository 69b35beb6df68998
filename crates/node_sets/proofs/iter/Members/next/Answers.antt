use Rattle.std.proofs.Common.{arith}
use Rattle.node_sets.proofs.Comings.{next_in_rest, next_small, next_from, rest_following}
use Rattle.node_sets.proofs.iter.Members.next.Goals as goal

pub overflow_mul-member : goal.overflow_mul-member
overflow_mul-member c =
    let next = next_in_rest _ c.in_ok-spot.spot.word c.in_ok-spot.spot.from _ c.in_ok-spot.ensures.rest c.in_ok-spot.ensures.some (omega arith) in
    let small = next_small _ c.in_ok-spot.spot.from _ next.1 in
    record { fits = omega (arith, small, c.in_ok-spot.ensures.rest.short) }

pub overflow_add-member : goal.overflow_add-member
overflow_add-member c =
    let next = next_in_rest _ c.in_ok-spot.spot.word c.in_ok-spot.spot.from _ c.in_ok-spot.ensures.rest c.in_ok-spot.ensures.some (omega arith) in
    let small = next_small _ c.in_ok-spot.spot.from _ next.1 in
    record { fits = omega (arith, small, c.in_ok-spot.ensures.rest.short) }

pub overflow_add-self : goal.overflow_add-self
overflow_add-self c =
    let next = next_in_rest _ c.in_ok-spot.spot.word c.in_ok-spot.spot.from _ c.in_ok-spot.ensures.rest c.in_ok-spot.ensures.some (omega arith) in
    let small = next_small _ c.in_ok-spot.spot.from _ next.1 in
    record { fits = omega (arith, small, c.in_ok-spot.ensures.rest.short) }

pub invariant_of-self : goal.invariant_of-self
invariant_of-self c = rest_following _ c.in_ok-spot.spot.word c.in_ok-spot.spot.from _ c.in_ok-spot.ensures.rest c.in_ok-spot.ensures.some (omega arith)

pub returns-clause-some : goal.returns-clause-some
returns-clause-some c =
    let next = next_in_rest _ c.in_ok-spot.spot.word c.in_ok-spot.spot.from _ c.in_ok-spot.ensures.rest c.in_ok-spot.ensures.some (omega arith) in
    rw (← c.self.view_is) (next_small _ c.in_ok-spot.spot.from _ next.1)

pub returns-clause-next : goal.returns-clause-next
returns-clause-next c =
    let next = next_in_rest _ c.in_ok-spot.spot.word c.in_ok-spot.spot.from _ c.in_ok-spot.ensures.rest c.in_ok-spot.ensures.some (omega arith) in
    rw (← c.self.view_is) (next_from _ _ c.in_ok-spot.spot.from _ c.in_ok-spot.ensures.reached c.in_ok-spot.ensures.skipped next.1)
