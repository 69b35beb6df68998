use Rattle.std.proofs.Common.{length, ◌∙◌, arith}
use Rattle.tsp_windows.proofs.WayLemmas.{member_inside, members_late, members_early, members_end, members_add, members_total, members_small}
use Rattle.tsp_windows.proofs.ways.ways_within.Goals as goal

pub returns-then-time-too_late-clause-total : goal.returns-then-time-too_late-clause-total
returns-then-time-too_late-clause-total c =
    let next = rw c.members.invariant.0 at c.in-Some.ensures.next in
    let inside = member_inside (length c.args.nearest.now) c.args.members.now c.members.rest.from c.in-Some.member c.requires.set next in
    members_late (length c.args.nearest.now) c.args.too_late.now c.args.members.now c.args.time c.members.rest.from c.in-Some.member inside next c.if-time-too_late.true

pub overflow_add-total : goal.overflow_add-total
overflow_add-total c =
    let most = members_small c.args.nearest.now c.args.members.now c.members.rest.from c.members.total (λ v. (c.type_inv.nearest v).fits) c.members.invariant.3 in
    record { fits = omega (arith, most, c.members.invariant.1, c.from-total.ensures, (c.type_inv.nearest c.in-Some.member).fits) }

pub members-preserved : goal.members-preserved
members-preserved c =
    let next = rw c.members.invariant.0 at c.in-Some.ensures.next in
    let inside = member_inside (length c.args.nearest.now) c.args.members.now c.members.rest.from c.in-Some.member c.requires.set next in (
      c.in-Some.ensures.row ∙ c.members.invariant.0,
      rw c.in-Some.ensures.from (omega (arith, inside)),
      rw c.in-Some.ensures.from (members_early c.args.too_late.now c.args.members.now c.args.time c.members.rest.from c.in-Some.member next c.if-time-too_late.false c.members.invariant.2),
      rw c.in-Some.ensures.from (members_add c.args.nearest.now c.args.members.now c.members.rest.from c.in-Some.member c.members.total _ next c.from-total.ensures c.members.invariant.3),
    )

pub returns-clause-total : goal.returns-clause-total
returns-clause-total c =
    let none = rw c.members.invariant.0 at c.in_default.ensures.none in (
      members_end (length c.args.nearest.now) c.args.too_late.now c.args.members.now c.args.time c.members.rest.from none c.members.invariant.2,
      members_total (length c.args.nearest.now) c.args.nearest.now c.args.members.now c.members.rest.from c.members.total c.members.invariant.1 none c.members.invariant.3,
    )

pub returns-clause-small : goal.returns-clause-small
returns-clause-small c =
    let most = members_small c.args.nearest.now c.args.members.now c.members.rest.from c.members.total (λ v. (c.type_inv.nearest v).fits) c.members.invariant.3 in
    omega (arith, most, c.members.invariant.1)
