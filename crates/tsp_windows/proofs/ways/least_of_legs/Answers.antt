use Rattle.std.proofs.Common.{◌+◌, ◌*◌, get_or, refl, ◌∙◌, arith}
use Rattle.tsp_windows.proofs.WayLemmas.{member_inside, leg_takes, leg_skips, leg_ends}
use Rattle.tsp_windows.proofs.ways.least_of_legs.Goals as goal

pub positions-preserved-then-position-to : goal.positions-preserved-then-position-to
positions-preserved-then-position-to c =
    let next = rw c.positions.invariant.0 at c.in-Some.ensures.next in
    let inside = member_inside c.args.nodes c.args.positions.now c.positions.rest.from c.in-Some.position c.requires.set next in (
      c.in-Some.ensures.row ∙ c.positions.invariant.0,
      rw c.in-Some.ensures.from (omega (arith, inside)),
      rw c.in-Some.ensures.from (c.lesser-least.ensures ∙ leg_takes c.args.positions.now (λ p. get_or c.args.distances.now (p * c.args.nodes + c.args.to) 0) c.positions.rest.from c.in-Some.position c.args.to _ _ next c.if-position-to.true refl c.positions.invariant.2),
    )

pub positions-preserved : goal.positions-preserved
positions-preserved c =
    let next = rw c.positions.invariant.0 at c.in-Some.ensures.next in
    let inside = member_inside c.args.nodes c.args.positions.now c.positions.rest.from c.in-Some.position c.requires.set next in (
      c.in-Some.ensures.row ∙ c.positions.invariant.0,
      rw c.in-Some.ensures.from (omega (arith, inside)),
      rw c.in-Some.ensures.from (leg_skips c.args.positions.now (λ p. get_or c.args.distances.now (p * c.args.nodes + c.args.to) 0) c.positions.rest.from c.in-Some.position c.args.to _ next c.if-position-to.false c.positions.invariant.2),
    )

pub returns : goal.returns
returns c =
    leg_ends c.args.nodes c.args.positions.now (λ p. get_or c.args.distances.now (p * c.args.nodes + c.args.to) 0) c.positions.rest.from c.args.to c.positions.least c.positions.invariant.1 (rw c.positions.invariant.0 at c.in_default.ensures.none) c.positions.invariant.2
