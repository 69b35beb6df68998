use Rattle.std.proofs.Common.{◌≡◌, ℕ, ◌+◌, ◌*◌, ◌≤◌, Option, Some, None, false, get_or, refl, sym, ◌∙◌, arith}
use Rattle.std.specs.Prelude.{is_some, IfNone}
use Rattle.std.proofs.lemmas.Bool.{false≢true}
use Rattle.node_sets.specs.Sets.{has}
use Rattle.tsp_windows.proofs.WayLemmas.{member_inside, leg_takes, leg_skips, leg_ends}
use Rattle.tsp_windows.proofs.ways.least_leg.Goals as goal

-- what is said where there is no value
when_none : {P : Type 0} (o : Option ℕ) → is_some o ≡ false → IfNone o P → P
when_none None e p = p
when_none (Some v) e p = absurd (false≢true (sym e))

pub returns-in_err-first : goal.returns-in_err-first
returns-in_err-first c =
    c.from_residual.ensures ∙ leg_ends c.args.nodes c.args.positions.now (λ p. get_or c.args.distances.now (p * c.args.nodes + c.args.to) 0) 0 c.args.to None (omega arith) (rw c.of-rest.ensures at c.in_err-first.ensures.none) refl

pub returns-then-first-to : goal.returns-then-first-to
returns-then-first-to c =
    let next = rw c.of-rest.ensures at c.in_ok-first.ensures.next in
    let inside = member_inside c.args.nodes c.args.positions.now 0 c.in_ok-first.first c.requires.set next in
    let none : (v : ℕ) → c.next.new.self.from ≤ v → has c.next.new.self.row v ≡ false = when_none _ (sym c.is_some.ensures ∙ c.if-is_some.false) c.next-2.ensures.none in
    leg_ends c.args.nodes c.args.positions.now (λ p. get_or c.args.distances.now (p * c.args.nodes + c.args.to) 0) (c.in_ok-first.first + 1) c.args.to None (omega (arith, inside)) (rw (c.in_ok-first.ensures.from, c.in_ok-first.ensures.row, c.of-rest.ensures) at none)
    (leg_skips c.args.positions.now (λ p. get_or c.args.distances.now (p * c.args.nodes + c.args.to) 0) 0 c.in_ok-first.first c.args.to None next c.if-first-to.true refl)

pub returns : goal.returns
returns c =
    let next = rw c.of-rest.ensures at c.in_ok-first.ensures.next in
    let inside = member_inside c.args.nodes c.args.positions.now 0 c.in_ok-first.first c.requires.set next in
    let none : (v : ℕ) → c.next.new.self.from ≤ v → has c.next.new.self.row v ≡ false = when_none _ (sym c.is_some.ensures ∙ c.if-is_some.false) c.next-2.ensures.none in
    leg_ends c.args.nodes c.args.positions.now (λ p. get_or c.args.distances.now (p * c.args.nodes + c.args.to) 0) (c.in_ok-first.first + 1) c.args.to _ (omega (arith, inside)) (rw (c.in_ok-first.ensures.from, c.in_ok-first.ensures.row, c.of-rest.ensures) at none)
    (leg_takes c.args.positions.now (λ p. get_or c.args.distances.now (p * c.args.nodes + c.args.to) 0) 0 c.in_ok-first.first c.args.to _ None next c.if-first-to.false refl refl)
