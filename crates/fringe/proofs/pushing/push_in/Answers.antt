use Rattle.std.proofs.Common.{rules, ◌≡◌, ℕ, false, length, subst}
use Rattle.fringe.specs.Slots.{in_slot, is_same_in}
use Rattle.fringe.proofs.Pushings.{fresh_of, fresh_less, alone_less}
use Rattle.fringe.proofs.pushing.push_in.Goals as goal

pub put_in-requires-clause-fresh : goal.put_in-requires-clause-fresh
put_in-requires-clause-fresh c = fresh_of _ _ c.requires.fresh

pub put_in-requires-2-clause-fresh : goal.put_in-requires-2-clause-fresh
put_in-requires-2-clause-fresh c = fresh_less _ _ c.in-Some.slot _ c.take_out.ensures.slots c.requires.fresh

pub put_in-requires-2-clause-alone : goal.put_in-requires-2-clause-alone
put_in-requires-2-clause-alone c =
    let slots = c.take_out.new.store.slots.items in
    let deep : c.len.result ≡ length c.args.one.subproblem.decisions = search rules in
    let row : c.as_slice.result.now ≡ c.args.one.subproblem.row = search rules in
    subst (λ d. (t : ℕ) → is_same_in d c.args.one.subproblem.row (in_slot slots t) ≡ false) deep
    (subst (λ r. (t : ℕ) → is_same_in c.len.result r (in_slot slots t) ≡ false) row
    (alone_less _ _ slots c.len.result c.as_slice.result.now c.in-Some.slot c.in-Some.ensures.one c.requires.stored.held c.in-Some.ensures.there c.in-Some.ensures.same c.take_out.ensures.slots))
