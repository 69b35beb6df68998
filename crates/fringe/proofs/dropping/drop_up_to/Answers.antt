use Rattle.std.proofs.Common.{rules, arith, ◌≡◌, length, ap, subst}
use Rattle.std.proofs.lemmas.List.{length-map}
use Rattle.fringe.specs.Tickets.{above_value}
use Rattle.fringe.specs.Slots.{key_of, opened}
use Rattle.fringe.proofs.Drops.{opened_dropped, slot_within}
use Rattle.fringe.proofs.dropping.drop_up_to.Goals.{then-is_low, else-is_low}
use Rattle.fringe.proofs.dropping.drop_up_to.Goals as goal
use mir.Val.{to_z, of_z}
use mir.Syntax.{w64}

pub returns-clause-listed : goal.returns-clause-listed
returns-clause-listed c =
    let i = c.loop-place.invariant in
    let s = c.args.store.now in
    let same : to_z w64 (of_z w64 c.args.value) ≡ c.args.value = search rules in
    subst (λ v. opened c.loop-place.store.slots.items ≡ above_value v (opened s.slots.items)) same
    (opened_dropped _ _ _ c.requires.stored.held.apart i.stored.held.apart i.was i.stays
    (λ t o at. i.high t o at (let a = slot_within s.slots.items t o (i.was t o at) in let b = c.rows-place-end.ensures.rows in let l = length-map s.slots.items key_of in let e = ap length c.requires.stored.keyed in let d = c.loop-place-test.false in omega arith)))

pub loop-place-preserved : goal.loop-place-preserved
loop-place-preserved c = elim c.if-is_low.branch [
  | then-is_low w ↦ record {
    stored = search rules;
    few = search rules;
    words = search rules;
    spare = search rules;
    len = search rules;
    was = search rules;
    stays = search rules;
    high = search rules;
  }
  | else-is_low w ↦ record {
    stored = search rules;
    few = search rules;
    words = search rules;
    spare = search rules;
    len = search rules;
    was = search rules;
    stays = search rules;
    high = search rules;
  }
]
