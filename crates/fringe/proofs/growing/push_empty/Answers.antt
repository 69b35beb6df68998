use Rattle.std.proofs.Common.{◌∙◌, arith, ap, length, map, List, Option}
use Rattle.std.proofs.lemmas.List.{length_push}
use Rattle.fringe.specs.Slots.{in_slot, key_of, opened}
use Rattle.fringe.specs.Tickets.{Ticketed}
use Rattle.fringe.proofs.Keys.{slot_more, opened_more, keys_more}
use Rattle.fringe.proofs.growing.push_empty.Goals as goal

pub slots-preserved : goal.slots-preserved
slots-preserved c =
    let i = c.slots.invariant in
    let was = c.slots.slots.items in
    let now = c.push_reserved.ensures.items in
    record {
      slots = λ s. ap (λ (l : List (Option Ticketed)). in_slot l s) now ∙ slot_more was s ∙ i.slots s;
      keys = ap (map key_of) now ∙ keys_more was _ c.slots.counter i.keys;
      opened = ap opened now ∙ opened_more was ∙ i.opened;
      len = ap length now ∙ length_push was _ ∙ (let l = i.len in omega arith);
      room = c.push_reserved.ensures.capacity ∙ i.room;
    }
