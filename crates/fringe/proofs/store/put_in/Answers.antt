use Rattle.std.proofs.Common.{rules, ◌≡◌, ◌-◌, ◌∙◌, arith, sym, ap, List, length, map, is_none, count_by, Option, ℤ, slice_get}
use Rattle.row_region.specs.Region.{HasTaken}
use Rattle.row_region.proofs.Callers.{taken_live}
use Rattle.fringe.proofs.Keys.{key_free, keyed_more, set_of}
use Rattle.fringe.specs.Slots.{key_of, opened}
use Rattle.fringe.proofs.Lengths.{opened_count, put_count}
use Rattle.fringe.proofs.Openeds.{opened_entered}
use Rattle.fringe.proofs.Stores.{stored_more}
use Rattle.fringe.proofs.store.put_in.Goals as goal

pub ready_index-requires-clause-room : goal.ready_index-requires-clause-room
ready_index-requires-clause-room c =
    let s = c.args.store.now in
    let h = c.requires.stored in
    let all = opened_count s.slots.items in
    let none : s.keys.spare ≡ count_by is_none (map key_of s.slots.items) = c.spare-free.ensures.counts ∙ ap (λ (rows : List (Option (List ℤ))). count_by is_none rows) h.keyed in
    let room = h.index_room (let k = h.keys_room in let r = c.requires.room in omega arith) in
    let slots = ap length c.as_slice.ensures.value in
    omega arith

pub row_mut-requires : goal.row_mut-requires
row_mut-requires c = taken_live c.args.store.now.keys c.take.new.self c.in-Some.key.place c.in-Some.ensures.taken

pub returns-clause-stored : goal.returns-clause-stored
returns-clause-stored c =
    let s = c.args.store.now in
    let has : HasTaken s.keys c.in-Some.key.place c.take.new.self = c.in-Some.ensures.taken in
    let h = c.requires.stored in
    stored_more s.words s.spare (s.spare - 1) s.slots.items s.keys c.take.new.self _ s.ranks c.push.new.self s.index c.ready_index.new.index c.enter.new.self c.in-Some.key.place c.args.fold c.args.one
    h (let a = c.requires.room in omega arith)
    has (keyed_more s.slots.items s.keys c.take.new.self c.in-Some.key.place c.args.one c.copy_from_slice.new.self h.keyed has h.width (search rules)) (search rules) (search rules)
    (search rules) c.ready_index.ensures.room
    c.enter.ensures.entered c.requires.fold c.enter.ensures.room
    (search rules) c.push.ensures.len c.push.ensures.room
    c.requires.fresh c.requires.alone c.requires.cells

pub returns-clause-listed : goal.returns-clause-listed
returns-clause-listed c =
    let s = c.args.store.now in
    let has : HasTaken s.keys c.in-Some.key.place c.take.new.self = c.in-Some.ensures.taken in
    let free = key_free s.slots.items c.in-Some.key.place (ap (λ (rows : List (Option (List ℤ))). slice_get rows c.in-Some.key.place) (sym c.requires.stored.keyed) ∙ has.was_free) in
    opened_entered s.slots.items _ c.in-Some.key.place c.args.one (set_of s.slots.items c.in-Some.key.place _ free.0) free.1 c.requires.stored.held.apart c.requires.fresh

pub returns-clause-few : goal.returns-clause-few
returns-clause-few c =
    let more = ap length (returns-clause-listed c) in
    let one = put_count c.args.one (opened c.args.store.now.slots.items) in
    let len = c.push.ensures.len in
    let few = c.requires.few.few in
    record { few = omega arith }
