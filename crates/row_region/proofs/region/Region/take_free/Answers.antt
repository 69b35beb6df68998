use Rattle.std.proofs.Common.{◌+◌, ◌-◌, ℕ, List, ℤ, Option, refl, subst, sym, arith}
use Rattle.row_region.proofs.Live.{same_but, popped_room, popped_sound, popped_put}
use Rattle.row_region.proofs.Rows.{length-row}
use Rattle.row_region.specs.Layout.{row_at, places, IsSound}
use Rattle.row_region.specs.Region.{RegionView, HasPut}
use Rattle.row_region.specs.declared.free_list.FreeList.{FreeList}
use Rattle.row_region.proofs.region.Region.take_free.Goals as goal

pub invariant_of-self : goal.invariant_of-self
invariant_of-self c =
    let i = c.self.inside in
    let cells = c.make_ready.new.cells.items in
    let mid = c.make_ready.new.self in
    let after = c.pop-place.new.self in
    let made = c.make_ready.ensures.made c.self.invariant.0 in
    let sound = subst (λ (f : FreeList). IsSound cells i.words mid.made i.count f.fresh f.first f.given) (sym c.make_ready.ensures.kept) made.sound in
    let room = c.self.invariant.1 in
    let more = c.make_ready.ensures.capacity in (
      subst (λ (n : ℕ). IsSound cells i.words n i.count after.fresh after.first after.given) (sym c.pop-place.ensures.made)
          (popped_sound cells cells i.words mid.made i.count mid.fresh mid.first mid.given c.pop-place.result _ _ _ sound c.pop-place.ensures.popped (same_but cells i.words c.pop-place.result)),
      omega arith,
    )

pub pop-place-requires-clause-sound : goal.pop-place-requires-clause-sound
pop-place-requires-clause-sound c =
    let i = c.self.inside in
    let mid = c.make_ready.new.self in
    subst (λ (f : FreeList). IsSound c.make_ready.new.cells.items i.words mid.made i.count f.fresh f.first f.given) (sym c.make_ready.ensures.kept) (c.make_ready.ensures.made c.self.invariant.0).sound

pub returns : goal.returns
returns c =
    let i = c.self.inside in
    let cells = c.make_ready.new.cells.items in
    let mid = c.make_ready.new.self in
    let after = c.pop-place.new.self in
    let place = c.pop-place.result in
    let made = c.make_ready.ensures.made c.self.invariant.0 in
    let sound = subst (λ (f : FreeList). IsSound cells i.words mid.made i.count f.fresh f.first f.given) (sym c.make_ready.ensures.kept) made.sound in
    let room = popped_room cells cells i.words mid.made i.count mid.fresh mid.first mid.given place _ _ _ sound c.pop-place.ensures.popped in
    let put = popped_put cells cells i.words mid.made i.count mid.fresh mid.first mid.given place _ _ _ sound c.pop-place.ensures.popped (same_but cells i.words place) _ refl in
    let now : RegionView = record { words = i.words; rows = places cells i.words i.count after.fresh after.first after.given; spare = after.given + (i.count - after.fresh) } in
    rw (← c.self.view_is) (
      row_at cells i.words place,
      length-row cells i.words place room,
      subst (λ (l : List (Option (List ℤ))). HasPut (record { words = i.words; rows = l; spare = i.free.given + (i.count - i.free.fresh) }) place (row_at cells i.words place) now) made.places
          (subst (λ (f : FreeList). HasPut (record { words = i.words; rows = places cells i.words i.count f.fresh f.first f.given; spare = f.given + (i.count - f.fresh) }) place (row_at cells i.words place) now) c.make_ready.ensures.kept put),
    )
