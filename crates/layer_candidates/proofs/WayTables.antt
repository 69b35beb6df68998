-- The room of a table of ways.
use Rattle.std.specs.Int.{IsPowerOfTwo}
use Rattle.std.proofs.Common.{◌≡◌, ℕ, ◌≤◌, ℤ, List, vec_capacity, refl, sym, subst, ◌∙◌, arith}
use Rattle.dp_model.specs.Dp.{Dp}
use Rattle.layer_candidates.specs.declared.table.WayTable.{WayTable}
use Rattle.layer_candidates.specs.Extending.{HasExtended}
use Rattle.layer_candidates.specs.WayTables.{HasSlots, HasTableRoom, KeepsTableRoom, TookIn}
use Rattle.layer_candidates.specs.Ways.{way_row}
use Rattle.layer_candidates.proofs.Extended.{room-less}
use Rattle.row_region.specs.Region.{RegionView}

pub slots-kept : (old new : WayTable) → KeepsTableRoom old new → HasSlots old → HasSlots new
slots-kept old new kept h =
    let hold = h.hold in let same = kept.slots in let more = kept.heads in
    record { power = subst IsPowerOfTwo (sym kept.slots) h.power; hold = omega arith }

-- room for fewer ways, where the room stays
pub room-kept : (m n : ℕ) (old new : WayTable) → KeepsTableRoom old new → m ≤ n → HasTableRoom n old → HasTableRoom m new
room-kept m n old new kept less h = record {
  ways = room-less m n (vec_capacity old.ways) (vec_capacity new.ways) old.hashes.items new.hashes.items old.next.items new.next.items h.ways less kept.ways kept.hashes kept.next;
  slots = slots-kept old new kept h.slots;
}

pub keeps-self : (t : WayTable) → KeepsTableRoom t t
keeps-self t = record { ways = refl; hashes = refl; next = refl; slots = refl; heads = omega arith }

pub keeps-then : (a b c : WayTable) → KeepsTableRoom a b → KeepsTableRoom b c → KeepsTableRoom a c
keeps-then a b c h k =
    let one = h.heads in let two = k.heads in
    record { ways = k.ways ∙ h.ways; hashes = k.hashes ∙ h.hashes; next = k.next ∙ h.next; slots = k.slots ∙ h.slots; heads = omega arith }

-- what was taken in, by other names of the parent and of the first live cell
pub took-in-as : (dp : Dp) (k step step2 : ℕ) (s s2 : List ℤ) (value value2 : ℤ) (ds : List ℕ) (before : RegionView) (old : WayTable) (region : RegionView) (new : WayTable) (live : ℕ)
    → step ≡ step2 → s ≡ s2 → value ≡ value2 → old.live ≡ live → TookIn dp k step s value ds before old region new
    → HasExtended dp k step2 s2 value2 ds live (way_row before old.ways.items) old.ways.items (way_row region new.ways.items) new.ways.items new.hashes.items new.heads.items new.next.items
took-in-as dp k step step2 s s2 value value2 ds before old region new live one two three four h =
    let row = way_row before old.ways.items in
    let row2 = way_row region new.ways.items in
    subst (λ (n : ℕ). HasExtended dp k step2 s2 value2 ds n row old.ways.items row2 new.ways.items new.hashes.items new.heads.items new.next.items) four
    (subst (λ (v : ℤ). HasExtended dp k step2 s2 v ds old.live row old.ways.items row2 new.ways.items new.hashes.items new.heads.items new.next.items) three
    (subst (λ (r : List ℤ). HasExtended dp k step2 r value ds old.live row old.ways.items row2 new.ways.items new.hashes.items new.heads.items new.next.items) two
    (subst (λ (n : ℕ). HasExtended dp k n s value ds old.live row old.ways.items row2 new.ways.items new.hashes.items new.heads.items new.next.items) one h)))
