-- For callers: what becomes of a row, and of the others, when one is taken, given back or written.
use Rattle.std.proofs.Common.{◌≡◌, ◌≢◌, ℕ, ℤ, ◌+◌, pos, List, length, set, drop, replicate, Option, Some, None, slice_get, get_or, sym, ap, ap₂, ◌∙◌, arith}
use Rattle.std.proofs.lemmas.List.{get_or-set_same, get_or-set_other, set-set, length-set, length-replicate, take_at}
use Rattle.std.proofs.lemmas.Option.{slice_get_within, slice_get-get_or, get_or_from_slice_get}
use Rattle.row_region.specs.Region.{RegionView, IsRow, IsLive, HasPut, HasTaken, with_row, refilled, row_or}

none_some : {row : List ℤ} → ((let none : Option (List ℤ) = None in none) ≡ Some row) → ⊥
none_some h = cc

module _ {X : Type 0} where
  same_some : (x y : X) → Some x ≡ Some y → x ≡ y
  same_some x y e = cc

  -- the one that was set
  pub get-set : (xs : List X) (i : ℕ) (old new : X) → slice_get xs i ≡ Some old → slice_get (set xs i new) i ≡ Some new
  get-set xs i old new found =
      let within = slice_get_within xs i old found in
      slice_get-get_or (set xs i new) i new (omega (arith, length-set xs i new)) ∙ ap Some (get_or-set_same xs i new new within)

  -- another one
  pub get-other : (xs : List X) (i j : ℕ) (old new x : X) → slice_get xs i ≡ Some old → slice_get xs j ≡ Some x → (old ≡ x → ⊥) → slice_get (set xs i new) j ≡ Some x
  get-other xs i j old new x here there apart =
      let within = slice_get_within xs j x there in
      let other : j ≢ i = λ (e : j ≡ i). apart (same_some old x (sym here ∙ (ap (slice_get xs) (sym e) ∙ there))) in
      slice_get-get_or (set xs i new) j x (omega (arith, length-set xs i new))
      ∙ ap Some (get_or-set_other xs i j new x other ∙ get_or_from_slice_get xs j x x there)

-- a row that was put, and of which all cells are then written, is put as it was written
pub put_over : (old mid : RegionView) (p : ℕ) (was row : List ℤ) → HasPut old p was mid → length row ≡ mid.words → HasPut old p row (with_row mid p row)
put_over old mid p was row put long =
    let base = row_or (get_or mid.rows p None) in
    let whole : refilled mid.words base row ≡ row = take_at row (drop (length row) base) mid.words long in
    record {
      was_free = put.was_free;
      words = put.words;
      rows = ap₂ (λ (rows : List (Option (List ℤ))) (r : List ℤ). set rows p (Some r)) put.rows whole ∙ set-set old.rows p (Some was) (Some row);
      spare = put.spare;
    }

-- a row that was put is there
pub put_row : (old new : RegionView) (p : ℕ) (row : List ℤ) → HasPut old p row new → length row ≡ old.words → IsRow new p row
put_row old new p row put long = record {
  found = ap (λ (rows : List (Option (List ℤ))). slice_get rows p) put.rows ∙ get-set old.rows p None (Some row) put.was_free;
  size = long ∙ sym put.words;
}

-- and the other rows stay
pub put_others : (old new : RegionView) (p q : ℕ) (row other : List ℤ) → HasPut old p row new → slice_get old.rows q ≡ Some (Some other) → slice_get new.rows q ≡ Some (Some other)
put_others old new p q row other put live =
    ap (λ (rows : List (Option (List ℤ))). slice_get rows q) put.rows ∙ get-other old.rows p q None (Some row) (Some other) put.was_free live none_some

pub put_live : (old new : RegionView) (p : ℕ) (row : List ℤ) → HasPut old p row new → length row ≡ old.words → IsLive new p
put_live old new p row put long = (row, (put_row old new p row put long).found)

pub taken_live : (old new : RegionView) (p : ℕ) → HasTaken old p new → IsLive new p
taken_live old new p taken = put_live old new p (replicate old.words (pos 0)) taken (length-replicate old.words (pos 0))

pub with_row_live : (r : RegionView) (p : ℕ) (w : List ℤ) → IsLive r p → IsLive (with_row r p w) p
with_row_live r p w live =
    let base = row_or (get_or r.rows p None) in
    (refilled r.words base w, get-set r.rows p (Some live.0) (Some (refilled r.words base w)) live.1)

-- when a row is given back, the other rows stay
pub given_others : (old new : RegionView) (p q : ℕ) (other : List ℤ) → new ≡ record old { rows = set old.rows p None; spare = old.spare + 1 } → q ≢ p → slice_get old.rows q ≡ Some (Some other) → slice_get new.rows q ≡ Some (Some other)
given_others old new p q other given apart live =
    let within = slice_get_within old.rows q (Some other) live in
    ap (λ (r : RegionView). slice_get r.rows q) given
    ∙ (slice_get-get_or (set old.rows p None) q None (omega (arith, length-set {A = Option (List ℤ)} old.rows p None))
    ∙ ap Some (get_or-set_other old.rows p q None None apart ∙ get_or_from_slice_get old.rows q (Some other) None live))
