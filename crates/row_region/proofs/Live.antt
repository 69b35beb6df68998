-- What is known of a live row, and of a free one that is to be written.
use Rattle.std.proofs.Common.{◌≡◌, ℕ, zero, suc, ◌+◌, ◌*◌, ◌<◌, ◌≤◌, ◌-◌, ℤ, pos, false, List, [], ◌∷◌, ◌++◌, length, set, Option, Some, None, slice_get, get_or, replicate, count_by, is_none, cond, ◌⊎◌, inl, inr, refl, sym, ap, ◌∙◌, arith, append_assoc}
use Rattle.std.proofs.lemmas.List.{length-replicate, length-append, get_or-replicate, get_or-set_same, get_or_append_left, get_or-append_right, get_or_at, set_at, set-append_left}
use Rattle.std.proofs.lemmas.List.Sums.{sum_by-append, sum_by-cons}
use Rattle.std.proofs.lemmas.Option.{slice_get_within, get_or_from_slice_get, slice_get-get_or}
use Rattle.std.proofs.Math.Nat.{suc-mul}
use Rattle.row_region.specs.Layout.{free_from, has, row_at, live_row_at, slots, places, first_cell, named, IsFreeRow, HasFreeChain, IsSound}
use Rattle.row_region.specs.Popping.{SameBut, HasPopped}
use Rattle.row_region.specs.Region.{HasPut}
use Rattle.row_region.proofs.Rows.{row_within, length-row, get-table, table-get, table_same, length-table}
use Rattle.row_region.proofs.Chains.{live_slot, head_none, spare_counts, kept_slot, pop_chained, pop_slots}

module _ (cells : List ℤ) (words count free spare p : ℕ) (row : List ℤ) (chain : HasFreeChain cells words count free spare) (live : slice_get (slots cells words count free spare) p ≡ Some (Some row)) where
  found : (p < count) × (live_row_at cells words (free_from cells words spare free) p ≡ Some row)
  found = get-table (live_row_at cells words (free_from cells words spare free)) count p (Some row) live

  pub live_within : p < count
  live_within = found.0

  pub live_apart : has (free_from cells words spare free) p ≡ false
  live_apart = (live_slot cells words p (free_from cells words spare free) row found.1).0

  pub live_row : row_at cells words p ≡ row
  live_row = (live_slot cells words p (free_from cells words spare free) row found.1).1

  pub live_room : p * words + words ≤ length cells
  live_room = let h = row_within p count words found.0 in let e = chain.room in omega arith

  pub live_size : length row ≡ words
  live_size = ap length (sym live_row) ∙ length-row cells words p live_room

-- ---- the rows that were taken once stand in front of the others

none_some : (row : List ℤ) → (let none : Option (List ℤ) = None in none) ≡ Some row → ⊥
none_some row e = cc

pub front_live : (xs : List (Option (List ℤ))) (n p : ℕ) (row : List ℤ) → slice_get (xs ++ replicate n None) p ≡ Some (Some row) → slice_get xs p ≡ Some (Some row)
front_live xs n p row e = go (grind arith)
  where
    here : get_or (xs ++ replicate n None) p None ≡ Some row
    here = get_or_from_slice_get (xs ++ replicate n None) p (Some row) None e

    go : (p < length xs) ⊎ (length xs ≤ p) → slice_get xs p ≡ Some (Some row)
    go (inl less) = slice_get-get_or xs p None less ∙ ap Some (sym (get_or_append_left xs (replicate n None) None p less) ∙ here)
    go (inr past) =
        let within = slice_get_within (xs ++ replicate n None) p (Some row) e in
        let both = length-append xs (replicate n (let none : Option (List ℤ) = None in none)) in
        let size = length-replicate n (let none : Option (List ℤ) = None in none) in
        absurd (none_some row (sym (get_or-append_right xs (replicate n None) (length xs) p None refl past ∙ get_or-replicate n (p - length xs) None None (omega arith)) ∙ here))

front_get : (xs ys : List (Option (List ℤ))) (p : ℕ) (x : Option (List ℤ)) → slice_get xs p ≡ Some x → slice_get (xs ++ ys) p ≡ Some x
front_get xs ys p x e =
    let less = slice_get_within xs p x e in
    let both = length-append xs ys in
    slice_get-get_or (xs ++ ys) p x (omega arith) ∙ ap Some (get_or_append_left xs ys x p less ∙ get_or_from_slice_get xs p x x e)

-- a row that was taken once changes
pub front_set : (cells : List ℤ) (words fresh free given p : ℕ) (x : Option (List ℤ)) (ys : List (Option (List ℤ))) → p < fresh
    → set (slots cells words fresh free given ++ ys) p x ≡ set (slots cells words fresh free given) p x ++ ys
front_set cells words fresh free given p x ys less =
    let long = length-table (live_row_at cells words (free_from cells words given free)) fresh in
    set-append_left (slots cells words fresh free given) ys p x (omega arith)

pub length-places : (cells : List ℤ) (words count fresh free given : ℕ) → fresh ≤ count → length (places cells words count fresh free given) ≡ count
length-places cells words count fresh free given low =
    let front = length-table (live_row_at cells words (free_from cells words given free)) fresh in
    let following = length-replicate (count - fresh) (let none : Option (List ℤ) = None in none) in
    let both = length-append (slots cells words fresh free given) (replicate (count - fresh) None) in
    omega arith

-- nothing was written
pub same_but : (cells : List ℤ) (words p : ℕ) → SameBut cells cells words p
same_but cells words p = record { size = refl; before = λ k h. refl; after = λ k h. refl }

pub first_set : (cells : List ℤ) (words p : ℕ) (z : ℤ) → 0 < words → p * words + words ≤ length cells → first_cell (set cells (p * words) z) words p ≡ z
first_set cells words p z positive room = get_or-set_same cells (p * words) z (pos 0) (omega arith)

none_in : (n : ℕ) → count_by is_none (replicate n (let none : Option (List ℤ) = None in none)) ≡ n
none_in zero = refl
none_in (suc n) = let rest = none_in n in sum_by-cons (λ (o : Option (List ℤ)). cond (is_none o) 1 0) None (replicate n None) ∙ omega arith

-- this many rows are free
pub places_count : (cells : List ℤ) (words count fresh free given : ℕ) → HasFreeChain cells words fresh free given → given + (count - fresh) ≡ count_by is_none (places cells words count fresh free given)
places_count cells words count fresh free given chain =
    let front = spare_counts cells words fresh free given chain in
    let following = none_in (count - fresh) in
    let both = sum_by-append (λ (o : Option (List ℤ)). cond (is_none o) 1 0) (slots cells words fresh free given) (replicate (count - fresh) None) in
    omega arith

-- ---- a free place is to be written

pub first_free : (cells : List ℤ) (words fresh free given : ℕ) → HasFreeChain cells words fresh free given → (given ≡ 0 → ⊥) → IsFreeRow cells words fresh free
first_free cells words fresh free zero c some = absurd (some refl)
first_free cells words fresh free (suc n) c some = c.free_rows.0

pub given_room : (cells : List ℤ) (words made count fresh free given : ℕ) → IsSound cells words made count fresh free given → (given ≡ 0 → ⊥) → free * words + words ≤ length cells
given_room cells words made count fresh free given s some =
    let f = first_free cells words fresh free given s.chained some in
    let h = row_within free fresh words f.within in
    let e = s.chained.room in
    omega arith

-- the first one that was given back
none_at : (cells : List ℤ) (words count free spare : ℕ) → HasFreeChain cells words count free (suc spare) → slice_get (slots cells words count free (suc spare)) free ≡ Some None
none_at cells words count free spare chain =
    let ps = free_from cells words (suc spare) free in
    table-get (live_row_at cells words ps) count free chain.free_rows.0.within ∙ ap Some (head_none cells words free (free_from cells words spare (named (first_cell cells words free))))

pub popped_given : (cells : List ℤ) (words made count fresh free given : ℕ) → IsSound cells words made count fresh free (suc given) → HasPopped cells words made count fresh free (suc given) free fresh (named (first_cell cells words free)) given
popped_given cells words made count fresh free given s = record {
  within = within;
  most = s.within;
  was_free = front_get (slots cells words fresh free (suc given)) (replicate (count - fresh) None) free None (none_at cells words fresh free given s.chained);
  spare = omega arith;
  chained = λ new but. pop_chained cells new words fresh free given s.chained but;
  rows = λ new but. ap (λ (l : List (Option (List ℤ))). l ++ replicate (count - fresh) None) (pop_slots cells new words fresh free given s.chained but)
      ∙ sym (front_set cells words fresh free (suc given) free (Some (row_at new words free)) (replicate (count - fresh) None) within);
}
  where
    within : free < fresh
    within = s.chained.free_rows.0.within

-- the first one that was not taken yet
pub popped_fresh : (cells : List ℤ) (words made count fresh free : ℕ) → IsSound cells words made count fresh free 0 → fresh < made → HasPopped cells words made count fresh free 0 fresh (suc fresh) free 0
popped_fresh cells words made count fresh free s low = record {
  within = omega arith;
  most = omega arith;
  was_free = ap (λ (l : List (Option (List ℤ))). slice_get l fresh) all ∙ (slice_get-get_or (olds ++ None ∷ rest) fresh None in-all ∙ ap Some (get_or_at olds None rest None fresh long));
  spare = let e = s.enough in omega arith;
  chained = λ new but. (
      let e = but.size in
      let few = s.few in
      let enough = s.enough in
      let r = room in
      record { positive = s.chained.positive; room = omega arith; small = omega arith; first = s.chained.first; free_rows = tt; apart = tt });
  rows = λ new but.
      ap (λ (l : List (Option (List ℤ))). (l ++ Some (row_at new words fresh) ∷ []) ++ rest) (table_same (live_row_at cells words []) (live_row_at new words []) fresh (λ i less. kept_slot cells new words fresh fresh s.chained.positive s.chained.room but [] [] i less (λ e. absurd (omega arith)) refl))
      ∙ (append_assoc olds (Some (row_at new words fresh) ∷ []) rest
      ∙ sym (ap (λ (l : List (Option (List ℤ))). set l fresh (Some (row_at new words fresh))) all ∙ set_at olds None rest (Some (row_at new words fresh)) fresh long));
}
  where
    olds : List (Option (List ℤ))
    olds = slots cells words fresh free 0

    rest : List (Option (List ℤ))
    rest = replicate (count - suc fresh) None

    long : length (slots cells words fresh free 0) ≡ fresh
    long = length-table (live_row_at cells words []) fresh

    all : slots cells words fresh free 0 ++ replicate (count - fresh) None ≡ slots cells words fresh free 0 ++ None ∷ replicate (count - suc fresh) None
    all = let e = s.enough in let more : count - fresh ≡ suc (count - suc fresh) = omega arith in ap (λ (n : ℕ). slots cells words fresh free 0 ++ replicate n None) more

    in-all : fresh < length (slots cells words fresh free 0 ++ None ∷ replicate (count - suc fresh) None)
    in-all =
        let both = length-append (slots cells words fresh free 0) (None ∷ replicate (count - suc fresh) None) in
        let l = long in
        omega arith

    room : suc fresh * words ≤ length cells
    room =
        let h = row_within fresh made words low in
        let e = s.size in
        let more = suc-mul fresh words in
        omega arith

module _ (cells new : List ℤ) (words made count fresh free given place new_fresh new_free new_given : ℕ) (s : IsSound cells words made count fresh free given) (popped : HasPopped cells words made count fresh free given place new_fresh new_free new_given) where
  pub popped_room : place * words + words ≤ length cells
  popped_room =
      let less = popped.within in
      let most = popped.most in
      let h = row_within place made words (omega arith) in
      let e = s.size in
      omega arith

  pub popped_sound : SameBut cells new words place → IsSound new words made count new_fresh new_free new_given
  popped_sound but = record { chained = popped.chained new but; within = popped.most; enough = s.enough; few = s.few; size = but.size ∙ s.size }

  pub popped_put : SameBut cells new words place → (row : List ℤ) → row_at new words place ≡ row
      → HasPut (record { words = words; rows = places cells words count fresh free given; spare = given + (count - fresh) }) place row
      (record { words = words; rows = places new words count new_fresh new_free new_given; spare = new_given + (count - new_fresh) })
  popped_put but row is = record {
    was_free = popped.was_free;
    words = refl;
    rows = popped.rows new but ∙ ap (λ (l : List ℤ). set (places cells words count fresh free given) place (Some l)) is;
    spare = popped.spare;
  }
