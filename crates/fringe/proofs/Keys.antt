-- The keys of the open ones at the places of their slots.
use Rattle.std.proofs.Common.{◌≡◌, ℕ, zero, suc, ◌+◌, ◌<◌, ℤ, pos, List, [], ◌∷◌, ◌++◌, length, map, set, get_or, drop, replicate, slice_get, IsSome, Option, Some, None, refl, sym, ◌∙◌, ap, arith, append_assoc}
use Rattle.std.proofs.lemmas.List.{map-set, map-append, get_or-set_same, get_or-set_other, take_at, replicate_more}
use Rattle.row_region.specs.Region.{RegionView, IsRow, IsLive, HasTaken, with_row, refilled, row_or}
use Rattle.fringe.specs.Tickets.{Ticketed, by_ticket}
use Rattle.fringe.specs.Slots.{IsSlotSet, in_slot, key_of, key_row, opened}

pub some_of : (x : Option Ticketed) → IsSome x → (o : Ticketed) × (x ≡ Some o)
some_of None h = absurd (cc)
some_of (Some o) h = (o, refl)

pub key_at : (slots : List (Option Ticketed)) (s : ℕ) (o : Ticketed) → in_slot slots s ≡ Some o → slice_get (map key_of slots) s ≡ Some (Some (key_row o))
key_at [] s o h = absurd (cc)
key_at (x ∷ slots) zero o h = ap (λ x. Some (key_of x)) h
key_at (x ∷ slots) (suc s) o h = key_at slots s o h

-- a place without a key is a slot without an open one
pub key_free : (slots : List (Option Ticketed)) (s : ℕ) → slice_get (map key_of slots) s ≡ Some None → (s < length slots) × (in_slot slots s ≡ None)
key_free [] s h = absurd (cc)
key_free (None ∷ slots) zero h = (omega arith, refl)
key_free (Some o ∷ slots) zero h = absurd (cc)
key_free (x ∷ slots) (suc s) h = let k = key_free slots s h in (omega (arith, k.0), k.1)

pub live_of : (slots : List (Option Ticketed)) (keys : RegionView) (s : ℕ) (o : Ticketed) → keys.rows ≡ map key_of slots → in_slot slots s ≡ Some o → IsLive keys s
live_of slots keys s o keyed there = (key_row o, ap (λ (rows : List (Option (List ℤ))). slice_get rows s) keyed ∙ key_at slots s o there)

pub row_of : (slots : List (Option Ticketed)) (keys : RegionView) (s : ℕ) (o : Ticketed) (row : List ℤ) → keys.rows ≡ map key_of slots → in_slot slots s ≡ Some o → IsRow keys s row → row ≡ key_row o
row_of slots keys s o row keyed there is =
    let both : Some (Some row) ≡ Some (Some (key_row o)) = sym is.found ∙ ap (λ (rows : List (Option (List ℤ))). slice_get rows s) keyed ∙ key_at slots s o there in
    cc

set_twice : (rows : List (Option (List ℤ))) (s : ℕ) (a b : Option (List ℤ)) → set (set rows s a) s b ≡ set rows s b
set_twice [] s a b = refl
set_twice (x ∷ rows) zero a b = refl
set_twice (x ∷ rows) (suc s) a b = ap (λ (l : List (Option (List ℤ))). x ∷ l) (set_twice rows s a b)

-- a key was taken and written
pub keyed_more : (slots : List (Option Ticketed)) (keys taken : RegionView) (s : ℕ) (o : Ticketed) (w : List ℤ) → keys.rows ≡ map key_of slots → HasTaken keys s taken → keys.words ≡ 1 → w ≡ key_row o
    → (with_row taken s w).rows ≡ map key_of (set slots s (Some o))
keyed_more slots keys taken s o w keyed has one same =
    let base = row_or (get_or taken.rows s None) in
    let long : length w ≡ taken.words = ap length same ∙ sym one ∙ sym has.words in
    let whole : refilled taken.words base w ≡ w = take_at w (drop (length w) base) taken.words long in
    let row = key_row o in
    ap (λ (r : List ℤ). set taken.rows s (Some r)) (whole ∙ same)
    ∙ ap (λ (rows : List (Option (List ℤ))). set rows s (Some row)) has.rows
    ∙ set_twice keys.rows s (Some (replicate keys.words (pos 0))) (Some row)
    ∙ ap (λ (rows : List (Option (List ℤ))). set rows s (Some row)) keyed
    ∙ sym (map-set key_of slots s (Some o))

-- a key was given back
pub keyed_less : (slots : List (Option Ticketed)) (rows : List (Option (List ℤ))) (s : ℕ) (x : Option Ticketed) → rows ≡ map key_of slots → x ≡ None → set rows s None ≡ map key_of (set slots s x)
keyed_less slots rows s x keyed none =
    ap (λ (l : List (Option (List ℤ))). set l s None) keyed ∙ sym (map-set key_of slots s None) ∙ ap (λ (y : Option Ticketed). map key_of (set slots s y)) (sym none)

pub set_of : (slots : List (Option Ticketed)) (s : ℕ) (x : Option Ticketed) → s < length slots → IsSlotSet slots (set slots s x) s x
set_of slots s x within = record { changed = get_or-set_same slots s x None within; others = λ t other. get_or-set_other slots s t x None other }

-- an empty slot more
pub slot_more : (slots : List (Option Ticketed)) (s : ℕ) → in_slot (slots ++ None ∷ []) s ≡ in_slot slots s
slot_more [] zero = refl
slot_more [] (suc s) = refl
slot_more (x ∷ slots) zero = refl
slot_more (x ∷ slots) (suc s) = slot_more slots s

pub opened_more : (slots : List (Option Ticketed)) → opened (slots ++ None ∷ []) ≡ opened slots
opened_more [] = refl
opened_more (None ∷ slots) = opened_more slots
opened_more (Some o ∷ slots) = ap (by_ticket o) (opened_more slots)

abbrev no_key : Option (List ℤ)
no_key = None

pub keys_more : (slots : List (Option Ticketed)) (rows : List (Option (List ℤ))) (n : ℕ) → map key_of slots ≡ rows ++ replicate n no_key → map key_of (slots ++ None ∷ []) ≡ rows ++ replicate (n + 1) no_key
keys_more slots rows n h =
    map-append key_of slots (None ∷ []) ∙ ap (λ (l : List (Option (List ℤ))). l ++ no_key ∷ []) h ∙ append_assoc rows (replicate n no_key) (no_key ∷ [])
    ∙ ap (λ (l : List (Option (List ℤ))). rows ++ l) (replicate_more n no_key)
