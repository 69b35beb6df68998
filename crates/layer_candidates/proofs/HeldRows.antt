-- Rows of a region that are given back, taken and written.
use Rattle.std.proofs.Common.{◌≡◌, ◌≢◌, ℕ, zero, suc, ◌+◌, ◌<◌, ℤ, List, [], ◌∷◌, ◌++◌, length, set, drop, slice_get, get_or, Option, Some, None, IsPermutation, refl, sym, ap, subst, ◌∙◌, arith, length-append}
use Rattle.std.proofs.lemmas.List.{length-set, set-get_or, get_or-set_other, take_at, get_or-map, length-map, append-nil}
use Rattle.std.proofs.lemmas.List.Sorted.{length_permutation, IsPermutation-middle}
use Rattle.std.proofs.lemmas.Option.{get_or_from_slice_get, slice_get_within, slice_get-get_or}
use Rattle.std.proofs.Common.{nat_eq}
use Rattle.dp_model.specs.Lists.{Each}
use Rattle.dp_model.proofs.Members.{Each-append, Each-then}
use Rattle.dp_model.proofs.RowLemmas.{nat_eq-is, nat_eq-self}
use Rattle.dp_laws.specs.Pairs.{EachTwo}
use Rattle.dp_laws.proofs.Restricted.Permutations.{two-append, each-permutation, keys-permutation}
use Rattle.layer_candidates.specs.declared.way.Way.{Way}
use Rattle.layer_candidates.specs.HeldRows.{IsNoneOf, AreLive, HasExchanged, IsSameRegion, held_row, AreSame, HasLeft, HasWritten}
use Rattle.layer_candidates.specs.Ways.{way_at, rows_of, way_row}
use Rattle.row_region.specs.Region.{RegionView, IsRow, IsLive, HasPut, row_or, refilled, with_row}
use Rattle.row_region.proofs.Callers.{put_row, put_others, given_others, get-set}

-- Lists in two parts.

pub each-here : {X : Type 0} (P : X → Type 0) (xs : List X) (i : ℕ) (d : X) → Each P xs → i < length xs → P (get_or xs i d)
each-here P [] i d h less = absurd (omega arith)
each-here P (x ∷ xs) zero d h less = h.0
each-here P (x ∷ xs) (suc i) d h less = each-here P xs i d h.1 (omega arith)

module _ {X : Type 0} where
  pub each-left : (P : X → Type 0) (xs ys : List X) → Each P (xs ++ ys) → Each P xs
  each-left P [] ys h = tt
  each-left P (x ∷ xs) ys h = (h.0, each-left P xs ys h.1)

  pub each-right : (P : X → Type 0) (xs ys : List X) → Each P (xs ++ ys) → Each P ys
  each-right P [] ys h = h
  each-right P (x ∷ xs) ys h = each-right P xs ys h.1

  two-left : (R : X → X → Type 0) (xs ys : List X) → EachTwo R (xs ++ ys) → EachTwo R xs
  two-left R [] ys h = tt
  two-left R (x ∷ xs) ys h = (each-left (R x) xs ys h.0, two-left R xs ys h.1)

  two-across : (R : X → X → Type 0) (xs ys : List X) → EachTwo R (xs ++ ys) → Each (λ x. Each (R x) ys) xs
  two-across R [] ys h = tt
  two-across R (x ∷ xs) ys h = (each-right (R x) xs ys h.0, two-across R xs ys h.1)

  two-right : (R : X → X → Type 0) (xs ys : List X) → EachTwo R (xs ++ ys) → EachTwo R ys
  two-right R [] ys h = h
  two-right R (x ∷ xs) ys h = two-right R xs ys h.1

pub live-right : (region : RegionView) (xs ys : List ℕ) → AreLive region (xs ++ ys) → AreLive region ys
live-right region xs ys h = record { live = each-right (IsLive region) xs ys h.live; apart = two-right (λ (a b : ℕ). a ≢ b) xs ys h.apart }

-- What stands at a place.

pub held-is : (region : RegionView) (place : ℕ) (row : List ℤ) → slice_get region.rows place ≡ Some (Some row) → held_row region place ≡ row
held-is region place row here = ap row_or (get_or_from_slice_get region.rows place (Some row) None here)

pub held-same : (old new : RegionView) (place : ℕ) → IsLive old place → slice_get new.rows place ≡ slice_get old.rows place → held_row new place ≡ held_row old place
held-same old new place live same = held-is new place live.0 (same ∙ live.1) ∙ sym (held-is old place live.0 live.1)

pub same-self : (region : RegionView) (places : List ℕ) → AreSame region region places
same-self region [] = tt
same-self region (p ∷ places) = (refl, same-self region places)

pub same-then : (old now new : RegionView) (places : List ℕ) → AreSame old now places → AreSame now new places → AreSame old new places
same-then old now new [] first second = tt
same-then old now new (p ∷ places) first second = (second.0 ∙ first.0, same-then old now new places first.1 second.1)

pub live-same : (old new : RegionView) (places : List ℕ) → AreSame old new places → Each (IsLive old) places → Each (IsLive new) places
live-same old new [] same live = tt
live-same old new (p ∷ places) same live = ((live.0.0, same.0 ∙ live.0.1), live-same old new places same.1 live.1)

-- The rows of ways.

pub length-rows : (ways : List Way) → length (rows_of ways) ≡ length ways
length-rows ways = length-map ways (λ (w : Way). w.row)

pub way-each : (P : ℕ → Type 0) (ways : List Way) (i : ℕ) → Each P (rows_of ways) → i < length ways → P (way_at ways i).row
way-each P ways i all less =
    subst P (get_or-map (λ (w : Way). w.row) ways i _ 0 less) (each-here P (rows_of ways) i 0 all (let e = length-rows ways in omega arith))

pub ways-same : (old new : RegionView) (ways : List Way) → AreSame old new (rows_of ways) → Each (IsLive old) (rows_of ways) → (i : ℕ) → i < length ways → way_row new ways i ≡ way_row old ways i
ways-same old new ways same live i less =
    held-same old new (way_at ways i).row (way-each (IsLive old) ways i live less) (way-each (λ (p : ℕ). slice_get new.rows p ≡ slice_get old.rows p) ways i same less)

-- Rows are given back and taken.

free-apart : (region : RegionView) (p q : ℕ) → slice_get region.rows p ≡ Some None → IsLive region q → p ≢ q
free-apart region p q free live = λ (e : p ≡ q). (let there = ap (slice_get region.rows) e in let row = live.1 in cc)

pub exchange-self : (region : RegionView) (places : List ℕ) → AreLive region places → HasExchanged region places region places
exchange-self region places live = record { words = refl; count = refl; spare = refl; others = λ place row here apart. (here, apart); live = live }

pub exchange-then : (old now new : RegionView) (before between held : List ℕ) → HasExchanged old before now between → HasExchanged now between new held → HasExchanged old before new held
exchange-then old now new before between held first second = record {
  words = second.words ∙ first.words;
  count = second.count ∙ first.count;
  spare = second.spare ∙ first.spare;
  others = λ place row here apart. (let stays = first.others place row here apart in second.others place row stays.0 stays.1);
  live = second.live;
}

-- where all rows that were taken are given back, the region has those that it had
pub exchange-none : (old new : RegionView) → HasExchanged old [] new [] → IsSameRegion old new
exchange-none old new h =
    let spare = h.spare in
    record {
      more = record { words = h.words; count = h.count; same = λ place row here. (h.others place row here tt).0 };
      spare = omega arith;
    }

-- the order of the places does not matter
pub live-moved : (region : RegionView) (places moved : List ℕ) → IsPermutation places moved → AreLive region places → AreLive region moved
live-moved region places moved perm h = record {
  live = each-permutation places moved perm (IsLive region) h.live;
  apart = keys-permutation nat_eq nat_eq-is nat_eq-self (λ (p : ℕ). p) places moved perm h.apart;
}

pub exchange-moved : (old new : RegionView) (before held moved : List ℕ) → IsPermutation held moved → HasExchanged old before new held → HasExchanged old before new moved
exchange-moved old new before held moved perm h =
    let long = length_permutation held moved perm in
    let spare = h.spare in
    record {
      words = h.words;
      count = h.count;
      spare = omega arith;
      others = λ place row here apart. (let stays = h.others place row here apart in (stays.0, each-permutation held moved perm (λ (other : ℕ). place ≢ other) stays.1));
      live = live-moved new held moved perm h.live;
    }

-- other rows beside them stay
module _ (old new : RegionView) (before held : List ℕ) (x : HasExchanged old before new held) where
  pub beside-same : (beside : List ℕ) → Each (IsLive old) beside → Each (IsNoneOf before) beside → AreSame old new beside
  beside-same [] live apart = tt
  beside-same (q ∷ beside) live apart = ((x.others q live.0.0 live.0.1 apart.0).0 ∙ sym live.0.1, beside-same beside live.1 apart.1)

  beside-none : (beside : List ℕ) → Each (IsLive old) beside → Each (IsNoneOf before) beside → Each (IsNoneOf held) beside
  beside-none [] live apart = tt
  beside-none (q ∷ beside) live apart = ((x.others q live.0.0 live.0.1 apart.0).1, beside-none beside live.1 apart.1)

  pub exchange-beside : (beside : List ℕ) → AreLive old (beside ++ before) → HasExchanged old (beside ++ before) new (beside ++ held) × AreSame old new beside
  exchange-beside beside all =
      let Differ = λ (a b : ℕ). a ≢ b in
      let live = each-left (IsLive old) beside before all.live in
      let apart = two-across Differ beside before all.apart in
      let same = beside-same beside live apart in
      let a = length-append beside before in
      let b = length-append beside held in
      let spare = x.spare in (
        record {
          words = x.words;
          count = x.count;
          spare = omega arith;
          others = λ place row here none. (
              let differ = λ (other : ℕ). place ≢ other in
              let stays = x.others place row here (each-right differ beside before none) in
              (stays.0, Each-append differ beside held (each-left differ beside before none) stays.1));
          live = record {
            live = Each-append (IsLive new) beside held (live-same old new beside same live) x.live.live;
            apart = two-append Differ beside held (two-left Differ beside before all.apart) x.live.apart (beside-none beside live apart);
          };
        },
        same,
      )

-- a row more is taken
module _ (old new : RegionView) (p : ℕ) (row : List ℤ) (put : HasPut old p row new) (long : length row ≡ old.words) where
  pub put-same : (places : List ℕ) → Each (IsLive old) places → AreSame old new places
  put-same [] live = tt
  put-same (q ∷ places) live = (put_others old new p q row live.0.0 put live.0.1 ∙ sym live.0.1, put-same places live.1)

  pub exchange-put : (places : List ℕ) → AreLive old places → HasExchanged old places new (p ∷ places)
  exchange-put places live =
      let less = put.spare in
      record {
        words = put.words;
        count = ap length put.rows ∙ length-set old.rows p (Some row);
        spare = omega arith;
        others = λ q other here apart. (put_others old new p q row other put here, ((λ (e : q ≡ p). free-apart old p q put.was_free (other, here) (sym e)), apart));
        live = record {
          live = ((row, (put_row old new p row put long).found), live-same old new places (put-same places live.live) live.live);
          apart = (Each-then (IsLive old) (λ (q : ℕ). p ≢ q) places (λ q here. free-apart old p q put.was_free here) live.live, live.apart);
        };
      }

-- the first of the rows is given back
module _ (old new : RegionView) (p : ℕ) (given : new ≡ record old { rows = set old.rows p None; spare = old.spare + 1 }) where
  pub given-same : (places : List ℕ) → IsNoneOf places p → Each (IsLive old) places → AreSame old new places
  given-same [] apart live = tt
  given-same (q ∷ places) apart live =
      (given_others old new p q live.0.0 given (λ (e : q ≡ p). apart.0 (sym e)) live.0.1 ∙ sym live.0.1, given-same places apart.1 live.1)

  pub exchange-give : (places : List ℕ) → AreLive old (p ∷ places) → HasExchanged old (p ∷ places) new places
  exchange-give places live =
      let spare = ap (λ (r : RegionView). r.spare) given in
      record {
        words = ap (λ (r : RegionView). r.words) given;
        count = ap (λ (r : RegionView). length r.rows) given ∙ length-set old.rows p None;
        spare = omega arith;
        others = λ q other here apart. (given_others old new p q other given apart.0 here, apart.1);
        live = record { live = live-same old new places (given-same places live.apart.0 live.live.1) live.live.1; apart = live.apart.1 };
      }

-- Of some rows others are left.

pub left-self : (region : RegionView) (places : List ℕ) → AreLive region places → HasLeft region places region places
left-self region places live = record { exchanged = exchange-self region places live; same = same-self region places }

pub left-moved : (old new : RegionView) (before left moved : List ℕ) → IsPermutation left moved → HasLeft old before new left → HasLeft old before new moved
left-moved old new before left moved perm h = record {
  exchanged = exchange-moved old new before left moved perm h.exchanged;
  same = each-permutation left moved perm (λ (p : ℕ). slice_get new.rows p ≡ slice_get old.rows p) h.same;
}

-- one more is given back
pub left-give : (old region new : RegionView) (before front following : List ℕ) (p : ℕ) → HasLeft old before region (front ++ p ∷ following) → new ≡ record region { rows = set region.rows p None; spare = region.spare + 1 }
    → HasLeft old before new (front ++ following)
left-give old region new before front following p h given =
    let rest = front ++ following in
    let first = left-moved old region before (front ++ p ∷ following) (p ∷ rest) (IsPermutation-middle front p following) h in
    let live = first.exchanged.live in
    record {
      exchanged = exchange-then old region new before (p ∷ rest) rest first.exchanged (exchange-give region new p given rest live);
      same = same-then old region new rest first.same.1 (given-same region new p given rest live.apart.0 live.live.1);
    }

-- those in front stay where all others are given back
pub left-front : (old region new : RegionView) (before front following : List ℕ) → HasLeft old before region (front ++ following) → HasExchanged region following new [] → HasLeft old before new front
left-front old region new before front following h x =
    let beside = exchange-beside region new following [] x front h.exchanged.live in
    let Same = λ (p : ℕ). slice_get region.rows p ≡ slice_get old.rows p in
    record {
      exchanged = subst (HasExchanged old before new) (append-nil front) (exchange-then old region new before (front ++ following) (front ++ []) h.exchanged beside.0);
      same = same-then old region new front (each-left Same front following h.same) beside.1;
    }

-- A row is written over.

pub written-whole : (region : RegionView) (p : ℕ) (row : List ℤ) → length row ≡ region.words → HasWritten region p row (with_row region p row)
written-whole region p row long =
    let base = row_or (get_or region.rows p None) in
    record {
      words = refl;
      rows = ap (λ (r : List ℤ). set region.rows p (Some r)) (take_at row (drop (length row) base) region.words long);
      spare = refl;
    }

-- with what stood there
pub written-same : (region : RegionView) (p : ℕ) (row : List ℤ) → IsRow region p row → with_row region p row ≡ region
written-same region p row is =
    let base = row_or (get_or region.rows p None) in
    let whole : refilled region.words base row ≡ row = take_at row (drop (length row) base) region.words is.size in
    let there : Some row ≡ get_or region.rows p None = sym (get_or_from_slice_get region.rows p (Some row) None is.found) in
    ap (λ (l : List (Option (List ℤ))). record region { rows = l })
    (ap (λ (r : List ℤ). set region.rows p (Some r)) whole ∙ (ap (set region.rows p) there ∙ set-get_or region.rows p None))

other-place : {X : Type 0} (xs : List X) (p q : ℕ) (new x : X) → p ≢ q → slice_get xs q ≡ Some x → slice_get (set xs p new) q ≡ Some x
other-place xs p q new x apart there =
    let within = slice_get_within xs q x there in
    slice_get-get_or (set xs p new) q x (omega (arith, length-set xs p new))
    ∙ ap Some (get_or-set_other xs p q new x (λ (e : q ≡ p). apart (sym e)) ∙ get_or_from_slice_get xs q x x there)

module _ (old new : RegionView) (p : ℕ) (row : List ℤ) (h : HasWritten old p row new) where
  pub written-here : IsLive old p → held_row new p ≡ row
  written-here live = held-is new p row (ap (λ (l : List (Option (List ℤ))). slice_get l p) h.rows ∙ get-set old.rows p (Some live.0) (Some row) live.1)

  written-live : IsLive old p → IsLive new p
  written-live live = (row, ap (λ (l : List (Option (List ℤ))). slice_get l p) h.rows ∙ get-set old.rows p (Some live.0) (Some row) live.1)

  written-other : (q : ℕ) (other : List ℤ) → IsLive old p → p ≢ q → slice_get old.rows q ≡ Some (Some other) → slice_get new.rows q ≡ Some (Some other)
  written-other q other live apart here =
      ap (λ (l : List (Option (List ℤ))). slice_get l q) h.rows ∙ other-place old.rows p q (Some row) (Some other) apart here

  pub written-beside : (places : List ℕ) → AreLive old (p ∷ places) → AreSame old new places
  written-beside places live = go places live.apart.0 live.live.1
    where
      go : (places : List ℕ) → IsNoneOf places p → Each (IsLive old) places → AreSame old new places
      go [] apart all = tt
      go (q ∷ places) apart all = (written-other q all.0.0 live.live.0 apart.0 all.0.1 ∙ sym all.0.1, go places apart.1 all.1)

  pub exchange-written : (places : List ℕ) → AreLive old (p ∷ places) → HasExchanged old (p ∷ places) new (p ∷ places)
  exchange-written places live = record {
    words = h.words;
    count = ap length h.rows ∙ length-set old.rows p (Some row);
    spare = ap (λ (n : ℕ). n + length (p ∷ places)) h.spare;
    others = λ q other here apart. (written-other q other live.live.0 (λ (e : p ≡ q). apart.0 (sym e)) here, apart);
    live = record { live = (written-live live.live.0, live-same old new places (written-beside places live) live.live.1); apart = live.apart };
  }
