-- The chain of free rows.
use Rattle.std.proofs.Common.{◌≡◌, ◌≢◌, ℕ, zero, suc, ◌+◌, ◌*◌, ◌<◌, ◌≤◌, ◌^◌, ℤ, pos, ◌≤ℤ◌, nat_eq, Bool, true, false, cond, List, [], ◌∷◌, ◌++◌, length, set, count_by, is_none, Option, Some, None, refl, sym, ap, subst, ◌∙◌, ◌⊎◌, inl, inr, arith}
use Rattle.std.proofs.lemmas.Int.{ints}
use Rattle.std.proofs.lemmas.Bool.Decides.{eqb_tells, nat_tests}
use Rattle.std.proofs.lemmas.List.{length-append, ext_get_or, get_or_append_left}
use Rattle.std.proofs.lemmas.List.Sums.{sum_by_push}
use Rattle.row_region.specs.Layout.{named, first_cell, free_from, has, Apart, EachNumber, row_at, live_row_at, table, slots, IsFreeRow, HasFreeChain}
use Rattle.row_region.specs.Popping.{SameBut}
use Rattle.row_region.proofs.Rows.{row_within, length-row, get-row, same_first, other_row, table_same, table_set}

same_number : (p : ℕ) → nat_eq p p ≡ true
same_number p = grind (arith, nat_tests)

has_head : (p : ℕ) (ps : List ℕ) → has (p ∷ ps) p ≡ true
has_head p ps = rw (same_number p) refl

other_number : (p q : ℕ) → q ≢ p → nat_eq p q ≡ false
other_number p q n = grind (arith, nat_tests)

has_rest : (p q : ℕ) (ps : List ℕ) → has ps q ≡ true → has (p ∷ ps) q ≡ true
has_rest p q ps h = go (eqb_tells p q)
  where
    go : ((nat_eq p q ≡ true) × (p ≡ q)) ⊎ ((nat_eq p q ≡ false) × (p ≢ q)) → has (p ∷ ps) q ≡ true
    go (inl e) = rw e.0 refl
    go (inr n) = rw n.0 h

apart_from : (ps : List ℕ) (p q : ℕ) → has ps p ≡ false → has ps q ≡ true → q ≢ p
apart_from ps p q h k e = let k2 : has ps p ≡ true = subst (λ (j : ℕ). has ps j ≡ true) e k in cc

Each_map : (P Q : ℕ → Type 0) (ps : List ℕ) → ((q : ℕ) → has ps q ≡ true → P q → Q q) → EachNumber P ps → EachNumber Q ps
Each_map P Q [] f h = tt
Each_map P Q (p ∷ ps) f h = (f p (has_head p ps) h.0, Each_map P Q ps (λ q k. f q (has_rest p q ps k)) h.1)

Each_at : (P : ℕ → Type 0) (ps : List ℕ) (q : ℕ) → EachNumber P ps → has ps q ≡ true → P q
Each_at P [] q h k = absurd (cc)
Each_at P (p ∷ ps) q h k = go (eqb_tells p q) (Each_at P ps q h.1)
  where
    go : ((nat_eq p q ≡ true) × (p ≡ q)) ⊎ ((nat_eq p q ≡ false) × (p ≢ q)) → (has ps q ≡ true → P q) → P q
    go (inl e) again = subst P e.1 h.0
    go (inr n) again = again (rw n.0 at k)

-- a chain whose rows stay is a chain
same_chain : (cells new : List ℤ) (words n place : ℕ) → 0 < words → ((q : ℕ) → has (free_from cells words n place) q ≡ true → row_at new words q ≡ row_at cells words q) → free_from new words n place ≡ free_from cells words n place
same_chain cells new words zero place positive same = refl
same_chain cells new words (suc n) place positive same =
    let next = named (first_cell cells words place) in
    let e : named (first_cell new words place) ≡ next = ap named (same_first cells new words place positive (same place (has_head place (free_from cells words n next)))) in
    let rest = same_chain cells new words n next positive (λ q k. same q (has_rest place q (free_from cells words n next) k)) in
    ap (λ (j : ℕ). place ∷ free_from new words n j) e ∙ ap (λ (l : List ℕ). place ∷ l) rest

pub length-chain : (cells : List ℤ) (words n place : ℕ) → length (free_from cells words n place) ≡ n
length-chain cells words zero place = refl
length-chain cells words (suc n) place = ap suc (length-chain cells words n (named (first_cell cells words place)))

-- how many of the places below n are in the list
abbrev pub hits : List ℕ → ℕ → ℕ
hits ps zero = 0
hits ps (suc n) = hits ps n + cond (has ps n) 1 0

hits_few : (ps : List ℕ) (n : ℕ) → hits ps n ≤ n
hits_few ps zero = omega arith
hits_few ps (suc n) = let h = hits_few ps n in let one : cond (has ps n) 1 0 ≤ 1 = elim (has ps n) as (λ b. cond b 1 0 ≤ 1) [ true ↦ omega arith | false ↦ omega arith ] in omega arith

-- a place within, that the list has not, is one hit more
hits_past : (p : ℕ) (ps : List ℕ) (n : ℕ) → n ≤ p → hits (p ∷ ps) n ≡ hits ps n
hits_past p ps zero h = refl
hits_past p ps (suc n) h =
    let other = other_number p n (λ (e : n ≡ p). omega arith) in
    let again = hits_past p ps n (omega arith) in
    rw (other, again) refl

hits_more : (p : ℕ) (ps : List ℕ) (n : ℕ) → p < n → has ps p ≡ false → hits (p ∷ ps) n ≡ hits ps n + 1
hits_more p ps zero h free = absurd (omega arith)
hits_more p ps (suc n) h free = go (eqb_tells p n) (λ l. hits_more p ps n l free)
  where
    go : ((nat_eq p n ≡ true) × (p ≡ n)) ⊎ ((nat_eq p n ≡ false) × (p ≢ n)) → (p < n → hits (p ∷ ps) n ≡ hits ps n + 1) → hits (p ∷ ps) (suc n) ≡ hits ps (suc n) + 1
    go (inl e) again =
        let past = hits_past p ps n (omega arith) in
        let none : has ps n ≡ false = subst (λ (j : ℕ). has ps j ≡ false) e.1 free in
        rw (e.0, past, none) (omega arith)
    go (inr k) again =
        let less : p < n = (let d = k.1 in omega arith) in
        let one = again less in
        rw (k.0, one) (omega arith)

-- places within n, no two of them the same, are at most n
pub few : (n : ℕ) (ps : List ℕ) → EachNumber (λ p. p < n) ps → Apart ps → length ps ≡ hits ps n
few n [] within apart = sym (none n)
  where
    none : (n : ℕ) → hits [] n ≡ 0
    none zero = refl
    none (suc n) = omega (arith, none n)
few n (p ∷ ps) within apart =
    let rest = few n ps within.1 apart.1 in
    let one = hits_more p ps n within.0 apart.0 in
    omega arith

-- this many rows are free at most
pub spare_few : (cells : List ℤ) (words count free spare : ℕ) → HasFreeChain cells words count free spare → spare ≤ count
spare_few cells words count free spare c =
    let ps = free_from cells words spare free in
    let h = few count ps (Each_map (IsFreeRow cells words count) (λ p. p < count) ps (λ q k f. f.within) c.free_rows) c.apart in
    omega (arith, length-chain cells words spare free, hits_few ps count)

-- and fewer where a row is live
pub spare_fewer : (cells : List ℤ) (words count free spare p : ℕ) → HasFreeChain cells words count free spare → p < count → has (free_from cells words spare free) p ≡ false → spare < count
spare_fewer cells words count free spare p c less live =
    let ps = free_from cells words spare free in
    let h = few count (p ∷ ps) (less, Each_map (IsFreeRow cells words count) (λ p. p < count) ps (λ q k f. f.within) c.free_rows) (live, c.apart) in
    omega (arith, length-chain cells words spare free, hits_few (p ∷ ps) count)

free_row_stays : (cells new : List ℤ) (words count more q : ℕ) → 0 < words → count ≤ more → row_at new words q ≡ row_at cells words q → IsFreeRow cells words count q → IsFreeRow new words more q
free_row_stays cells new words count more q positive le same f =
    let e = same_first cells new words q positive same in
    record { within = (let w = f.within in omega arith); positive = rw e f.positive; small = rw e f.small }

-- a place of the chain is within
within_chain : (cells : List ℤ) (words count n place q : ℕ) → EachNumber (IsFreeRow cells words count) (free_from cells words n place) → has (free_from cells words n place) q ≡ true → q < count
within_chain cells words count n place q h k = (Each_at (IsFreeRow cells words count) (free_from cells words n place) q h k).within

module _ (cells new : List ℤ) (words count p : ℕ) (positive : 0 < words) (room : count * words ≤ length cells) (but : SameBut cells new words p) where
  stays : (q : ℕ) → q < count → q ≢ p → row_at new words q ≡ row_at cells words q
  stays q less n = other_row cells new words p q but n (let w = row_within q count words less in omega arith)

  -- a chain without the row stays as it is
  pub kept_chain : (n place : ℕ) → EachNumber (IsFreeRow cells words count) (free_from cells words n place) → has (free_from cells words n place) p ≡ false → free_from new words n place ≡ free_from cells words n place
  kept_chain n place rows live = same_chain cells new words n place positive (λ q k. stays q (within_chain cells words count n place q rows k) (apart_from (free_from cells words n place) p q live k))

  pub kept_rows : (more n place : ℕ) → count ≤ more → EachNumber (IsFreeRow cells words count) (free_from cells words n place) → has (free_from cells words n place) p ≡ false → EachNumber (IsFreeRow new words more) (free_from new words n place)
  kept_rows more n place le rows live =
      let ps = free_from cells words n place in
      subst (λ (l : List ℕ). EachNumber (IsFreeRow new words more) l) (sym (kept_chain n place rows live))
      (Each_map (IsFreeRow cells words count) (IsFreeRow new words more) ps (λ q k f. free_row_stays cells new words count more q positive le (stays q f.within (apart_from ps p q live k)) f) rows)

  -- the slots of the others stay
  pub kept_slot : (ps qs : List ℕ) (i : ℕ) → i < count → i ≢ p → has qs i ≡ has ps i → live_row_at new words qs i ≡ live_row_at cells words ps i
  kept_slot ps qs i less n e = rw (e, stays i less n) refl

pos_positive : (n : ℕ) → pos 0 ≤ℤ pos n
pos_positive n = omega (arith, ints)

-- a row joins the chain at its head
pub push : (cells new : List ℤ) (words count more free spare p : ℕ) → HasFreeChain cells words count free spare → SameBut cells new words p → first_cell new words p ≡ pos free → has (free_from cells words spare free) p ≡ false → p < more → count ≤ more → more ≤ 2 ^ 32 → more * words ≤ length new
    → free_from new words (suc spare) p ≡ p ∷ free_from cells words spare free
push cells new words count more free spare p c but named_free live less le small room =
    let e : named (first_cell new words p) ≡ free = ap named named_free in
    ap (λ (j : ℕ). p ∷ free_from new words spare j) e
    ∙ ap (λ (l : List ℕ). p ∷ l) (kept_chain cells new words count p c.positive c.room but spare free c.free_rows live)

pub push_chained : (cells new : List ℤ) (words count more free spare p : ℕ) → HasFreeChain cells words count free spare → SameBut cells new words p → first_cell new words p ≡ pos free → has (free_from cells words spare free) p ≡ false → p < more → count ≤ more → more ≤ 2 ^ 32 → more * words ≤ length new
    → HasFreeChain new words more p (suc spare)
push_chained cells new words count more free spare p c but named_free live less le small room =
    let ps = free_from cells words spare free in
    let chain = push cells new words count more free spare p c but named_free live less le small room in
    let first = c.first in
    let kept = kept_chain cells new words count p c.positive c.room but spare free c.free_rows live in
    let rows = kept_rows cells new words count p c.positive c.room but more spare free le c.free_rows live in
    let head : IsFreeRow new words more p = record { within = less; positive = rw named_free (pos_positive free); small = rw named_free first } in
    record {
      positive = c.positive;
      room = room;
      small = small;
      first = omega arith;
      free_rows = subst (λ (l : List ℕ). EachNumber (IsFreeRow new words more) l) (sym chain) (head, subst (λ (l : List ℕ). EachNumber (IsFreeRow new words more) l) kept rows);
      apart = subst Apart (sym chain) (live, c.apart);
    }

-- the first of the chain leaves it
pub pop_chained : (cells new : List ℤ) (words count free spare : ℕ) → HasFreeChain cells words count free (suc spare) → SameBut cells new words free
    → HasFreeChain new words count (named (first_cell cells words free)) spare
pop_chained cells new words count free spare c but =
    let next = named (first_cell cells words free) in
    let kept = kept_chain cells new words count free c.positive c.room but spare next c.free_rows.1 c.apart.0 in
    let first = c.free_rows.0.small in
    record {
      positive = c.positive;
      room = (let r = c.room in let e = but.size in omega arith);
      small = c.small;
      first = first;
      free_rows = kept_rows cells new words count free c.positive c.room but count spare next (omega arith) c.free_rows.1 c.apart.0;
      apart = subst Apart (sym kept) c.apart.1;
    }

pub pop_slots : (cells new : List ℤ) (words count free spare : ℕ) → HasFreeChain cells words count free (suc spare) → SameBut cells new words free
    → slots new words count (named (first_cell cells words free)) spare ≡ set (slots cells words count free (suc spare)) free (Some (row_at new words free))
pop_slots cells new words count free spare c but =
    let next = named (first_cell cells words free) in
    let ps = free_from cells words spare next in
    let kept = kept_chain cells new words count free c.positive c.room but spare next c.free_rows.1 c.apart.0 in
    let f = live_row_at cells words (free ∷ ps) in
    let g = live_row_at new words (free_from new words spare next) in
    let at : g free ≡ Some (row_at new words free) = rw (kept, c.apart.0) refl in
    table_set f g count free c.free_rows.0.within (λ i less n.
    kept_slot cells new words count free c.positive c.room but (free ∷ ps) (free_from new words spare next) i less n
    (ap (λ (l : List ℕ). has l i) kept ∙ sym (rw (other_number free i n) refl)))
    ∙ ap (set (table f count) free) at

-- a row that is not free is written
pub write_chained : (cells new : List ℤ) (words count free spare p : ℕ) → HasFreeChain cells words count free spare → SameBut cells new words p → has (free_from cells words spare free) p ≡ false
    → HasFreeChain new words count free spare
write_chained cells new words count free spare p c but live =
    let kept = kept_chain cells new words count p c.positive c.room but spare free c.free_rows live in
    record {
      positive = c.positive;
      room = (let r = c.room in let e = but.size in omega arith);
      small = c.small;
      first = c.first;
      free_rows = kept_rows cells new words count p c.positive c.room but count spare free (omega arith) c.free_rows live;
      apart = subst Apart (sym kept) c.apart;
    }

pub write_slots : (cells new : List ℤ) (words count free spare p : ℕ) → HasFreeChain cells words count free spare → SameBut cells new words p → has (free_from cells words spare free) p ≡ false → p < count
    → slots new words count free spare ≡ set (slots cells words count free spare) p (Some (row_at new words p))
write_slots cells new words count free spare p c but live within =
    let ps = free_from cells words spare free in
    let kept = kept_chain cells new words count p c.positive c.room but spare free c.free_rows live in
    let f = live_row_at cells words ps in
    let g = live_row_at new words (free_from new words spare free) in
    let at : g p ≡ Some (row_at new words p) = rw (kept, live) refl in
    table_set f g count p within (λ i less n.
    kept_slot cells new words count p c.positive c.room but ps (free_from new words spare free) i less n (ap (λ (l : List ℕ). has l i) kept))
    ∙ ap (set (table f count) p) at

-- a live row is given back
pub give_slots : (cells new : List ℤ) (words count free spare p : ℕ) → HasFreeChain cells words count free spare → SameBut cells new words p → first_cell new words p ≡ pos free → has (free_from cells words spare free) p ≡ false → p < count → length new ≡ length cells
    → slots new words count p (suc spare) ≡ set (slots cells words count free spare) p None
give_slots cells new words count free spare p c but named_free live within size =
    let ps = free_from cells words spare free in
    let chain = push cells new words count count free spare p c but named_free live within (omega arith) c.small (let r = c.room in omega arith) in
    let f = live_row_at cells words ps in
    let g = live_row_at new words (free_from new words (suc spare) p) in
    let at : g p ≡ None = rw (same_number p) refl in
    table_set f g count p within (λ i less n.
    kept_slot cells new words count p c.positive c.room but ps (free_from new words (suc spare) p) i less n (ap (λ (l : List ℕ). has l i) chain ∙ rw (other_number p i n) refl))
    ∙ ap (set (table f count) p) at

abbrev the_none : Option (List ℤ)
the_none = None

none_some : (row : List ℤ) → (the_none ≡ Some row) → ⊥
none_some row h = cc

same_some : (a b : List ℤ) → Some a ≡ Some b → a ≡ b
same_some a b h = cc

-- a live row is no place of the chain
pub live_slot : (cells : List ℤ) (words p : ℕ) (ps : List ℕ) (row : List ℤ) → live_row_at cells words ps p ≡ Some row → (has ps p ≡ false) × (row_at cells words p ≡ row)
live_slot cells words p ps row h = go (has ps p) refl
  where
    go : (b : Bool) → has ps p ≡ b → (has ps p ≡ false) × (row_at cells words p ≡ row)
    go true e = absurd (none_some row (rw e at h))
    go false e = (e, same_some (row_at cells words p) row (rw e at h))

pub head_none : (cells : List ℤ) (words p : ℕ) (ps : List ℕ) → live_row_at cells words (p ∷ ps) p ≡ None
head_none cells words p ps = rw (same_number p) refl

-- more cells after the rows change nothing
module _ (cells more : List ℤ) (words count : ℕ) (positive : 0 < words) (room : count * words ≤ length cells) where
  longer_row : (q : ℕ) → q < count → row_at (cells ++ more) words q ≡ row_at cells words q
  longer_row q less =
      let within = row_within q count words less in
      let whole = length-append cells more in
      let a = length-row cells words q (omega arith) in
      let b = length-row (cells ++ more) words q (omega arith) in
      ext_get_or (pos 0) (row_at (cells ++ more) words q) (row_at cells words q) (b ∙ sym a) (λ k h.
      let small : k < words = omega arith in
      get-row (cells ++ more) words q k small ∙ get_or_append_left cells more (pos 0) (q * words + k) (omega arith) ∙ sym (get-row cells words q k small))

  longer_chain : (n place : ℕ) → EachNumber (IsFreeRow cells words count) (free_from cells words n place) → free_from (cells ++ more) words n place ≡ free_from cells words n place
  longer_chain n place rows = same_chain cells (cells ++ more) words n place positive (λ q k. longer_row q (within_chain cells words count n place q rows k))

  pub longer_chained : (free spare : ℕ) → HasFreeChain cells words count free spare → HasFreeChain (cells ++ more) words count free spare
  longer_chained free spare c =
      let ps = free_from cells words spare free in
      let e = longer_chain spare free c.free_rows in
      let whole = length-append cells more in
      record {
        positive = positive;
        room = omega arith;
        small = c.small;
        first = c.first;
        free_rows = subst (λ (l : List ℕ). EachNumber (IsFreeRow (cells ++ more) words count) l) (sym e)
            (Each_map (IsFreeRow cells words count) (IsFreeRow (cells ++ more) words count) ps (λ q k f. free_row_stays cells (cells ++ more) words count count q positive (omega arith) (longer_row q f.within) f) c.free_rows);
        apart = subst Apart (sym e) c.apart;
      }

  pub longer_slots : (free spare : ℕ) → HasFreeChain cells words count free spare → slots (cells ++ more) words count free spare ≡ slots cells words count free spare
  longer_slots free spare c =
      let e = longer_chain spare free c.free_rows in
      table_same (live_row_at cells words (free_from cells words spare free)) (live_row_at (cells ++ more) words (free_from (cells ++ more) words spare free)) count (λ i less. rw (e, longer_row i less) refl)

abbrev one_or_none : Bool → ℕ
one_or_none b = cond b 1 0

none_slot : (row : List ℤ) (b : Bool) → one_or_none (is_none (cond b the_none (Some row))) ≡ one_or_none b
none_slot row true = refl
none_slot row false = refl

-- the places without a row are those of the chain
none_count : (cells : List ℤ) (words : ℕ) (ps : List ℕ) (n : ℕ) → count_by is_none (table (live_row_at cells words ps) n) ≡ hits ps n
none_count cells words ps zero = refl
none_count cells words ps (suc n) =
    let front = none_count cells words ps n in
    let last = none_slot (row_at cells words n) (has ps n) in
    let more = sum_by_push (λ (o : Option (List ℤ)). cond (is_none o) 1 0) (table (live_row_at cells words ps) n) (live_row_at cells words ps n) in
    more ∙ ap (λ (k : ℕ). k + one_or_none (is_none (live_row_at cells words ps n))) front ∙ ap (λ (k : ℕ). hits ps n + k) last

pub spare_counts : (cells : List ℤ) (words count free spare : ℕ) → HasFreeChain cells words count free spare → spare ≡ count_by is_none (slots cells words count free spare)
spare_counts cells words count free spare c =
    let ps = free_from cells words spare free in
    sym (length-chain cells words spare free)
    ∙ few count ps (Each_map (IsFreeRow cells words count) (λ p. p < count) ps (λ q k f. f.within) c.free_rows) c.apart
    ∙ sym (none_count cells words ps count)
