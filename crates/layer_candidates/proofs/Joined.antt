-- Joining a way to those that are kept.
use Rattle.std.proofs.Common.{◌≡◌, ◌≢◌, ℕ, zero, suc, ◌+◌, ◌<◌, ◌≤◌, ℤ, int_lt, Bool, true, false, cond, List, [], ◌∷◌, ◌++◌, append_assoc, length, set, drop, get_or, refl, sym, ap, ap₂, subst, ◌∙◌, ◌⊎◌, inl, inr, add-one, arith}
use Rattle.std.proofs.Math.Seq.{get_or-append_seam}
use Rattle.std.proofs.lemmas.List.{append-nil, set_at, set-append_left, length_push, get_or-set_same, get_or-set_other, length-set, get_or_append_left, get_or-map, length-map, map-append, map-set, set-get_or, take-append-drop}
use Rattle.dp_model.specs.Dp.{Dp}
use Rattle.dp_model.specs.Reached.{Reached}
use Rattle.dp_model.specs.Rows.{row_same}
use Rattle.dp_model.proofs.RowLemmas.{row_same-self, row_same-is}
use Rattle.dp_laws.specs.Restricted.Extensions.{better, joined, all_joined}
use Rattle.layer_candidates.specs.declared.way.Way.{Way}
use Rattle.layer_candidates.specs.HeldRows.{held_row}
use Rattle.layer_candidates.specs.Rows.{live_at, HasZeros}
use Rattle.layer_candidates.specs.Table.{IsTable}
use Rattle.layer_candidates.specs.Ways.{way_at, rows_of, way_row, reached_by, reached_at, all_reached, bettered, IsWay, AreDistinctRows, AreHashed, AreWays, AreJoined}
use Rattle.row_region.specs.Layout.{table}
use Rattle.row_region.specs.Region.{RegionView}
use Rattle.row_region.proofs.Rows.{length-table, table_same, table_set}

-- rows that begin with this many zeros are the same where their other cells are
pub zeros-same : (count : ℕ) (a b : List ℤ) → HasZeros count a → HasZeros count b → drop count a ≡ drop count b → a ≡ b
zeros-same count a b za zb e = sym (take-append-drop count a) ∙ (ap₂ (λ x y. x ++ y) (za ∙ sym zb) e ∙ take-append-drop count b)

pub same_rows : (a b : List ℤ) → a ≡ b → row_same a b ≡ true
same_rows a b e = subst (λ x. row_same a x ≡ true) e (row_same-self a)

pub other_rows : (a b : List ℤ) → a ≢ b → row_same a b ≡ false
other_rows a b n = go (row_same a b) refl
  where
    go : (t : Bool) → row_same a b ≡ t → row_same a b ≡ false
    go true e = absurd (n (row_same-is a b e))
    go false e = e

pub last_or : (p n : ℕ) → p < suc n → (p ≡ n) ⊎ (p < n)
last_or p n h = grind arith

-- where none has the row, the new one goes after
joined_past : (f : ℕ → Reached) (new : Reached) (n : ℕ) (ys : List Reached) → ((k : ℕ) → k < n → row_same (f k).row new.row ≡ false) → joined (table f n ++ ys) new ≡ table f n ++ joined ys new
joined_past f new zero ys other = refl
joined_past f new (suc n) ys other =
    let e = joined_past f new n (f n ∷ ys) (λ k h. other k (omega arith)) in
    let here : joined (f n ∷ ys) new ≡ f n ∷ joined ys new = rw (other n (omega arith)) refl in
    ap (λ (l : List Reached). joined l new) (append_assoc (table f n) (f n ∷ []) ys) ∙ e
    ∙ ap (λ (l : List Reached). table f n ++ l) here ∙ sym (append_assoc (table f n) (f n ∷ []) (joined ys new))

-- where one has it, and none before does, the better one stays there
joined_at : (f : ℕ → Reached) (new : Reached) (n at : ℕ) (ys : List Reached) → at < n → row_same (f at).row new.row ≡ true → ((k : ℕ) → k < at → row_same (f k).row new.row ≡ false) → joined (table f n ++ ys) new ≡ set (table f n) at (better (f at) new) ++ ys
joined_at f new zero at ys less same other = absurd (omega arith)
joined_at f new (suc n) at ys less same other = go (last_or at n less) (λ h. joined_at f new n at (f n ∷ ys) h same other)
  where
    go : (at ≡ n) ⊎ (at < n) → (at < n → joined (table f n ++ f n ∷ ys) new ≡ set (table f n) at (better (f at) new) ++ f n ∷ ys) → joined (table f (suc n) ++ ys) new ≡ set (table f (suc n)) at (better (f at) new) ++ ys
    go (inl e) again =
        let same_n : row_same (f n).row new.row ≡ true = subst (λ (j : ℕ). row_same (f j).row new.row ≡ true) e same in
        let past = joined_past f new n (f n ∷ ys) (λ k h. other k (omega arith)) in
        let here : joined (f n ∷ ys) new ≡ better (f n) new ∷ ys = rw same_n refl in
        ap (λ (l : List Reached). joined l new) (append_assoc (table f n) (f n ∷ []) ys) ∙ past
        ∙ ap (λ (l : List Reached). table f n ++ l) here
        ∙ sym (append_assoc (table f n) (better (f n) new ∷ []) ys)
        ∙ ap (λ (l : List Reached). l ++ ys) (sym (set_at (table f n) (f n) [] (better (f n) new) n (length-table f n)))
        ∙ ap (λ (j : ℕ). set (table f (suc n)) j (better (f j) new) ++ ys) (sym e)
    go (inr h) again =
        let v = better (f at) new in
        ap (λ (l : List Reached). joined l new) (append_assoc (table f n) (f n ∷ []) ys) ∙ again h
        ∙ sym (append_assoc (set (table f n) at v) (f n ∷ []) ys)
        ∙ ap (λ (l : List Reached). l ++ ys) (sym (set-append_left (table f n) (f n ∷ []) at v (omega (arith, length-table f n))))

joined_new : (f : ℕ → Reached) (new : Reached) (n : ℕ) → ((k : ℕ) → k < n → (f k).row ≢ new.row) → joined (table f n) new ≡ table f n ++ new ∷ []
joined_new f new n other =
    ap (λ (l : List Reached). joined l new) (sym (append-nil (table f n))) ∙ joined_past f new n [] (λ k h. other_rows (f k).row new.row (other k h))

joined_old : (f : ℕ → Reached) (new : Reached) (n at : ℕ) → at < n → (f at).row ≡ new.row → ((k : ℕ) → k < at → (f k).row ≢ new.row) → joined (table f n) new ≡ set (table f n) at (better (f at) new)
joined_old f new n at less same other =
    ap (λ (l : List Reached). joined l new) (sym (append-nil (table f n)))
    ∙ joined_at f new n at [] less (same_rows (f at).row new.row same) (λ k h. other_rows (f k).row new.row (other k h))
    ∙ append-nil (set (table f n) at (better (f at) new))

pub all_joined_push : (rs xs : List Reached) (x : Reached) → all_joined rs (xs ++ x ∷ []) ≡ joined (all_joined rs xs) x
all_joined_push rs [] x = refl
all_joined_push rs (y ∷ ys) x = all_joined_push (joined rs y) ys x

pub all_joined_both : (rs xs ys : List Reached) → all_joined rs (xs ++ ys) ≡ all_joined (all_joined rs xs) ys
all_joined_both rs [] ys = refl
all_joined_both rs (x ∷ xs) ys = all_joined_both (joined rs x) xs ys

-- Rows that stay.

module _ (row row2 : ℕ → List ℤ) (ways : List Way) (same : (i : ℕ) → i < length ways → row2 i ≡ row i) where
  pub reached-same : (paths : ℕ → List ℕ) → all_reached paths row2 ways ≡ all_reached paths row ways
  reached-same paths = table_same (reached_at paths row ways) (reached_at paths row2 ways) (length ways) (λ i less. ap (λ r. reached_by paths r (way_at ways i)) (same i less))

  pub hashed-same : (dp : Dp) (k : ℕ) (hashes : List ℕ) → AreHashed dp k row (length ways) hashes → AreHashed dp k row2 (length ways) hashes
  hashed-same dp k hashes hashed i less = hashed i less ∙ ap (dp.hash k) (sym (same i less))

  pub apart-same : AreDistinctRows row (length ways) → AreDistinctRows row2 (length ways)
  apart-same apart a b less within e = apart a b less within (sym (same a (omega arith)) ∙ (e ∙ same b within))

  pub good-same : (dp : Dp) (k : ℕ) → AreWays dp k row ways → AreWays dp k row2 ways
  good-same dp k good i less = subst (λ r. IsWay dp k r (way_at ways i)) (sym (same i less)) (good i less)

  pub joined-same : (dp : Dp) (k live : ℕ) (hashes heads next : List ℕ) → AreJoined dp k row live ways hashes heads next → AreJoined dp k row2 live ways hashes heads next
  joined-same dp k live hashes heads next j = record { table = j.table; hashed = hashed-same dp k hashes j.hashed; apart = apart-same j.apart; good = good-same dp k j.good }

-- A way that is new.

way_before : (ways : List Way) (way : Way) (i : ℕ) → i < length ways → way_at (ways ++ way ∷ []) i ≡ way_at ways i
way_before ways way i less = get_or_append_left ways (way ∷ []) _ i less

way_last : (ways : List Way) (way : Way) → way_at (ways ++ way ∷ []) (length ways) ≡ way
way_last ways way = get_or-append_seam ways way [] _

module _ (row : ℕ → List ℤ) (ways : List Way) (way : Way) where
  abbrev count : ℕ
  count = length ways

  abbrev here : List ℤ
  here = row count

  pub pushed_list : (paths : ℕ → List ℕ) → ((k : ℕ) → k < count → row k ≢ here)
      → all_reached paths row (ways ++ way ∷ []) ≡ joined (all_reached paths row ways) (reached_by paths here way)
  pushed_list paths none =
      let f = reached_at paths row ways in
      let g = reached_at paths row (ways ++ way ∷ []) in
      let longer : length (ways ++ way ∷ []) ≡ suc count = length_push ways way ∙ add-one count in
      let front : table g count ≡ table f count = table_same f g count (λ k h. ap (reached_by paths (row k)) (way_before ways way k h)) in
      let last : g count ≡ reached_by paths here way = ap (reached_by paths here) (way_last ways way) in
      ap (table g) longer
      ∙ (ap (λ (l : List Reached). l ++ g count ∷ []) front ∙ (ap (λ (x : Reached). table f count ++ x ∷ []) last
      ∙ sym (joined_new f (reached_by paths here way) count (λ k h e. none k h e))))

  pub pushed_apart : AreDistinctRows row count → ((k : ℕ) → k < count → row k ≢ here) → AreDistinctRows row (suc count)
  pushed_apart apart none j k less within = go (last_or k count within)
    where
      go : (k ≡ count) ⊎ (k < count) → row j ≢ row k
      go (inl e) same = none j (omega arith) (same ∙ ap row e)
      go (inr l) same = apart j k less l same

  pub pushed_ways : (dp : Dp) (k : ℕ) → AreWays dp k row ways → IsWay dp k here way → AreWays dp k row (ways ++ way ∷ [])
  pushed_ways dp k good new i less = go (last_or i count (let e = length_push ways way in omega arith))
    where
      go : (i ≡ count) ⊎ (i < count) → IsWay dp k (row i) (way_at (ways ++ way ∷ []) i)
      go (inl e) = subst (λ (j : ℕ). IsWay dp k (row j) (way_at (ways ++ way ∷ []) j)) (sym e) (subst (IsWay dp k here) (sym (way_last ways way)) new)
      go (inr l) = subst (IsWay dp k (row i)) (sym (way_before ways way i l)) (good i l)

-- A way to a state that is there.

module _ (row : ℕ → List ℤ) (ways : List Way) (way : Way) (new : List ℤ) where
  -- the way with the row of the place
  abbrev with_place : ℕ → Way
  with_place place = record way { row = (way_at ways place).row }

  pub bettered_list : (paths : ℕ → List ℕ) (place : ℕ) → place < length ways → row place ≡ new → AreDistinctRows row (length ways)
      → all_reached paths row (bettered ways place way) ≡ joined (all_reached paths row ways) (reached_by paths new way)
  bettered_list paths place less same apart = go (int_lt (way_at ways place).value way.value) refl
    where
      old : joined (table (reached_at paths row ways) (length ways)) (reached_by paths new way) ≡ set (table (reached_at paths row ways) (length ways)) place (better (reached_at paths row ways place) (reached_by paths new way))
      old = joined_old (reached_at paths row ways) (reached_by paths new way) (length ways) place less same (λ k h e. apart k place h less (e ∙ sym same))

      go : (b : Bool) → int_lt (way_at ways place).value way.value ≡ b
          → all_reached paths row (cond b (set ways place (with_place place)) ways) ≡ joined (all_reached paths row ways) (reached_by paths new way)
      go true e =
          let g = reached_at paths row (set ways place (with_place place)) in
          let there : g place ≡ better (reached_at paths row ways place) (reached_by paths new way) =
          ap₂ (λ r w. reached_by paths r w) same (get_or-set_same ways place (with_place place) _ less) ∙ sym (ap (λ c. cond c (reached_by paths new way) (reached_at paths row ways place)) e) in
          ap (table g) (length-set ways place (with_place place))
          ∙ (table_set (reached_at paths row ways) g (length ways) place less (λ i l n. ap (reached_by paths (row i)) (get_or-set_other ways place i (with_place place) _ n))
          ∙ (ap (set (table (reached_at paths row ways) (length ways)) place) there ∙ sym old))
      go false e =
          let stays : better (reached_at paths row ways place) (reached_by paths new way) ≡ reached_at paths row ways place = ap (λ c. cond c (reached_by paths new way) (reached_at paths row ways place)) e in
          sym (old ∙ (ap (set (table (reached_at paths row ways) (length ways)) place) stays
          ∙ sym (table_set (reached_at paths row ways) (reached_at paths row ways) (length ways) place less (λ i l n. refl))))

  pub length-bettered : (place : ℕ) → length (bettered ways place way) ≡ length ways
  length-bettered place = elim (int_lt (way_at ways place).value way.value) as (λ b. length (cond b (set ways place (with_place place)) ways) ≡ (length ways)) [ true ↦ length-set ways place (with_place place) | false ↦ refl ]

  pub rows-bettered : (place : ℕ) → place < length ways → rows_of (bettered ways place way) ≡ rows_of ways
  rows-bettered place less = elim (int_lt (way_at ways place).value way.value) as (λ b. rows_of (cond b (set ways place (with_place place)) ways) ≡ rows_of ways) [
    | true ↦
        map-set (λ (w : Way). w.row) ways place (with_place place)
        ∙ (ap (set (rows_of ways) place) (sym (get_or-map (λ (w : Way). w.row) ways place _ 0 less)) ∙ set-get_or (rows_of ways) place 0)
    | false ↦ refl
  ]

  pub bettered_ways : (dp : Dp) (k place : ℕ) → place < length ways → row place ≡ new → AreWays dp k row ways → IsWay dp k new way → AreWays dp k row (bettered ways place way)
  bettered_ways dp k place less same good one = elim (int_lt (way_at ways place).value way.value) as (λ b. AreWays dp k row (cond b (set ways place (with_place place)) ways)) [
    | true ↦ λ i l. go i (let e = length-set ways place (with_place place) in omega arith) (either i place)
    | false ↦ good
  ]
    where
      either : (a b : ℕ) → (a ≡ b) ⊎ (a ≢ b)
      either a b = grind arith

      go : (i : ℕ) → i < length ways → (i ≡ place) ⊎ (i ≢ place) → IsWay dp k (row i) (way_at (set ways place (with_place place)) i)
      go i l (inl e) = subst (λ (j : ℕ). IsWay dp k (row j) (way_at (set ways place (with_place place)) j)) (sym e)
          (subst (IsWay dp k (row place)) (sym (get_or-set_same ways place (with_place place) _ less)) (subst (λ r. IsWay dp k r (with_place place)) (sym same) (record { state = one.state; rank = one.rank; hash = one.hash; value = one.value })))
      go i l (inr n) = subst (IsWay dp k (row i)) (sym (get_or-set_other ways place i (with_place place) _ n)) (good i l)

-- The rows in a region.

pub rows-pushed : (ways : List Way) (way : Way) → rows_of (ways ++ way ∷ []) ≡ rows_of ways ++ way.row ∷ []
rows-pushed ways way = map-append (λ (w : Way). w.row) ways (way ∷ [])

pub row-kept : (region : RegionView) (ways ways2 : List Way) (i : ℕ) → i < length ways → i < length ways2 → get_or (rows_of ways2) i 0 ≡ get_or (rows_of ways) i 0 → way_row region ways2 i ≡ way_row region ways i
row-kept region ways ways2 i less within same =
    let f = λ (w : Way). w.row in
    ap (held_row region) (sym (get_or-map f ways2 i _ 0 within) ∙ (same ∙ get_or-map f ways i _ 0 less))

-- ways with the same places of rows have the same rows
pub row-same : (region : RegionView) (ways ways2 : List Way) → rows_of ways2 ≡ rows_of ways → (i : ℕ) → i < length ways → way_row region ways2 i ≡ way_row region ways i
row-same region ways ways2 same i less =
    let f = λ (w : Way). w.row in
    let long : length ways2 ≡ length ways = sym (length-map ways2 f) ∙ (ap length same ∙ length-map ways f) in
    row-kept region ways ways2 i less (omega arith) (ap (λ (l : List ℕ). get_or l i 0) same)

module _ (region : RegionView) (ways : List Way) (way : Way) where
  abbrev old_row : ℕ → List ℤ
  old_row = way_row region ways

  abbrev new_row : ℕ → List ℤ
  new_row = way_row region (ways ++ way ∷ [])

  pub pushed-before : (i : ℕ) → i < length ways → new_row i ≡ old_row i
  pushed-before i less = ap (λ (w : Way). held_row region w.row) (way_before ways way i less)

  pub pushed-here : new_row (length ways) ≡ held_row region way.row
  pushed-here = ap (λ (w : Way). held_row region w.row) (way_last ways way)

  pushed-none : (live : ℕ) → ((k : ℕ) → k < length ways → live_at old_row live k ≢ drop live (held_row region way.row)) → (k : ℕ) → k < length ways → new_row k ≢ new_row (length ways)
  pushed-none live none k less e = none k less (ap (drop live) (sym (pushed-before k less) ∙ (e ∙ pushed-here)))

  pushed-hashed : (dp : Dp) (k hash : ℕ) (hashes hashes2 : List ℕ) → length ways < length hashes → hashes2 ≡ set hashes (length ways) hash → hash ≡ dp.hash k (held_row region way.row)
      → AreHashed dp k new_row (length ways) hashes → AreHashed dp k new_row (length ways + 1) hashes2
  pushed-hashed dp k hash hashes hashes2 room is hash_is hashed i less = go (last_or i (length ways) (omega arith))
    where
      go : (i ≡ length ways) ⊎ (i < length ways) → get_or hashes2 i 0 ≡ dp.hash k (new_row i)
      go (inl e) = ap₂ (λ (l : List ℕ) (j : ℕ). get_or l j 0) is e ∙ (get_or-set_same hashes (length ways) hash 0 room ∙ (hash_is ∙ (ap (dp.hash k) (sym pushed-here) ∙ ap (λ (j : ℕ). dp.hash k (new_row j)) (sym e))))
      go (inr l) = ap (λ (fs : List ℕ). get_or fs i 0) is ∙ (get_or-set_other hashes (length ways) i hash 0 (λ e. omega arith) ∙ hashed i l)

  -- a way whose state is new goes after the others
  pub pushed-joined : (dp : Dp) (k live : ℕ) (hashes heads next hashes2 heads2 next2 : List ℕ) → length ways < length hashes → hashes2 ≡ set hashes (length ways) way.hash → ((k : ℕ) → k < length ways → live_at old_row live k ≢ drop live (held_row region way.row))
      → AreJoined dp k old_row live ways hashes heads next → IsWay dp k (held_row region way.row) way
      → (IsTable (length ways) hashes heads next → IsTable (length ways + 1) hashes2 heads2 next2)
      → AreJoined dp k new_row live (ways ++ way ∷ []) hashes2 heads2 next2
  pushed-joined dp k live hashes heads next hashes2 heads2 next2 room is none j one put =
      let longer : length (ways ++ way ∷ []) ≡ length ways + 1 = length_push ways way in
      let was = joined-same old_row new_row ways pushed-before dp k live hashes heads next j in
      record {
        table = subst (λ (n : ℕ). IsTable n hashes2 heads2 next2) (sym longer) (put was.table);
        hashed = subst (λ (n : ℕ). AreHashed dp k new_row n hashes2) (sym longer) (pushed-hashed dp k way.hash hashes hashes2 room is one.hash was.hashed);
        apart = subst (AreDistinctRows new_row) (sym (longer ∙ add-one (length ways))) (pushed_apart new_row ways way was.apart (pushed-none live none));
        good = pushed_ways new_row ways way dp k was.good (subst (λ r. IsWay dp k r way) (sym pushed-here) one);
      }

  pub pushed-list : (live : ℕ) → ((k : ℕ) → k < length ways → live_at old_row live k ≢ drop live (held_row region way.row)) → (paths : ℕ → List ℕ)
      → all_reached paths new_row (ways ++ way ∷ []) ≡ joined (all_reached paths old_row ways) (reached_by paths (held_row region way.row) way)
  pushed-list live none paths =
      pushed_list new_row ways way paths (pushed-none live none)
      ∙ ap₂ joined (reached-same old_row new_row ways pushed-before paths) (ap (λ r. reached_by paths r way) pushed-here)

  -- one whose state is there is compared with the way to it
  module _ (place : ℕ) (less : place < length ways) (same : old_row place ≡ held_row region way.row) where
    abbrev better_row : ℕ → List ℤ
    better_row = way_row region (bettered ways place way)

    pub bettered-before : (i : ℕ) → i < length ways → better_row i ≡ old_row i
    bettered-before = row-same region ways (bettered ways place way) (rows-bettered old_row ways way (held_row region way.row) place less)

    stays : (i : ℕ) → i < length (bettered ways place way) → better_row i ≡ old_row i
    stays i within = bettered-before i (let e = length-bettered old_row ways way (held_row region way.row) place in omega arith)

    pub bettered-joined : (dp : Dp) (k live : ℕ) (hashes heads next : List ℕ) → AreJoined dp k old_row live ways hashes heads next → IsWay dp k (held_row region way.row) way
        → AreJoined dp k better_row live (bettered ways place way) hashes heads next
    bettered-joined dp k live hashes heads next j one =
        let count = length-bettered old_row ways way (held_row region way.row) place in
        joined-same old_row better_row (bettered ways place way) stays dp k live hashes heads next (record {
          table = subst (λ (n : ℕ). IsTable n hashes heads next) (sym count) j.table;
          hashed = subst (λ (n : ℕ). AreHashed dp k old_row n hashes) (sym count) j.hashed;
          apart = subst (AreDistinctRows old_row) (sym count) j.apart;
          good = bettered_ways old_row ways way (held_row region way.row) dp k place less same j.good one;
        })

    pub bettered-list : (paths : ℕ → List ℕ) → AreDistinctRows old_row (length ways)
        → all_reached paths better_row (bettered ways place way) ≡ joined (all_reached paths old_row ways) (reached_by paths (held_row region way.row) way)
    bettered-list paths apart =
        reached-same old_row better_row (bettered ways place way) stays paths ∙ bettered_list old_row ways way (held_row region way.row) paths place less same apart

pub strict : (p n : ℕ) → p ≤ n → (p ≡ n → ⊥) → p < n
strict p n h k = grind arith
