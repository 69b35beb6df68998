-- What the code reads of rows.
use Rattle.std.proofs.Common.{◌≡◌, ℕ, ◌+◌, ◌*◌, ◌<◌, ◌≤◌, ℤ, pos, ◌-ℤ◌, Bool, true, false, ◌||◌, List, length, refl, sym, ap, ap₂, ◌∙◌, arith, inl, inr, to_z, of_z, w64}
use Rattle.std.specs.Prelude.{int_le}
use Rattle.std.proofs.lemmas.Int.{ints, to_z-of_z}
use Rattle.std.proofs.lemmas.Bool.{false≢true, or_cases, cases_Bool, le-leb}
use Rattle.std.proofs.lemmas.Bool.Decides.{same_from_decides}
use Rattle.node_sets.specs.Sums.{count_below}
use Rattle.node_sets.specs.Sets.{IsSet, has, is_set, words_for}
use Rattle.node_sets.proofs.Below.{sum_below-same, sum_below-skip, count_below-le}
use Rattle.node_sets.proofs.Counts.{is_set-gives}
use Rattle.pending_rows.specs.Pending.{must_of, may_of, time_of, shown, is_open, without, covers, is_pending_row, latest}
use Rattle.pending_rows.proofs.RowStates.{inside_set, row-gives, row-from_facts, time-gives}
use Rattle.pending_rows.proofs.Covering.{Covers, covers-gives, covers-from, sum-without, without-other}
use Rattle.pending_rows.proofs.Written.{fits_time}

pub by_cases : (b : Bool) → (b ≡ true → ⊥) → b ≡ false
by_cases true h = absurd (h refl)
by_cases false h = refl

-- ---- parts as shown

pub must-shown : (w : ℕ) (s m : List ℤ) (v : ℕ) → m ≡ must_of w s → has m v ≡ (shown w s).must v
unfolding shown
must-shown w s m v e = ap (λ r. has r v) e

pub may-shown : (w : ℕ) (s m : List ℤ) (v : ℕ) → m ≡ may_of w s → has m v ≡ (shown w s).may v
unfolding shown
may-shown w s m v e = ap (λ r. has r v) e

pub open_shown : (w : ℕ) (s m y : List ℤ) (v : ℕ) {b : Bool} → m ≡ must_of w s → y ≡ may_of w s → (has m v || has y v) ≡ b → is_open (shown w s) v ≡ b
open_shown w s m y v e f h = sym (ap₂ ◌||◌ (must-shown w s m v e) (may-shown w s y v f)) ∙ h

pub open_inside : (n : ℕ) (m y : List ℤ) (v : ℕ) → IsSet n m → IsSet n y → (has m v || has y v) ≡ true → v < n
open_inside n m y v ms ys h = elim (or_cases (has m v) (has y v) h) [ inl e ↦ inside_set n m v ms e | inr e ↦ inside_set n y v ys e ]

-- ---- what the tests of sets tell of covering

pub must_cover : (n w : ℕ) (a s p q : List ℤ) (r : Bool) → p ≡ must_of w a → q ≡ must_of w s → IsSet n p → (((v : ℕ) → has p v ≡ true → has q v ≡ true) → r ≡ true) → r ≡ false → covers n (shown w a) (shown w s) ≡ false
unfolding shown
must_cover n w a s p q r e f set from fails =
    by_cases (covers n (shown w a) (shown w s)) (λ t. let c = covers-gives n (shown w a) (shown w s) t in
    false≢true (sym fails ∙ from (λ v h. ap (λ x. has x v) f ∙ c.must v (inside_set n p v set h) (ap (λ x. has x v) (sym e) ∙ h))))

pub all_cover : (n w : ℕ) (a s ma ya ms ys : List ℤ) (ta ts : ℕ) (m r : Bool)
    → ma ≡ must_of w a → ya ≡ may_of w a → ms ≡ must_of w s → ys ≡ may_of w s → ta ≡ (shown w a).time → ts ≡ (shown w s).time
    → IsSet n ms → IsSet n ys → ta ≤ ts → m ≡ true → (m ≡ true → (v : ℕ) → has ma v ≡ true → has ms v ≡ true)
    → (r ≡ true → (v : ℕ) → (has ms v || has ys v) ≡ true → (has ma v || has ya v) ≡ true) → (((v : ℕ) → (has ms v || has ys v) ≡ true → (has ma v || has ya v) ≡ true) → r ≡ true)
    → r ≡ covers n (shown w a) (shown w s)
unfolding shown
all_cover n w a s ma ya ms ys ta ts m r ema eya ems eys eta ets must_set may_set early mt mh to from =
    same_from_decides {P = Covers n (shown w a) (shown w s)} r (covers n (shown w a) (shown w s)) (
      (λ e. record {
        must = λ v l h. ap (λ x. has x v) (sym ems) ∙ mh mt v (ap (λ x. has x v) ema ∙ h);
        pending = λ v l h. ap₂ (λ x y. has x v || has y v) (sym ema) (sym eya) ∙ to e v (ap₂ (λ x y. has x v || has y v) ems eys ∙ h);
        time = omega (arith, eta, ets, early);
      }),
      (λ c. from (λ v h. ap₂ (λ x y. has x v || has y v) ema eya ∙ c.pending v (open_inside n ms ys v must_set may_set h) (ap₂ (λ x y. has x v || has y v) (sym ems) (sym eys) ∙ h))),
    )
    (covers-gives n (shown w a) (shown w s), covers-from n (shown w a) (shown w s))

-- ---- the test of a row

pub not_apart : (n : ℕ) (s m y : List ℤ) (r : Bool) → m ≡ must_of (words_for n) s → y ≡ may_of (words_for n) s → (((v : ℕ) → has m v ≡ true → has y v ≡ false) → r ≡ true) → r ≡ false → false ≡ is_pending_row n s
not_apart n s m y r e f from fails =
    sym (by_cases (is_pending_row n s) (λ t. let row = row-gives n s t in
    false≢true (sym fails ∙ from (λ v h. ap (λ x. has x v) f ∙ row.apart v (sym (ap (λ x. has x v) e) ∙ h)))))

-- what is left of the test where the sets are apart and the time is not below 0
pub time_last : (n : ℕ) (s m y : List ℤ) (x : ℤ) → length s ≡ 2 * words_for n + 1 → m ≡ must_of (words_for n) s → y ≡ may_of (words_for n) s → is_set n m ≡ true → is_set n y ≡ true → ((v : ℕ) → has m v ≡ true → has y v ≡ false)
    → x ≡ time_of (words_for n) s → int_le (pos 0) x ≡ true → int_le x (pos latest) ≡ is_pending_row n s
unfolding shown
time_last n s m y x cells e f ms ys apart is low =
    elim (cases_Bool (int_le x (pos latest))) [
      | inl high ↦ (let time = time-gives (time_of (words_for n) s) (ap (int_le (pos 0)) (sym is) ∙ low) (ap (λ z. int_le z (pos latest)) (sym is) ∙ high) in
          high ∙ sym (row-from_facts n s (record {
            cells = cells;
            must = is_set-gives n (must_of (words_for n) s) (ap (is_set n) (sym e) ∙ ms);
            may = is_set-gives n (may_of (words_for n) s) (ap (is_set n) (sym f) ∙ ys);
            apart = λ v h. ap (λ r. has r v) (sym f) ∙ apart v (ap (λ r. has r v) e ∙ h);
            time = time.is;
            early = time.most;
          })))
      | inr late ↦ late ∙ sym (by_cases (is_pending_row n s) (λ t. let row = row-gives n s t in
          false≢true (sym late ∙ ap (λ z. int_le z (pos latest)) (is ∙ row.time) ∙ le-leb (shown (words_for n) s).time latest row.early)))
    ]

-- ---- how many must be done

pub count_shown : (n w : ℕ) (s m : List ℤ) → m ≡ must_of w s → IsSet n m → count_below (32 * length m) (has m) ≡ count_below n (shown w s).must
count_shown n w s m e set =
    sum_below-skip n (32 * length m) (has m) (λ _. 1) (omega (arith, set.words)) (λ v a b. set.within v a) ∙ sum_below-same n (has m) (shown w s).must (λ _. 1) (λ v l. must-shown w s m v e)

-- a count is read as it is
pub read_count : (z : ℤ) (n : ℕ) (test : ℕ → Bool) → z ≡ pos (count_below n test) → n ≤ 1024 → to_z w64 (of_z w64 z) ≡ pos (count_below n test)
read_count z n test e few = ap (λ z. to_z w64 (of_z w64 z)) e ∙ to_z-of_z w64 (pos (count_below n test)) (let most = count_below-le n test in fits_time (count_below n test) (omega (arith, most, few)))

-- one less where the number must be done
pub left_taken : (n d : ℕ) (test : ℕ → Bool) (rank : ℤ) → n ≤ 1024 → d < n → rank ≡ pos (count_below n test) → test d ≡ true → to_z w64 (of_z w64 (to_z w64 (of_z w64 rank) -ℤ pos 1)) ≡ pos (count_below n (without test d))
left_taken n d test rank few inside e there =
    let read = read_count rank n test e few in
    let less = sum-without n d test (λ _. 1) inside there in
    let following : to_z w64 (of_z w64 rank) -ℤ pos 1 ≡ pos (count_below n (without test d)) = omega (arith, ints, read, less) in
    read_count (to_z w64 (of_z w64 rank) -ℤ pos 1) n (without test d) following few

pub left_kept : (n d : ℕ) (test : ℕ → Bool) (rank : ℤ) → n ≤ 1024 → rank ≡ pos (count_below n test) → test d ≡ false → to_z w64 (of_z w64 rank) ≡ pos (count_below n (without test d))
left_kept n d test rank few e none = read_count rank n test e few ∙ ap pos (without-other n d test (λ _. 1) none)
