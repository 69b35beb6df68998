-- Which rows are states, and what they keep.
use Rattle.std.proofs.Common.{◌≡◌, ℕ, ◌+◌, ◌-◌, ◌*◌, ◌<◌, ◌≤◌, ℤ, pos, negsuc, nat_abs, Bool, true, false, not, ◌&&◌, ◌||◌, nat_eq, List, length, drop, get_or, refl, sym, ap, ap₂, ◌∙◌, subst, arith, inl, inr, eq-eqb}
use Rattle.std.specs.Prelude.{int_le}
use Rattle.std.proofs.lemmas.Int.{ints}
use Rattle.std.proofs.lemmas.Bool.{cases_lt, false≢true, eqb-true, and_parts, and_from, not-true, leb-true, le-leb, le-ltb}
use Rattle.std.proofs.lemmas.List.{get_or-take, get_or-drop}
use Rattle.dp_model.specs.Lists.{Each}
use Rattle.dp_model.specs.Numbers.{IsSmall}
use Rattle.dp_model.specs.NumberLaws.{each_small, small_natural, small_positive}
use Rattle.node_sets.specs.Sets.{IsWord, IsSet, has, is_set, row_of, words_for}
use Rattle.node_sets.proofs.Below.{all_below-gives, all_below-from}
use Rattle.node_sets.proofs.Counts.{is_set-gives, is_set-from}
use Rattle.node_sets.proofs.Made.{length-row_of, AreWords-row_of}
use Rattle.pending_rows.specs.Pending.{Pending, IsPendingRow, must_of, may_of, time_of, shown, row_for, is_open, without, start, done, joined, is_apart, is_pending_row, latest}
use Rattle.pending_rows.proofs.RowParts.{IsWithin, must_of-row_for, may_of-row_for, time_of-row_for, length-row_for, shown-row_for, has-row_of-all, words_enough}

-- ---- the test

-- nothing both must and may be done
abbrev pub IsApart : Pending → Type 0
IsApart t = (v : ℕ) → t.must v ≡ true → t.may v ≡ false

pub one_of : (a b : Bool) → not (a && b) ≡ true → a ≡ true → b ≡ false
one_of true b e p = not-true b e
one_of false b e p = absurd (false≢true p)

pub one_of-from : (a b : Bool) → (a ≡ true → b ≡ false) → not (a && b) ≡ true
one_of-from true b h = ap not (h refl)
one_of-from false b h = refl

pub record IsTime (z : ℤ) : Type 0 where
  pub is : z ≡ pos (nat_abs z)
  pub most : nat_abs z ≤ latest

pub time-gives : (z : ℤ) → int_le (pos 0) z ≡ true → int_le z (pos latest) ≡ true → IsTime z
time-gives (pos n) p q = record { is = refl; most = leb-true n latest q }
time-gives (negsuc n) p q = absurd (false≢true p)

-- a member of a set of numbers below n is below n
pub inside_set : (n : ℕ) (row : List ℤ) (v : ℕ) → IsSet n row → has row v ≡ true → v < n
inside_set n row v set e =
    elim (cases_lt v n) [
      | inl l ↦ l
      | inr l ↦ absurd (false≢true (sym (set.within v l) ∙ e))
    ]

pub row-gives : (n : ℕ) (s : List ℤ) → is_pending_row n s ≡ true → IsPendingRow n s
unfolding shown
row-gives n s e0 =
    let e1 = and_parts (nat_eq (length s) (2 * words_for n + 1)) _ e0 in
    let e2 = and_parts (is_set n (must_of (words_for n) s)) _ e1.1 in
    let e3 = and_parts (is_set n (may_of (words_for n) s)) _ e2.1 in
    let e4 = and_parts (is_apart n (shown (words_for n) s)) _ e3.1 in
    let e5 = and_parts (int_le (pos 0) (time_of (words_for n) s)) _ e4.1 in
    let time = time-gives (time_of (words_for n) s) e5.0 e5.1 in
    let must = is_set-gives n (must_of (words_for n) s) e2.0 in
    record {
      cells = eqb-true (length s) (2 * words_for n + 1) e1.0;
      must = must;
      may = is_set-gives n (may_of (words_for n) s) e3.0;
      apart = λ v e. one_of (has (must_of (words_for n) s) v) (has (may_of (words_for n) s) v) (all_below-gives n (λ v. not (has (must_of (words_for n) s) v && has (may_of (words_for n) s) v)) e4.0 v (inside_set n (must_of (words_for n) s) v must e)) e;
      time = time.is;
      early = time.most;
    }

pub row-from_facts : (n : ℕ) (s : List ℤ) → IsPendingRow n s → is_pending_row n s ≡ true
unfolding shown
row-from_facts n s h =
    let early : int_le (time_of (words_for n) s) (pos latest) ≡ true = ap (λ z. int_le z (pos latest)) h.time ∙ le-leb (shown (words_for n) s).time latest h.early in
    let low : int_le (pos 0) (time_of (words_for n) s) ≡ true = ap (λ z. int_le (pos 0) z) h.time ∙ le-leb 0 (shown (words_for n) s).time (omega arith) in
    and_from (nat_eq (length s) (2 * words_for n + 1)) _ (eq-eqb (length s) (2 * words_for n + 1) h.cells)
    (and_from (is_set n (must_of (words_for n) s)) _ (is_set-from n (must_of (words_for n) s) h.must)
    (and_from (is_set n (may_of (words_for n) s)) _ (is_set-from n (may_of (words_for n) s) h.may)
    (and_from (is_apart n (shown (words_for n) s)) _ (all_below-from n (λ v. not (has (must_of (words_for n) s) v && has (may_of (words_for n) s) v)) (λ v l. one_of-from (has (must_of (words_for n) s) v) (has (may_of (words_for n) s) v) (h.apart v)))
    (and_from (int_le (pos 0) (time_of (words_for n) s)) _ low early))))

pub bounded : (n : ℕ) (s : List ℤ) → IsPendingRow n s → IsWithin n (shown (words_for n) s)
unfolding shown
bounded n s h = record { must = h.must.within; may = h.may.within }

pub apart_shown : (n : ℕ) (s : List ℤ) → IsPendingRow n s → IsApart (shown (words_for n) s)
unfolding shown
apart_shown n s h = h.apart

-- ---- rows that are made of states

pub set-row_of : (n : ℕ) (test : ℕ → Bool) → ((v : ℕ) → n ≤ v → test v ≡ false) → IsSet n (row_of (words_for n) test)
set-row_of n test h = record {
  words = length-row_of (words_for n) test;
  cells = AreWords-row_of (words_for n) test;
  within = λ v m. has-row_of-all (words_for n) n test (words_enough n) h v ∙ h v m;
}

pub row-from : (n : ℕ) (t : Pending) → IsWithin n t → IsApart t → t.time ≤ latest → is_pending_row n (row_for (words_for n) t) ≡ true
row-from n t b apart early =
    let is = shown-row_for n t b in
    let must = must_of-row_for (words_for n) t in
    let may = may_of-row_for (words_for n) t in
    row-from_facts n (row_for (words_for n) t) (record {
      cells = length-row_for (words_for n) t;
      must = subst (IsSet n) (sym must) (set-row_of n t.must b.must);
      may = subst (IsSet n) (sym may) (set-row_of n t.may b.may);
      apart = λ v e.
          ap (λ r. has r v) may ∙ has-row_of-all (words_for n) n t.may (words_enough n) b.may v
          ∙ apart v (sym (ap (λ r. has r v) must ∙ has-row_of-all (words_for n) n t.must (words_enough n) b.must v) ∙ e);
      time = time_of-row_for (words_for n) t ∙ ap (λ (s : Pending). pos s.time) (sym is);
      early = subst (λ (s : Pending). s.time ≤ latest) (sym is) early;
    })

pub start-bounded : (n : ℕ) → IsWithin n (start n)
unfolding start
start-bounded n = record { must = λ v m. le-ltb v n m; may = λ v m. refl }

pub start-apart : (n : ℕ) → IsApart (start n)
unfolding start
start-apart n v e = refl

pub done-bounded : (n : ℕ) (t : Pending) (d time : ℕ) → IsWithin n t → IsWithin n (done t d time)
unfolding done
done-bounded n t d time b = record { must = λ v m. ap (λ x. x && not (nat_eq v d)) (b.must v m); may = λ v m. ap (λ x. x && not (nat_eq v d)) (b.may v m) }

pub done-apart : (t : Pending) (d time : ℕ) → IsApart t → IsApart (done t d time)
unfolding done
done-apart t d time h v e = ap (λ x. x && not (nat_eq v d)) (h v (and_parts (t.must v) (not (nat_eq v d)) e).0)

pub done-time : (t : Pending) (d time : ℕ) → (done t d time).time ≡ time
unfolding done
done-time t d time = refl

pub done-must : (t : Pending) (d time : ℕ) → (done t d time).must ≡ without t.must d
unfolding done
done-must t d time = refl

pub joined-bounded : (n : ℕ) (a b : Pending) → IsWithin n a → IsWithin n b → IsWithin n (joined a b)
unfolding joined
joined-bounded n a b p q = record {
  must = λ v m. ap₂ ◌&&◌ (p.must v m) (q.must v m);
  may = λ v m. ap (λ x. x && not (a.must v && b.must v)) (ap₂ ◌||◌ (ap₂ ◌||◌ (p.must v m) (p.may v m)) (ap₂ ◌||◌ (q.must v m) (q.may v m)));
}

pub joined-apart : (a b : Pending) → IsApart (joined a b)
unfolding joined
joined-apart a b v e = neither (is_open a v || is_open b v) (a.must v && b.must v) e
  where
    neither : (x y : Bool) → y ≡ true → (x && not y) ≡ false
    neither true true e = refl
    neither false true e = refl
    neither x false e = absurd (false≢true e)

pub joined-time : (a b : Pending) → (joined a b).time ≤ a.time
unfolding joined
joined-time a b = omega arith

-- ---- the cells of a row are small

pub word_small : (z : ℤ) → IsWord z → IsSmall z
word_small z w = small_positive z w.low (omega (arith, ints, w.high))

pub cell_small : (n : ℕ) (s : List ℤ) → IsPendingRow n s → (k : ℕ) → k < length s → IsSmall (get_or s k (pos 0))
cell_small n s row k l =
    elim (cases_lt k (words_for n)) [
      | inl a ↦ subst IsSmall (get_or-take (words_for n) s k (pos 0) a) (word_small (get_or (must_of (words_for n) s) k (pos 0)) (row.must.cells k))
      | inr a ↦ (elim (cases_lt k (2 * words_for n)) [
        | inl b ↦ (let at : words_for n + (k - words_for n) ≡ k = omega arith in
            subst IsSmall (get_or-take (words_for n) (drop (words_for n) s) (k - words_for n) (pos 0) (omega arith) ∙ get_or-drop (words_for n) s (k - words_for n) (pos 0) ∙ ap (λ j. get_or s j (pos 0)) at)
            (word_small (get_or (may_of (words_for n) s) (k - words_for n) (pos 0)) (row.may.cells (k - words_for n))))
        | inr b ↦ (let at : 2 * words_for n ≡ k = omega (arith, row.cells) in
            subst IsSmall (sym row.time ∙ ap (λ j. get_or s j (pos 0)) at) (small_natural (shown (words_for n) s).time (omega (arith, row.early))))
      ])
    ]

pub cells_small : (n : ℕ) (s : List ℤ) → IsPendingRow n s → Each IsSmall s
cells_small n s row = each_small s (cell_small n s row)
