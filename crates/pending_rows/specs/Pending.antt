-- What must and what may still be done, and the time; and the rows that stand for it.
use Rattle.std.specs.Prelude.{◌≡◌, ℕ, ◌+◌, ◌*◌, ◌≤◌, ℤ, pos, unsigned_abs, min, Bool, true, false, not, ◌&&◌, ◌||◌, nat_eq, nat_lt, nat_le, int_le, List, [], ◌∷◌, ◌++◌, length, take, drop, get_or}
use Rattle.node_sets.specs.Sums.{all_below}
use Rattle.node_sets.specs.Sets.{IsSet, has, is_set, row_of, words_for}

pub record Pending : Type 0 where
  pub must : ℕ → Bool
  pub may : ℕ → Bool
  pub time : ℕ

-- the parts of a row: two sets of as many words, and the time
abbrev pub must_of : ℕ → List ℤ → List ℤ
must_of words s = take words s

abbrev pub may_of : ℕ → List ℤ → List ℤ
may_of words s = take words (drop words s)

abbrev pub time_of : ℕ → List ℤ → ℤ
time_of words s = get_or s (2 * words) (pos 0)

-- the state that a row stands for
unfoldable pub shown : ℕ → List ℤ → Pending
shown words s = record {
  must = has (must_of words s);
  may = has (may_of words s);
  time = unsigned_abs (time_of words s);
}

-- the row that stands for a state
abbrev pub row_for : ℕ → Pending → List ℤ
row_for words t = row_of words t.must ++ (row_of words t.may ++ pos t.time ∷ [])

-- what must or may be done
abbrev pub is_open : Pending → ℕ → Bool
is_open t v = t.must v || t.may v

-- a set without a number
abbrev pub without : (ℕ → Bool) → ℕ → ℕ → Bool
without test d v = test v && not (nat_eq v d)

-- at the start all of the n numbers must be done
unfoldable pub start : ℕ → Pending
start n = record { must = λ v. nat_lt v n; may = λ v. false; time = 0 }

-- the state in which a number is done, at a time
unfoldable pub done : Pending → ℕ → ℕ → Pending
done t d time = record { must = without t.must d; may = without t.may d; time = time }

-- what two states have together: what both must do, all else that is open in one as what may be done, the lesser time
unfoldable pub joined : Pending → Pending → Pending
joined a b = record {
  must = λ v. a.must v && b.must v;
  may = λ v. (is_open a v || is_open b v) && not (a.must v && b.must v);
  time = min a.time b.time;
}

-- whether each member of the one set is a member of the other
abbrev pub is_within : ℕ → (ℕ → Bool) → (ℕ → Bool) → Bool
is_within n part whole = all_below n (λ v. whole v || not (part v))

-- whether each way on from b is one from a, and no later
abbrev pub covers : ℕ → Pending → Pending → Bool
covers n a b = is_within n a.must b.must && (is_within n (is_open b) (is_open a) && nat_le a.time b.time)

-- whether nothing both must and may be done
abbrev pub is_apart : ℕ → Pending → Bool
is_apart n t = all_below n (λ v. not (t.must v && t.may v))

-- the last time that a row may have: 10^12
abbrev pub latest : ℕ
latest = 1000000000000

-- whether a row is a state: two sets that are apart, and a time
abbrev pub is_pending_row : ℕ → List ℤ → Bool
is_pending_row n s =
    nat_eq (length s) (2 * words_for n + 1)
    && (is_set n (must_of (words_for n) s)
    && (is_set n (may_of (words_for n) s)
    && (is_apart n (shown (words_for n) s)
    && (int_le (pos 0) (time_of (words_for n) s) && int_le (time_of (words_for n) s) (pos latest)))))

-- that test, as facts
pub record IsPendingRow (n : ℕ) (s : List ℤ) : Type 0 where
  pub cells : length s ≡ 2 * words_for n + 1
  pub must : IsSet n (must_of (words_for n) s)
  pub may : IsSet n (may_of (words_for n) s)
  pub apart : (v : ℕ) → has (must_of (words_for n) s) v ≡ true → has (may_of (words_for n) s) v ≡ false
  pub time : time_of (words_for n) s ≡ pos (shown (words_for n) s).time
  pub early : (shown (words_for n) s).time ≤ latest
