-- Rows and the states that they stand for.
use Rattle.std.proofs.Common.{◌≡◌, ℕ, ◌+◌, ◌-◌, ◌*◌, ◌≤◌, ℤ, pos, nat_abs, Bool, false, List, [], ◌∷◌, ◌++◌, length, get_or, take, refl, sym, ap, ap₂, ◌∙◌, arith, inl, inr}
use Rattle.std.proofs.Math.Path.{fun_ext}
use Rattle.std.proofs.lemmas.Bool.{cases_lt}
use Rattle.std.proofs.lemmas.List.{take_at, drop_at, get_or-append_right, length-append}
use Rattle.node_sets.specs.Sets.{has, row_of, words_for}
use Rattle.node_sets.proofs.Words.{has-past}
use Rattle.node_sets.proofs.Made.{length-row_of, has-row_of}
use Rattle.pending_rows.specs.Pending.{Pending, must_of, may_of, time_of, shown, row_for}

-- no set of the state has a member at or above n
pub record IsWithin (n : ℕ) (t : Pending) : Type 0 where
  pub must : (v : ℕ) → n ≤ v → t.must v ≡ false
  pub may : (v : ℕ) → n ≤ v → t.may v ≡ false

pub words_enough : (n : ℕ) → n ≤ 32 * words_for n
words_enough n = omega arith

pub has-row_of-all : (words n : ℕ) (test : ℕ → Bool) → n ≤ 32 * words → ((v : ℕ) → n ≤ v → test v ≡ false) → (v : ℕ) → has (row_of words test) v ≡ test v
has-row_of-all words n test l h v =
    elim (cases_lt v (32 * words)) [
      | inl m ↦ has-row_of words test v m
      | inr m ↦ has-past (row_of words test) v (omega (arith, length-row_of words test)) ∙ sym (h v (omega arith))
    ]

pub must_of-row_for : (words : ℕ) (t : Pending) → must_of words (row_for words t) ≡ row_of words t.must
must_of-row_for words t = take_at (row_of words t.must) _ words (length-row_of words t.must)

pub may_of-row_for : (words : ℕ) (t : Pending) → may_of words (row_for words t) ≡ row_of words t.may
may_of-row_for words t =
    ap (take words) (drop_at (row_of words t.must) (row_of words t.may ++ pos t.time ∷ []) words (length-row_of words t.must))
    ∙ take_at (row_of words t.may) (pos t.time ∷ []) words (length-row_of words t.may)

-- after the first cells of a row
pub following : (front rest : List ℤ) (words k : ℕ) → length front ≡ words → get_or (front ++ rest) (words + k) (pos 0) ≡ get_or rest k (pos 0)
following front rest words k l =
    get_or-append_right front rest words (words + k) (pos 0) l (omega arith) ∙ (let e : words + k - words ≡ k = omega arith in ap (λ j. get_or rest j (pos 0)) e)

two_words : (words : ℕ) → 2 * words ≡ words + (words + 0)
two_words words = omega arith

pub time_of-row_for : (words : ℕ) (t : Pending) → time_of words (row_for words t) ≡ pos t.time
time_of-row_for words t =
    ap (λ k. get_or (row_for words t) k (pos 0)) (two_words words)
    ∙ following (row_of words t.must) _ words (words + 0) (length-row_of words t.must)
    ∙ following (row_of words t.may) _ words 0 (length-row_of words t.may)

pub length-row_for : (words : ℕ) (t : Pending) → length (row_for words t) ≡ 2 * words + 1
length-row_for words t =
    length-append (row_of words t.must) _ ∙ ap₂ ◌+◌ (length-row_of words t.must) (length-append (row_of words t.may) _ ∙ ap₂ ◌+◌ (length-row_of words t.may) refl)
    ∙ (let total : words + (words + 1) ≡ 2 * words + 1 = omega arith in total)

-- a row stands for the state that it was made for
pub shown-row_for : (n : ℕ) (t : Pending) → IsWithin n t → shown (words_for n) (row_for (words_for n) t) ≡ t
unfolding shown
shown-row_for n t h =
    ap₂ (λ (m : ℕ → Bool) (y : ℕ → Bool). let s : Pending = record { must = m; may = y; time = nat_abs (time_of (words_for n) (row_for (words_for n) t)) } in s)
    (ap has (must_of-row_for (words_for n) t) ∙ fun_ext (has-row_of-all (words_for n) n t.must (words_enough n) h.must))
    (ap has (may_of-row_for (words_for n) t) ∙ fun_ext (has-row_of-all (words_for n) n t.may (words_enough n) h.may))
    ∙ ap (λ (m : ℕ). let s : Pending = record { must = t.must; may = t.may; time = m } in s) (ap nat_abs (time_of-row_for (words_for n) t))
