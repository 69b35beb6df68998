-- What states have together, in whatever order they are joined.
use Rattle.std.proofs.Common.{◌≡◌, ℕ, Bool, true, false, not, ◌&&◌, ◌||◌, refl, sym, ap, ap₂, ◌∙◌, arith}
use Rattle.std.proofs.Math.Bool.{and_comm, and_assoc, or_comm, or_assoc}
use Rattle.std.proofs.Math.Nat.{min_comm}
use Rattle.std.proofs.Math.Path.{fun_ext}
use Rattle.node_sets.specs.Sets.{words_for}
use Rattle.pending_rows.specs.Pending.{Pending, shown, row_for, is_open, joined}
use Rattle.pending_rows.proofs.RowParts.{IsWithin, shown-row_for}
use Rattle.pending_rows.proofs.RowStates.{joined-bounded}

-- states with the same sets and the same time are one
same_pending : (a b : Pending) → a.must ≡ b.must → a.may ≡ b.may → a.time ≡ b.time → a ≡ b
same_pending a b must may time =
    ap₂ (λ (m : ℕ → Bool) (y : ℕ → Bool). let s : Pending = record { must = m; may = y; time = a.time } in s) must may
    ∙ ap (λ (t : ℕ). let s : Pending = record { must = b.must; may = b.may; time = t } in s) time

pub joined-swapped : (a b : Pending) → joined a b ≡ joined b a
unfolding joined
joined-swapped a b =
    same_pending (joined a b) (joined b a)
    (fun_ext (λ v. and_comm (a.must v) (b.must v)))
    (fun_ext (λ v. ap₂ (λ x y. x && not y) (or_comm (is_open a v) (is_open b v)) (and_comm (a.must v) (b.must v))))
    (min_comm a.time b.time)

-- what is open in one of two states is open in what they have together
open-joined : (a b : Pending) (v : ℕ) → is_open (joined a b) v ≡ (is_open a v || is_open b v)
unfolding joined
open-joined a b v = kept (a.must v) (a.may v) (b.must v) (b.may v)
  where
    kept : (x y z w : Bool) → ((x && z) || (((x || y) || (z || w)) && not (x && z))) ≡ ((x || y) || (z || w))
    kept true y true w = refl
    kept true y false w = refl
    kept false true z w = refl
    kept false false true w = refl
    kept false false false true = refl
    kept false false false false = refl

pub joined-regrouped : (a b c : Pending) → joined (joined a b) c ≡ joined a (joined b c)
unfolding joined
joined-regrouped a b c =
    same_pending (joined (joined a b) c) (joined a (joined b c))
    (fun_ext must)
    (fun_ext (λ v. ap₂ (λ x y. x && not y) (pending v) (must v)))
    (omega arith)
  where
    must : (v : ℕ) → ((a.must v && b.must v) && c.must v) ≡ (a.must v && (b.must v && c.must v))
    must v = and_assoc (a.must v) (b.must v) (c.must v)

    pending : (v : ℕ) → (is_open (joined a b) v || is_open c v) ≡ (is_open a v || is_open (joined b c) v)
    pending v =
        ap (λ x. x || is_open c v) (open-joined a b v) ∙ or_assoc (is_open a v) (is_open b v) (is_open c v)
        ∙ ap (λ x. is_open a v || x) (sym (open-joined b c v))

-- a row for what two states have together stands for it
pub shown-joined : (n : ℕ) (a b : Pending) → IsWithin n a → IsWithin n b → shown (words_for n) (row_for (words_for n) (joined a b)) ≡ joined a b
shown-joined n a b p q = shown-row_for n (joined a b) (joined-bounded n a b p q)
