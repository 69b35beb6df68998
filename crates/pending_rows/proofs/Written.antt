-- Rows that are put together from their parts.
use Rattle.std.proofs.Common.{◌≡◌, ℕ, ◌-◌, ◌*◌, ◌<◌, ◌≤◌, ℤ, pos, nat_abs, Bool, List, [], ◌∷◌, ◌++◌, length, take, drop, set, refl, ap, ap₂, ◌∙◌, arith, w64, to_z, of_z, FitsSigned}
use Rattle.std.proofs.lemmas.Int.{to_z_pos, to_z-of_z}
use Rattle.node_sets.specs.Sets.{row_of}
use Rattle.pending_rows.specs.Pending.{Pending, row_for, may_of, latest}

pub cell : (rest : List ℤ) (z : ℤ) → length rest ≡ 1 → set rest 0 z ≡ z ∷ []
cell [] z l = absurd (omega arith)
cell (x ∷ []) z l = refl
cell (x ∷ y ∷ rest) z l = absurd (omega arith)

pub row_same : (words n : ℕ) (p : List ℤ) (test : ℕ → Bool) → p ≡ row_of n test → n ≡ words → p ≡ row_of words test
row_same words n p test e l = e ∙ ap (λ k. row_of k test) l

pub assembled : (words : ℕ) (t : Pending) (m y rest : List ℤ) (nm ny : ℕ) (z : ℤ) → m ≡ row_of nm t.must → nm ≡ words → y ≡ row_of ny t.may → ny ≡ words → length rest ≡ 1 → z ≡ pos t.time → m ++ (y ++ set rest 0 z) ≡ row_for words t
assembled words t m y rest nm ny z em lm ey ly l e =
    ap₂ ◌++◌ (row_same words nm m t.must em lm) (ap₂ ◌++◌ (row_same words ny y t.may ey ly) (cell rest z l ∙ ap (λ z. z ∷ []) e))

pub time_cell : (n t : ℕ) → n ≡ t → n < 4611686018427387904 → to_z w64 n ≡ pos t
time_cell n t e l = to_z_pos w64 n (omega arith) ∙ ap pos e

pub fits_time : (t : ℕ) → t ≤ latest → FitsSigned w64 (pos t)
fits_time t l = record { sfits = omega arith }

-- a time is read as it stands in its cell
pub time_read : (z : ℤ) (t : ℕ) → z ≡ pos t → t ≤ latest → nat_abs (to_z w64 (of_z w64 z)) ≡ t
time_read z t e l = ap (λ z. nat_abs (to_z w64 (of_z w64 z))) e ∙ ap nat_abs (to_z-of_z w64 (pos t) (fits_time t l))

-- the second part of a row that was split
pub split_may : (w words : ℕ) (row following part : List ℤ) → words ≡ w → following ≡ drop words row → part ≡ take words following → part ≡ may_of w row
split_may w words row following part e b p = p ∙ ap₂ (λ (n : ℕ) (r : List ℤ). take n r) e (b ∙ ap (λ n. drop n row) e)

pub may_part : (w words : ℕ) (s : List ℤ) → words ≡ w → take (2 * words - words) (drop words s) ≡ may_of w s
may_part w words s e = ap₂ (λ n m. take n (drop m s)) (let l : 2 * words - words ≡ w = omega (arith, e) in l) e
