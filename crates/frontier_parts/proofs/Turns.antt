-- Places that pass a test, one after another, and the part of each place.
use Rattle.std.proofs.Common.{◌≡◌, ℕ, suc, ◌+◌, ◌<◌, ℤ, Bool, true, false, cond, List, [], ◌∷◌, ◌++◌, length, length-append, filter, refl, sym, ap, ◌∙◌, arith}
use Rattle.std.proofs.lemmas.List.Elements.{filter-append}
use Rattle.dp_model.specs.Decisions.{below}
use Rattle.dp_model.proofs.Members.{Has, Has-below, Has-below-from, Has-filter, Has-filter-from}
use Rattle.dp_model.proofs.RowLemmas.{nat_eq-is, nat_eq-self}
use Rattle.frontier_parts.specs.Dealing.{part_of, is_dealt, dealt_to}

below-next : (k : ℕ) → below (k + 1) ≡ below k ++ k ∷ []
below-next k = let next : k + 1 ≡ suc k = omega arith in rw next refl

passed_next : (p : ℕ → Bool) (k : ℕ) → filter p (below (k + 1)) ≡ filter p (below k) ++ cond (p k) (k ∷ []) []
passed_next p k = ap (filter p) (below-next k) ∙ filter-append p (below k) (k ∷ [])

one-long : (b : Bool) (k : ℕ) → length {A = ℕ} (cond b (k ∷ []) []) ≡ cond b 1 0
one-long true k = refl
one-long false k = refl

pub count_next : (p : ℕ → Bool) (k : ℕ) → length (filter p (below (k + 1))) ≡ length (filter p (below k)) + cond (p k) 1 0
count_next p k =
    ap length (passed_next p k) ∙ (length-append (filter p (below k)) (cond (p k) (k ∷ []) []) ∙ ap (λ n. length (filter p (below k)) + n) (one-long (p k) k))

pub dealt-own : (bounds : List ℤ) (of i : ℕ) → i < length bounds → Has i (dealt_to bounds of (part_of bounds of i))
dealt-own bounds of i within =
    Has-filter (is_dealt bounds of (part_of bounds of i)) (below (length bounds)) i (Has-below (length bounds) i within) (nat_eq-self (part_of bounds of i))

pub dealt-alone : (bounds : List ℤ) (of index i : ℕ) → Has i (dealt_to bounds of index) → (i < length bounds) × (index ≡ part_of bounds of i)
dealt-alone bounds of index i has =
    let from = Has-filter-from (is_dealt bounds of index) (below (length bounds)) i has in
    (Has-below-from (length bounds) i from.0, sym (nat_eq-is (part_of bounds of i) index from.1))
