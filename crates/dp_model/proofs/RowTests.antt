-- `==` on rows is the test on rows.
use Rattle.std.proofs.Common.{◌≡◌, ℤ, Bool, true, false, List, refl, sym, subst}
use Rattle.std.proofs.lemmas.Bool.Decides.{Decides-int_eq}
use Rattle.std.proofs.lemmas.Slice.Eq.{slice_eq-Decides}
use Rattle.std.specs.Cmp.Lexicographic.{pointwise}
use Rattle.std.specs.Ordering.{int_eq}
use Rattle.dp_model.specs.Rows.{row_same}
use Rattle.dp_model.proofs.RowLemmas.{row_same-is, row_same-self}

pub same-self : (a b : List ℤ) → a ≡ b → row_same a b ≡ true
same-self a b h = subst (λ (r : List ℤ). row_same a r ≡ true) h (row_same-self a)

-- what has the same answers is the same test
pub same-tests : (a b : Bool) → (a ≡ true → b ≡ true) → (b ≡ true → a ≡ true) → a ≡ b
same-tests true b f g = sym (f refl)
same-tests false true f g = g refl
same-tests false false f g = refl

-- `==` on rows
pub row_same-compared : (a b : List ℤ) (r : Bool) → r ≡ pointwise int_eq a b → r ≡ row_same a b
row_same-compared a b r h =
    let tells = slice_eq-Decides Decides-int_eq a b r h in
    same-tests r (row_same a b) (λ e. same-self a b (tells.0 e)) (λ e. tells.1 (row_same-is a b e))
