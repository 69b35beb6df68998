-- What the tests on rows and on lists of decisions mean.
use Rattle.std.proofs.Common.{◌≡◌, ℕ, ℤ, int_le, ◌&&◌, nat_eq, List, [], ◌∷◌, ◌++◌, IsTrue, refl, sym, subst, arith}
use Rattle.std.proofs.lemmas.Bool.{and_parts}
use Rattle.std.proofs.lemmas.Int.{ints}
use Rattle.dp_model.specs.Decisions.{begins}
use Rattle.dp_model.specs.NumberLaws.{int_le-is}
use Rattle.dp_model.specs.Numbers.{int_same}
use Rattle.dp_model.specs.Rows.{row_same}

pub int_same-self : (a : ℤ) → IsTrue (int_same a a)
int_same-self a = grind (arith, ints)

pub int_same-is : (a b : ℤ) → IsTrue (int_same a b) → a ≡ b
int_same-is a b h =
    let parts = and_parts (int_le a b) (int_le b a) h in
    omega (arith, ints, int_le-is a b parts.0, int_le-is b a parts.1)

pub row_same-self : (a : List ℤ) → IsTrue (row_same a a)
row_same-self [] = refl
row_same-self (x ∷ a) = let one = int_same-self x in let rest = row_same-self a in subst (λ v. IsTrue (v && row_same a a)) (sym one) rest

-- rows that the test finds the same are equal
pub row_same-is : (a b : List ℤ) → IsTrue (row_same a b) → a ≡ b
row_same-is [] [] h = refl
row_same-is [] (y ∷ b) h = absurd (grind arith)
row_same-is (x ∷ a) [] h = absurd (grind arith)
row_same-is (x ∷ a) (y ∷ b) h =
    let parts = and_parts (int_same x y) (row_same a b) h in
    let one = int_same-is x y parts.0 in
    let rest = row_same-is a b parts.1 in
    cc

pub nat_eq-is : (a b : ℕ) → IsTrue (nat_eq a b) → a ≡ b
nat_eq-is a b h = grind arith

pub nat_eq-self : (a : ℕ) → IsTrue (nat_eq a a)
nat_eq-self a = grind arith

-- a list that begins with another is that one and a rest
pub begins-is : (p x : List ℕ) → IsTrue (begins p x) → (rest : List ℕ) × (x ≡ p ++ rest)
begins-is [] x h = (x, refl)
begins-is (d ∷ p) [] h = absurd (grind arith)
begins-is (d ∷ p) (e ∷ x) h =
    let parts = and_parts (nat_eq d e) (begins p x) h in
    let one = nat_eq-is d e parts.0 in
    let rest = begins-is p x parts.1 in
    (rest.0, (let same = rest.1 in cc))

pub begins-append : (p rest : List ℕ) → IsTrue (begins p (p ++ rest))
begins-append [] rest = refl
begins-append (d ∷ p) rest = subst (λ v. IsTrue (v && begins p (p ++ rest))) (sym (nat_eq-self d)) (begins-append p rest)
