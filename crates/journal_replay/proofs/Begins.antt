-- Whether a list begins with another, as slices tell it.
use Rattle.std.proofs.Common.{◌≡◌, ℕ, ◌<◌, nat_eq, nat_lt, Bool, true, ◌&&◌, List, [], ◌∷◌, length, take, refl, sym, ◌∙◌, ap, arith}
use Rattle.std.proofs.lemmas.Bool.Decides.{nat_tests}
use Rattle.std.specs.Cmp.Lexicographic.{pointwise}
use Rattle.dp_model.specs.Decisions.{begins}

begins-pointwise : (p x : List ℕ) → pointwise nat_eq p (take (length p) x) ≡ begins p x
begins-pointwise [] x = refl
begins-pointwise (d ∷ p) [] = refl
begins-pointwise (d ∷ p) (e ∷ x) = ap (λ b. nat_eq d e && b) (begins-pointwise p x)

pub extends-longer : (p x : List ℕ) (starts : Bool) → length p < length x → starts ≡ pointwise nat_eq p (take (length p) x) → starts ≡ (nat_lt (length p) (length x) && begins p x)
extends-longer p x starts less is =
    let longer : nat_lt (length p) (length x) ≡ true = grind (arith, nat_tests) in
    is ∙ begins-pointwise p x ∙ sym (ap (λ b. b && begins p x) longer)
