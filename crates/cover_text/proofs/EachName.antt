-- What holds of the word of each problem.
use Rattle.std.proofs.Common.{◌≡◌, Bool, true, false, cond, List, [], ◌∷◌, Some, subst}
use Rattle.std.specs.Prelude.{find}
use Rattle.std.specs.List.{list_all}
use Rattle.std.proofs.lemmas.Bool.{and_parts}
use Rattle.problem_names.specs.declared.TheConstants.ModelName.{ALL}
use Rattle.problem_names.specs.declared.ModelName.{ModelName}
use Rattle.problem_names.specs.ModelNames.{name_again, text_of, word_same}

-- what is found in a list passes each test that all of the list pass
found_passes : {X : Type 0} (p q : X → Bool) (xs : List X) (x : X) → find q xs ≡ Some x → list_all p xs ≡ true → p x ≡ true
found_passes p q [] x h all = absurd (cc)
found_passes p q (y ∷ ys) x h all =
    let parts = and_parts _ _ all in
    elim (q y) as (λ b. cond b (Some y) (find q ys) ≡ Some x → p x ≡ true) [
      | true ↦ λ g. let same : y ≡ x = cc in subst (λ z. p z ≡ true) same parts.0
      | false ↦ λ g. found_passes p q ys x g parts.1
    ] h

-- where all problems pass a test, each does
pub for_each : (p : ModelName → Bool) → list_all p ALL ≡ true → (name : ModelName) → p name ≡ true
for_each p all name = found_passes p (λ n. word_same (text_of name) (text_of n)) ALL name (name_again name) all
