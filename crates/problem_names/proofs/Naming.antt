-- The problem that a word names.
use Rattle.std.proofs.Common.{◌≡◌, ℕ, Bool, true, false, cond, List, [], ◌∷◌, Option, Some, refl, sym, subst, ◌∙◌}
use Rattle.std.specs.Prelude.{find}
use Rattle.std.proofs.lemmas.Slice.Eq.{bytes_eq-Decides}
use Rattle.problem_names.specs.declared.TheConstants.ModelName.{ALL}
use Rattle.problem_names.specs.declared.ModelName.{ModelName}
use Rattle.problem_names.specs.ModelNames.{text_of, word_same, model_named, Names}

-- what is found passes the test
found_passes : {X : Type 0} (p : X → Bool) (xs : List X) (x : X) → find p xs ≡ Some x → p x ≡ true
found_passes p [] x h = cc
found_passes p (y ∷ ys) x h =
    elim (p y) as (λ b. p y ≡ b → cond b (Some y) (find p ys) ≡ Some x → p x ≡ true) [
      | true ↦ λ e g. let same : y ≡ x = cc in subst (λ z. p z ≡ true) same e
      | false ↦ λ e g. found_passes p ys x g
    ] refl h

-- where each problem is found by its own word, what is found by a word is the problem whose word it is
pub names_exactly : (word : List ℕ) (found : Option ModelName) → found ≡ model_named word → ((name : ModelName) → model_named (text_of name) ≡ Some name) → Names word found
names_exactly word found e finds name = (
  λ is. sym ((bytes_eq-Decides word (text_of name)).0 (found_passes (λ n. word_same word (text_of n)) ALL name (sym e ∙ is))),
  λ same. e ∙ subst (λ w. model_named w ≡ Some name) same (finds name),
)
