-- A printed list of parts is read, part by part.
use Rattle.std.proofs.Common.{◌≡◌, ℕ, List, [], ◌∷◌, ◌++◌, length, subst, refl, ap, ◌∙◌, append_assoc, append-nil, sym}
use Rattle.std.specs.Prelude.{Result, fold, flat_map}
use Rattle.tokens.specs.Text.{TextState, Comment}
use Rattle.tokens.specs.Chain.{part_then, until, times}
use Rattle.tokens.specs.Printed.{IsBefore, ReadsPart}

module _ {A X E : Type 0} (part : A → TextState → Result (A × TextState) E) (print : X → List ℕ) (add : A → X → A) (comment : Comment) (P : A → List X → Type 0) where
  -- each printed part is read, whatever stands after it, and P holds of what was made and the parts that are left
  abbrev pub ReadsEach : Type 0
  ReadsEach = (x : X) (xs : List X) (made : A) (tail : List ℕ) (s : TextState) → P made (x ∷ xs) → s.comment ≡ comment → IsBefore (print x ++ tail) s → ReadsPart part made (add made x) tail s × P (add made x) xs

  -- so all of them are
  pub times_reads : ReadsEach → (xs : List X) (made : A) (tail : List ℕ) (s : TextState) → P made xs → s.comment ≡ comment → IsBefore (flat_map print xs ++ tail) s → ReadsPart (times part (length xs)) made (fold add made xs) tail s
  unfolding times until
  times_reads each [] made tail s held same before = record { following = s; read = refl; before = before; comment_is = refl }
  times_reads each (x ∷ xs) made tail s held same before =
      let one = each x xs made (flat_map print xs ++ tail) s held same (subst (λ (bytes : List ℕ). IsBefore bytes s) (append_assoc (print x) (flat_map print xs) tail) before) in
      let rest = times_reads each xs (add made x) tail one.0.following one.1 (one.0.comment_is ∙ same) one.0.before in
      record {
        following = rest.following;
        read = ap (λ (read : Result (A × TextState) E). part_then read (λ more t. times part (length xs) more t)) one.0.read ∙ rest.read;
        before = rest.before;
        comment_is = rest.comment_is ∙ one.0.comment_is;
      }

-- parts that are put after one another are the list of them
pub fold_pushes : {X : Type 0} (xs made : List X) → fold (λ parts x. parts ++ x ∷ []) made xs ≡ made ++ xs
fold_pushes [] made = sym (append-nil made)
fold_pushes (x ∷ xs) made = fold_pushes xs (made ++ x ∷ []) ∙ append_assoc made (x ∷ []) xs
