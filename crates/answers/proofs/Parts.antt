-- The own words of a part agree with its program.
use Rattle.std.proofs.Common.{◌≡◌, ◌∙◌, ℕ, ◌%◌, ℤ, ◌+ℤ◌, Bool, true, false, nat_eq, cond, List, [], ◌∷◌, Option, Some, None, refl, sym, ap, true≢false, arith}
use Rattle.std.proofs.lemmas.Bool.{and_parts}
use Rattle.dp_model.specs.Dp.{Dp}
use Rattle.dp_model.specs.Prefixes.{IsSolution}
use Rattle.dp_model.specs.Solution.{IsSolutionWith, SolutionGives}
use Rattle.parts.specs.Part.{part_program}
use Rattle.parts.specs.Laws.{gain_same, path_in_part, path_in_whole}
use Rattle.problem_names.specs.declared.part.PartNumber.{PartNumber}
use Rattle.problem_theory.specs.Theory.{Agrees}
use Rattle.answers.specs.Parts.{own_in, part_own, program_in}

module _ (dp : Dp) (index of : ℕ) where
  abbrev part : Dp
  part = part_program dp index of

  in_whole : (x : List ℕ) → IsSolution part x → IsSolution dp x
  in_whole x h = record { prefix = path_in_whole dp index of x 0 dp.root h.prefix; whole = h.whole }

  first_in_part : (d : ℕ) (x : List ℕ) → nat_eq (d % of) index ≡ true → IsSolution dp (d ∷ x) → IsSolution part (d ∷ x)
  first_in_part d x e h =
      let first = h.prefix.0 in
      let rest = path_in_part dp index of x 1 (dp.step 0 dp.root d) (omega arith) h.prefix.1 in
      record { prefix = (record { layer = first.layer; choice = first.choice; test = rw (first.test, e) refl }, rest); whole = h.whole }

  with_value : (x : List ℕ) (v : ℤ) → IsSolution part x → IsSolutionWith dp x v → IsSolutionWith part x v
  with_value x v solution h = record { solution = solution; value = h.value ∙ ap (λ (z : ℤ). dp.root_value +ℤ z) (sym (gain_same dp index of x 0 dp.root)) }

  without_first : (given : Option ℤ) → SolutionGives dp [] given → SolutionGives part [] given
  without_first None h = λ solution. h (in_whole [] solution)
  without_first (Some v) h = with_value [] v (record { prefix = tt; whole = h.solution.whole }) h

  with_first : (d : ℕ) (x : List ℕ) (here : Bool) → nat_eq (d % of) index ≡ here → (given : Option ℤ) → SolutionGives dp (d ∷ x) given → SolutionGives part (d ∷ x) (cond here given None)
  with_first d x true e None h = λ solution. h (in_whole (d ∷ x) solution)
  with_first d x true e (Some v) h = with_value (d ∷ x) v (first_in_part d x e h.solution) h
  with_first d x false e given h = λ solution. true≢false (sym (and_parts (dp.allowed 0 dp.root d) (nat_eq (d % of) index) solution.prefix.0.test).1 ∙ e)

  pub part-agrees : (own : List ℕ → Option ℤ) → Agrees dp own → Agrees part (part_own index of own)
  part-agrees own agrees [] = without_first (own []) (agrees [])
  part-agrees own agrees (d ∷ x) = with_first d x (nat_eq (d % of) index) refl (own (d ∷ x)) (agrees (d ∷ x))

-- so do those of the problem, or of the part of it that is meant
pub agrees-in : (part : Option PartNumber) (dp : Dp) (own : List ℕ → Option ℤ) → Agrees dp own → Agrees (program_in part dp) (own_in part own)
agrees-in None dp own agrees = agrees
agrees-in (Some part) dp own agrees = part-agrees dp part.index part.of own agrees
