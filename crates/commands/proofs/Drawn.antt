-- What words ask to be drawn can be drawn.
use Rattle.std.proofs.Common.{◌≡◌, ℕ, ◌≤◌, Option, Some, None, IsSome, refl, ◌∙◌, subst}
use Rattle.std.specs.Prelude.{option_map}
use Rattle.problem_names.specs.declared.ModelName.{ModelName}
use Rattle.problem_names.specs.declared.Sizes.{Sizes}
use Rattle.problem_theory.specs.Theory.{CanDraw, Drawing}
use Rattle.problems.specs.Theories.{sizes_drawn, theory_of}
use Rattle.solver_words.specs.Possible.{MayDraw}

by-sizes : (drawing : Option Drawing) (sizes : Sizes) (n : ℕ) → option_map (λ d. d.sizes) drawing ≡ Some sizes → sizes.least ≤ n → n ≤ sizes.most → IsSome drawing × CanDraw drawing n
by-sizes None sizes n e low high = absurd (cc)
by-sizes (Some drawing) sizes n e low high =
    let same : sizes ≡ drawing.sizes = cc in
    (refl, (subst (λ s. s.least ≤ n) same low, subst (λ s. n ≤ s.most) same high))

drawn-by : (name : ModelName) (n seed : ℕ) → MayDraw name n seed → IsSome (theory_of name).drawing × CanDraw (theory_of name).drawing n
drawn-by name n seed may = by-sizes (theory_of name).drawing may.sizes n (sizes_drawn name ∙ may.are_drawn) may.least may.most

pub some_drawn : (name : ModelName) (n seed : ℕ) → MayDraw name n seed → IsSome (theory_of name).drawing
some_drawn name n seed may = (drawn-by name n seed may).0

pub can_draw : (name : ModelName) (n seed : ℕ) → MayDraw name n seed → CanDraw (theory_of name).drawing n
can_draw name n seed may = (drawn-by name n seed may).1
