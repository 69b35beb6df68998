-- What a problem is: which bytes spell an instance, the program of an instance, its canonical text, its own words, and the instances that
-- are drawn from a seed.
use Rattle.std.specs.Prelude.{◌≡◌, ◌≤◌, ℕ, ℤ, List, Option, Some, None, option_map, Result, Ok, Err}
use Rattle.tokens.specs.declared.instance_error.InstanceError.{InstanceError}
use Rattle.tokens.specs.declared.read_model_error.ReadModelError.{ReadModelError}
use Rattle.tokens.specs.declared.read_model_error.ReadModelError.TheVariants as texts
use Rattle.dp_model.specs.Dp.{Dp}
use Rattle.dp_model.specs.Solution.{SolutionGives}
use Rattle.problem_names.specs.declared.ModelName.{ModelName}
use Rattle.problem_names.specs.declared.Sizes.{Sizes}
use Rattle.problem_names.specs.ModelNames.{sizes_of}
use Rattle.problem_theory.specs.declared.refusal.InstanceRefusal.{InstanceRefusal}
use Rattle.problem_theory.specs.declared.refusal.InstanceRefusal.TheVariants.{Text}
use Rattle.problem_theory.specs.declared.read_error.ReadInstanceError.{ReadInstanceError}
use Rattle.problem_theory.specs.declared.read_error.ReadInstanceError.TheVariants.{Refused, OutOfMemory}

-- the instances that are drawn, by size and seed
pub record Drawing : Type 0 where
  pub sizes : Sizes
  pub instance : ℕ → ℕ → List ℤ

-- an instance is its list of numbers here; the drawing is none where no instance is drawn
pub record Theory : Type 0 where
  pub spelled : List ℕ → Result (List ℤ) InstanceRefusal
  pub program : List ℤ → Dp
  pub canonical : List ℤ → List ℕ
  pub own_value : List ℤ → List ℕ → Option ℤ
  pub drawing : Option Drawing

-- instances are drawn of the sizes of the named problem
abbrev pub drawing_of : ModelName → (ℕ → ℕ → List ℤ) → Option Drawing
drawing_of name instance = option_map (λ sizes. record { sizes = sizes; instance = instance }) (sizes_of name)

-- the size is one that is drawn, where any is
abbrev pub CanDraw : Option Drawing → ℕ → Type 0
CanDraw None n = Unit {0}
CanDraw (Some drawing) n = (drawing.sizes.least ≤ n) × (n ≤ drawing.sizes.most)

-- the instance that is drawn
abbrev pub drawn : Option Drawing → ℕ → ℕ → Option (List ℤ)
drawn drawing n seed = option_map (λ d. d.instance n seed) drawing

-- a list is a solution in the problem's own words exactly where it is a feasible solution, and of the same value
abbrev pub Agrees : Dp → (List ℕ → Option ℤ) → Type 0
Agrees dp own = (x : List ℕ) → SolutionGives dp x (own x)

-- the numbers of an instance that was read, or its refusal
abbrev pub as_numbers : {X E : Type 0} → (E → InstanceRefusal) → (X → List ℤ) → Result X E → Result (List ℤ) InstanceRefusal
as_numbers refusal numbers (Ok x) = Ok (numbers x)
as_numbers refusal numbers (Err e) = Err (refusal e)

-- the same of a text of tokens
abbrev pub with_numbers : {X : Type 0} → (X → List ℤ) → Result X InstanceError → Result (List ℤ) InstanceRefusal
with_numbers numbers read = as_numbers Text numbers read

-- why a text of tokens is not read, among the reasons for any text
abbrev pub of_text : ReadModelError → ReadInstanceError
of_text (texts.Text e) = Refused (Text e)
of_text texts.OutOfMemory = OutOfMemory

-- what was read is what the text spells, or its first fault, or memory ran out
abbrev pub IsRead : {M : Type 0} → (M → List ℤ) → Result M ReadInstanceError → Result (List ℤ) InstanceRefusal → Type 0
IsRead numbers (Ok m) spelled = spelled ≡ Ok (numbers m)
IsRead numbers (Err (Refused e)) spelled = spelled ≡ Err e
IsRead numbers (Err OutOfMemory) spelled = Unit {0}
