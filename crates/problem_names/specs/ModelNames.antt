-- The problems by their words and bytes, and the sizes of which their instances are drawn.
use Rattle.std.specs.Prelude.{◌≡◌, ◌↔◌, refl, ℕ, nat_eq, ◌==◌, Bool, List, codes, find, Option, Some, None}
use Rattle.std.specs.Cmp.Lexicographic.{pointwise}
use Rattle.problem_names.specs.declared.TheConstants.ModelName.{ALL}
use Rattle.problem_names.specs.declared.ModelName.{ModelName}
use Rattle.problem_names.specs.declared.ModelName.TheVariants.{Knapsack, MaxCut, MaxTwoSat, TspWindows, OneMachine, Table, Qubo}
use Rattle.problem_names.specs.declared.Sizes.{Sizes}

-- the word that names the problem
abbrev pub text_of : ModelName → List ℕ
text_of Knapsack = codes "knapsack"
text_of MaxCut = codes "maxcut"
text_of MaxTwoSat = codes "max2sat"
text_of TspWindows = codes "tsptw"
text_of OneMachine = codes "tardiness"
text_of Table = codes "table"
text_of Qubo = codes "qubo"

-- the byte of the problem in a journal
abbrev pub byte_of : ModelName → ℕ
byte_of Knapsack = 1
byte_of MaxCut = 2
byte_of MaxTwoSat = 3
byte_of TspWindows = 4
byte_of OneMachine = 5
byte_of Table = 6
byte_of Qubo = 7

-- the sizes of which instances are drawn, none for a problem that is not drawn
abbrev pub sizes_of : ModelName → Option Sizes
sizes_of Knapsack = Some (record { least = 0; most = 1000 })
sizes_of MaxCut = Some (record { least = 0; most = 1024 })
sizes_of MaxTwoSat = Some (record { least = 0; most = 1024 })
sizes_of TspWindows = Some (record { least = 1; most = 300 })
sizes_of OneMachine = Some (record { least = 0; most = 100 })
sizes_of Table = None
sizes_of Qubo = Some (record { least = 0; most = 1024 })

-- whether two words are the same
abbrev pub word_same : List ℕ → List ℕ → Bool
word_same a b = pointwise nat_eq a b

-- the problem whose word this is
abbrev pub model_named : List ℕ → Option ModelName
model_named word = find (λ name. word_same word (text_of name)) ALL

-- the problem whose byte this is
abbrev pub model_of_byte : ℕ → Option ModelName
model_of_byte byte = find (λ name. byte_of name == byte) ALL

-- the word is that of the problem that is found, and of no other
abbrev pub Names : List ℕ → Option ModelName → Type 0
Names word found = (name : ModelName) → (found ≡ Some name) ↔ (text_of name ≡ word)

-- each problem is found by its own word
pub name_again : (name : ModelName) → model_named (text_of name) ≡ Some name
name_again Knapsack = refl
name_again MaxCut = refl
name_again MaxTwoSat = refl
name_again TspWindows = refl
name_again OneMachine = refl
name_again Table = refl
name_again Qubo = refl

-- each problem is found by its own byte
pub byte_again : (name : ModelName) → model_of_byte (byte_of name) ≡ Some name
byte_again Knapsack = refl
byte_again MaxCut = refl
byte_again MaxTwoSat = refl
byte_again TspWindows = refl
byte_again OneMachine = refl
byte_again Table = refl
byte_again Qubo = refl
