-- Reading the layers of a document.
use Rattle.std.specs.Prelude.{◌≡◌, ℕ, List, Option, Some, Result, Err}
use Rattle.table_model.specs.Table.{LayerTable}
use Rattle.table_refusal.specs.declared.refusal.TableError.{TableError}
use Rattle.table_refusal.specs.declared.refusal.TableError.TheVariants.{Shape}
use Rattle.table_model.specs.declared.error.ReadTableError.{ReadTableError}
use Rattle.table_model.specs.declared.error.ReadTableError.TheVariants.{Refused, OutOfMemory}

-- the item of this number is the first that is no layer
pub record FailsAt (e : TableError) (layers : Result (List LayerTable) ℕ) : Type 0 where
  pub number : ℕ
  pub is : e ≡ Shape (Some number)
  pub first : layers ≡ Err number

-- an error is the number of the first item that is no layer; want of memory may come anywhere
abbrev pub LayersFail : ReadTableError → Result (List LayerTable) ℕ → Type 0
LayersFail (Refused e) layers = FailsAt e layers
LayersFail OutOfMemory layers = Unit {0}
