-- The table that bytes spell, or why they spell none.
use Rattle.std.specs.Prelude.{◌≡◌, ℕ, ℤ, List, Bool, cond, Option, Some, None, Result, Ok, Err}
use Rattle.std.specs.Str.{is_utf8}
use Rattle.serde_json.specs.Data.{Data}
use Rattle.serde_json.specs.Read.{read}
use Rattle.table_model.specs.Document.{Outline, outline_of, layers_from}
use Rattle.table_model.specs.Table.{LayerTable, Table}
use Rattle.table_model.specs.Tests.{first_failure}
use Rattle.table_refusal.specs.declared.failure.Failure.{Failure}
use Rattle.table_refusal.specs.declared.refusal.TableError.{TableError}
use Rattle.table_refusal.specs.declared.refusal.TableError.TheVariants.{Json, Shape, Law}
use Rattle.table_model.specs.declared.error.ReadTableError.{ReadTableError}
use Rattle.table_model.specs.declared.error.ReadTableError.TheVariants.{Refused, OutOfMemory}

-- the tree of a text of JSON
abbrev pub tree_of_text : List ℕ → Option Data
tree_of_text bytes = cond (is_utf8 bytes) (read bytes) None

-- a table whose tests hold, or the first that fails
abbrev pub tested_by : Table → Option Failure → Result Table TableError
tested_by t None = Ok t
tested_by t (Some f) = Err (Law f)

abbrev pub tested : Table → Result Table TableError
tested t = tested_by t (first_failure t.layers)

-- the layers with the root value, or the first that is no layer
abbrev pub table_with : ℤ → Result (List LayerTable) ℕ → Result Table TableError
table_with root_value (Err k) = Err (Shape (Some k))
table_with root_value (Ok layers) = tested (record { root_value = root_value; layers = layers })

abbrev pub table_in : Option Outline → Result Table TableError
table_in None = Err (Shape None)
table_in (Some o) = table_with o.root_value (layers_from 0 o.layers)

-- the table that a tree spells, or its first fault
abbrev pub table_of : Data → Result Table TableError
table_of d = table_in (outline_of d)

abbrev pub table_of_tree : Option Data → Result Table TableError
table_of_tree None = Err Json
table_of_tree (Some d) = table_of d

-- the table that bytes spell, or why they spell none
abbrev pub table_text : List ℕ → Result Table TableError
table_text bytes = table_of_tree (tree_of_text bytes)

-- an error is the fault of the text; want of memory may come anywhere
abbrev pub Fails : {X : Type 0} → ReadTableError → Result X TableError → Type 0
Fails (Refused e) read = read ≡ Err e
Fails OutOfMemory read = Unit {0}

-- what a reader answers is what the text spells, but for want of memory
abbrev pub Reads : {X Y : Type 0} → (X → Y) → Result X ReadTableError → Result Y TableError → Type 0
Reads shown (Ok x) read = read ≡ Ok (shown x)
Reads shown (Err e) read = Fails e read

-- an error says that the text is no JSON; want of memory may come anywhere
abbrev pub TreeFails : ReadTableError → Option Data → Type 0
TreeFails (Refused e) tree = (e ≡ Json) × (tree ≡ None)
TreeFails OutOfMemory tree = Unit {0}
