-- What is read or printed as a table is so as its numbers.
use Rattle.std.proofs.Common.{◌≡◌, ℕ, ℤ, List, ap}
use Rattle.std.specs.Prelude.{Result, Ok, Err, IfOk}
use Rattle.problem_theory.specs.Theory.{as_numbers, IsRead}
use Rattle.problem_theory.specs.declared.refusal.InstanceRefusal.TheVariants as refusals
use Rattle.table_refusal.specs.declared.refusal.TableError.{TableError}
use Rattle.table_model.specs.Reading.{Reads}
use Rattle.table_model.specs.Theory.{of_table}
use Rattle.table_model.specs.declared.error.ReadTableError.{ReadTableError}
use Rattle.table_model.specs.declared.error.ReadTableError.TheVariants.{Refused, OutOfMemory}

pub table_read : {M X : Type 0} (shown : M → X) (numbers : X → List ℤ) (m : M) (read : Result X TableError)
    → Reads shown (Ok m) read → IsRead (λ m. numbers (shown m)) (Ok m) (as_numbers refusals.Table numbers read)
table_read shown numbers m read h = ap (as_numbers refusals.Table numbers) h

pub table_unread : {M X : Type 0} (shown : M → X) (numbers : X → List ℤ) (e : ReadTableError) (read : Result X TableError)
    → Reads shown (Err e) read → IsRead (λ m. numbers (shown m)) (Err (of_table e)) (as_numbers refusals.Table numbers read)
table_unread shown numbers (Refused e) read h = ap (as_numbers refusals.Table numbers) h
table_unread shown numbers OutOfMemory read h = tt

pub ruleset reads_table = (table_read, table_unread)

pub spelled_table : {V X E : Type 0} (items : V → List ℕ) (numbers : X → List ℤ) (read : List ℕ → Result X TableError) (outcome : Result V E) (x : X)
    → IfOk outcome (λ v. read (items v) ≡ Ok x) → IfOk outcome (λ v. as_numbers refusals.Table numbers (read (items v)) ≡ Ok (numbers x))
spelled_table items numbers read (Ok v) x h = ap (as_numbers refusals.Table numbers) h
spelled_table items numbers read (Err e) x h = tt
