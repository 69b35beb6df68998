-- What is read, printed or drawn as an instance is so as its numbers.
use Rattle.std.proofs.Common.{◌≡◌, ℕ, ℤ, List, ap, IfOk}
use Rattle.std.specs.Prelude.{Result, Ok, Err, Some, option_map}
use Rattle.tokens.specs.Grammar.{Reads}
use Rattle.tokens.specs.declared.instance_error.InstanceError.{InstanceError}
use Rattle.tokens.specs.declared.read_model_error.ReadModelError.{ReadModelError}
use Rattle.tokens.specs.declared.read_model_error.ReadModelError.TheVariants as errors
use Rattle.problem_theory.specs.Theory.{with_numbers, of_text, IsRead}

pub numbers_read : {M X : Type 0} (view : M → X) (numbers : X → List ℤ) (m : M) (read : Result X InstanceError)
    → Reads view (Ok m) read → IsRead (λ m. numbers (view m)) (Ok m) (with_numbers numbers read)
numbers_read view numbers m read h = ap (with_numbers numbers) h

pub numbers_unread : {M X : Type 0} (view : M → X) (numbers : X → List ℤ) (e : ReadModelError) (read : Result X InstanceError)
    → Reads view (Err e) read → IsRead (λ m. numbers (view m)) (Err (of_text e)) (with_numbers numbers read)
numbers_unread view numbers (errors.Text e) read h = ap (with_numbers numbers) h
numbers_unread view numbers errors.OutOfMemory read h = tt

pub ruleset reads_numbers = (numbers_read, numbers_unread)

pub drawn_numbers : {M X : Type 0} (view : M → X) (numbers : X → List ℤ) (model : M) (drawn : X) → view model ≡ drawn
    → option_map (λ m. numbers (view m)) (Some model) ≡ Some (numbers drawn)
drawn_numbers view numbers model drawn h = ap (λ x. Some (numbers x)) h

pub spelled_numbers : {V X E : Type 0} (items : V → List ℕ) (numbers : X → List ℤ) (read : List ℕ → Result X InstanceError) (outcome : Result V E) (x : X)
    → IfOk outcome (λ v. read (items v) ≡ Ok x) → IfOk outcome (λ v. with_numbers numbers (read (items v)) ≡ Ok (numbers x))
spelled_numbers items numbers read (Ok v) x h = ap (with_numbers numbers) h
spelled_numbers items numbers read (Err e) x h = tt
