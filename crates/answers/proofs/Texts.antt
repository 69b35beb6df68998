-- What is right for a text is right for an input that was read as this text.
use Rattle.std.proofs.Common.{ℕ, List}
use Rattle.solver_report.specs.declared.answer.Answer.{Answer}
use Rattle.solver_report.specs.declared.answer.Answer.TheVariants as answers
use Rattle.answers.specs.Ended.{IsInputAnswer, Readings, WasRead}

-- what a text may be answered, which is never that the input was too long or could not be read
pub whole : (limit : ℕ) (For : List ℕ → Answer → Type 0) (r : Readings) (bytes : List ℕ) (answer : Answer) → (For bytes answers.ReadFault → ⊥) → (For bytes answers.TooLong → ⊥)
    → WasRead limit r bytes → For bytes answer → IsInputAnswer limit For r answer
whole limit For r bytes (answers.Searched outcome counts) sound short read h = record { bytes = bytes; read = read; replies = h }
whole limit For r bytes (answers.Covered outcome counts text) sound short read h = record { bytes = bytes; read = read; replies = h }
whole limit For r bytes (answers.Digest digest) sound short read h = record { bytes = bytes; read = read; replies = h }
whole limit For r bytes (answers.Drawn text) sound short read h = record { bytes = bytes; read = read; replies = h }
whole limit For r bytes (answers.Checked given) sound short read h = record { bytes = bytes; read = read; replies = h }
whole limit For r bytes (answers.Refused e) sound short read h = record { bytes = bytes; read = read; replies = h }
whole limit For r bytes (answers.CoverRefused e) sound short read h = record { bytes = bytes; read = read; replies = h }
whole limit For r bytes (answers.PartsRefused e) sound short read h = record { bytes = bytes; read = read; replies = h }
whole limit For r bytes (answers.PartFile file) sound short read h = record { bytes = bytes; read = read; replies = h }
whole limit For r bytes (answers.PartSearched part told counted) sound short read h = record { bytes = bytes; read = read; replies = h }
whole limit For r bytes (answers.ReportRefused e) sound short read h = record { bytes = bytes; read = read; replies = h }
whole limit For r bytes (answers.ReportsRefused e) sound short read h = record { bytes = bytes; read = read; replies = h }
whole limit For r bytes answers.PartTooLarge sound short read h = record { bytes = bytes; read = read; replies = h }
whole limit For r bytes answers.TooLong sound short read h = absurd (short h)
whole limit For r bytes answers.Width sound short read h = record { bytes = bytes; read = read; replies = h }
whole limit For r bytes (answers.Words e) sound short read h = record { bytes = bytes; read = read; replies = h }
whole limit For r bytes (answers.Journal e) sound short read h = record { bytes = bytes; read = read; replies = h }
whole limit For r bytes answers.ReadFault sound short read h = absurd (sound h)
whole limit For r bytes answers.OutOfMemory sound short read h = read.sound
