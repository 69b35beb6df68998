-- What was read of a journal.
use Rattle.std.proofs.Common.{◌≡◌, ◌⊎◌, inl, inr, ℕ, List, Bool, Result, Ok, Err, refl, sym, ap, subst, ◌∙◌}
use Rattle.disk.specs.Disk.{Only}
use Rattle.journal_bytes.specs.declared.head.Head.{Head}
use Rattle.journal_bytes.specs.declared.tail.Tail.{Tail}
use Rattle.journal_bytes.specs.Bodies.{RecordsView}
use Rattle.journal_bytes.specs.Ends.{EndsAt}
use Rattle.journal_bytes.specs.Frames.{frames_of}
use Rattle.journal_bytes.specs.Journal.{journal_of, head_view, journal_view}
use Rattle.journal_bytes.proofs.Journals.{counted}
use Rattle.journal_file.specs.declared.error.JournalError.{JournalError}
use Rattle.journal_file.specs.declared.error.JournalError.TheVariants.{Disk, OutOfMemory}
use Rattle.journal_file.specs.Refusing.{WasOpened}
use Rattle.journal_file.specs.Settled.{IsOpen}

-- it may be gone on with
pub opened : (file bytes : List ℕ) (may_leave : List ℕ → Type 0) (j : Head × RecordsView × Tail) → bytes ≡ file → journal_of bytes ≡ Ok (journal_view j) → EndsAt bytes j.2 (frames_of bytes) → Only file may_leave → IsOpen file may_leave j.2
opened file bytes may_leave j same reads ends only = record {
  settled = record { ends = subst (λ (l : List ℕ). EndsAt l j.2 (frames_of l)) same ends; durable = only };
  head = head_view j.2.version j.0;
  records = j.1.records;
  reads = (j.2, sym (ap journal_of same) ∙ reads);
  counted = counted bytes (journal_view j) reads;
}

-- nothing was read
pub not_read : (tells : Bool) (seen : List ℕ) (result : Result (Head × RecordsView × Tail) JournalError) (e : JournalError) → result ≡ Err e → (e ≡ Disk) ⊎ (e ≡ OutOfMemory) → WasOpened tells seen result
not_read tells seen result e is (inl disk) = subst (WasOpened tells seen) (sym (is ∙ ap (λ (x : JournalError). Err x) disk)) (record { file = seen; is_file = λ _. refl; opens = tt; first = tt })
not_read tells seen result e is (inr memory) = subst (WasOpened tells seen) (sym (is ∙ ap (λ (x : JournalError). Err x) memory)) (record { file = seen; is_file = λ _. refl; opens = tt; first = tt })
