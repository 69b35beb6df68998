-- What was read of a file ends at a closed gate.
use Rattle.std.proofs.Common.{◌≡◌, ℕ, ◌<◌, ◌≤◌, true, List, length, Result, Ok, Err, sym, ◌∙◌, ap, arith}
use Rattle.std.specs.Prelude.{IsTrue, IfOk}
use Rattle.std.proofs.lemmas.Bool.Decides.{nat_tests}
use Rattle.journal_bytes.specs.declared.refusal.Refusal.TheVariants.{NotBegun}
use Rattle.journal_bytes.specs.declared.tail.Tail.{Tail}
use Rattle.journal_bytes.specs.Frames.{Reading, spelled, no_digest, reading_of, frames_of, IsBytes}
use Rattle.journal_bytes.specs.Ends.{EndsAt}
use Rattle.journal_bytes.specs.Journal.{journal_in, journal_of}
use Rattle.journal_bytes.proofs.Spelled.{Spelled, spelled_from}

ends_from : (file : List ℕ) (tail : Tail) (r : Reading) → r ≡ reading_of file → IsBytes file → 0 < length file → r.is_whole ≡ true → tail.end ≡ r.end → tail.digest ≡ r.digest → EndsAt file tail (frames_of file)
ends_from file tail r is bytes some whole end digest =
    let s : Spelled no_digest 0 file (reading_of file) = spelled_from (length file) no_digest 0 file bytes some (ap (λ x. x.is_whole) (sym is) ∙ whole) in
    let end_is : tail.end ≡ length (spelled no_digest (frames_of file)) = let e = end ∙ ap (λ x. x.end) is in omega (arith, s.end) in
    record { fit = s.fit; gate = s.gate; rest = s.rest; shut = s.shut; parts = s.parts; end = end_is; digest = digest ∙ ap (λ x. x.digest) is ∙ s.digest }

-- where there is an answer
pub ends_if : {A B E : Type 0} (result : Result (A × B × Tail) E) (file : List ℕ) (r : Reading) → r ≡ reading_of file → IsBytes file → 0 < length file
    → IfOk result (λ x. (x.2.end ≡ r.end) × (x.2.digest ≡ r.digest) × IsTrue r.is_whole) → IfOk result (λ x. EndsAt file x.2 (frames_of file))
ends_if (Ok x) file r is bytes some facts = ends_from file x.2 r is bytes some facts.2 facts.0 facts.1
ends_if (Err e) file r is bytes some facts = tt

pub short_file : (file : List ℕ) → length file ≤ 1 → journal_of file ≡ Err NotBegun
unfolding journal_of
short_file file short = grind (arith, nat_tests)

pub long_file : (file : List ℕ) → 1 < length file → journal_of file ≡ journal_in (reading_of file)
unfolding journal_of
long_file file long = grind (arith, nat_tests)
