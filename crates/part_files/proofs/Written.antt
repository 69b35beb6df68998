-- What the bytes of a head and of one record read as.
use Rattle.std.proofs.Common.{◌≡◌, ◌≢◌, ℕ, ◌^◌, ◌<◌, ◌-◌, true, List, [], ◌∷◌, ◌++◌, length, take, Some, refl, sym, ◌∙◌, ap, subst, arith, length-append}
use Rattle.std.specs.Prelude.{IfSome, nat_lt, ◌&&◌}
use Rattle.std.proofs.lemmas.Bool.{and_parts}
use Rattle.std.proofs.lemmas.Bool.Decides.{nat_tests}
use Rattle.std.proofs.lemmas.List.{append-nil, take_at}
use Rattle.journal_bytes.specs.Bodies.{RecordView, Improve, Finish, Snapshot, record_of}
use Rattle.journal_bytes.specs.Frames.{Frame, Fits, ReadsAs, no_digest, spelled, sealed, digest_of}
use Rattle.journal_bytes.specs.Journal.{HeadView, HasRecords, is_distance}
use Rattle.journal_bytes.specs.Sizes.{head_size}
use Rattle.journal_bytes.specs.Spelling.{PartFits, HasSpelling, HasTickets, IsOfVersion, head_frame, head_bytes, record_kind, record_size}
use Rattle.journal_bytes.proofs.Journals.{only_head, one_more}
use Rattle.journal_bytes.proofs.Reading.{reads_as}
use Rattle.part_files.specs.Fitting.{are_short}

pub head_short : (h : HeadView) (r : RecordView) → are_short h r ≡ true → head_size h < 2 ^ 32
head_short h r short = let one : nat_lt (head_size h) (2 ^ 32) ≡ true = (and_parts (nat_lt (head_size h) (2 ^ 32)) (nat_lt (record_size r) (2 ^ 32)) short).0 in grind (arith, nat_tests)

pub record_short : (h : HeadView) (r : RecordView) → are_short h r ≡ true → record_size r < 2 ^ 32
record_short h r short = let one : nat_lt (record_size r) (2 ^ 32) ≡ true = (and_parts (nat_lt (head_size h) (2 ^ 32)) (nat_lt (record_size r) (2 ^ 32)) short).1 in grind (arith, nat_tests)

-- each record may stand in a journal of the newest version
pub of_newest : (r : RecordView) → IsOfVersion 2 r
of_newest (Improve value ds) = tt
of_newest (Finish ticket cs) = tt
of_newest (Snapshot best next os) = refl

kind_fits : (r : RecordView) → record_kind r < 2 ^ 8
kind_fits (Improve value ds) = omega arith
kind_fits (Finish ticket cs) = omega arith
kind_fits (Snapshot best next os) = omega arith

zero_shut : (gate : ℕ) → gate ≡ 0 → gate ≢ 1
zero_shut gate zero one = omega arith

-- the frame of a record with this body
abbrev pub frame_of : RecordView → List ℕ → Frame
frame_of r body = record { kind = record_kind r; body = body }

-- a head that can be written
pub record IsWritten (h : HeadView) : Type 0 where
  pub newest : h.version ≡ 2
  pub text : length h.text < 2 ^ 32
  pub near : is_distance h.within ≡ true
  pub mark : IfSome h.part PartFits
  pub short : length (head_bytes h) < 2 ^ 32

-- the frames of a head and of a record, and a closed gate
pub has_one : (h : HeadView) (r : RecordView) (body c : List ℕ) → IsWritten h → length body < 2 ^ 32 → record_of 2 (frame_of r body) ≡ Some r → c ≡ spelled no_digest (head_frame h ∷ frame_of r body ∷ []) ++ 0 ∷ [] → HasRecords h (r ∷ []) c
has_one h r body c head short read is =
    let f = frame_of r body in
    let g = head_frame h in
    let g_fits : Fits g = record { kind = omega arith; length_fits = head.short } in
    let f_fits : Fits f = record { kind = kind_fits r; length_fits = short } in
    let shut = zero_shut 0 refl in
    let start : List ℕ = spelled no_digest (g ∷ []) ++ 0 ∷ [] in
    let first : ReadsAs (g ∷ []) start = reads_as (g ∷ []) 0 [] (g_fits, tt) shut in
    let both : ReadsAs (g ∷ f ∷ []) c = subst (ReadsAs (g ∷ f ∷ [])) (sym is) (reads_as (g ∷ f ∷ []) 0 [] (g_fits, (f_fits, tt)) shut) in
    let has = only_head h start head.newest head.text head.near head.mark first in
    one_more (g ∷ []) f r start c (record { head = h; records = []; tail = has.0 }) first has.1 (subst (λ (n : ℕ). record_of n f ≡ Some r) (sym head.newest) read) both

-- what was written, step by step
pub two_frames : (g f : Frame) (digest first second last : List ℕ) → first ≡ 1 ∷ sealed no_digest g → digest ≡ digest_of no_digest g → second ≡ first ++ 1 ∷ sealed digest f → last ≡ second ++ 0 ∷ [] → last ≡ spelled no_digest (g ∷ f ∷ []) ++ 0 ∷ []
two_frames g f digest first second last one is two three =
    let more : 1 ∷ sealed digest f ≡ spelled (digest_of no_digest g) (f ∷ []) = ap (λ (d : List ℕ). 1 ∷ sealed d f) is ∙ sym (append-nil (1 ∷ sealed (digest_of no_digest g) f)) in
    three ∙ ap (λ (l : List ℕ). l ++ 0 ∷ []) (two ∙ (λ i. one i ++ more i))

-- what is left without the last gate
pub gate_off : (xs whole new : List ℕ) (n : ℕ) → whole ≡ xs ++ 0 ∷ [] → length whole ≡ n → new ≡ take (n - 1) whole → new ≡ xs
gate_off xs whole new n is size rest = rest ∙ ap (take (n - 1)) is ∙ take_at xs (0 ∷ []) (n - 1) (omega (arith, ap length is, size, length-append xs (0 ∷ [])))
