-- Reading records frame by frame, as a loop does.
use Rattle.std.proofs.Common.{◌≡◌, ℕ, ◌+◌, List, [], ◌∷◌, ◌++◌, length, Some, Result, Ok, Err, refl, sym, ap, ◌∙◌, append_assoc}
use Rattle.std.proofs.lemmas.List.{append-nil}
use Rattle.journal_bytes.specs.declared.refusal.Refusal.{Refusal}
use Rattle.journal_bytes.specs.declared.refusal.Refusal.TheVariants.{Malformed}
use Rattle.journal_bytes.specs.declared.body.BodyError.{BodyError}
use Rattle.journal_bytes.specs.declared.body.BodyError.TheVariants as bodies
use Rattle.journal_bytes.specs.Frames.{Frame}
use Rattle.journal_bytes.specs.Bodies.{RecordView, record_of}
use Rattle.journal_bytes.specs.Views.{Fails}
use Rattle.journal_bytes.specs.Journal.{◌>>=◌, records_from, placed_at, Refuses}

-- what was read before, and what is still read
abbrev pub with_front : List RecordView → Result (List RecordView) Refusal → Result (List RecordView) Refusal
with_front front read = read >>= λ es. Ok (front ++ es)

regroup : (front : List RecordView) (e : RecordView) (read : Result (List RecordView) Refusal) → with_front front (read >>= λ es. Ok (e ∷ es)) ≡ with_front (front ++ e ∷ []) read
regroup front e (Ok es) = ap (λ (l : List RecordView). Ok l) (simp append_assoc)
regroup front e (Err x) = refl

pub goes_on : (version : ℕ) (front : List RecordView) (at next : ℕ) (f : Frame) (fs rest : List Frame) (e : RecordView) (total : Result (List RecordView) Refusal) → fs ≡ f ∷ rest → record_of version f ≡ Some e → next ≡ at + (38 + length f.body)
    → with_front front (records_from version at fs) ≡ total → with_front (front ++ e ∷ []) (records_from version next rest) ≡ total
unfolding records_from
goes_on version front at next f fs rest e total fs_are h next_is so_far =
    let one : with_front front (records_from version at fs) ≡ with_front (front ++ e ∷ []) (records_from version next rest) = rw (fs_are, h, next_is) (regroup front e (records_from version (at + (38 + length f.body)) rest)) in
    sym one ∙ so_far

pub stops : (version : ℕ) (x : BodyError) (front : List RecordView) (at : ℕ) (f : Frame) (fs rest : List Frame) (total : Result (List RecordView) Refusal) → fs ≡ f ∷ rest → Fails x (record_of version f)
    → with_front front (records_from version at fs) ≡ total → Refuses (placed_at x at) total
unfolding records_from
stops version bodies.OutOfMemory front at f fs rest total fs_are h so_far = tt
stops version bodies.Malformed front at f fs rest total fs_are h so_far =
    let one : with_front front (records_from version at fs) ≡ Err (Malformed at) = rw (fs_are, h) refl in
    sym so_far ∙ one

pub is_done : (version : ℕ) (front : List RecordView) (at : ℕ) (fs : List Frame) (total : Result (List RecordView) Refusal) → fs ≡ [] → with_front front (records_from version at fs) ≡ total → total ≡ Ok front
unfolding records_from
is_done version front at fs total none so_far =
    let one : with_front front (records_from version at fs) ≡ Ok front = rw none (ap (λ (l : List RecordView). Ok l) (append-nil front)) in
    sym so_far ∙ one
