-- The distance of a journal's head.
use Rattle.std.proofs.Common.{◌≡◌, ℕ, ℤ, pos, Bool, true, false, ◌&&◌, List, [], ◌∷◌, Option, Some, None, Result, Ok, Err, IfOk, IfSome, IsTrue, refl, subst, arith}
use Rattle.std.specs.Prelude.{◌+◌, ◌^◌, ◌==◌, if◌then◌else◌, int_le, nat_le, length}
use Rattle.std.specs.Int.{w32, w64, cast_signed}
use Rattle.std.proofs.lemmas.Int.{ints}
use Rattle.dp_model.specs.Distances.{IsDistance}
use Rattle.dp_model.specs.NumberLaws.{int_le-from, int_le-is}
use Rattle.journal_bytes.specs.declared.frames.TheConstants.{FRAME_OVERHEAD}
use Rattle.journal_bytes.specs.declared.head.TheConstants.{MOST_WITHIN, VERSION}
use Rattle.journal_bytes.specs.declared.refusal.Refusal.{Refusal}
use Rattle.journal_bytes.specs.declared.refusal.Refusal.TheVariants.{NotBegun, Malformed, Damaged, Version}
use Rattle.journal_bytes.specs.declared.head.Head.{Head}
use Rattle.journal_bytes.specs.declared.tail.Tail.{Tail}
use Rattle.journal_bytes.specs.Bodies.{RecordsView, number_at}
use Rattle.journal_bytes.specs.Frames.{Frame, Reading, reading_of}
use Rattle.problem_names.specs.declared.ModelName.{ModelName}
use Rattle.journal_file.specs.Refusing.{Opens}
use Rattle.journal_file.specs.declared.error.JournalError.{JournalError}
use Rattle.journal_bytes.specs.Journal.{◌>>=◌, HeadView, JournalView, or_malformed, head_of, model_at, text_of, is_distance, is_version, distance_at, within_at, mark_at, records_from, tail_of, journal_in, journal_of, journal_view, new_head}

-- a distance passes the test of a head
pub passes : (within : ℤ) → IsDistance within → IsTrue (is_distance within)
passes within near = rw (int_le-from (pos 0) within near.least, int_le-from within (pos (2 ^ 50)) near.most) refl

both : (a b : Bool) → (a && b) ≡ true → (a ≡ true) × (b ≡ true)
both true b h = (refl, h)
both false b h = absurd (cc)

-- and what passes it is one
near : (within : ℤ) → is_distance within ≡ true → IsDistance within
near within h =
    let parts = both (int_le (pos 0) within) (int_le within MOST_WITHIN) h in
    record { least = int_le-is (pos 0) within parts.0; most = int_le-is within MOST_WITHIN parts.1 }

-- the distance, where there is one
abbrev HasNear : Option (ℤ × List ℕ) → Type 0
HasNear o = IfSome o (λ x. IsDistance x.0)

near-if : (within : ℤ) (rest : List ℕ) (b : Bool) → is_distance within ≡ b → HasNear (if b then Some (within, rest) else None)
near-if within rest true h = near within h
near-if within rest false h = tt

near-at : (bytes : List ℕ) → HasNear (distance_at bytes)
unfolding distance_at
near-at bytes = elim (number_at w64 bytes) as (λ o. HasNear (elim o [ None ↦ None | Some n ↦ if is_distance (cast_signed w64 n.0) then Some (cast_signed w64 n.0, n.1) else None ])) [
  | None ↦ tt
  | Some n ↦ near-if (cast_signed w64 n.0) n.1 (is_distance (cast_signed w64 n.0)) refl
]

no-distance : IsDistance (pos 0)
no-distance = record { least = omega (arith, ints); most = omega (arith, ints) }

near-within : (version : ℕ) (bytes : List ℕ) → HasNear (within_at version bytes)
unfolding within_at
near-within version bytes = elim (version == 1) as (λ b. HasNear (if b then Some (pos 0, bytes) else distance_at bytes)) [ true ↦ no-distance | false ↦ near-at bytes ]

-- ---- along a reading

then-ok : {A B : Type 0} (P : A → Type 0) (Q : B → Type 0) (r : Result A Refusal) (f : A → Result B Refusal) → IfOk r P → ((x : A) → P x → IfOk (f x) Q) → IfOk (r >>= f) Q
then-ok P Q (Ok x) f h g = g x h
then-ok P Q (Err e) f h g = tt

any-ok : {A : Type 0} (r : Result A Refusal) → IfOk r (λ x. Unit {0})
any-ok (Ok x) = tt
any-ok (Err e) = tt

found-ok : {A : Type 0} (P : A → Type 0) (at : ℕ) (o : Option A) → IfSome o P → IfOk (or_malformed at o) P
found-ok P at None h = tt
found-ok P at (Some x) h = h

if-ok : {A : Type 0} (P : A → Type 0) (b : Bool) (r : Result A Refusal) (e : Refusal) → IfOk r P → IfOk (if b then r else Err e) P
if-ok P true r e h = h
if-ok P false r e h = tt

abbrev IsNear : HeadView → Type 0
IsNear h = IsDistance h.within

near-head : (f : Frame) → IfOk (head_of f) IsNear
unfolding head_of
near-head f =
    if-ok IsNear (f.kind == 1) _ (Malformed 0)
    (then-ok (λ v. Unit {0}) IsNear (or_malformed 0 (number_at w32 f.body)) _ (any-ok (or_malformed 0 (number_at w32 f.body))) (λ version any.
    if-ok IsNear (is_version version.0) _ (Version version.0)
    (then-ok (λ m. Unit {0}) IsNear (or_malformed 0 (model_at version.1)) _ (any-ok (or_malformed 0 (model_at version.1))) (λ model any.
    then-ok (λ x. IsDistance x.0) IsNear (or_malformed 0 (within_at version.0 model.1)) _ (found-ok (λ x. IsDistance x.0) 0 (within_at version.0 model.1) (near-within version.0 model.1)) (λ within is.
    then-ok (λ p. Unit {0}) IsNear (or_malformed 0 (mark_at version.0 within.1)) _ (any-ok (or_malformed 0 (mark_at version.0 within.1))) (λ part any.
    then-ok (λ t. Unit {0}) IsNear (or_malformed 0 (text_of part.1)) _ (any-ok (or_malformed 0 (text_of part.1))) (λ text any. is)))))))

abbrev IsNearIn : JournalView → Type 0
IsNearIn j = IsNear j.head

near-frames : (r : Reading) (fs : List Frame) → r.frames ≡ fs → IfOk (journal_in r) IsNearIn
unfolding journal_in
near-frames r [] same = rw same (by-whole r.is_whole)
  where
    by-whole : (b : Bool) → IfOk (if b then Err NotBegun else Err (Damaged r.end)) IsNearIn
    by-whole true = tt
    by-whole false = tt
near-frames r (f ∷ fs) same = rw same
    (then-ok IsNear IsNearIn (head_of f) _ (near-head f) (λ head near.
    then-ok (λ rs. Unit {0}) IsNearIn (records_from head.version (FRAME_OVERHEAD + length f.body) fs) _ (any-ok (records_from head.version (FRAME_OVERHEAD + length f.body) fs)) (λ records any.
    if-ok IsNearIn r.is_whole (Ok (record { head = head; records = records; tail = tail_of r head.version records })) (Damaged r.end) near)))

near-file : (file : List ℕ) → IfOk (journal_of file) IsNearIn
unfolding journal_of
near-file file = elim (nat_le (length file) 1) as (λ b. IfOk (if b then Err NotBegun else journal_in (reading_of file)) IsNearIn) [ true ↦ tt | false ↦ near-frames (reading_of file) (reading_of file).frames refl ]

-- the distance of the head of what a file reads as
pub head-distance : (file : List ℕ) (j : JournalView) → journal_of file ≡ Ok j → IsDistance j.head.within
head-distance file j reads = subst (λ r. IfOk r IsNearIn) reads (near-file file)

-- and so that of a journal that is opened
pub heads-near : (r : Result (Head × RecordsView × Tail) JournalError) (read : Result JournalView Refusal) → Opens r read → ((j : JournalView) → read ≡ Ok j → IsDistance j.head.within) → IfOk r (λ j. IsDistance j.0.within)
heads-near (Ok j) read opens h = h (journal_view j) opens
heads-near (Err e) read opens h = tt

-- the head that is written for an instance
pub same-head : (h : Head) (name : ModelName) (within : ℤ) (text : List ℕ) → h.model ≡ name → h.within ≡ within → h.part ≡ None → h.text.items ≡ text → new_head h ≡ record { version = VERSION; within = within; model = name; part = None; text = text }
same-head h name within text model near whole items =
    λ i. record { version = VERSION; within = near i; model = model i; part = whole i; text = items i }
