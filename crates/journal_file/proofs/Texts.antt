-- The text of a journal's head.
use Rattle.std.proofs.Common.{◌≡◌, inl, inr, ℕ, ◌+◌, ◌-◌, ◌^◌, ◌<◌, ◌≤◌, Bool, true, false, List, [], ◌∷◌, length, drop, Option, Some, None, Result, Ok, Err, sym, ◌∙◌, subst, arith, length-drop}
use Rattle.std.specs.Prelude.{IfOk, IfSome, if◌then◌else◌, ◌==◌}
use Rattle.std.specs.Int.{w32, w64}
use Rattle.std.specs.List.{AllByRecursion}
use Rattle.std.proofs.lemmas.Bool.{cases_lt}
use Rattle.std.proofs.lemmas.Bool.Decides.{nat_tests}
use Rattle.journal_bytes.specs.declared.refusal.Refusal.{Refusal}
use Rattle.journal_bytes.specs.declared.tail.Tail.{Tail}
use Rattle.journal_bytes.specs.declared.head.Part.{Part}
use Rattle.journal_bytes.specs.Bodies.{◌>>=◌ as bind, number_at, part_at}
use Rattle.journal_bytes.specs.Ends.{EndsAt}
use Rattle.journal_bytes.specs.Frames.{Frame, Fits, reading_of, frames_of}
use Rattle.journal_bytes.specs.Journal.{◌>>=◌, HeadView, JournalView, or_malformed, model_at, is_version, distance_at, within_at, mark_at, text_of, head_of, records_from, journal_in, journal_of}
use Rattle.journal_bytes.proofs.Ended.{short_file, long_file}

-- what is read of a field leaves fewer bytes
after_word : (bytes : List ℕ) → IfSome (number_at w32 bytes) (λ n. 4 + length n.1 ≤ length bytes)
after_word bytes = elim (cases_lt (length bytes) 4) [
  | inl short ↦ grind (arith, nat_tests)
  | inr long ↦ grind (arith, nat_tests, length-drop)
]

after_model : (bytes : List ℕ) → IfSome (model_at bytes) (λ m. 1 + length m.1 ≤ length bytes)
unfolding model_at
after_model [] = tt
after_model (b ∷ rest) = grind (arith)

text_within : (bytes : List ℕ) → IfSome (text_of bytes) (λ text. 4 + length text ≤ length bytes)
unfolding text_of
text_within bytes = let n = after_word bytes in grind (arith)

after_long : (bytes : List ℕ) → IfSome (number_at w64 bytes) (λ n. 8 + length n.1 ≤ length bytes)
after_long bytes = elim (cases_lt (length bytes) 8) [
  | inl short ↦ grind (arith, nat_tests)
  | inr long ↦ grind (arith, nat_tests, length-drop)
]

after_distance : (bytes : List ℕ) → IfSome (distance_at bytes) (λ z. length z.1 ≤ length bytes)
unfolding distance_at
after_distance bytes = let n = after_long bytes in grind (arith)

after_within : (version : ℕ) (bytes : List ℕ) → IfSome (within_at version bytes) (λ z. length z.1 ≤ length bytes)
unfolding within_at
after_within version bytes = let far = after_distance bytes in grind (arith)

if_bind : {A B : Type 0} (P : A → Type 0) (Q : B → Type 0) (o : Option A) (f : A → Option B) → IfSome o P → ((x : A) → P x → IfSome (f x) Q) → IfSome (bind o f) Q
if_bind P Q None f has next = tt
if_bind P Q (Some x) f has next = next x has

after_part : (bytes : List ℕ) → IfSome (part_at bytes) (λ p. length p.1 ≤ length bytes)
unfolding part_at
after_part bytes =
    if_bind (λ n. 4 + length n.1 ≤ length bytes) (λ p. length p.1 ≤ length bytes) (number_at w32 bytes) _ (after_word bytes) (λ index less.
    if_bind (λ n. 4 + length n.1 ≤ length index.1) (λ p. length p.1 ≤ length bytes) (number_at w32 index.1) _ (after_word index.1) (λ of fewer. kept of.1 _ _ (omega (arith, less, fewer))))
  where
    kept : (rest : List ℕ) (b : Bool) (p : Part) → length rest ≤ length bytes → IfSome {T = Part × List ℕ} (if b then None else Some (p, drop 32 rest)) (λ p. length p.1 ≤ length bytes)
    kept rest true p le = tt
    kept rest false p le = omega (arith, le, length-drop 32 rest)

after_mark : (version : ℕ) (bytes : List ℕ) → IfSome (mark_at version bytes) (λ p. length p.1 ≤ length bytes)
unfolding mark_at
after_mark version bytes = let part = after_part bytes in grind (arith)

module _ {A B : Type 0} (f : A → Result B Refusal) (P : A → Type 0) (Q : B → Type 0) (next : (x : A) → P x → IfOk (f x) Q) where
  if_ok : (r : Result A Refusal) → IfOk r P → IfOk (r >>= f) Q
  if_ok (Ok x) has = next x has
  if_ok (Err e) has = tt

  if_some : (at : ℕ) (o : Option A) → IfSome o P → IfOk (or_malformed at o >>= f) Q
  if_some at (Some x) has = next x has
  if_some at None has = tt

on_either : {A : Type 0} (b : Bool) (x y : Result A Refusal) (Q : A → Type 0) → IfOk x Q → IfOk y Q → IfOk (if b then x else y) Q
on_either true x y Q one other = one
on_either false x y Q one other = other

-- a version of four bytes, the problem's byte and a length of four bytes stand before the text
abbrev IsWithin : ℕ → HeadView → Type 0
IsWithin n head = 9 + length head.text ≤ n

head_within : (f : Frame) → IfOk (head_of f) (IsWithin (length f.body))
unfolding head_of
head_within f =
    on_either (f.kind == 1) _ _ (IsWithin (length f.body))
    (if_some _ (λ version. 4 + length version.1 ≤ length f.body) (IsWithin (length f.body)) (λ version fits.
    on_either (is_version version.0) _ _ (IsWithin (length f.body))
    (if_some _ (λ model. 1 + length model.1 ≤ length version.1) (IsWithin (length f.body)) (λ model fits_model.
    if_some _ (λ within. length within.1 ≤ length model.1) (IsWithin (length f.body)) (λ within fits_within.
    if_some _ (λ part. length part.1 ≤ length within.1) (IsWithin (length f.body)) (λ part fits_part.
    if_some _ (λ text. 4 + length text ≤ length part.1) (IsWithin (length f.body)) (λ text fits_text. omega (arith, fits, fits_model, fits_within, fits_part, fits_text)) 0 (text_of part.1) (text_within part.1)) 0 (mark_at version.0 within.1) (after_mark version.0 within.1)) 0 (within_at version.0 model.1) (after_within version.0 model.1)) 0 (model_at version.1) (after_model version.1))
    tt) 0 (number_at w32 f.body) (after_word f.body))
    tt

-- shorter than a length of four bytes can tell
abbrev pub IsShort : JournalView → Type 0
IsShort j = length j.head.text < 2 ^ 32 - 1

in_frames : (fs : List Frame) (digest : List ℕ) (end : ℕ) (is_whole : Bool) → AllByRecursion Fits fs → IfOk (journal_in (record { frames = fs; digest = digest; end = end; is_whole = is_whole })) IsShort
unfolding journal_in
in_frames [] digest end is_whole fit = on_either is_whole _ _ IsShort tt tt
in_frames (f ∷ fs) digest end is_whole fit =
    if_ok _ (IsWithin (length f.body)) IsShort (λ head within.
    if_ok _ (λ _. Unit {0}) IsShort (λ records _. on_either is_whole _ _ IsShort (omega (arith, within, fit.0.length_fits)) tt) (records_from head.version (38 + length f.body) fs) (any (records_from head.version (38 + length f.body) fs))) (head_of f) (head_within f)
  where
    any : {A : Type 0} (r : Result A Refusal) → IfOk r (λ _. Unit {0})
    any (Ok x) = tt
    any (Err e) = tt

pub is_short : (file : List ℕ) (tail : Tail) (j : JournalView) → EndsAt file tail (frames_of file) → journal_of file ≡ Ok j → IsShort j
is_short file tail j ends reads = elim (cases_lt 1 (length file)) [
  | inl long ↦ subst (λ r. IfOk r IsShort) (sym (long_file file long) ∙ reads) (in_frames (reading_of file).frames (reading_of file).digest (reading_of file).end (reading_of file).is_whole ends.fit)
  | inr short ↦ subst (λ r. IfOk r IsShort) (sym (short_file file short) ∙ reads) tt
]
