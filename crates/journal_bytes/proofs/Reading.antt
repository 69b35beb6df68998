-- What is written is read again.
use Rattle.std.proofs.Common.{◌≡◌, ◌≢◌, ℕ, zero, suc, ◌+◌, ◌<◌, ◌≤◌, true, false, List, [], ◌∷◌, ◌++◌, length, take, drop, refl, sym, ◌∙◌, ap, arith, append_assoc, length-append}
use Rattle.std.specs.Prelude.{nat_lt, ◌&&◌, if◌then◌else◌}
use Rattle.std.specs.List.{AllByRecursion}
use Rattle.std.specs.Str.{bytes_eq}
use Rattle.std.specs.Int.{w32, to_be_bytes}
use Rattle.std.proofs.lemmas.Bool.Decides.{nat_tests}
use Rattle.std.proofs.lemmas.List.{take_at, drop_at, append-nil}
use Rattle.std.proofs.lemmas.Nat.{from_be_bytes-to_be_bytes_4}
use Rattle.std.proofs.lemmas.Slice.Eq.{bytes_eq-Decides}
use Rattle.sha2.proofs.Facts256.{length-sha256}
use Rattle.journal_bytes.specs.Frames.{Frame, Fits, digest_of, sealed, no_digest, spelled, digest_after, body_length, frame_at, is_sound, with_front, reading, ReadsAs}

pub length-digest_of : (before : List ℕ) (f : Frame) → length (digest_of before f) ≡ 32
unfolding digest_of
length-digest_of before f = length-sha256 _

module _ (before : List ℕ) (f : Frame) (fits : Fits f) (gate : ℕ) (more : List ℕ) where
  -- a frame at the front, by its bytes
  abbrev front : List ℕ
  front = gate ∷ f.kind ∷ (to_be_bytes w32 (length f.body) ++ (f.body ++ (digest_of before f ++ more)))

  pub front-is : (gate ∷ sealed before f) ++ more ≡ front
  front-is = simp append_assoc

  pub length-front : length front ≡ 38 + length f.body + length more
  length-front = omega (arith, length-append f.body (digest_of before f ++ more), length-append (digest_of before f) more, length-digest_of before f)

  pub front_length : body_length front ≡ length f.body
  unfolding body_length
  front_length = from_be_bytes-to_be_bytes_4 (length f.body) fits.length_fits

  pub front_frame : frame_at front ≡ f
  unfolding frame_at
  front_frame = let body : take (body_length front) (f.body ++ (digest_of before f ++ more)) ≡ f.body = take_at f.body (digest_of before f ++ more) (body_length front) (sym front_length) in
      λ i. record { kind = f.kind; body = body i }

  length-gate_sealed : length (gate ∷ sealed before f) ≡ 38 + length f.body
  length-gate_sealed = omega (arith, length-append f.body (digest_of before f), length-digest_of before f)

  pub front_rest : drop (38 + body_length front) front ≡ more
  front_rest = ap (λ (l : List ℕ). drop (38 + body_length front) l) (sym front-is) ∙ drop_at (gate ∷ sealed before f) more (38 + body_length front) (omega (arith, length-gate_sealed, front_length))

  front_digest : take 32 (drop (6 + body_length front) front) ≡ digest_of before f
  front_digest =
      let head : List ℕ = gate ∷ f.kind ∷ (to_be_bytes w32 (length f.body) ++ f.body) in
      let parts : front ≡ head ++ (digest_of before f ++ more) = simp append_assoc in
      ap (λ (l : List ℕ). take 32 (drop (6 + body_length front) l)) parts ∙ ap (λ (l : List ℕ). take 32 l) (drop_at head (digest_of before f ++ more) (6 + body_length front) (omega (arith, front_length)))
      ∙ take_at (digest_of before f) more 32 (length-digest_of before f)

  pub front_sound : 0 < length more → is_sound before front ≡ true
  unfolding is_sound
  front_sound some =
      let same : bytes_eq (take 32 (drop (6 + body_length front) front)) (digest_of before (frame_at front)) ≡ true = (bytes_eq-Decides _ _).1 (front_digest ∙ ap (digest_of before) (sym front_frame)) in
      let long : nat_lt (38 + body_length front) (length front) ≡ true = grind (arith, nat_tests, length-front, front_length) in
      λ i. long i && same i

-- a frame with an open gate is read, and then what stands after it
pub reading_open : (n : ℕ) (before : List ℕ) (at : ℕ) (f : Frame) (more : List ℕ) (fits : Fits f) → 0 < length more
    → reading (suc n) before at (front before f fits 1 more) ≡ with_front f (reading n (digest_of before f) (at + 38 + length f.body) more)
unfolding reading
reading_open n before at f more fits some =
    let sound = front_sound before f fits 1 more some in
    let frame = front_frame before f fits 1 more in
    let size = front_length before f fits 1 more in
    let rest = front_rest before f fits 1 more in
    λ i. if sound i then with_front (frame i) (reading n (digest_of before (frame i)) (at + 38 + size i) (rest i)) else record { frames = []; digest = before; end = at; is_whole = false }

-- a closed gate ends a reading, whatever stands after it
pub reading_closed : (n : ℕ) (before : List ℕ) (at gate : ℕ) (rest : List ℕ) → gate ≢ 1 → reading (suc n) before at (gate ∷ rest) ≡ record { frames = []; digest = before; end = at; is_whole = true }
unfolding reading
reading_closed n before at gate rest shut = grind (arith, nat_tests)

pub length-spelled : (before : List ℕ) (f : Frame) (fs : List Frame) → length (spelled before (f ∷ fs)) ≡ 38 + length f.body + length (spelled (digest_of before f) fs)
length-spelled before f fs = omega (arith, length-append f.body (digest_of before f), length-digest_of before f, length-append (1 ∷ sealed before f) (spelled (digest_of before f) fs))

pub count-spelled : (before : List ℕ) (fs : List Frame) → length fs ≤ length (spelled before fs)
count-spelled before [] = omega arith
count-spelled before (f ∷ fs) = omega (arith, length-spelled before f fs, count-spelled (digest_of before f) fs)

-- what is spelled is read again, up to a closed gate
pub reading-spelled : (fs : List Frame) (n : ℕ) (before : List ℕ) (at gate : ℕ) (rest : List ℕ) → AllByRecursion Fits fs → gate ≢ 1 → length fs < n
    → reading n before at (spelled before fs ++ gate ∷ rest) ≡ record { frames = fs; digest = digest_after before fs; end = at + length (spelled before fs); is_whole = true }
reading-spelled fs zero before at gate rest fit shut fuel = absurd (omega arith)
reading-spelled [] (suc n) before at gate rest fit shut fuel =
    let none : at ≡ at + 0 = omega arith in
    reading_closed n before at gate rest shut ∙ (λ i. record { frames = []; digest = before; end = none i; is_whole = true })
reading-spelled (f ∷ fs) (suc n) before at gate rest fit shut fuel =
    let more = spelled (digest_of before f) fs ++ gate ∷ rest in
    let parts : spelled before (f ∷ fs) ++ gate ∷ rest ≡ front before f fit.0 1 more = append_assoc (1 ∷ sealed before f) (spelled (digest_of before f) fs) (gate ∷ rest) ∙ front-is before f fit.0 1 more in
    let some : 0 < length more = omega (arith, length-append (spelled (digest_of before f) fs) (gate ∷ rest)) in
    let sum : at + 38 + length f.body + length (spelled (digest_of before f) fs) ≡ at + length (spelled before (f ∷ fs)) = omega (arith, length-spelled before f fs) in
    ap (reading (suc n) before at) parts ∙ reading_open n before at f more fit.0 some
    ∙ ap (with_front f) (reading-spelled fs n (digest_of before f) (at + 38 + length f.body) gate rest fit.1 shut (omega arith))
    ∙ (λ i. record { frames = f ∷ fs; digest = digest_after (digest_of before f) fs; end = sum i; is_whole = true })

pub reads_as : (fs : List Frame) (gate : ℕ) (rest : List ℕ) → AllByRecursion Fits fs → gate ≢ 1 → ReadsAs fs (spelled no_digest fs ++ gate ∷ rest)
reads_as fs gate rest fit shut =
    let zero_end : 0 + length (spelled no_digest fs) ≡ length (spelled no_digest fs) = omega arith in
    reading-spelled fs (length (spelled no_digest fs ++ gate ∷ rest)) no_digest 0 gate rest fit shut (omega (arith, count-spelled no_digest fs, length-append (spelled no_digest fs) (gate ∷ rest)))
    ∙ (λ i. record { frames = fs; digest = digest_after no_digest fs; end = zero_end i; is_whole = true })

pub spelled-push : (fs : List Frame) (before : List ℕ) (f : Frame) (more : List ℕ) → spelled before (fs ++ f ∷ []) ++ more ≡ spelled before fs ++ (1 ∷ (sealed (digest_after before fs) f ++ more))
spelled-push [] before f more = ap (λ (l : List ℕ). l ++ more) (append-nil (1 ∷ sealed before f))
spelled-push (g ∷ fs) before f more = append_assoc (1 ∷ sealed before g) _ more ∙ ap (λ (l : List ℕ). (1 ∷ sealed before g) ++ l) (spelled-push fs (digest_of before g) f more) ∙ sym (append_assoc (1 ∷ sealed before g) _ _)

pub fit-push : (fs : List Frame) (f : Frame) → AllByRecursion Fits fs → Fits f → AllByRecursion Fits (fs ++ f ∷ [])
fit-push [] f fit last = (last, tt)
fit-push (g ∷ fs) f fit last = (fit.0, fit-push fs f fit.1 last)

pub digest-push : (fs : List Frame) (before : List ℕ) (f : Frame) → digest_after before (fs ++ f ∷ []) ≡ digest_of (digest_after before fs) f
digest-push [] before f = refl
digest-push (g ∷ fs) before f = digest-push fs (digest_of before g) f
