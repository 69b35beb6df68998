-- What is read up to a closed gate is spelled so.
use Rattle.std.proofs.Common.{◌≡◌, ◌≢◌, inl, inr, ℕ, zero, suc, ◌+◌, ◌^◌, ◌<◌, Bool, true, false, List, [], ◌∷◌, ◌++◌, length, get_or, take, drop, refl, sym, ◌∙◌, ap, subst, arith, append_assoc, length-drop, take-append-drop}
use Rattle.std.specs.List.{AllByRecursion}
use Rattle.std.specs.Prelude.{nat_lt}
use Rattle.std.specs.Int.{w32, to_be_bytes, from_be_bytes}
use Rattle.std.proofs.lemmas.Bool.{cases_eq, and_parts}
use Rattle.std.proofs.lemmas.Bool.Decides.{nat_tests}
use Rattle.std.proofs.lemmas.List.{drop-drop, length-take-le, get_or-drop}
use Rattle.std.proofs.lemmas.Nat.{be_bytes_4}
use Rattle.std.proofs.lemmas.Slice.Eq.{bytes_eq-Decides}
use Rattle.journal_bytes.specs.Frames.{Frame, Fits, digest_of, sealed, spelled, digest_after, Reading, body_length, frame_at, is_sound, with_front, reading, IsBytes}
use Rattle.journal_bytes.proofs.Reading.{length-spelled}
use Rattle.journal_bytes.proofs.Found.{ends, reading_none, reading_shut, reading_sound, reading_damaged}

pub bytes_drop : (n : ℕ) (bytes : List ℕ) → IsBytes bytes → IsBytes (drop n bytes)
bytes_drop n bytes h i = rw get_or-drop (h (n + i))

from_be_bytes_4 : (bytes : List ℕ) → IsBytes bytes → from_be_bytes w32 bytes < 2 ^ 32
from_be_bytes_4 bytes is = omega (arith, is 0, is 1, is 2, is 3)

-- how a frame with an open gate stands at the front
pub record Front (before bytes : List ℕ) : Type 0 where
  pub fits : Fits (frame_at bytes)
  pub long : 38 + body_length bytes < length bytes
  pub parts : bytes ≡ (1 ∷ sealed before (frame_at bytes)) ++ drop (38 + body_length bytes) bytes
  pub size : length (frame_at bytes).body ≡ body_length bytes

pub long_of : (before bytes : List ℕ) → is_sound before bytes ≡ true → 38 + body_length bytes < length bytes
unfolding is_sound
long_of before bytes sound = let both = and_parts (nat_lt (38 + body_length bytes) (length bytes)) _ sound in let one : nat_lt (38 + body_length bytes) (length bytes) ≡ true = both.0 in grind (arith, nat_tests)

digest_is : (before bytes : List ℕ) → is_sound before bytes ≡ true → take 32 (drop (6 + body_length bytes) bytes) ≡ digest_of before (frame_at bytes)
unfolding is_sound
digest_is before bytes sound = (bytes_eq-Decides _ _).0 ((and_parts (nat_lt (38 + body_length bytes) (length bytes)) _ sound).1)

four_bytes : (a b c d e g : ℕ) (rest : List ℕ) → IsBytes (a ∷ b ∷ c ∷ d ∷ e ∷ g ∷ rest) → IsBytes (c ∷ d ∷ e ∷ g ∷ [])
four_bytes a b c d e g rest is zero = is 2
four_bytes a b c d e g rest is (suc zero) = is 3
four_bytes a b c d e g rest is (suc (suc zero)) = is 4
four_bytes a b c d e g rest is (suc (suc (suc zero))) = is 5
four_bytes a b c d e g rest is (suc (suc (suc (suc i)))) = omega arith

front_long : (before : List ℕ) (a b c d e g : ℕ) (rest : List ℕ) → IsBytes (a ∷ b ∷ c ∷ d ∷ e ∷ g ∷ rest) → a ≡ 1 → is_sound before (a ∷ b ∷ c ∷ d ∷ e ∷ g ∷ rest) ≡ true → Front before (a ∷ b ∷ c ∷ d ∷ e ∷ g ∷ rest)
unfolding body_length frame_at
front_long before a b c d e g rest is open_gate sound =
    let bytes : List ℕ = a ∷ b ∷ c ∷ d ∷ e ∷ g ∷ rest in
    let k : ℕ = body_length bytes in
    let f : Frame = frame_at bytes in
    let long : 38 + k < length bytes = long_of before bytes sound in
    let size : length (take k rest) ≡ k = length-take-le k rest (omega arith) in
    let four : to_be_bytes w32 k ≡ c ∷ d ∷ e ∷ g ∷ [] = be_bytes_4 (c ∷ d ∷ e ∷ g ∷ []) k refl (four_bytes a b c d e g rest is) refl in
    let small : k < 2 ^ 32 = from_be_bytes_4 (c ∷ d ∷ e ∷ g ∷ []) (four_bytes a b c d e g rest is) in
    let tail : List ℕ = drop (38 + k) bytes in
    let digest : take 32 (drop k rest) ≡ digest_of before f = ap (λ (l : List ℕ). take 32 l) (drop-drop k 6 bytes) ∙ digest_is before bytes sound in
    let sum : 6 + k + 32 ≡ 38 + k = omega arith in
    let tail_is : drop 32 (drop k rest) ≡ tail = ap (λ (l : List ℕ). drop 32 l) (drop-drop k 6 bytes) ∙ drop-drop 32 (6 + k) bytes ∙ ap (λ (n : ℕ). drop n bytes) sum in
    let rest_is : rest ≡ take k rest ++ (digest_of before f ++ tail) = sym (take-append-drop k rest) ∙ ap (λ (l : List ℕ). take k rest ++ l) (sym (take-append-drop 32 (drop k rest)) ∙ (λ i. digest i ++ tail_is i)) in
    let head : c ∷ d ∷ e ∷ g ∷ [] ≡ to_be_bytes w32 (length (take k rest)) = sym four ∙ ap (to_be_bytes w32) (sym size) in
    let regrouped : (1 ∷ sealed before f) ++ tail ≡ 1 ∷ b ∷ (to_be_bytes w32 (length (take k rest)) ++ (take k rest ++ (digest_of before f ++ tail))) = simp append_assoc in
    let first : bytes ≡ 1 ∷ b ∷ ((c ∷ d ∷ e ∷ g ∷ []) ++ rest) = λ i. open_gate i ∷ b ∷ c ∷ d ∷ e ∷ g ∷ rest in
    let second : 1 ∷ b ∷ ((c ∷ d ∷ e ∷ g ∷ []) ++ rest) ≡ 1 ∷ b ∷ (to_be_bytes w32 (length (take k rest)) ++ (take k rest ++ (digest_of before f ++ tail))) = λ i. 1 ∷ b ∷ (head i ++ rest_is i) in
    record {
      fits = record { kind = is 1; length_fits = omega arith };
      long = long;
      parts = first ∙ second ∙ sym regrouped;
      size = size;
    }

pub front_of : (before bytes : List ℕ) → IsBytes bytes → get_or bytes 0 0 ≡ 1 → is_sound before bytes ≡ true → Front before bytes
front_of before [] is open_gate sound = absurd (omega (arith, long_of before [] sound))
front_of before (a ∷ []) is open_gate sound = absurd (omega (arith, long_of before (a ∷ []) sound))
front_of before (a ∷ b ∷ []) is open_gate sound = absurd (omega (arith, long_of before (a ∷ b ∷ []) sound))
front_of before (a ∷ b ∷ c ∷ []) is open_gate sound = absurd (omega (arith, long_of before (a ∷ b ∷ c ∷ []) sound))
front_of before (a ∷ b ∷ c ∷ d ∷ []) is open_gate sound = absurd (omega (arith, long_of before (a ∷ b ∷ c ∷ d ∷ []) sound))
front_of before (a ∷ b ∷ c ∷ d ∷ e ∷ []) is open_gate sound = absurd (omega (arith, long_of before (a ∷ b ∷ c ∷ d ∷ e ∷ []) sound))
front_of before (a ∷ b ∷ c ∷ d ∷ e ∷ g ∷ rest) is open_gate sound = front_long before a b c d e g rest is open_gate sound

-- a reading up to a closed gate, by the bytes that were read
pub record Spelled (before : List ℕ) (at : ℕ) (bytes : List ℕ) (r : Reading) : Type 0 where
  pub fit : AllByRecursion Fits r.frames
  pub gate : ℕ
  pub rest : List ℕ
  pub shut : gate ≢ 1
  pub parts : bytes ≡ spelled before r.frames ++ gate ∷ rest
  pub end : r.end ≡ at + length (spelled before r.frames)
  pub digest : r.digest ≡ digest_after before r.frames

at_gate : (before : List ℕ) (at : ℕ) (bytes : List ℕ) → 0 < length bytes → get_or bytes 0 0 ≢ 1 → Spelled before at bytes (ends before at true)
at_gate before at [] some shut = absurd (omega arith)
at_gate before at (a ∷ bytes) some shut = record { fit = tt; gate = a; rest = bytes; shut = shut; parts = refl; end = omega arith; digest = refl }

following : (before : List ℕ) (at : ℕ) (bytes : List ℕ) (r : Reading) → Front before bytes → Spelled (digest_of before (frame_at bytes)) (at + 38 + body_length bytes) (drop (38 + body_length bytes) bytes) r → Spelled before at bytes (with_front (frame_at bytes) r)
following before at bytes r front s = record {
  fit = (front.fits, s.fit);
  gate = s.gate;
  rest = s.rest;
  shut = s.shut;
  parts = front.parts ∙ ap (λ (l : List ℕ). (1 ∷ sealed before (frame_at bytes)) ++ l) s.parts ∙ sym (append_assoc (1 ∷ sealed before (frame_at bytes)) (spelled (digest_of before (frame_at bytes)) r.frames) (s.gate ∷ s.rest));
  end = omega (arith, s.end, front.size, length-spelled before (frame_at bytes) r.frames);
  digest = s.digest;
}

-- a front whose gate is open, by whether it is sound
by_soundness : (n : ℕ) (before : List ℕ) (at : ℕ) (bytes : List ℕ) (again : (b : List ℕ) (a : ℕ) (bs : List ℕ) → IsBytes bs → 0 < length bs → (reading n b a bs).is_whole ≡ true → Spelled b a bs (reading n b a bs))
    → IsBytes bytes → (reading (suc n) before at bytes).is_whole ≡ true → get_or bytes 0 0 ≡ 1 → (sound : Bool) → is_sound before bytes ≡ sound → Spelled before at bytes (reading (suc n) before at bytes)
by_soundness n before at bytes again is whole open_gate false damaged = let none : false ≡ true = sym (ap (λ r. r.is_whole) (reading_damaged (suc n) n before at bytes refl open_gate damaged)) ∙ whole in absurd cc
by_soundness n before at bytes again is whole open_gate true sound =
    let front = front_of before bytes is open_gate sound in
    let rest : List ℕ = drop (38 + body_length bytes) bytes in
    let next : Reading = reading n (digest_of before (frame_at bytes)) (at + 38 + body_length bytes) rest in
    let read = reading_sound (suc n) n before at bytes refl open_gate sound in
    let long : 0 < length rest = omega (arith, front.long, length-drop (38 + body_length bytes) bytes) in
    let next_whole : next.is_whole ≡ true = sym (ap (λ r. r.is_whole) read) ∙ whole in
    subst (Spelled before at bytes) (sym read) (following before at bytes next front (again (digest_of before (frame_at bytes)) (at + 38 + body_length bytes) rest (bytes_drop (38 + body_length bytes) bytes is) long next_whole))

pub spelled_from : (n : ℕ) (before : List ℕ) (at : ℕ) (bytes : List ℕ) → IsBytes bytes → 0 < length bytes → (reading n before at bytes).is_whole ≡ true → Spelled before at bytes (reading n before at bytes)
spelled_from zero before at bytes is some whole = let none : false ≡ true = sym (ap (λ r. r.is_whole) (reading_none 0 before at bytes refl)) ∙ whole in absurd cc
spelled_from (suc n) before at bytes is some whole = elim (cases_eq (get_or bytes 0 0) 1) [
  | inr shut ↦ subst (Spelled before at bytes) (sym (reading_shut (suc n) n before at bytes refl shut)) (at_gate before at bytes some shut)
  | inl open_gate ↦ by_soundness n before at bytes (λ b a bs. spelled_from n b a bs) is whole open_gate (is_sound before bytes) refl
]
