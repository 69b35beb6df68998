-- A reading goes on frame by frame.
use Rattle.std.proofs.Common.{◌≡◌, ◌≢◌, ℕ, suc, ◌+◌, Bool, true, false, List, [], ◌∷◌, ◌++◌, get_or, take, drop, sym, ◌∙◌, ap, arith, append_assoc}
use Rattle.std.proofs.lemmas.Bool.Decides.{nat_tests}
use Rattle.std.proofs.lemmas.List.{append-nil, drop-drop}
use Rattle.journal_bytes.specs.Frames.{Frame, digest_of, Reading, body_length, frame_at, is_sound, with_front, reading}

-- these frames come first
abbrev pub with_fronts : List Frame → Reading → Reading
with_fronts fs r = record r { frames = fs ++ r.frames }

pub with_fronts-push : (fs : List Frame) (f : Frame) (r : Reading) → with_fronts (fs ++ f ∷ []) r ≡ with_fronts fs (with_front f r)
with_fronts-push fs f r = λ i. record r { frames = append_assoc fs (f ∷ []) r.frames i }

-- here a reading ends
abbrev pub ends : List ℕ → ℕ → Bool → Reading
ends before at whole = record { frames = []; digest = before; end = at; is_whole = whole }

pub reading_sound : (n m : ℕ) (before : List ℕ) (at : ℕ) (bytes : List ℕ) → n ≡ suc m → get_or bytes 0 0 ≡ 1 → is_sound before bytes ≡ true
    → reading n before at bytes ≡ with_front (frame_at bytes) (reading m (digest_of before (frame_at bytes)) (at + 38 + body_length bytes) (drop (38 + body_length bytes) bytes))
unfolding reading
reading_sound n m before at bytes is open_gate sound = ap (λ (k : ℕ). reading k before at bytes) is ∙ grind (arith, nat_tests)

pub reading_damaged : (n m : ℕ) (before : List ℕ) (at : ℕ) (bytes : List ℕ) → n ≡ suc m → get_or bytes 0 0 ≡ 1 → is_sound before bytes ≡ false → reading n before at bytes ≡ ends before at false
unfolding reading
reading_damaged n m before at bytes is open_gate sound = ap (λ (k : ℕ). reading k before at bytes) is ∙ grind (arith, nat_tests)

pub reading_shut : (n m : ℕ) (before : List ℕ) (at : ℕ) (bytes : List ℕ) → n ≡ suc m → get_or bytes 0 0 ≢ 1 → reading n before at bytes ≡ ends before at true
unfolding reading
reading_shut n m before at bytes is shut = ap (λ (k : ℕ). reading k before at bytes) is ∙ grind (arith, nat_tests)

pub reading_none : (n : ℕ) (before : List ℕ) (at : ℕ) (bytes : List ℕ) → n ≡ 0 → reading n before at bytes ≡ ends before at false
unfolding reading
reading_none n before at bytes is = ap (λ (k : ℕ). reading k before at bytes) is

-- what was found where it ends; `bytes` is the rest of the file as the code cuts it
pub stops : (fs : List Frame) (n : ℕ) (before : List ℕ) (at : ℕ) (file bytes : List ℕ) (whole : Bool) (all : Reading) → bytes ≡ drop at file → reading n before at bytes ≡ ends before at whole → with_fronts fs (reading n before at (drop at file)) ≡ all → record { frames = fs; digest = before; end = at; is_whole = whole } ≡ all
stops fs n before at file bytes whole all bytes_are stop so_far =
    (λ i. record { frames = sym (append-nil fs) i; digest = before; end = at; is_whole = whole }) ∙ sym (ap (with_fronts fs) stop) ∙ ap (λ (l : List ℕ). with_fronts fs (reading n before at l)) bytes_are ∙ so_far

-- what was found where a frame more is read
pub goes : (fs : List Frame) (n m : ℕ) (before next : List ℕ) (at size : ℕ) (file bytes : List ℕ) (f : Frame) (all : Reading) → bytes ≡ drop at file → n ≡ suc m → get_or bytes 0 0 ≡ 1 → is_sound before bytes ≡ true → size ≡ body_length bytes → next ≡ digest_of before (frame_at bytes) → f ≡ frame_at bytes
    → with_fronts fs (reading n before at (drop at file)) ≡ all → with_fronts (fs ++ f ∷ []) (reading m next (at + (38 + size)) (drop (at + (38 + size)) file)) ≡ all
goes fs n m before next at size file bytes f all bytes_are is open_gate sound size_is next_is f_is so_far =
    let at_is : at + (38 + size) ≡ at + 38 + body_length bytes = omega arith in
    let rest_is : drop (at + (38 + size)) file ≡ drop (38 + body_length bytes) bytes = sym (drop-drop (38 + size) at file) ∙ (λ i. drop (38 + size_is i) (sym bytes_are i)) in
    with_fronts-push fs f (reading m next (at + (38 + size)) (drop (at + (38 + size)) file))
    ∙ (λ i. with_fronts fs (with_front (f_is i) (reading m (next_is i) (at_is i) (rest_is i))))
    ∙ sym (ap (with_fronts fs) (reading_sound n m before at bytes is open_gate sound)) ∙ ap (λ (l : List ℕ). with_fronts fs (reading n before at l)) bytes_are ∙ so_far

-- the frame that the code copies is the one that stands there
pub frame_is : (bytes body : List ℕ) (size : ℕ) → size ≡ body_length bytes → body ≡ take size (drop 6 bytes) → record { kind = get_or bytes 1 0; body = body } ≡ frame_at bytes
unfolding frame_at
frame_is bytes body size size_is body_is = λ i. record { kind = get_or bytes 1 0; body = (body_is ∙ ap (λ (n : ℕ). take n (drop 6 bytes)) size_is) i }
