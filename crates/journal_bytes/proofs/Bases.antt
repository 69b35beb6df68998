-- The records after the last snapshot.
use Rattle.std.proofs.Common.{◌≡◌, ℕ, ◌+◌, cond, Bool, true, false, ◌||◌, List, [], ◌∷◌, length, refl, sym, ◌∙◌, ap, arith}
use Rattle.journal_bytes.specs.Bodies.{RecordView}
use Rattle.journal_bytes.specs.Base.{is_snapshot, have_snapshot, after_base}

-- how many stand after the last snapshot, where this many stood there before these
abbrev pub count_after : ℕ → List RecordView → ℕ
count_after n [] = n
count_after n (r ∷ rs) = count_after (cond (is_snapshot r) 0 (n + 1)) rs

one-more : (b c : Bool) (n : ℕ) (r : RecordView) (rs following : List RecordView)
    → cond c (length following) (cond b 0 (n + 1) + length rs) ≡ cond (b || c) (length (cond c following (cond b rs (r ∷ rs)))) (n + length (r ∷ rs))
one-more true true n r rs following = refl
one-more true false n r rs following = omega arith
one-more false true n r rs following = refl
one-more false false n r rs following = omega arith

counted-following : (n : ℕ) (rs : List RecordView) → count_after n rs ≡ cond (have_snapshot rs) (length (after_base rs)) (n + length rs)
counted-following n [] = omega arith
counted-following n (r ∷ rs) = counted-following (cond (is_snapshot r) 0 (n + 1)) rs ∙ one-more (is_snapshot r) (have_snapshot rs) n r rs (after_base rs)

no-snapshot : (b c : Bool) (r : RecordView) (rs following : List RecordView) → (b || c) ≡ false → cond c following (cond b rs (r ∷ rs)) ≡ r ∷ rs
no-snapshot true c r rs following h = absurd (cc)
no-snapshot false true r rs following h = absurd (cc)
no-snapshot false false r rs following h = refl

-- where there is no snapshot, all of them do
pub all-following : (rs : List RecordView) → have_snapshot rs ≡ false → after_base rs ≡ rs
all-following [] h = refl
all-following (r ∷ rs) h = no-snapshot (is_snapshot r) (have_snapshot rs) r rs (after_base rs) h

pub count-following : (rs : List RecordView) → count_after 0 rs ≡ length (after_base rs)
count-following rs =
    let Goal : Bool → Type 0 = λ b. cond b (length (after_base rs)) (0 + length rs) ≡ length (after_base rs) in
    let go : (b : Bool) → have_snapshot rs ≡ b → Goal b = λ b. elim b as (λ b. have_snapshot rs ≡ b → Goal b) [ true ↦ λ h. refl | false ↦ λ h. (let same : 0 + length rs ≡ length rs = omega arith in same ∙ ap length (sym (all-following rs h))) ] in
    counted-following 0 rs ∙ go (have_snapshot rs) refl
