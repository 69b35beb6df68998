-- Zeros that are written after zeros.
use Rattle.std.proofs.Common.{◌≡◌, ℕ, zero, suc, ◌+◌, ◌-◌, ◌<◌, ℤ, pos, List, [], ◌∷◌, length, take, drop, replicate, arith, ap, ◌∙◌, refl}
use Rattle.std.proofs.lemmas.List.{append-nil, drop_all, length-drop, take_all, take-replicate, replicate-append-replicate}
use borrow.Rule.Slice.PartMut.{put_mid, post_of}

-- the cells so far are zero, and zeros follow to the end
pub zeros_written : (old written : List ℤ) (done : ℕ) → done < length old → take done old ≡ take done (replicate (length old) (pos 0))
    → written ≡ replicate (length (take (length old - done) (drop done old))) (pos 0) → put_mid done (length old - done) old written ≡ replicate (length old) (pos 0)
zeros_written old written done h so_far is =
    let rest = length-drop done old in
    let whole : take (length old - done) (drop done old) ≡ drop done old = take_all (length old - done) (drop done old) (omega arith) in
    let count : length (take (length old - done) (drop done old)) ≡ length old - done = ap length whole ∙ rest in
    let begins : take done old ≡ replicate done (pos 0) = so_far ∙ take-replicate done (length old) (pos 0) (omega arith) in
    let ends : post_of done (length old - done) old ≡ [] = drop_all (length old - done) (drop done old) (omega arith) in
    let all : done + (length old - done) ≡ length old = omega arith in
    rw (begins, ends, append-nil, is, count, replicate-append-replicate, all) refl

-- the first cells of a row whose first cells are zero
pub zeros_before : (done n : ℕ) (out : List ℤ) → take done out ≡ replicate done (pos 0) → take done (take n out) ≡ take done (replicate (length (take n out)) (pos 0))
zeros_before zero n out h = refl
zeros_before (suc done) zero out h = refl
zeros_before (suc done) (suc n) [] h = refl
zeros_before (suc done) (suc n) (x ∷ out) h =
    let first : x ≡ pos 0 = cc in
    let others : take done out ≡ replicate done (pos 0) = cc in
    rw (first, zeros_before done n out others) refl
