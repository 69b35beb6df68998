-- Rows that are merged after zeros.
use Rattle.std.proofs.Common.{◌≡◌, ℕ, ◌-◌, ◌≤◌, ℤ, pos, List, [], length, take, drop, replicate, arith, sym}
use Rattle.std.proofs.lemmas.List.{append-nil, drop_all, length-drop, take_all}
use borrow.Rule.Slice.PartMut.{put_mid, post_of}
use Rattle.benefit_rows.specs.Benefits.{merged_of}
use Rattle.benefit_rows.specs.BenefitLaws.{merged_of-following}

-- the first k benefits of both rows are zero and stay, and the others are merged
pub merged_written : (k : ℕ) (as_ ss written : List ℤ) → k ≤ length as_ → take k as_ ≡ replicate k (pos 0) → take k ss ≡ replicate k (pos 0)
    → written ≡ merged_of (take (length as_ - k) (drop k as_)) (drop k ss) → put_mid k (length as_ - k) as_ written ≡ merged_of as_ ss
merged_written k as_ ss written h e f is =
    let whole : take (length as_ - k) (drop k as_) ≡ drop k as_ = take_all (length as_ - k) (drop k as_) (omega (arith, length-drop k as_)) in
    let ends : post_of k (length as_ - k) as_ ≡ [] = drop_all (length as_ - k) (drop k as_) (omega (arith, length-drop k as_)) in
    rw (ends, append-nil, is, whole) (sym (merged_of-following k as_ ss e f))
