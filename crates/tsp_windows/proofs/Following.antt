-- What the code knows of a decision: whether it is in time, and how many nodes must be visited before and after it.
use Rattle.std.proofs.Common.{◌≡◌, ℕ, ◌^◌, ◌<◌, ◌≤◌, ℤ, pos, ◌-ℤ◌, Bool, true, false, not, Option, Some, None, List, ◌≢◌, sym, ap, ◌∙◌, arith, FitsSigned, to_z, of_z, w64}
use Rattle.std.specs.Prelude.{IfSome, is_some, if◌then◌else◌}
use Rattle.std.proofs.lemmas.Bool.{and_left, and_parts, not-true}
use Rattle.std.proofs.lemmas.Int.{ints, to_z-of_z}
use Rattle.node_sets.specs.Sums.{count_below}
use Rattle.node_sets.proofs.Below.{all_below-gives, sum_below-none, count_below-none}
use Rattle.tsp_windows.specs.Instance.{Instance}
use Rattle.tsp_windows.specs.States.{TourState, may_return, moved, shown}
use Rattle.pending_rows.specs.Pending.{Pending, without, done}
use Rattle.pending_rows.proofs.Written.{time_cell}
use Rattle.pending_rows.proofs.Tests.{read_count}

-- a visit takes its node away from the nodes that must be visited
pub left_after : (i : Instance) (t : TourState) (p : Pending) (to : ℕ) (left : ℤ) → p ≡ t.pending → left ≡ pos (count_below i.nodes (without p.must to)) → left ≡ pos (count_below i.nodes (moved i t to).pending.must)
unfolding moved done
left_after i t p to left e is = is ∙ ap (λ (p : Pending). pos (count_below i.nodes (without p.must to))) e

-- no node is left after the return
pub none_following : (i : Instance) (t : TourState) (to : ℕ) → true ≡ may_return i t to → pos 0 ≡ pos (count_below i.nodes (moved i t to).pending.must)
unfolding moved done
none_following i t to returns =
    let none = (and_parts _ _ (and_parts _ _ (sym returns)).1).0 in
    ap pos (sym (sum_below-none i.nodes (moved i t to).pending.must (λ _. 1) (λ v l. and_left (t.pending.must v) _ (not-true (t.pending.must v) (all_below-gives i.nodes (λ v. not (t.pending.must v)) none v l)))))

-- the arrival, where it is in time
pub in_time_is : (b : Bool) (at : ℕ) → {o : Option ℕ} → o ≡ (if b then Some at else None) → is_some o ≡ b
in_time_is true at e = ap is_some e
in_time_is false at e = ap is_some e

pub in_time_at : (b : Bool) (at n : ℕ) {o : Option ℕ} → o ≡ (if b then Some at else None) → at ≡ n → IfSome o (λ a. a ≡ n)
in_time_at true at n e f = rw e f
in_time_at false at n e f = rw e tt

pub in_time_small : (b : Bool) (at : ℕ) {o : Option ℕ} → o ≡ (if b then Some at else None) → at < 2 ^ 62 → IfSome o (λ a. a < 2 ^ 62)
in_time_small true at e small = rw e small
in_time_small false at e small = rw e tt

-- no node must be visited where the rank is 0
pub none_left : (n w : ℕ) (s : List ℤ) (rank : ℤ) → n ≤ 300 → rank ≡ pos (count_below n (shown w s).pending.must) → of_z w64 rank ≡ 0
    → (v : ℕ) → v < n → (shown w s).pending.must v ≡ false
none_left n w s rank few e zero v l =
    let read = read_count rank n (shown w s).pending.must e (omega (arith, few)) in
    let at : to_z w64 (of_z w64 rank) ≡ pos 0 = ap (to_z w64) zero in
    let none : count_below n (shown w s).pending.must ≡ 0 = omega (arith, ints) in
    count_below-none n (shown w s).pending.must none v l

pub some_left : (n w : ℕ) (s : List ℤ) (rank : ℤ) → rank ≡ pos (count_below n (shown w s).pending.must) → of_z w64 rank ≢ 0
    → ((v : ℕ) → v < n → (shown w s).pending.must v ≡ false) → ⊥
some_left n w s rank e some none = some (ap (of_z w64) (e ∙ ap pos (sum_below-none n (shown w s).pending.must (λ _. 1) none)))

-- what a visit gains, as it is computed
pub gain_is : (time departure : ℕ) {t d : ℕ} → t ≡ time → t ≤ 1000000000000 → d ≡ departure → d < 4611686018427387904
    → to_z w64 (of_z w64 (to_z w64 t -ℤ to_z w64 d)) ≡ pos time -ℤ pos departure
gain_is time departure e early f small =
    let fits : FitsSigned w64 (pos time -ℤ pos departure) = omega (arith, ints) in
    rw (time_cell _ time e (omega arith), time_cell _ departure f small) (to_z-of_z w64 (pos time -ℤ pos departure) fits)
