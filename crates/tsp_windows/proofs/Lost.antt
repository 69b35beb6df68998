-- The least ways to the nodes that must be visited, as the code adds them up.
use Rattle.std.proofs.Common.{◌≡◌, ℕ, zero, suc, ◌+◌, ◌-◌, ◌<◌, ◌≤◌, ℤ, Bool, true, false, cond, not, ◌&&◌, ◌||◌, nat_lt, nat_le, List, length, get_or, refl, sym, ap, ap₂, ◌∙◌, arith, inl, inr}
use Rattle.std.proofs.lemmas.Bool.{cases_lt, or_left, or_right, lt-ltb, le-ltb, le-leb, lt-leb}
use Rattle.node_sets.specs.Sums.{all_below, sum_below, count_below}
use Rattle.node_sets.specs.Sets.{has}
use Rattle.tsp_windows.specs.Instance.{Instance, IsTourInstance, closing, near}
use Rattle.pending_rows.specs.Pending as rows
use Rattle.tsp_windows.specs.States.{TourState, pending_of, shown, is_lost, way_left}
use Rattle.tsp_windows.specs.Laws.Program.{way-most}
use Rattle.tsp_windows.proofs.StateLemmas.{must-shown}
use Rattle.tsp_windows.proofs.WayLemmas.{in_time}

sum_below-both : (n : ℕ) (p q : ℕ → Bool) (f g : ℕ → ℕ) → ((v : ℕ) → v < n → p v ≡ q v) → ((v : ℕ) → v < n → f v ≡ g v) → sum_below n p f ≡ sum_below n q g
sum_below-both zero p q f g h k = refl
sum_below-both (suc n) p q f g h k =
    ap₂ ◌+◌ (sum_below-both n p q f g (λ v l. h v (omega arith)) (λ v l. k v (omega arith))) (ap₂ (λ b x. cond b x 0) (h n (omega arith)) (k n (omega arith)))

all_below-same : (n : ℕ) (p q : ℕ → Bool) → ((v : ℕ) → v < n → p v ≡ q v) → all_below n p ≡ all_below n q
all_below-same zero p q h = refl
all_below-same (suc n) p q h = ap₂ ◌&&◌ (h n (omega arith)) (all_below-same n p q (λ v l. h v (omega arith)))

-- what the code asks of the nodes that must be visited is what the state is asked
pub times_shown : (i : Instance) (w : ℕ) (s m : List ℤ) (n time : ℕ) (too_late : List ℕ) → n ≡ i.nodes → ((v : ℕ) → v < i.nodes → get_or too_late v 0 ≡ (closing i v + 1) - near i v) → m ≡ rows.must_of w (pending_of w s) → time ≡ (shown w s).pending.time → all_below n (in_time too_late m time) ≡ all_below i.nodes (λ v. nat_le ((shown w s).pending.time + near i v) (closing i v) || not ((shown w s).pending.must v))
times_shown i w s m n time too_late l each e t =
    ap (λ n. all_below n (in_time too_late m time)) l
    ∙ all_below-same i.nodes (in_time too_late m time) (λ v. nat_le ((shown w s).pending.time + near i v) (closing i v) || not ((shown w s).pending.must v))
    (λ v a. ap₂ (λ x y. x || not y) (ap₂ nat_lt t (each v a) ∙ in_time_still (shown w s).pending.time (near i v) (closing i v)) (must-shown w s m v e))
  where
    in_time_still : (time way close : ℕ) → nat_lt time ((close + 1) - way) ≡ nat_le (time + way) close
    in_time_still time way close =
        elim (cases_lt time ((close + 1) - way)) [
          | inl a ↦ lt-ltb time ((close + 1) - way) a ∙ sym (le-leb (time + way) close (omega arith))
          | inr a ↦ le-ltb time ((close + 1) - way) a ∙ sym (lt-leb (time + way) close (omega arith))
        ]

pub ways_shown : (i : Instance) (w : ℕ) (s m : List ℤ) (nearest : List ℕ) → length nearest ≡ i.nodes → ((v : ℕ) → v < i.nodes → get_or nearest v 0 ≡ near i v) → m ≡ rows.must_of w (pending_of w s) → sum_below (length nearest) (has m) (λ v. get_or nearest v 0) ≡ sum_below i.nodes (shown w s).pending.must (near i)
ways_shown i w s m nearest l each e =
    ap (λ n. sum_below n (has m) (λ v. get_or nearest v 0)) l ∙ sum_below-both i.nodes (has m) (shown w s).pending.must (λ v. get_or nearest v 0) (near i) (λ v a. must-shown w s m v e) each

pub lost_many : (i : Instance) (k : ℕ) (t : TourState) (count : ℕ) → count ≡ count_below i.nodes t.pending.must → i.nodes < count + k + 1 → is_lost i k t ≡ true
lost_many i k t count e l = or_left (nat_lt i.nodes (count_below i.nodes t.pending.must + k + 1)) _ (lt-ltb i.nodes (count_below i.nodes t.pending.must + k + 1) (omega (arith, e)))

pub lost_late : (i : Instance) (k : ℕ) (t : TourState) → all_below i.nodes (λ v. nat_le (t.pending.time + near i v) (closing i v) || not (t.pending.must v)) ≡ false → is_lost i k t ≡ true
lost_late i k t e =
    or_right (nat_lt i.nodes (count_below i.nodes t.pending.must + k + 1)) _ (or_left (not (all_below i.nodes (λ v. nat_le (t.pending.time + near i v) (closing i v) || not (t.pending.must v)))) _ (ap not e))

pub not_lost : (i : Instance) (k : ℕ) (t : TourState) (count home : ℕ) → count ≡ count_below i.nodes t.pending.must → count + k + 1 ≤ i.nodes → all_below i.nodes (λ v. nat_le (t.pending.time + near i v) (closing i v) || not (t.pending.must v)) ≡ true → home ≡ near i 0 → t.pending.time + home ≤ closing i 0 → is_lost i k t ≡ false
not_lost i k t count home e few times h late =
    ap₂ ◌||◌ (le-ltb i.nodes (count_below i.nodes t.pending.must + k + 1) (omega (arith, e)))
    (ap₂ ◌||◌ (ap not times) (le-ltb (closing i 0) (t.pending.time + near i 0) (omega (arith, h))))

-- what is left to go from a state that is not lost
pub record IsLeft (i : Instance) (k : ℕ) (t : TourState) (way : ℕ) : Type 0 where
  pub found : is_lost i k t ≡ false
  pub left : way ≡ way_left i t
  pub small : way ≤ 301000000000

pub left_is : (i : Instance) (k w : ℕ) (s m : List ℤ) (nearest too_late : List ℕ) (time count ways home close : ℕ) → IsTourInstance i → length nearest ≡ i.nodes → ((v : ℕ) → v < i.nodes → get_or nearest v 0 ≡ near i v) → ((v : ℕ) → v < i.nodes → get_or too_late v 0 ≡ (closing i v + 1) - near i v) → m ≡ rows.must_of w (pending_of w s) → time ≡ (shown w s).pending.time
    → count ≡ count_below i.nodes (shown w s).pending.must → count + k + 1 ≤ i.nodes → home ≡ get_or nearest 0 0 → close ≡ closing i 0 → time + home ≤ close
    → all_below (length nearest) (in_time too_late m time) ≡ true → ways ≡ sum_below (length nearest) (has m) (λ v. get_or nearest v 0) → IsLeft i k (shown w s) (ways + home)
left_is i k w s m nearest too_late time count ways home close small l each moments e t c few h shut late all sum =
    let at_home : home ≡ near i 0 = h ∙ each 0 (omega (arith, small.some)) in
    let total : ways + home ≡ way_left i (shown w s) = ap₂ ◌+◌ (sum ∙ ways_shown i w s m nearest l each e) at_home in
    let most = way-most i (shown w s) small in
    record {
      found = not_lost i k (shown w s) count home c few (sym (times_shown i w s m (length nearest) time too_late l moments e t) ∙ all) at_home (omega (arith, late, shut, t));
      left = total;
      small = omega (arith, total, most);
    }
