-- The runs of items: where the one that begins last within some room stands, and what it tells of the fill.
use Rattle.std.proofs.Common.{◌≡◌, ℕ, zero, suc, ◌+◌, ◌-◌, ◌*◌, ◌<◌, ◌≤◌, true, false, cond, List, [], ◌∷◌, length, get_or, refl, sym, ap, ◌∙◌, subst, arith, ltb, leb}
use Rattle.std.specs.List.{list_all}
use Rattle.std.specs.List.Sorted.{IsNonDecreasing, IsPartitionPoint}
use Rattle.std.proofs.lemmas.Bool.{and_parts, and_from, leb-true}
use Rattle.std.proofs.lemmas.Bool.Decides.{nat_tests}
use Rattle.std.proofs.lemmas.Nat.{mul-le}
use Rattle.knapsack.specs.declared.item.Item.{Item}
use Rattle.knapsack.specs.declared.placed.Placed.{Placed}
use Rattle.knapsack.specs.declared.running.Begun.{Begun}
use Rattle.knapsack.specs.declared.running.Runs.{Runs}
use Rattle.knapsack.specs.Instance.{is_small_item}
use Rattle.knapsack.specs.Limits.{AreSmall}
use Rattle.knapsack.specs.Laws.Limits.{is_small_item-is}
use Rattle.knapsack.specs.Order.{fill}
use Rattle.knapsack.specs.Placed.{kept_from, HasSmallItems}
use Rattle.knapsack.specs.Runs.{weights_of, begun_of, part_of, IsPart, AreRunsOf}
use Rattle.knapsack.proofs.Fills.{fill-whole, fill-part, no_part}

pub length-weights : (w : ℕ) (xs : List Item) → length (weights_of w xs) ≡ length xs + 1
length-weights w [] = refl
length-weights w (x ∷ xs) = omega (arith, length-weights (w + x.copies * x.weight) xs)

pub length-begun : (p : ℕ) (xs : List Item) → length (begun_of p xs) ≡ length xs + 1
length-begun p [] = refl
length-begun p (x ∷ xs) = omega (arith, length-begun (p + x.copies * x.profit) xs)

first-weight : (w : ℕ) (xs : List Item) (e : ℕ) → get_or (weights_of w xs) 0 e ≡ w
first-weight w [] e = refl
first-weight w (x ∷ xs) e = refl

-- no item begins before the first one
later-weight : (w : ℕ) (xs : List Item) (i e : ℕ) → i < length (weights_of w xs) → w ≤ get_or (weights_of w xs) i e
later-weight w [] zero e h = omega arith
later-weight w [] (suc i) e h = absurd (omega arith)
later-weight w (x ∷ xs) zero e h = omega arith
later-weight w (x ∷ xs) (suc i) e h = omega (arith, later-weight (w + x.copies * x.weight) xs i e (omega arith))

-- and no item begins before an earlier one
pub weights-rise : (w : ℕ) (xs : List Item) → IsNonDecreasing (weights_of w xs)
weights-rise w [] zero zero e h k = omega arith
weights-rise w [] zero (suc j) e h k = absurd (omega arith)
weights-rise w [] (suc i) j e h k = absurd (omega arith)
weights-rise w (x ∷ xs) zero j e h k = later-weight w (x ∷ xs) j e k
weights-rise w (x ∷ xs) (suc i) zero e h k = absurd (omega arith)
weights-rise w (x ∷ xs) (suc i) (suc j) e h k = weights-rise (w + x.copies * x.weight) xs i j e (omega arith) (omega arith)

-- ---- the item that begins last within the room

pub record RunAt (xs : List Item) (w p room weight : ℕ) (begun : Begun) : Type 0 where
  pub begins : weight ≤ room
  pub part : IsPart begun (room - weight)
  pub before : begun.before ≤ p + length xs * 1000000000000
  pub value : p + fill xs (room - w) ≡ begun.before + part_of begun (room - weight)

pub run_at : (xs : List Item) (w p room at e : ℕ) (d : Begun) → list_all is_small_item xs ≡ true → w ≤ room → at < length (weights_of w xs)
    → ((i : ℕ) → i ≤ at → get_or (weights_of w xs) i e ≤ room) → ((i : ℕ) → at < i → i < length (weights_of w xs) → room < get_or (weights_of w xs) i e)
    → RunAt xs w p room (get_or (weights_of w xs) at e) (get_or (begun_of p xs) at d)
run_at [] w p room zero e d small fits within below from = record {
  begins = fits;
  part = record { profit = omega arith; few = λ h. absurd (omega arith) };
  before = omega arith;
  value = ap (λ (n : ℕ). p + n) (sym (no_part p (room - w)));
}
run_at [] w p room (suc at) e d small fits within below from = absurd (omega arith)
run_at (x ∷ xs) w p room zero e d small fits within below from =
    let next = from 1 (omega arith) (omega (arith, length-weights (w + x.copies * x.weight) xs)) in
    let is = first-weight (w + x.copies * x.weight) xs e in
    let more : room - w < x.copies * x.weight = omega arith in
    let item = is_small_item-is x (and_parts _ _ small).0 in
    let most : x.copies * x.weight ≤ 1000 * x.weight = mul-le x.copies x.weight 1000 x.weight item.copies (omega arith) in
    record {
      begins = fits;
      part = record { profit = item.profit; few = λ _. omega arith };
      before = omega arith;
      value = ap (λ (n : ℕ). p + n) (fill-part x xs (room - w) more);
    }
run_at (x ∷ xs) w p room (suc at) e d small fits within below from =
    let next = below 1 (omega arith) in
    let is = first-weight (w + x.copies * x.weight) xs e in
    let whole : w + x.copies * x.weight ≤ room = omega arith in
    let item = is_small_item-is x (and_parts _ _ small).0 in
    let worth : x.copies * x.profit ≤ 1000 * 1000000000 = mul-le x.copies x.profit 1000 1000000000 item.copies item.profit in
    let rest = run_at xs (w + x.copies * x.weight) (p + x.copies * x.profit) room at e d (and_parts (is_small_item x) _ small).1 whole (omega arith) (λ i h. below (suc i) (omega arith)) (λ i h k. from (suc i) (omega arith) (omega arith)) in
    let left : room - w - x.copies * x.weight ≡ room - (w + x.copies * x.weight) = omega arith in
    let fills = fill-whole x xs (room - w) (omega arith) ∙ ap (λ (n : ℕ). x.copies * x.profit + fill xs n) left in
    let value = rest.value in
    let before = rest.before in
    record {
      begins = rest.begins;
      part = rest.part;
      before = omega arith;
      value = omega arith;
    }

-- the last of so many places that begin within the room
pub record LastBegun (items : List Item) (runs : Runs) (room count : ℕ) : Type 0 where
  pub some : 1 ≤ count
  pub weight : count - 1 < length runs.weights.items
  pub begun : count - 1 < length runs.begun.items
  pub run : (e : ℕ) (d : Begun) → RunAt items 0 0 room (get_or runs.weights.items (count - 1) e) (get_or runs.begun.items (count - 1) d)

-- the weights as a search sees them
pub last_begun : (items : List Item) (runs : Runs) (room count : ℕ) (weights : List ℕ) → AreSmall items → AreRunsOf items runs → weights ≡ runs.weights.items → count ≤ length weights
    → IsPartitionPoint (λ w. leb w room ≡ true) (λ w. leb w room ≡ false) weights count → LastBegun items runs room count
last_begun items runs room count weights small are seen within point =
    let all : weights ≡ weights_of 0 items = seen ∙ are.weights in
    let long : length weights ≡ length items + 1 = ap length all ∙ length-weights 0 items in
    let some : 1 ≤ count = some_begun weights items room count all long point in
    let below : (e i : ℕ) → i ≤ count - 1 → get_or (weights_of 0 items) i e ≤ room =
    λ e i h. subst (λ ws. get_or ws i e ≤ room) all (leb-true _ _ (point.0 i e (omega arith) (omega arith))) in
    let from : (e i : ℕ) → count - 1 < i → i < length (weights_of 0 items) → room < get_or (weights_of 0 items) i e =
    λ e i h k. subst (λ ws. room < get_or ws i e) all (following _ _ (point.1 i e (omega arith) (omega (arith, length-weights 0 items)))) in
    record {
      some = some;
      weight = omega (arith, ap length seen);
      begun = omega (arith, ap length are.begun, length-begun 0 items);
      run = λ e d.
          subst (λ ws. RunAt items 0 0 room (get_or ws (count - 1) e) (get_or runs.begun.items (count - 1) d)) (sym are.weights)
          (subst (λ bs. RunAt items 0 0 room (get_or (weights_of 0 items) (count - 1) e) (get_or bs (count - 1) d)) (sym are.begun)
          (run_at items 0 0 room (count - 1) e d small.each (omega arith) (omega (arith, length-weights 0 items)) (below e) (from e)));
    }
  where
    following : (a b : ℕ) → leb a b ≡ false → b < a
    following a b h = grind (arith, nat_tests)

    some_begun : (weights : List ℕ) (items : List Item) (room count : ℕ) → weights ≡ weights_of 0 items → length weights ≡ length items + 1
        → IsPartitionPoint (λ w. leb w room ≡ true) (λ w. leb w room ≡ false) weights count → 1 ≤ count
    some_begun weights items room zero are long point =
        let first = following _ _ (point.1 0 0 (omega arith) (omega arith)) in
        let is : get_or weights 0 0 ≡ 0 = ap (λ ws. get_or ws 0 0) are ∙ first-weight 0 items 0 in
        absurd (omega arith)
    some_begun weights items room (suc count) are long point = omega arith

-- what is read at that place
pub last_run : (items : List Item) (runs : Runs) (room count weight : ℕ) (begun : Begun) → LastBegun items runs room count
    → weight ≡ get_or runs.weights.items (count - 1) weight → begun ≡ get_or runs.begun.items (count - 1) begun → RunAt items 0 0 room weight begun
last_run items runs room count weight begun last weighs begins =
    subst (λ w. RunAt items 0 0 room w begun) (sym weighs) (subst (λ b. RunAt items 0 0 room (get_or runs.weights.items (count - 1) weight) b) (sym begins) (last.run weight begun))

-- ---- making them

-- the items that are kept are within the limits
kept_small : (k : ℕ) (ps : List Placed) → list_all (λ p. is_small_item p.item) ps ≡ true → list_all is_small_item (kept_from k ps) ≡ true
kept_small k [] all = refl
kept_small k (p ∷ ps) all =
    let parts = and_parts _ _ all in
    elim (ltb p.number k) as (λ b. list_all is_small_item (cond b (kept_from k ps) (p.item ∷ kept_from k ps)) ≡ true) [
      | true ↦ kept_small k ps parts.1
      | false ↦ and_from _ _ parts.0 (kept_small k ps parts.1)
    ]

kept_few : (k : ℕ) (ps : List Placed) → length (kept_from k ps) ≤ length ps
kept_few k [] = omega arith
kept_few k (p ∷ ps) =
    let rest = kept_few k ps in
    elim (ltb p.number k) as (λ b. length (cond b (kept_from k ps) (p.item ∷ kept_from k ps)) ≤ length (p ∷ ps)) [
      | true ↦ omega arith
      | false ↦ omega arith
    ]

pub kept_are_small : (k : ℕ) (ps : List Placed) → HasSmallItems ps → AreSmall (kept_from k ps)
kept_are_small k ps small = record { count = omega (arith, kept_few k ps, small.count); each = kept_small k ps small.items }
