use Rattle.std.proofs.Common.{◌≡◌, ℕ, ◌+◌, ◌*◌, ◌<◌, ◌≤◌, ◌++◌, true, cond, List, [], ◌∷◌, length, drop, get_or, arith, refl, ap, ◌∙◌, append_assoc}
use Rattle.std.specs.List.{list_all}
use Rattle.std.proofs.lemmas.Bool.{lt-ltb, le-ltb}
use Rattle.std.proofs.lemmas.List.{drop_more, drop_all}
use Rattle.std.proofs.lemmas.List.Elements.{All-get_or}
use Rattle.std.proofs.lemmas.List.Sums.{AllPass-from_list_all}
use Rattle.std.proofs.lemmas.Nat.{mul-le}
use Rattle.knapsack.specs.declared.item.Item.{Item}
use Rattle.knapsack.specs.declared.placed.Placed.{Placed}
use Rattle.knapsack.specs.declared.running.Begun.{Begun}
use Rattle.knapsack.specs.Instance.{is_small_item}
use Rattle.knapsack.specs.Limits.{IsSmallItem}
use Rattle.knapsack.specs.Laws.Limits.{is_small_item-is}
use Rattle.knapsack.specs.Placed.{kept_from}
use Rattle.knapsack.specs.Runs.{weights_of, begun_of}
use Rattle.knapsack.proofs.Placing.{no_item}
use Rattle.knapsack.proofs.running.runs_from.Goals as goal

abbrev none : Placed
none = record { number = 0; item = no_item }

small-at : (order : List Placed) (i : ℕ) → list_all (λ p. is_small_item p.item) order ≡ true → i < length order → IsSmallItem (get_or order i none).item
small-at order i h below = is_small_item-is _ (All-get_or (λ p. is_small_item p.item ≡ true) order i none below (AllPass-from_list_all (λ p. is_small_item p.item) order h))

light : (x : Item) → IsSmallItem x → x.copies * x.weight ≤ 1000 * 1000000000
light x small = mul-le x.copies x.weight 1000 1000000000 small.copies small.weight

-- an item before the layer is left out
passed : (order : List Placed) (layer i : ℕ) → i < length order → (get_or order i none).number < layer → kept_from layer (drop i order) ≡ kept_from layer (drop (i + 1) order)
passed order layer i h before =
    let p : Placed = get_or order i none in
    let rest : List Item = kept_from layer (drop (i + 1) order) in
    ap (kept_from layer) (drop_more order i none h) ∙ ap (λ b. cond b rest (p.item ∷ rest)) (lt-ltb p.number layer before)

-- and every other one begins
next : (order : List Placed) (layer i : ℕ) → i < length order → layer ≤ (get_or order i none).number
    → kept_from layer (drop i order) ≡ (get_or order i none).item ∷ kept_from layer (drop (i + 1) order)
next order layer i h following =
    let p : Placed = get_or order i none in
    let rest : List Item = kept_from layer (drop (i + 1) order) in
    ap (kept_from layer) (drop_more order i none h) ∙ ap (λ b. cond b rest (p.item ∷ rest)) (le-ltb p.number layer following)

-- the weight before one item more
weighed : (x : Item) (here rest : List Item) (weight more : ℕ) (weights pushed whole : List ℕ) → here ≡ x ∷ rest → pushed ≡ weights ++ weight ∷ [] → more ≡ x.copies * x.weight
    → weights ++ weights_of weight here ≡ whole → pushed ++ weights_of (weight + more) rest ≡ whole
weighed x here rest weight more weights pushed whole cut is heavy so_far =
    rw (is, heavy) (append_assoc weights (weight ∷ []) (weights_of (weight + x.copies * x.weight) rest) ∙ rw cut at so_far)

-- what begins with one item more
entered : (x : Item) (here rest : List Item) (before more : ℕ) (begun pushed whole : List Begun) → here ≡ x ∷ rest
    → pushed ≡ begun ++ record { before = before; profit = x.profit; weight = x.weight } ∷ [] → more ≡ x.copies * x.profit
    → begun ++ begun_of before here ≡ whole → pushed ++ begun_of (before + more) rest ≡ whole
entered x here rest before more begun pushed whole cut is dear so_far =
    let here : Begun = record { before = before; profit = x.profit; weight = x.weight } in
    rw (is, dear) (append_assoc begun (here ∷ []) (begun_of (before + x.copies * x.profit) rest) ∙ rw cut at so_far)

none_left : (order : List Placed) (layer i : ℕ) → length order ≤ i → kept_from layer (drop i order) ≡ []
none_left order layer i h = ap (kept_from layer) (drop_all i order h)

pub loop-placed-init : goal.loop-placed-init
loop-placed-init c = record { weights = rw c.in_ok-weights.ensures.items refl; begun = rw c.in_ok-begun.ensures.items refl; light = omega arith; small = omega arith }

pub loop-placed-preserved-then-placed-layer : goal.loop-placed-preserved-then-placed-layer
loop-placed-preserved-then-placed-layer c =
    let cut = passed c.args.order.now c.args.layer c.loop-placed.placed-index c.loop-placed-test.true c.if-placed-layer.true in
    record {
      weights = rw cut at c.loop-placed.invariant.weights;
      begun = rw cut at c.loop-placed.invariant.begun;
      light = omega (arith, c.loop-placed.invariant.light);
      small = omega (arith, c.loop-placed.invariant.small);
    }

pub whole_weight-weight-requires : goal.whole_weight-weight-requires
whole_weight-weight-requires c = small-at c.args.order.now c.loop-placed.placed-index c.requires.small.items c.loop-placed-test.true

pub overflow_add-weight : goal.overflow_add-weight
overflow_add-weight c =
    let most = light (get_or c.args.order.now c.loop-placed.placed-index none).item (small-at c.args.order.now c.loop-placed.placed-index c.requires.small.items c.loop-placed-test.true) in
    omega (arith, most, c.whole_weight-weight.ensures, c.loop-placed.invariant.light, c.requires.small.count)

pub whole_profit-before-requires : goal.whole_profit-before-requires
whole_profit-before-requires c = small-at c.args.order.now c.loop-placed.placed-index c.requires.small.items c.loop-placed-test.true

pub overflow_add-before : goal.overflow_add-before
overflow_add-before c = omega (arith, c.whole_profit-before.ensures.small, c.loop-placed.invariant.small, c.requires.small.count)

pub loop-placed-preserved : goal.loop-placed-preserved
loop-placed-preserved c =
    let x = (get_or c.args.order.now c.loop-placed.placed-index none).item in
    let most = light x (small-at c.args.order.now c.loop-placed.placed-index c.requires.small.items c.loop-placed-test.true) in
    let cut = next c.args.order.now c.args.layer c.loop-placed.placed-index c.loop-placed-test.true c.if-placed-layer.false in
    record {
      weights = weighed x _ _ c.loop-placed.weight c.whole_weight-weight.result c.loop-placed.weights.items _ _ cut c.in_ok-push.ensures.items c.whole_weight-weight.ensures c.loop-placed.invariant.weights;
      begun = entered x _ _ c.loop-placed.before c.whole_profit-before.result c.loop-placed.begun.items _ _ cut c.in_ok-push-2.ensures.items c.whole_profit-before.ensures.value c.loop-placed.invariant.begun;
      light = omega (arith, most, c.whole_weight-weight.ensures, c.loop-placed.invariant.light);
      small = omega (arith, c.whole_profit-before.ensures.small, c.loop-placed.invariant.small);
    }

pub returns : goal.returns
returns c =
    let cut = none_left c.args.order.now c.args.layer c.loop-placed.placed-index c.loop-placed-test.false in
    record {
      weights = c.in_ok-push-3.ensures.items ∙ rw cut at c.loop-placed.invariant.weights;
      begun = c.in_ok-push-4.ensures.items ∙ rw cut at c.loop-placed.invariant.begun;
    }
