use Rattle.std.proofs.Common.{◌≡◌, ℕ, ◌+◌, ◌*◌, ◌<◌, ◌≤◌, Bool, true, false, ◌&&◌, nat_le, List, length, drop, get_or, arith, ap, ap₂, ◌∙◌}
use Rattle.std.specs.List.{list_all}
use Rattle.std.proofs.lemmas.List.{drop_more}
use Rattle.std.proofs.lemmas.Nat.{mul-le}
use Rattle.std.proofs.lemmas.Bool.{le-leb, lt-leb}
use Rattle.knapsack.specs.declared.item.Item.{Item}
use Rattle.knapsack.specs.Instance.{is_small_item}
use Rattle.knapsack.proofs.Placing.{no_item}
use Rattle.knapsack.specs.OwnWords.{has_copies, total_weight, total_profit}
use Rattle.knapsack.specs.Laws.Sizes.{small_item_at}
use Rattle.knapsack.specs.Laws.Packings.{has_copies-other_length}
use Rattle.knapsack.proofs.value.total_of.Goals as goal

-- what the copies of an item weigh and are worth at most
record AreLight (taken w p : ℕ) : Type 0 where
  weight : taken * w ≤ 1000 * 1000000000
  profit : taken * p ≤ 1000 * 1000000000

light : (items : List Item) (i taken : ℕ) → list_all is_small_item items ≡ true → i < length items → taken ≤ (get_or items i no_item).copies
    → AreLight taken (get_or items i no_item).weight (get_or items i no_item).profit
light items i taken all h few =
    let small = small_item_at items i all h in
    let at_most : taken ≤ 1000 = omega (arith, small.copies) in
    record {
      weight = mul-le taken (get_or items i no_item).weight 1000 1000000000 at_most small.weight;
      profit = mul-le taken (get_or items i no_item).profit 1000 1000000000 at_most small.profit;
    }

-- the test of one item, and then of those after it
tested : (items : List Item) (ds : List ℕ) (i : ℕ) (within : Bool) → i < length ds → length ds ≡ length items → nat_le (get_or ds i 0) (get_or items i no_item).copies ≡ within
    → has_copies items ds ≡ has_copies (drop i items) (drop i ds) → has_copies items ds ≡ (within && has_copies (drop (i + 1) items) (drop (i + 1) ds))
tested items ds i within h e test so_far =
    so_far ∙ (ap₂ has_copies (drop_more items i no_item (omega arith)) (drop_more ds i 0 h) ∙ ap (λ b. b && has_copies (drop (i + 1) items) (drop (i + 1) ds)) test)

weighed : (items : List Item) (ds : List ℕ) (i whole so_far taken weight : ℕ) → i < length ds → length ds ≡ length items → taken ≡ get_or ds i 0 → weight ≡ (get_or items i no_item).weight
    → whole ≡ so_far + total_weight (drop i items) (drop i ds) → whole ≡ (so_far + taken * weight) + total_weight (drop (i + 1) items) (drop (i + 1) ds)
weighed items ds i whole so_far taken weight h e taken_is weight_is before =
    let cut = ap₂ total_weight (drop_more items i no_item (omega arith)) (drop_more ds i 0 h) in
    let same : taken * weight ≡ get_or ds i 0 * (get_or items i no_item).weight = ap₂ ◌*◌ taken_is weight_is in
    omega (arith, cut, same, before)

valued : (items : List Item) (ds : List ℕ) (i whole so_far taken profit : ℕ) → i < length ds → length ds ≡ length items → taken ≡ get_or ds i 0 → profit ≡ (get_or items i no_item).profit
    → whole ≡ so_far + total_profit (drop i items) (drop i ds) → whole ≡ (so_far + taken * profit) + total_profit (drop (i + 1) items) (drop (i + 1) ds)
valued items ds i whole so_far taken profit h e taken_is profit_is before =
    let cut = ap₂ total_profit (drop_more items i no_item (omega arith)) (drop_more ds i 0 h) in
    let same : taken * profit ≡ get_or ds i 0 * (get_or items i no_item).profit = ap₂ ◌*◌ taken_is profit_is in
    omega (arith, cut, same, before)

pub returns-then-copies-items : goal.returns-then-copies-items
returns-then-copies-items c = has_copies-other_length c.args.items.now c.args.copies.now c.if-copies-items.true

pub returns-then-taken-item : goal.returns-then-taken-item
returns-then-taken-item c =
    tested c.args.items.now c.args.copies.now c.items.number false c.items-test.true c.if-copies-items.false (lt-leb _ _ c.if-taken-item.true) c.items.invariant.copies

pub overflow_mul-weight : goal.overflow_mul-weight
overflow_mul-weight c =
    let most = light c.args.items.now c.items.number (get_or c.args.copies.now c.items.number 0) c.requires.each (omega (arith, c.items-test.true, c.if-copies-items.false)) c.if-taken-item.false in
    rw (c.from.ensures, c.from-in-items.ensures) (omega (arith, most.weight))

pub overflow_add-weight : goal.overflow_add-weight
overflow_add-weight c =
    let most = light c.args.items.now c.items.number (get_or c.args.copies.now c.items.number 0) c.requires.each (omega (arith, c.items-test.true, c.if-copies-items.false)) c.if-taken-item.false in
    rw (c.from.ensures, c.from-in-items.ensures) (omega (arith, most.weight, c.items.invariant.small_weight, c.requires.count))

pub overflow_mul-profit : goal.overflow_mul-profit
overflow_mul-profit c =
    let most = light c.args.items.now c.items.number (get_or c.args.copies.now c.items.number 0) c.requires.each (omega (arith, c.items-test.true, c.if-copies-items.false)) c.if-taken-item.false in
    rw (c.from-in-items-2.ensures, c.from-in-items-3.ensures) (omega (arith, most.profit))

pub overflow_add-profit : goal.overflow_add-profit
overflow_add-profit c =
    let most = light c.args.items.now c.items.number (get_or c.args.copies.now c.items.number 0) c.requires.each (omega (arith, c.items-test.true, c.if-copies-items.false)) c.if-taken-item.false in
    rw (c.from-in-items-2.ensures, c.from-in-items-3.ensures) (omega (arith, most.profit, c.items.invariant.small_profit, c.requires.count))

pub items-preserved : goal.items-preserved
items-preserved c =
    let most = light c.args.items.now c.items.number (get_or c.args.copies.now c.items.number 0) c.requires.each (omega (arith, c.items-test.true, c.if-copies-items.false)) c.if-taken-item.false in
    record {
      copies = tested c.args.items.now c.args.copies.now c.items.number true c.items-test.true c.if-copies-items.false (le-leb _ _ c.if-taken-item.false) c.items.invariant.copies;
      weighs = weighed c.args.items.now c.args.copies.now c.items.number _ c.items.weight c.from.result c.from-in-items.result c.items-test.true c.if-copies-items.false c.from.ensures c.from-in-items.ensures c.items.invariant.weighs;
      is_worth = valued c.args.items.now c.args.copies.now c.items.number _ c.items.profit c.from-in-items-2.result c.from-in-items-3.result c.items-test.true c.if-copies-items.false c.from-in-items-2.ensures c.from-in-items-3.ensures c.items.invariant.is_worth;
      small_weight = rw (c.from.ensures, c.from-in-items.ensures) (omega (arith, most.weight, c.items.invariant.small_weight));
      small_profit = rw (c.from-in-items-2.ensures, c.from-in-items-3.ensures) (omega (arith, most.profit, c.items.invariant.small_profit));
    }
