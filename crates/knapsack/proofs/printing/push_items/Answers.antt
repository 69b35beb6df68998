use Rattle.std.proofs.Common.{◌≡◌, ℕ, ◌+◌, ◌<◌, ◌≤◌, ◌++◌, List, length, drop, get_or, ap, sym, ◌∙◌, append_assoc}
use Rattle.std.specs.List.{flat_map}
use Rattle.std.proofs.lemmas.List.{drop_more, drop_all, append-nil}
use Rattle.knapsack.specs.declared.item.Item.{Item}
use Rattle.knapsack.specs.Printing.{line_of}
use Rattle.knapsack.proofs.Placing.{no_item}
use Rattle.knapsack.proofs.printing.push_items.Goals as goal

-- the line of one item more
lined : (xs : List Item) (i : ℕ) (before after whole : List ℕ) → i < length xs → after ≡ before ++ line_of (get_or xs i no_item)
    → whole ≡ before ++ flat_map line_of (drop i xs) → whole ≡ after ++ flat_map line_of (drop (i + 1) xs)
lined xs i before after whole h pushed so_far =
    let line : List ℕ = line_of (get_or xs i no_item) in
    let rest : List ℕ = flat_map line_of (drop (i + 1) xs) in
    let cut : flat_map line_of (drop i xs) ≡ line ++ rest = ap (flat_map line_of) (drop_more xs i no_item h) in
    rw cut at so_far ∙ (sym (append_assoc before line rest) ∙ ap (λ bytes. bytes ++ rest) (sym pushed))

all-lined : (xs : List Item) (i : ℕ) (out whole : List ℕ) → length xs ≤ i → whole ≡ out ++ flat_map line_of (drop i xs) → out ≡ whole
all-lined xs i out whole h so_far = sym (append-nil out) ∙ sym (rw (drop_all i xs h) at so_far)

pub loop-item-preserved : goal.loop-item-preserved
loop-item-preserved c = lined c.args.items.now c.loop-item.item-index c.loop-item.out.items _ _ c.loop-item-test.true c.in_ok-push_item.ensures c.loop-item.invariant

pub returns : goal.returns
returns c = all-lined c.args.items.now c.loop-item.item-index c.loop-item.out.items _ c.loop-item-test.false c.loop-item.invariant
