-- The canonical text is short.
use Rattle.std.proofs.Common.{◌≡◌, ℕ, ◌*◌, ◌^◌, ◌≤◌, true, false, cond, List, [], ◌∷◌, length, pos, arith, length-append, eqb}
use Rattle.std.specs.List.{list_all, flat_map}
use Rattle.std.proofs.lemmas.Bool.{and_parts}
use Rattle.std.proofs.lemmas.Fmt.{length-decimal-le}
use Rattle.tokens.specs.Decimal.{decimal_of}
use Rattle.tokens.proofs.Lengths.{parts_short}
use Rattle.knapsack.specs.declared.item.Item.{Item}
use Rattle.knapsack.specs.Instance.{Instance, is_small, is_small_item}
use Rattle.knapsack.specs.Limits.{IsSmallItem}
use Rattle.knapsack.specs.Laws.Limits.{is_small_item-is, is_small-is}
use Rattle.knapsack.specs.Printing.{copies_text, line_of, text_of}

copies_short : (c : ℕ) → c ≤ 1000 → length (copies_text c) ≤ 5
copies_short c few =
    elim (eqb c 1) as (λ b. length (cond b [] (32 ∷ decimal_of (pos c))) ≤ 5) [
      | true ↦ omega arith
      | false ↦ omega (arith, length-decimal-le 4 c (omega arith) (omega arith) (omega arith))
    ]

line_short : (x : Item) → IsSmallItem x → length (line_of x) ≤ 32
line_short x small =
    let profit = small.profit in
    let weight = small.weight in
    let p = length-decimal-le 10 x.profit (omega arith) (omega arith) (omega arith) in
    let w = length-decimal-le 10 x.weight (omega arith) (omega arith) (omega arith) in
    let c = copies_short x.copies small.copies in
    simp length-append (omega arith)

lines_short : (xs : List Item) → list_all is_small_item xs ≡ true → length (flat_map line_of xs) ≤ 32 * length xs
lines_short =
    parts_short line_of 32 (λ xs. list_all is_small_item xs ≡ true)
    (λ x xs held. let parts = and_parts _ _ held in (line_short x (is_small_item-is x parts.0), parts.1))

pub text_short : (i : Instance) → is_small i ≡ true → length (text_of i) ≤ 2 ^ 30
text_short i h =
    let small = is_small-is i h in
    let most = small.count in
    let held = small.capacity in
    let count = length-decimal-le 4 (length i.items) (omega arith) (omega arith) (omega arith) in
    let capacity = length-decimal-le 13 i.capacity (omega arith) (omega arith) (omega arith) in
    let lines = lines_short i.items small.items in
    simp length-append (omega arith)
