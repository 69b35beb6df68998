-- The numbers of an instance within the limits keep their sizes.
use Rattle.std.proofs.Common.{◌≡◌, ℕ, ◌+◌, ◌-◌, ◌*◌, ◌<◌, ◌≤◌, ◌^◌, ℤ, pos, true, List, [], ◌∷◌, length, drop, Some, sym, ap, subst, arith}
use Rattle.std.proofs.lemmas.Bool.{and_parts}
use Rattle.std.proofs.lemmas.Int.{ints}
use Rattle.std.proofs.lemmas.List.{length-drop}
use Rattle.std.specs.List.{list_all}
use Rattle.std.proofs.lemmas.List.Elements.{All-get_or, All-drop}
use Rattle.std.proofs.lemmas.List.Sums.{AllPass-from_list_all, list_all-from_AllPass}
use Rattle.std.proofs.lemmas.Nat.{mul-le}
use Rattle.dp_model.specs.Lists.{Each}
use Rattle.dp_model.specs.Numbers.{IsSmall as IsSmallNumber}
use Rattle.dp_model.specs.NumberLaws.{small_gap, small_natural}
use Rattle.dp_model.specs.Laws.{SizesHold}
use Rattle.knapsack.specs.declared.item.Item.{Item}
use Rattle.knapsack.specs.Instance.{Instance, is_small, is_small_item}
use Rattle.knapsack.specs.Limits.{IsSmallItem}
use Rattle.knapsack.specs.Laws.Limits.{is_small_item-is, is_small-is}
use Rattle.knapsack.specs.Order.{ratio_order, fill}
use Rattle.knapsack.specs.Laws.Greedy.{worth, worth-ratio_order, fill-le-worth}
use Rattle.knapsack.specs.Program.{left, item_at, rough_from, program_of}
use Rattle.knapsack.specs.Laws.States.{is_left-is, gap-is}

-- copies of an item are worth at most 10^12
worth_small : (d p : ℕ) → d ≤ 1000 → p ≤ 1000000000 → d * p ≤ 1000000000000
worth_small d p few cheap = mul-le d p 1000 1000000000 few cheap

-- each item of an instance within the limits is within them
pub small_item_at : (items : List Item) (k : ℕ) → list_all is_small_item items ≡ true → k < length items → IsSmallItem (item_at items k)
small_item_at items k h below =
    is_small_item-is _ (All-get_or (λ x. is_small_item x ≡ true) items k _ below (AllPass-from_list_all is_small_item items h))

-- items within the limits are worth at most 10^12 each
worth_of_small : (xs : List Item) → list_all is_small_item xs ≡ true → worth xs ≤ length xs * 1000000000000
worth_of_small [] all = omega arith
worth_of_small (x ∷ xs) all =
    let parts = and_parts _ _ all in
    let small = is_small_item-is x parts.0 in
    let here : x.copies * x.profit ≤ 1000000000000 = worth_small x.copies x.profit small.copies small.profit in
    let others : worth xs ≤ length xs * 1000000000000 = worth_of_small xs parts.1 in
    omega arith

-- the greedy fill of an instance within the limits is at most 10^15
pub rough_small : (items : List Item) (k rest : ℕ) → list_all is_small_item items ≡ true → length items ≤ 1000
    → rough_from items k rest ≤ 1000000000000000
rough_small items k rest h few =
    let all = list_all-from_AllPass is_small_item (drop k items) (All-drop (λ x. is_small_item x ≡ true) k items (AllPass-from_list_all is_small_item items h)) in
    let most : worth (drop k items) ≤ length (drop k items) * 1000000000000 = worth_of_small (drop k items) all in
    let count : length (drop k items) ≡ length items - k = length-drop k items in
    let total : worth (ratio_order (drop k items)) ≡ worth (drop k items) = worth-ratio_order (drop k items) in
    let fill_most : fill (ratio_order (drop k items)) rest ≤ worth (ratio_order (drop k items)) = fill-le-worth (ratio_order (drop k items)) rest in
    omega arith

some-inj : {a b : ℤ} → Some a ≡ Some b → a ≡ b
some-inj h = cc

pub sizes_hold : (i : Instance) → is_small i ≡ true → SizesHold (program_of i)
sizes_hold i h =
    let small = is_small-is i h in
    record {
      vars = let count = small.count in omega arith;
      some_words = omega arith;
      words = omega arith;
      some_choices = λ k below. omega arith;
      choices = λ k below. let few : (item_at i.items k).copies ≤ 1000 = (small_item_at i.items k small.items below).copies in omega arith;
      root_value = small_natural 0 (omega arith);
      cells = λ k s state. ap (λ (l : List ℤ). length l) (is_left-is _ _ state.test).row;
      state = λ k s state.
          let is = is_left-is _ _ state.test in
          let within : left s ≤ i.capacity = is.within in
          let most : i.capacity ≤ 2 ^ 40 = small.capacity in
          subst (λ (l : List ℤ). Each IsSmallNumber l) (sym is.row) (small_natural (left s) (omega arith), tt);
      gain = λ k s d state allowed.
          let x = small_item_at i.items k small.items allowed.layer in
          let few : (item_at i.items k).copies ≤ 1000 = x.copies in
          let choice : d < (item_at i.items k).copies + 1 = allowed.choice in
          let worth : d * (item_at i.items k).profit ≤ 1000000000000 = worth_small d (item_at i.items k).profit (omega arith) x.profit in
          small_natural _ (omega arith);
      gap = λ k a s g kept state is.
          let zero = (gap-is (left a) (left s) g is).zero in
          small_gap g (omega (arith, ints)) (omega (arith, ints));
      rough = λ k s r state is.
          let same : pos (rough_from i.items k (left s)) ≡ r = some-inj is in
          let most : rough_from i.items k (left s) ≤ 1000000000000000 = rough_small i.items k (left s) small.items small.count in
          subst IsSmallNumber same (small_natural _ (omega arith));
    }
