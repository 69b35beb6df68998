-- Items that are drawn one after another.
use Rattle.std.proofs.Common.{◌≡◌, ◌∙◌, ℕ, ◌+◌, ◌*◌, ◌≤◌, ◌&&◌, true, List, [], ◌∷◌, ◌++◌, length, sym, ap, ap₂, arith, length-append}
use Rattle.std.specs.List.{list_all}
use Rattle.std.proofs.lemmas.List.Folds.{list_all-append}
use Rattle.std.proofs.lemmas.List.Sums.{sum_by-append}
use Rattle.draws.specs.Draws.{steps}
use Rattle.draws.proofs.Steps.{steps_more, steps_none}
use Rattle.knapsack.specs.declared.item.Item.{Item}
use Rattle.knapsack.specs.Instance.{is_small_item}
use Rattle.knapsack.specs.Generating.{after_item, item_drawn, whole_weight, with_item}

-- this many items are drawn from the seed, and these draws are left
pub record AreDrawn (seed k x : ℕ) (items : List Item) (weight : ℕ) : Type 0 where
  pub drawn : steps with_item k [] seed ≡ (items, x)
  pub count : length items ≡ k
  pub weight_is : weight ≡ whole_weight items
  pub light : weight ≤ 150 * k
  pub small : list_all is_small_item items ≡ true

pub none_drawn : (seed x : ℕ) (items : List Item) → x ≡ seed → items ≡ [] → AreDrawn seed 0 x items 0
none_drawn seed x items from none = record {
  drawn = steps_none with_item [] seed ∙ (λ i. (sym none i, sym from i));
  count = ap length none;
  weight_is = sym (ap whole_weight none);
  light = omega arith;
  small = ap (list_all is_small_item) none;
}

pub one_more : (seed k x y : ℕ) (items more : List Item) (weight total : ℕ) (item : Item) → AreDrawn seed k x items weight → item ≡ item_drawn x → y ≡ after_item x
    → is_small_item item ≡ true → item.weight * item.copies ≤ 150 → more ≡ items ++ item ∷ [] → total ≡ weight + item.weight * item.copies → AreDrawn seed (k + 1) y more total
one_more seed k x y items more weight total item d is following small light pushed added = record {
  drawn = steps_more with_item k [] items more seed x y d.drawn (λ i. ((ap (λ a. items ++ a ∷ []) (sym is) ∙ sym pushed) i, sym following i));
  count = ap length pushed ∙ (let c = d.count in omega (arith, length-append items (item ∷ [])));
  weight_is = (let w = d.weight_is in omega (arith, added, sum_by-append (λ (x : Item). x.weight * x.copies) items (item ∷ []))) ∙ sym (ap whole_weight pushed);
  light = let l = d.light in omega (arith, added);
  small = ap (list_all is_small_item) pushed ∙ list_all-append is_small_item items (item ∷ []) ∙ ap₂ (λ a b. a && (b && true)) d.small small;
}
