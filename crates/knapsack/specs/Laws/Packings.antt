-- The decisions of a path are a packing of the items from the layer on, and the other way round.
use Rattle.std.proofs.Common.{◌≡◌, ℕ, ◌+◌, ◌-◌, ◌*◌, ◌<◌, ◌≤◌, ℤ, pos, ◌+ℤ◌, true, false, List, [], ◌∷◌, length, drop, refl, sym, ap, subst, arith}
use Rattle.std.proofs.lemmas.Bool.{and_parts, leb-true, le-leb, and_from}
use Rattle.std.proofs.lemmas.List.{drop_more, drop_all, length-drop}
use Rattle.dp_model.specs.Prefixes.{IsPath, gain_of}
use Rattle.knapsack.specs.declared.item.Item.{Item}
use Rattle.knapsack.specs.Instance.{Instance}
use Rattle.knapsack.specs.OwnWords.{has_copies, total_weight, total_profit}
use Rattle.knapsack.specs.Program.{left, item_at, program_of}

-- copies of the items, within what is left, that are worth the gain
pub record Packs (items : List Item) (rest : ℕ) (ds : List ℕ) (gain : ℤ) : Type 0 where
  pub copies : has_copies items ds ≡ true
  pub fits : total_weight items ds ≤ rest
  pub worth : gain ≡ pos (total_profit items ds)

-- the items from a layer on begin with that layer's
from_layer : (items : List Item) (k : ℕ) → k < length items → drop k items ≡ item_at items k ∷ drop (k + 1) items
from_layer items k h = drop_more items k _ h

packs_none : (items : List Item) (rest : ℕ) → items ≡ [] → Packs items rest [] (pos 0)
packs_none items rest e = subst (λ (l : List Item). Packs l rest [] (pos 0)) (sym e) (record { copies = refl; fits = omega arith; worth = refl })

packs_more : (x : Item) (xs : List Item) (rest d : ℕ) (ds : List ℕ) (gain : ℤ) → d ≤ x.copies → d * x.weight ≤ rest
    → Packs xs (rest - d * x.weight) ds gain → Packs (x ∷ xs) rest (d ∷ ds) (pos (d * x.profit) +ℤ gain)
packs_more x xs rest d ds gain few fits p = record {
  copies = and_from _ _ (le-leb _ _ few) p.copies;
  fits = let more = p.fits in omega arith;
  worth = ap (λ (z : ℤ). pos (d * x.profit) +ℤ z) p.worth;
}

-- a path to the last layer packs the items from its layer on
pub path_packs : (i : Instance) (k : ℕ) (s : List ℤ) (ds : List ℕ) → IsPath (program_of i) k s ds → k + length ds ≡ length i.items
    → Packs (drop k i.items) (left s) ds (gain_of (program_of i) k s ds)
path_packs i k s [] path whole = packs_none _ _ (drop_all k i.items (omega arith))
path_packs i k s (d ∷ ds) path whole =
    let here = path.0 in
    let x = item_at i.items k in
    let few : d ≤ x.copies = let c = here.choice in omega arith in
    let fits : d * x.weight ≤ left s = leb-true _ _ here.test in
    let rest = path_packs i (k + 1) (pos (left s - d * x.weight) ∷ []) ds path.1 (omega arith) in
    subst (λ (l : List Item). Packs l (left s) (d ∷ ds) (gain_of (program_of i) k s (d ∷ ds))) (sym (from_layer i.items k here.layer))
    (packs_more x (drop (k + 1) i.items) (left s) d ds _ few fits rest)

-- copies of each of the items from a layer on are as many as there are layers left
pub copies_all : (items : List Item) (ds : List ℕ) → has_copies items ds ≡ true → length ds ≡ length items
copies_all [] [] h = refl
copies_all [] (d ∷ ds) h = absurd (grind arith)
copies_all (x ∷ xs) [] h = absurd (grind arith)
copies_all (x ∷ xs) (d ∷ ds) h = let rest : length ds ≡ length xs = copies_all xs ds (and_parts _ _ h).1 in omega arith

-- where there are more or fewer numbers than items, they are no copies of them
pub has_copies-other_length : (items : List Item) (ds : List ℕ) → (length ds ≡ length items → ⊥) → has_copies items ds ≡ false
has_copies-other_length items ds other =
    elim (has_copies items ds) as (λ b. has_copies items ds ≡ b → b ≡ false) [
      | true ↦ λ e. absurd (other (copies_all items ds e))
      | false ↦ λ _. refl
    ] refl

-- a packing of an item and of those after it
record PacksFirst (x : Item) (xs : List Item) (rest d : ℕ) (ds : List ℕ) : Type 0 where
  few : d ≤ x.copies
  fits : d * x.weight ≤ rest
  copies : has_copies xs ds ≡ true
  others : total_weight xs ds ≤ rest - d * x.weight

packs_first : (x : Item) (xs : List Item) (rest d : ℕ) (ds : List ℕ) → has_copies (x ∷ xs) (d ∷ ds) ≡ true
    → total_weight (x ∷ xs) (d ∷ ds) ≤ rest → PacksFirst x xs rest d ds
packs_first x xs rest d ds copies fits =
    let parts = and_parts _ _ copies in
    record { few = leb-true _ _ parts.0; fits = omega arith; copies = parts.1; others = omega arith }

-- a packing of the items from a layer on is a path
pub packing_paths : (i : Instance) (k : ℕ) (s : List ℤ) (ds : List ℕ) → has_copies (drop k i.items) ds ≡ true
    → total_weight (drop k i.items) ds ≤ left s → IsPath (program_of i) k s ds
packing_paths i k s [] copies fits = tt
packing_paths i k s (d ∷ ds) copies fits =
    let whole : length (d ∷ ds) ≡ length (drop k i.items) = copies_all _ _ copies in
    let left_over : length (drop k i.items) ≡ length i.items - k = length-drop k i.items in
    let here : k < length i.items = omega arith in
    let x = item_at i.items k in
    let p = packs_first x (drop (k + 1) i.items) (left s) d ds
    (subst (λ (l : List Item). has_copies l (d ∷ ds) ≡ true) (from_layer i.items k here) copies)
    (subst (λ (l : List Item). total_weight l (d ∷ ds) ≤ left s) (from_layer i.items k here) fits) in
    let few : d < x.copies + 1 = let f = p.few in omega arith in (
      record { layer = here; choice = few; test = le-leb _ _ p.fits },
      packing_paths i (k + 1) (pos (left s - d * x.weight) ∷ []) ds p.copies p.others,
    )

-- a state with more left allows the same decisions
pub path_wider : (i : Instance) (k : ℕ) (s a : List ℤ) (ds : List ℕ) → left s ≤ left a → IsPath (program_of i) k s ds → IsPath (program_of i) k a ds
path_wider i k s a [] more path = tt
path_wider i k s a (d ∷ ds) more path =
    let here = path.0 in
    let fits : d * (item_at i.items k).weight ≤ left s = leb-true _ _ here.test in
    (record { layer = here.layer; choice = here.choice; test = le-leb _ _ (omega arith) }, path_wider i (k + 1) _ _ ds (omega arith) path.1)

-- the gain of decisions does not depend on the state
pub gain_same : (i : Instance) (k : ℕ) (s a : List ℤ) (ds : List ℕ) → gain_of (program_of i) k s ds ≡ gain_of (program_of i) k a ds
gain_same i k s a [] = refl
gain_same i k s a (d ∷ ds) = ap (λ (z : ℤ). pos (d * (item_at i.items k).profit) +ℤ z) (gain_same i (k + 1) _ _ ds)
