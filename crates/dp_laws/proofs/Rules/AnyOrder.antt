-- What is merged in any order: the merged row and the merged node don't depend on the order of the nodes.
use Rattle.std.proofs.Common.{◌≡◌, ◌≢◌, ℕ, zero, suc, ◌+◌, ◌-◌, ◌<◌, ◌≤◌, ℤ, pos, ◌≤ℤ◌, Bool, true, false, List, [], ◌∷◌, ◌++◌, length, take, drop, set, get_or, Option, Some, unwrap_or, IsPermutation, ◌⊎◌, inl, inr, refl, sym, ◌∙◌, ap, subst, arith}
use Rattle.std.proofs.lemmas.Int.{ints}
use Rattle.std.proofs.lemmas.List.{append_assoc, set_comm, set_split, set-get_or}
use Rattle.std.proofs.lemmas.List.Edits.{swap_is}
use Rattle.std.proofs.lemmas.List.Sorted.{IsPermutation-keeps, IsPermutation-swap}
use Rattle.std.specs.List.{filter_map, swap}
use Rattle.dp_model.specs.Dp.{Dp}
use Rattle.dp_model.specs.Gaps.{IsStateOf}
use Rattle.dp_model.specs.Laws.{IsLawful, MergesInAnyOrder}
use Rattle.dp_model.specs.Lists.{Each}
use Rattle.dp_model.specs.Numbers.{add_some, greatest, greatest_from}
use Rattle.dp_model.proofs.Members.{Has}
use Rattle.dp_model.proofs.Solutions.{greatest_from-in}
use Rattle.dp_laws.specs.Diagrams.Nodes.{DdNode}
use Rattle.dp_laws.specs.Rules.Reducing.{merged_row, row_of_all, merged_node, merged_layer}
use Rattle.dp_laws.proofs.Diagrams.Places.{Has-filter_map, Has-filter_map-from, greatest-most}
use Rattle.dp_laws.proofs.Restricted.Permutations.{Has-permutation, Has-permutation-back, each-permutation}

-- What two members that change places leave as it is.

-- a list with two of its members in each other's place
record Changed {X : Type 0} (l moved : List X) : Type 0 where
  front : List X
  between : List X
  rest : List X
  one : X
  two : X
  before : l ≡ front ++ one ∷ (between ++ two ∷ rest)
  after : moved ≡ front ++ two ∷ (between ++ one ∷ rest)

module _ {X : Type 0} where
  changed-first : (x : X) (l : List X) (j : ℕ) → j < length l → Changed (x ∷ l) (swap (x ∷ l) 0 (suc j))
  changed-first x l j within = record {
    front = [];
    between = take j l;
    rest = drop (suc j) l;
    one = x;
    two = get_or l j x;
    before = ap (λ k. x ∷ k) (sym (sym (set_split l j (get_or l j x) within) ∙ set-get_or l j x));
    after = sym (swap_is (x ∷ l) 0 (suc j) x (omega arith) (omega arith)) ∙ ap (λ k. get_or l j x ∷ k) (set_split l j x within);
  }

  changed : (l : List X) (i j : ℕ) → i < j → j < length l → Changed l (swap l i j)
  changed [] i j less within = absurd (omega arith)
  changed (x ∷ l) i zero less within = absurd (omega arith)
  changed (x ∷ l) zero (suc j) less within = changed-first x l j (omega arith)
  changed (x ∷ l) (suc i) (suc j) less within =
      let r = changed l i j (omega arith) (omega arith) in
      let same : x ∷ swap l i j ≡ swap (x ∷ l) (suc i) (suc j) = ap (λ k. x ∷ k) (sym (swap_is l i j x (omega arith) (omega arith))) ∙ swap_is (x ∷ l) (suc i) (suc j) x (omega arith) (omega arith) in
      record { front = x ∷ r.front; between = r.between; rest = r.rest; one = r.one; two = r.two; before = ap (λ k. x ∷ k) r.before; after = sym same ∙ ap (λ k. x ∷ k) r.after }

  swap-back : (x : X) (l : List X) (i j : ℕ) → j < i → i < length l → swap l i j ≡ swap l j i
  swap-back x l i j less within =
      sym (swap_is l i j x within (omega arith)) ∙ (set_comm l i j (get_or l j x) (get_or l i x) (λ same. absurd (omega arith)) ∙ swap_is l j i x (omega arith) within)

  swap-self : (x : X) (l : List X) (i : ℕ) → i < length l → swap l i i ≡ l
  swap-self x l i within = sym (swap_is l i i x within within) ∙ (ap (λ k. set k i (get_or l i x)) (set-get_or l i x) ∙ set-get_or l i x)

  -- a value of a list that two members may change places in
  module _ {Y : Type 0} (f : X → Type 0) (g : List X → Y) (same : (front between rest : List X) (one two : X) → Each f (front ++ one ∷ (between ++ two ∷ rest)) → g (front ++ one ∷ (between ++ two ∷ rest)) ≡ g (front ++ two ∷ (between ++ one ∷ rest))) where
    when-changed : (l moved : List X) → Changed l moved → Each f l → g l ≡ g moved
    when-changed l moved c all = ap g c.before ∙ (same c.front c.between c.rest c.one c.two (subst (Each f) c.before all) ∙ ap g (sym c.after))

    when-swapped : (l : List X) (i j : ℕ) → i < length l → j < length l → Each f l → g l ≡ g (swap l i j)
    when-swapped [] i j a b all = absurd (omega arith)
    when-swapped (x ∷ l) i j a b all =
        let at : (i < j) ⊎ ((j < i) ⊎ (i ≡ j)) = grind arith in
        elim at as (λ _. g (x ∷ l) ≡ g (swap (x ∷ l) i j)) [
          | inl less ↦ when-changed (x ∷ l) (swap (x ∷ l) i j) (changed (x ∷ l) i j less b) all
          | inr others ↦ elim others as (λ _. g (x ∷ l) ≡ g (swap (x ∷ l) i j)) [
            | inl more ↦ when-changed (x ∷ l) (swap (x ∷ l) j i) (changed (x ∷ l) j i more a) all ∙ ap g (sym (swap-back x (x ∷ l) i j more a))
            | inr equal ↦ ap g (sym (ap (swap (x ∷ l) i) (sym equal) ∙ swap-self x (x ∷ l) i a))
          ]
        ]

    in-any-order : (xs ys : List X) → IsPermutation xs ys → Each f xs → g xs ≡ g ys
    in-any-order xs ys moved all =
        (IsPermutation-keeps xs (λ l. Each f l × (g xs ≡ g l)) (all, refl)
        (λ l i j a b h. (each-permutation l (swap l i j) (IsPermutation-swap l (swap l i j) i j a b refl) f h.0, h.1 ∙ when-swapped l i j a b h.0)) ys moved).1

-- The greatest number of a list is that of its members.

not-above : (xs ys : List ℤ) (x y : ℤ) → ((z : ℤ) → Has z (x ∷ xs) → Has z (y ∷ ys)) → greatest_from x xs ≤ℤ greatest_from y ys
not-above xs ys x y all = greatest-most (y ∷ ys) (greatest_from y ys) (greatest_from x xs) refl (all (greatest_from x xs) (greatest_from-in x xs))

pub greatest-members : (xs ys : List ℤ) → ((z : ℤ) → Has z xs → Has z ys) → ((z : ℤ) → Has z ys → Has z xs) → greatest xs ≡ greatest ys
greatest-members [] [] all back = refl
greatest-members [] (y ∷ ys) all back = absurd (back y (inl refl))
greatest-members (x ∷ xs) [] all back = absurd (all x (inl refl))
greatest-members (x ∷ xs) (y ∷ ys) all back =
    let up = not-above xs ys x y all in
    let down = not-above ys xs y x back in
    let same : greatest_from x xs ≡ greatest_from y ys = omega (arith, ints) in
    ap Some same

module _ {X : Type 0} (f : X → Option ℤ) (xs ys : List X) (moved : IsPermutation xs ys) where
  pub greatest-any-order : greatest (filter_map f xs) ≡ greatest (filter_map f ys)
  greatest-any-order = greatest-members (filter_map f xs) (filter_map f ys)
      (λ z h. let r = Has-filter_map-from f xs z h in Has-filter_map f ys r.0 z (Has-permutation xs ys moved r.0 r.1) r.2)
      (λ z h. let r = Has-filter_map-from f ys z h in Has-filter_map f xs r.0 z (Has-permutation-back xs ys moved r.0 r.1) r.2)

-- The merged row.

module _ (dp : Dp) (laws : IsLawful dp) (free : MergesInAnyOrder dp) (k : ℕ) where
  abbrev Stands : DdNode → Type 0
  Stands n = IsStateOf dp k n.row

  merged-state : (a b : List ℤ) → IsStateOf dp k a → IsStateOf dp k b → IsStateOf dp k (dp.merged k a b)
  merged-state a b sa sb = record { layer = sa.layer; test = laws.states.merged k a b sa sb }

  -- of two rows that are merged into a third one either may come first
  turned : (a b c : List ℤ) → IsStateOf dp k a → IsStateOf dp k b → IsStateOf dp k c → dp.merged k (dp.merged k a b) c ≡ dp.merged k (dp.merged k a c) b
  turned a b c sa sb sc = free.regrouped k a b c sa sb sc ∙ (ap (dp.merged k a) (free.swapped k b c sb sc) ∙ sym (free.regrouped k a c b sa sc sb))

  -- a node may be merged before those that stand before it
  node-first : (row : List ℤ) (front rest : List DdNode) (x : DdNode) → IsStateOf dp k row → Each Stands (front ++ x ∷ rest) → merged_row dp k row (front ++ x ∷ rest) ≡ merged_row dp k (dp.merged k row x.row) (front ++ rest)
  node-first row [] rest x state all = refl
  node-first row (y ∷ front) rest x state all =
      let sx : IsStateOf dp k x.row = standing front all.1 in
      node-first (dp.merged k row y.row) front rest x (merged-state row y.row state all.0) all.1 ∙ ap (λ r. merged_row dp k r (front ++ rest)) (turned row y.row x.row state all.0 sx)
    where
      standing : (l : List DdNode) → Each Stands (l ++ x ∷ rest) → IsStateOf dp k x.row
      standing [] h = h.0
      standing (z ∷ l) h = standing l h.1

  node-standing : (front rest : List DdNode) (x : DdNode) → Each Stands (front ++ x ∷ rest) → IsStateOf dp k x.row
  node-standing [] rest x h = h.0
  node-standing (z ∷ front) rest x h = node-standing front rest x h.1

  -- a node may stand first
  row-first : (front rest : List DdNode) (x : DdNode) → Each Stands (front ++ x ∷ rest) → row_of_all dp k (front ++ x ∷ rest) ≡ row_of_all dp k (x ∷ (front ++ rest))
  row-first [] rest x all = refl
  row-first (y ∷ front) rest x all =
      node-first y.row front rest x all.0 all.1 ∙ ap (λ r. merged_row dp k r (front ++ rest)) (free.swapped k y.row x.row all.0 (node-standing front rest x all.1))

  each-rest : (front rest : List DdNode) (x : DdNode) → Each Stands (front ++ x ∷ rest) → Each Stands (front ++ rest)
  each-rest [] rest x h = h.1
  each-rest (z ∷ front) rest x h = (h.0, each-rest front rest x h.1)

  -- two nodes may stand first
  both-first : (front between rest : List DdNode) (x y : DdNode) → Each Stands (front ++ x ∷ (between ++ y ∷ rest)) → row_of_all dp k (front ++ x ∷ (between ++ y ∷ rest)) ≡ merged_row dp k (dp.merged k x.row y.row) ((front ++ between) ++ rest)
  both-first front between rest x y all =
      let others = subst (Each Stands) (sym (append_assoc front between (y ∷ rest))) (each-rest front (between ++ y ∷ rest) x all) in
      row-first front (between ++ y ∷ rest) x all ∙ (ap (merged_row dp k x.row) (sym (append_assoc front between (y ∷ rest))) ∙ node-first x.row (front ++ between) rest y (node-standing front (between ++ y ∷ rest) x all) others)

  second-standing : (front between rest : List DdNode) (x y : DdNode) → Each Stands (front ++ x ∷ (between ++ y ∷ rest)) → IsStateOf dp k y.row
  second-standing [] between rest x y h = node-standing between rest y h.1
  second-standing (z ∷ front) between rest x y h = second-standing front between rest x y h.1

  each-changed : (front between rest : List DdNode) (x y : DdNode) → Each Stands (front ++ x ∷ (between ++ y ∷ rest)) → Each Stands (front ++ y ∷ (between ++ x ∷ rest))
  each-changed [] between rest x y h = (node-standing between rest y h.1, put-in between h.1)
    where
      put-in : (l : List DdNode) → Each Stands (l ++ y ∷ rest) → Each Stands (l ++ x ∷ rest)
      put-in [] g = (h.0, g.1)
      put-in (z ∷ l) g = (g.0, put-in l g.1)
  each-changed (z ∷ front) between rest x y h = (h.0, each-changed front between rest x y h.1)

  two-changed : (front between rest : List DdNode) (x y : DdNode) → Each Stands (front ++ x ∷ (between ++ y ∷ rest)) → row_of_all dp k (front ++ x ∷ (between ++ y ∷ rest)) ≡ row_of_all dp k (front ++ y ∷ (between ++ x ∷ rest))
  two-changed front between rest x y all =
      both-first front between rest x y all
      ∙ (ap (λ r. merged_row dp k r ((front ++ between) ++ rest)) (free.swapped k x.row y.row (node-standing front (between ++ y ∷ rest) x all) (second-standing front between rest x y all))
      ∙ sym (both-first front between rest y x (each-changed front between rest x y all)))

  pub rows-any-order : (xs ys : List DdNode) → IsPermutation xs ys → Each (λ (n : DdNode). IsStateOf dp k n.row) xs → row_of_all dp k xs ≡ row_of_all dp k ys
  rows-any-order xs ys moved all = in-any-order Stands (row_of_all dp k) two-changed xs ys moved all

  -- The merged node.

  -- the merged node, by its row
  abbrev node_of : List ℤ → List DdNode → DdNode
  node_of row nodes = record (merged_node dp k nodes) { row = row; value = unwrap_or (greatest (filter_map (λ (n : DdNode). add_some n.value (dp.gap k row n.row)) nodes)) (pos 0) }

  pub node-any-order : (xs ys : List DdNode) → IsPermutation xs ys → Each (λ (n : DdNode). IsStateOf dp k n.row) xs → merged_node dp k xs ≡ merged_node dp k ys
  node-any-order xs ys moved all =
      let row = rows-any-order xs ys moved all in
      ap (λ r. node_of r xs) row
      ∙ ap (λ v. record (merged_node dp k ys) { value = unwrap_or v (pos 0) }) (greatest-any-order (λ (n : DdNode). add_some n.value (dp.gap k (row_of_all dp k ys) n.row)) xs ys moved)

  -- The merged layer: only its first nodes have to stand in their order.

  pub layer-any-order : (w : ℕ) (xs ys : List DdNode) → take (w - 1) xs ≡ take (w - 1) ys → IsPermutation (drop (w - 1) xs) (drop (w - 1) ys) → Each (λ (n : DdNode). IsStateOf dp k n.row) (drop (w - 1) xs) → merged_layer dp k w xs ≡ merged_layer dp k w ys
  layer-any-order w xs ys front moved all =
      ap (λ l. l ++ merged_node dp k (drop (w - 1) xs) ∷ []) front ∙ ap (λ n. take (w - 1) ys ++ n ∷ []) (node-any-order (drop (w - 1) xs) (drop (w - 1) ys) moved all)
