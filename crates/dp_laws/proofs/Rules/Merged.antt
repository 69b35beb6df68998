-- A layer that is merged to a width.
use Rattle.std.proofs.Common.{◌≡◌, ℕ, zero, suc, ◌+◌, ◌-◌, ◌<◌, ◌≤◌, ℤ, pos, ◌+ℤ◌, ◌≤ℤ◌, List, [], ◌∷◌, ◌++◌, length, map, take, drop, slice_get, Some, None, option_map, unwrap_or, ◌⊎◌, inl, inr, refl, sym, ◌∙◌, ap, subst, arith, length-drop}
use Rattle.std.proofs.lemmas.Int.{ints}
use Rattle.std.proofs.lemmas.List.{take-append-drop, length-map, length-take-le}
use Rattle.std.proofs.lemmas.Option.{slice_get-map, slice_get_within}
use Rattle.std.specs.List.{filter_map}
use Rattle.dp_model.specs.Dp.{Dp}
use Rattle.dp_model.specs.Decisions.{below}
use Rattle.dp_model.specs.Gaps.{IsStateOf, HasGap}
use Rattle.dp_model.specs.Laws.{IsLawful}
use Rattle.dp_model.specs.Numbers.{add_some, greatest, greatest_from}
use Rattle.dp_model.proofs.Members.{Has, Has-append-right}
use Rattle.dp_model.proofs.Solutions.{greatest_from-in}
use Rattle.dp_laws.specs.Diagrams.Nodes.{DdNode}
use Rattle.dp_laws.proofs.Diagrams.Places.{same-Some, Has-at, Has-filter_map, Has-filter_map-from, greatest-most, slice_get-append, slice_get-last, length-below, below-at}
use Rattle.dp_laws.proofs.Diagrams.Walks.{slice_get-take}
use Rattle.dp_laws.specs.Rules.Redirects.{Redirect}
use Rattle.dp_laws.specs.Rules.Reducing.{staying, merged_row, row_of_all, merged_node, merged_layer, redirect_by, merge_redirect, merge_redirects}
use Rattle.dp_laws.proofs.Rules.Redirecting.{GoesTo, GoesWhole, AreRedirects}

-- The row into which nodes are merged.

-- the merged row is a state, keeps the gaps of the first one, and has one to each node
record Covers (dp : Dp) (k : ℕ) (row into : List ℤ) (nodes : List DdNode) : Type 0 where
  state : IsStateOf dp k into
  old : (u : List ℤ) → IsStateOf dp k u → HasGap dp k row u → HasGap dp k into u
  new : (x : DdNode) → Has x nodes → HasGap dp k into x.row

merged-covers : (dp : Dp) → IsLawful dp → (k : ℕ) (row : List ℤ) (nodes : List DdNode) → IsStateOf dp k row → ((x : DdNode) → Has x nodes → IsStateOf dp k x.row) → Covers dp k row (merged_row dp k row nodes) nodes
merged-covers dp laws k row [] state states = record { state = state; old = λ u su h. h; new = λ x h. absurd h }
merged-covers dp laws k row (node ∷ nodes) state states =
    let sn = states node (inl refl) in
    let next : IsStateOf dp k (dp.merged k row node.row) = record { layer = state.layer; test = laws.states.merged k row node.row state sn } in
    let rest = merged-covers dp laws k (dp.merged k row node.row) nodes next (λ x h. states x (inr h)) in
    record {
      state = rest.state;
      old = λ u su h. rest.old u su (laws.gaps.merge_old k row node.row u state sn su h);
      new = λ x h. elim h as (λ _. HasGap dp k (merged_row dp k (dp.merged k row node.row) nodes) x.row) [
        | inl same ↦ subst (λ (y : DdNode). HasGap dp k (merged_row dp k (dp.merged k row node.row) nodes) y.row) same (rest.old node.row sn (laws.gaps.merge_new k row node.row state sn))
        | inr later ↦ rest.new x later
      ];
    }

-- the row of some nodes is a state with a gap to each
pub record CoversAll (dp : Dp) (k : ℕ) (nodes : List DdNode) : Type 0 where
  pub state : IsStateOf dp k (row_of_all dp k nodes)
  pub gaps : (x : DdNode) → Has x nodes → HasGap dp k (row_of_all dp k nodes) x.row

covers-all : (dp : Dp) → IsLawful dp → (k : ℕ) (nodes : List DdNode) → 0 < length nodes → ((x : DdNode) → Has x nodes → IsStateOf dp k x.row) → CoversAll dp k nodes
covers-all dp laws k [] some states = absurd (omega arith)
covers-all dp laws k (node ∷ nodes) some states =
    let sn = states node (inl refl) in
    let c = merged-covers dp laws k node.row nodes sn (λ x h. states x (inr h)) in
    record {
      state = c.state;
      gaps = λ x h. elim h as (λ _. HasGap dp k (merged_row dp k node.row nodes) x.row) [
        | inl same ↦ subst (λ (y : DdNode). HasGap dp k (merged_row dp k node.row nodes) y.row) same (c.old node.row sn (record { gap = pos 0; is = laws.gaps.own k node.row sn }))
        | inr later ↦ c.new x later
      ];
    }

-- The value of the merged node.

-- the greatest of a list with a member
record IsTop (xs : List ℤ) (v : ℤ) : Type 0 where
  has : Has v xs
  most : (z : ℤ) → Has z xs → z ≤ℤ v

top-of : (xs : List ℤ) (z : ℤ) → Has z xs → IsTop xs (unwrap_or (greatest xs) (pos 0))
top-of [] z h = absurd h
top-of (x ∷ xs) z h = record { has = greatest_from-in x xs; most = λ y hy. greatest-most (x ∷ xs) (greatest_from x xs) y refl hy }

-- Places before and after the width.

zero_plus : (n : ℕ) → 0 + n ≡ n
zero_plus n = omega arith

slice_get-drop : {X : Type 0} (n i : ℕ) (xs : List X) → slice_get (drop n xs) i ≡ slice_get xs (n + i)
slice_get-drop zero i xs = ap (slice_get xs) (sym (zero_plus i))
slice_get-drop (suc n) i [] = refl
slice_get-drop (suc n) i (x ∷ xs) = slice_get-drop n i xs ∙ (let e : suc (n + i) ≡ suc n + i = omega arith in ap (slice_get (x ∷ xs)) e)

-- what stands after n members of a list
pub following : {X : Type 0} (xs ys : List X) (n i : ℕ) → length xs ≡ n → slice_get (xs ++ ys) (n + i) ≡ slice_get ys i
following [] ys zero i e = ap (slice_get ys) (zero_plus i)
following [] ys (suc n) i e = absurd (omega arith)
following (x ∷ xs) ys zero i e = absurd (omega arith)
following (x ∷ xs) ys (suc n) i e = (let sum : suc n + i ≡ suc (n + i) = omega arith in ap (slice_get (x ∷ xs ++ ys)) sum) ∙ following xs ys n i (omega arith)

some-at : {X : Type 0} (xs : List X) (i : ℕ) → i < length xs → (x : X) × (slice_get xs i ≡ Some x)
some-at [] i h = absurd (omega arith)
some-at (x ∷ xs) zero h = (x, refl)
some-at (x ∷ xs) (suc i) h = some-at xs i (omega arith)

pub length-staying : (n : ℕ) → length (staying n) ≡ n
length-staying n = length-map (below n) (λ (i : ℕ). Some (record { place = i; longer = pos 0 })) ∙ length-below n

pub staying-at : (n i : ℕ) → i < n → slice_get (staying n) i ≡ Some (Some (record { place = i; longer = pos 0 }))
staying-at n i h = slice_get-map (λ (i : ℕ). Some (record { place = i; longer = pos 0 })) (below n) i ∙ ap (option_map (λ (i : ℕ). Some (record { place = i; longer = pos 0 }))) (below-at n i h)

-- a member is at a place
pub place-of : {X : Type 0} (xs : List X) (x : X) → Has x xs → (i : ℕ) × (slice_get xs i ≡ Some x)
place-of [] x h = absurd h
place-of (y ∷ ys) x (inl same) = (0, ap Some same)
place-of (y ∷ ys) x (inr later) = let r = place-of ys x later in (suc r.0, r.1)

-- The redirects of a layer of more than w nodes, of which n = w - 1 stay.

module _ (dp : Dp) (laws : IsLawful dp) (k n : ℕ) (layer : List DdNode) (wide : n + 1 < length layer) (states : (x : DdNode) → Has x layer → IsStateOf dp k x.row) where
  abbrev front : List DdNode
  front = take n layer

  abbrev back : List DdNode
  back = drop n layer

  abbrev into : List ℤ
  into = row_of_all dp k (drop n layer)

  back-has : (x : DdNode) → Has x (drop n layer) → Has x layer
  back-has x h = subst (λ l. Has x l) (take-append-drop n layer) (Has-append-right x (take n layer) (drop n layer) h)

  pub covered : CoversAll dp k (drop n layer)
  covered = covers-all dp laws k (drop n layer) (let long = length-drop n layer in omega arith) (λ x h. states x (back-has x h))

  -- a node after the width, with its gap
  lifted-in : (x : DdNode) → Has x (drop n layer) → (g : ℤ) → dp.gap k into x.row ≡ Some g → Has (x.value +ℤ g) (filter_map (λ (node : DdNode). add_some node.value (dp.gap k into node.row)) (drop n layer))
  lifted-in x h g e = Has-filter_map (λ (node : DdNode). add_some node.value (dp.gap k into node.row)) (drop n layer) x (x.value +ℤ g) h (ap (add_some x.value) e)

  -- the merged node's value is the greatest
  top : (x : DdNode) → Has x (drop n layer) → IsTop (filter_map (λ (node : DdNode). add_some node.value (dp.gap k into node.row)) (drop n layer)) (merged_node dp k (drop n layer)).value
  top x h = let g = covered.gaps x h in top-of (filter_map (λ (node : DdNode). add_some node.value (dp.gap k into node.row)) (drop n layer)) (x.value +ℤ g.gap) (lifted-in x h g.gap g.is)

  front-long : length (take n layer) ≡ n
  front-long = length-take-le n layer (omega arith)

  merged-at : slice_get (merged_layer dp k (n + 1) layer) n ≡ Some (merged_node dp k (drop n layer))
  merged-at =
      let same : n + 1 - 1 ≡ n = omega arith in
      subst (λ m. slice_get (take m layer ++ merged_node dp k (drop m layer) ∷ []) n ≡ Some (merged_node dp k (drop n layer))) (sym same) (slice_get-last (take n layer) (merged_node dp k (drop n layer)) n front-long)

  front-at : (i : ℕ) (x : DdNode) → i < n → slice_get layer i ≡ Some x → slice_get (merged_layer dp k (n + 1) layer) i ≡ Some x
  front-at i x less e =
      let same : n + 1 - 1 ≡ n = omega arith in
      subst (λ m. slice_get (take m layer ++ merged_node dp k (drop m layer) ∷ []) i ≡ Some x) (sym same) (slice_get-append (take n layer) (merged_node dp k (drop n layer) ∷ []) i x (slice_get-take n i layer less ∙ e))

  front-redirect : (i : ℕ) → i < n → slice_get (merge_redirects dp k (n + 1) layer) i ≡ Some (Some (record { place = i; longer = pos 0 }))
  front-redirect i less =
      let same : n + 1 - 1 ≡ n = omega arith in
      subst (λ m. slice_get (staying m ++ map (merge_redirect dp k m (row_of_all dp k (drop m layer))) (drop m layer)) i ≡ Some (Some (record { place = i; longer = pos 0 }))) (sym same)
      (slice_get-append (staying n) (map (merge_redirect dp k n into) (drop n layer)) i (Some (record { place = i; longer = pos 0 })) (staying-at n i less))

  back-redirect : (i : ℕ) (x : DdNode) → slice_get layer (n + i) ≡ Some x → slice_get (merge_redirects dp k (n + 1) layer) (n + i) ≡ Some (merge_redirect dp k n into x)
  back-redirect i x e =
      let same : n + 1 - 1 ≡ n = omega arith in
      subst (λ m. slice_get (staying m ++ map (merge_redirect dp k m (row_of_all dp k (drop m layer))) (drop m layer)) (n + i) ≡ Some (merge_redirect dp k n into x)) (sym same)
      (following (staying n) (map (merge_redirect dp k n into) (drop n layer)) n i (length-staying n) ∙ (slice_get-map (merge_redirect dp k n into) (drop n layer) i ∙ ap (option_map (merge_redirect dp k n into)) (slice_get-drop n i layer ∙ e)))

  back-goes : (i : ℕ) (x : DdNode) → slice_get layer (n + i) ≡ Some x → (g : ℤ) → dp.gap k into x.row ≡ Some g → GoesTo dp k (merged_layer dp k (n + 1) layer) x (record { place = n; longer = g })
  back-goes i x e g is =
      let has : Has x (drop n layer) = Has-at (drop n layer) i x (slice_get-drop n i layer ∙ e) in
      record { node = merged_node dp k (drop n layer); at = merged-at; gap = is; value = (top x has).most (x.value +ℤ g) (lifted-in x has g is) }

  front-goes : (i : ℕ) (x : DdNode) → i < n → slice_get layer i ≡ Some x → GoesTo dp k (merged_layer dp k (n + 1) layer) x (record { place = i; longer = pos 0 })
  front-goes i x less e = record { node = x; at = front-at i x less e; gap = laws.gaps.own k x.row (states x (Has-at layer i x e)); value = omega (arith, ints) }

  split : (i : ℕ) → (i < n) ⊎ ((j : ℕ) × (i ≡ n + j))
  split i = (let at : (i < n) ⊎ (n ≤ i) = grind arith in elim at as (λ _. (i < n) ⊎ ((j : ℕ) × (i ≡ n + j))) [ inl less ↦ inl less | inr more ↦ inr (i - n, omega arith) ])

  redirect-known : (i : ℕ) (x : DdNode) → slice_get layer i ≡ Some x → (l : Redirect) × (slice_get (merge_redirects dp k (n + 1) layer) i ≡ Some (Some l)) × GoesTo dp k (merged_layer dp k (n + 1) layer) x l
  redirect-known i x e = elim (split i) as (λ _. (l : Redirect) × (slice_get (merge_redirects dp k (n + 1) layer) i ≡ Some (Some l)) × GoesTo dp k (merged_layer dp k (n + 1) layer) x l) [
    | inl less ↦ (record { place = i; longer = pos 0 }, front-redirect i less, front-goes i x less e)
    | inr more ↦ (
        let at : slice_get layer (n + more.0) ≡ Some x = ap (slice_get layer) (sym more.1) ∙ e in
        let g = covered.gaps x (Has-at (drop n layer) more.0 x (slice_get-drop n more.0 layer ∙ at)) in
        let goes : slice_get (merge_redirects dp k (n + 1) layer) i ≡ Some (Some (record { place = n; longer = g.gap })) =
        ap (slice_get (merge_redirects dp k (n + 1) layer)) more.1 ∙ (back-redirect more.0 x at ∙ ap (λ o. Some (redirect_by n o)) g.is) in
        (record { place = n; longer = g.gap }, goes, back-goes more.0 x at g.gap g.is))
  ]

  -- the node that stays whole after the width is the one of the greatest value
  merged-whole : GoesWhole layer (merge_redirects dp k (n + 1) layer) n (merged_node dp k (drop n layer))
  merged-whole =
      let first = some-at (drop n layer) 0 (let long = length-drop n layer in omega arith) in
      let best = (top first.0 (Has-at (drop n layer) 0 first.0 first.1)).has in
      let from = Has-filter_map-from (λ (node : DdNode). add_some node.value (dp.gap k into node.row)) (drop n layer) (merged_node dp k (drop n layer)).value best in
      let at = place-of (drop n layer) from.0 from.1 in
      let g = covered.gaps from.0 from.1 in
      let there : slice_get layer (n + at.0) ≡ Some from.0 = sym (slice_get-drop n at.0 layer) ∙ at.1 in
      let value : from.0.value +ℤ g.gap ≡ (merged_node dp k (drop n layer)).value = same-Some (from.0.value +ℤ g.gap) (merged_node dp k (drop n layer)).value (ap (add_some from.0.value) (sym g.is) ∙ from.2) in
      record { from = n + at.0; old = from.0; at = there; longer = g.gap; goes = back-redirect at.0 from.0 there ∙ ap (λ o. Some (redirect_by n o)) g.is; value = sym value }

  whole-at : (j : ℕ) (y : DdNode) → slice_get (merged_layer dp k (n + 1) layer) j ≡ Some y → GoesWhole layer (merge_redirects dp k (n + 1) layer) j y
  whole-at j y e =
      let shape : merged_layer dp k (n + 1) layer ≡ take n layer ++ merged_node dp k (drop n layer) ∷ [] = (let same : n + 1 - 1 ≡ n = omega arith in ap (λ m. take m layer ++ merged_node dp k (drop m layer) ∷ []) same) in
      elim (split j) as (λ _. GoesWhole layer (merge_redirects dp k (n + 1) layer) j y) [
        | inl less ↦ (
            let old = some-at layer j (omega arith) in
            let same : old.0 ≡ y = same-Some old.0 y (sym (front-at j old.0 less old.1) ∙ e) in
            record { from = j; old = old.0; at = old.1; longer = pos 0; goes = front-redirect j less; value = (let v = ap (λ (x : DdNode). x.value) same in omega (arith, ints)) })
        | inr more ↦ (
            let at : slice_get (merged_node dp k (drop n layer) ∷ []) more.0 ≡ Some y = sym (following (take n layer) (merged_node dp k (drop n layer) ∷ []) n more.0 front-long) ∙ (ap (λ l. slice_get l (n + more.0)) (sym shape) ∙ (ap (slice_get (merged_layer dp k (n + 1) layer)) (sym more.1) ∙ e)) in
            let within = slice_get_within (merged_node dp k (drop n layer) ∷ []) more.0 y at in
            let zero_more : more.0 ≡ 0 = omega arith in
            let place : j ≡ n = (let e' = more.1 in omega arith) in
            let node : merged_node dp k (drop n layer) ≡ y = same-Some (merged_node dp k (drop n layer)) y (ap (slice_get (merged_node dp k (drop n layer) ∷ [])) (sym zero_more) ∙ at) in
            subst (λ m. GoesWhole layer (merge_redirects dp k (n + 1) layer) m y) (sym place) (subst (GoesWhole layer (merge_redirects dp k (n + 1) layer) n) node merged-whole))
      ]

  pub merge-redirects-of : AreRedirects dp k layer (merged_layer dp k (n + 1) layer) (merge_redirects dp k (n + 1) layer)
  merge-redirects-of = record {
    goes = λ i y l at e. (let known = redirect-known i y at in
        let same : known.0 ≡ l = same-Some known.0 l (same-Some (Some known.0) (Some l) (sym known.1 ∙ e)) in
        subst (GoesTo dp k (merged_layer dp k (n + 1) layer) y) same known.2);
    all = λ i y at. (let known = redirect-known i y at in (Some known.0, known.1));
    whole = whole-at;
  }

  pub none-gone : (i : ℕ) (x : DdNode) → slice_get layer i ≡ Some x → slice_get (merge_redirects dp k (n + 1) layer) i ≡ Some None → ⊥
  none-gone i x e gone = let known = redirect-known i x e in let clash : Some known.0 ≡ None = same-Some (Some known.0) None (sym known.1 ∙ gone) in cc
