-- The numbers of a diagram stay small.
use Rattle.std.proofs.Common.{◌≡◌, ℕ, zero, suc, ◌+◌, ◌-◌, ◌*◌, ◌<◌, ◌≤◌, nat_lt, ℤ, pos, ◌+ℤ◌, ◌≤ℤ◌, true, false, cond, List, [], ◌∷◌, ◌++◌, length, map, take, drop, replicate, slice_get, Option, Some, None, option_and_then, ◌⊎◌, inl, inr, refl, sym, ◌∙◌, ap, subst, arith, length-append}
use Rattle.std.proofs.lemmas.Int.{ints}
use Rattle.std.specs.List.{filter_map}
use Rattle.dp_model.specs.Dp.{Dp}
use Rattle.dp_model.specs.Gaps.{IsStateOf}
use Rattle.dp_model.specs.Laws.{IsLawful}
use Rattle.dp_model.specs.Lists.{Each}
use Rattle.dp_model.specs.Numbers.{IsSmall, add_some, greatest, greatest_from}
use Rattle.dp_model.specs.Prefixes.{IsPrefix}
use Rattle.dp_model.specs.Reached.{Reached, reached}
use Rattle.dp_model.proofs.Members.{Has, each-has, each-of-all, Has-map-from, Has-append-cases}
use Rattle.dp_model.proofs.Paths.{state_of-state}
use Rattle.dp_model.proofs.Sizes.{value_of-size}
use Rattle.dp_model.proofs.Solutions.{greatest_from-in}
use Rattle.dp_laws.specs.declared.arc.DdArc.{DdArc}
use Rattle.dp_laws.specs.Diagrams.Nodes.{DdNode}
use Rattle.dp_laws.specs.Diagrams.Seen.{suffix_at, suffix_from}
use Rattle.dp_laws.specs.Rules.Redirects.{Redirect, redirected_by, redirected, with_redirected}
use Rattle.dp_laws.specs.Rules.Expanding.{new_layer, with_arcs}
use Rattle.dp_laws.specs.Rules.Pruning.{pruned_nodes, prune_redirects}
use Rattle.dp_laws.specs.Rules.Reducing.{staying, keep_redirects, merged_node, merged_layer, merge_redirects}
use Rattle.dp_laws.specs.Rules.Compiling.{TwoLayers, expand, prune, keep_first, merge_rest, start_layer}
use Rattle.dp_laws.specs.Rules.Within.{IsBetween, IsLayerWithin, ReachesWithin, LeadsWithin, IsArcWithin, AreWithin, NumbersStaySmall, IsSuffixWithin, SuffixesStaySmall}
use Rattle.dp_laws.proofs.Diagrams.Places.{same-Some, Has-at, Has-filter_map-from, slice_get-append}
use Rattle.dp_laws.proofs.Rules.Expanded.{allowed-of, new-node, leads-into, with_arcs_of, arc-of, most-reaching}
use Rattle.dp_laws.proofs.Rules.Built.{in-take}
use Rattle.dp_laws.proofs.Rules.Merged.{following, length-staying, staying-at, place-of, covered, merge-redirects-of}
use Rattle.dp_laws.proofs.Rules.Pruned.{pruned-has, pruned-goes, few-pruned}
use Rattle.dp_laws.proofs.Rules.Redirecting.{GoesTo, followed_node}

-- The start.

pub start-within : (dp : Dp) → IsLawful dp → (p : List ℕ) (w : ℕ) → IsPrefix dp p → length p ≤ dp.vars → 1 ≤ w → IsLayerWithin dp (length p) w (start_layer (reached dp p))
start-within dp laws p w prefix short some =
    let size = value_of-size dp laws p prefix in
    let low = size.low in
    let high = size.high in
    record {
      states = (state_of-state dp laws.states p prefix, tt);
      values = (record { low = omega (arith, ints); high = omega (arith, ints) }, tt);
      wide = λ more. absurd (omega arith);
    }

-- Expanding.

new-state : (dp : Dp) → IsLawful dp → (k w : ℕ) (layer : List DdNode) → k < dp.vars → IsLayerWithin dp k w layer → (y : DdNode) → Has y (new_layer dp k layer) → IsStateOf dp (k + 1) y.row
new-state dp laws k w layer low h y has =
    let n = new-node dp k layer y low has in
    let m = n.made in
    let row : y.row ≡ dp.step k m.node.row m.decision = ap (λ (x : DdNode). x.row) n.is ∙ ap (λ (r : Reached). r.row) m.is in
    let state = each-has (λ (x : DdNode). IsStateOf dp k x.row) layer m.node h.states m.has in
    let test = laws.states.step k m.node.row m.decision state (allowed-of dp k m.node.row m.decision low m.listed) in
    subst (IsStateOf dp (k + 1)) (sym row) (record { layer = omega arith; test = test })

new-value : (dp : Dp) → IsLawful dp → (k w : ℕ) (layer : List DdNode) → k < dp.vars → IsLayerWithin dp k w layer → (y : DdNode) → Has y (new_layer dp k layer) → IsBetween (k + 1 + 1) (2 * (k + 1)) y.value
new-value dp laws k w layer low h y has =
    let n = new-node dp k layer y low has in
    let m = n.made in
    let value : y.value ≡ m.node.value +ℤ dp.gain k m.node.row m.decision = ap (λ (x : DdNode). x.value) n.is ∙ ap (λ (r : Reached). r.value) m.is in
    let state = each-has (λ (x : DdNode). IsStateOf dp k x.row) layer m.node h.states m.has in
    let gain = laws.sizes.gain k m.node.row m.decision state (allowed-of dp k m.node.row m.decision low m.listed) in
    let old = each-has (λ (x : DdNode). IsBetween (k + 1) (2 * k + 1) x.value) layer m.node h.values m.has in
    let a = gain.low in let b = gain.high in let c = old.low in let d = old.high in
    record { low = omega (arith, ints); high = omega (arith, ints) }

no-higher : (k : ℕ) (v : ℤ) → IsBetween (k + 1) (2 * k) v → IsBetween (k + 1) (2 * k + 1) v
no-higher k v h = let a = h.low in let b = h.high in record { low = a; high = omega (arith, ints) }

next-within : (dp : Dp) (k w : ℕ) (layer : List DdNode) → ((y : DdNode) → Has y layer → IsStateOf dp k y.row) → ((y : DdNode) → Has y layer → IsBetween (k + 1) (2 * k) y.value) → IsLayerWithin dp k w layer
next-within dp k w layer states values = record {
  states = each-of-all (λ (y : DdNode). IsStateOf dp k y.row) layer states;
  values = each-of-all (λ (y : DdNode). IsBetween (k + 1) (2 * k + 1) y.value) layer (λ y has. no-higher k y.value (values y has));
  wide = λ more. each-of-all (λ (y : DdNode). IsBetween (k + 1) (2 * k) y.value) layer values;
}

-- nodes that differ in arcs alone
above-same : (dp : Dp) (k w : ℕ) (f : DdNode → DdNode) (layer : List DdNode) → ((x : DdNode) → ((f x).row ≡ x.row) × ((f x).value ≡ x.value)) → length (map f layer) ≡ length layer → IsLayerWithin dp k w layer → IsLayerWithin dp k w (map f layer)
above-same dp k w f layer same long h = record {
  states = each-of-all (λ (y : DdNode). IsStateOf dp k y.row) (map f layer) (λ y has.
      let from = Has-map-from f layer y has in
      subst (λ (n : DdNode). IsStateOf dp k n.row) from.2 (subst (IsStateOf dp k) (sym (same from.0).0) (each-has (λ (x : DdNode). IsStateOf dp k x.row) layer from.0 h.states from.1)));
  values = each-of-all (λ (y : DdNode). IsBetween (k + 1) (2 * k + 1) y.value) (map f layer) (λ y has.
      let from = Has-map-from f layer y has in
      subst (λ (n : DdNode). IsBetween (k + 1) (2 * k + 1) n.value) from.2 (subst (IsBetween (k + 1) (2 * k + 1)) (sym (same from.0).1) (each-has (λ (x : DdNode). IsBetween (k + 1) (2 * k + 1) x.value) layer from.0 h.values from.1)));
  wide = λ more. each-of-all (λ (y : DdNode). IsBetween (k + 1) (2 * k) y.value) (map f layer) (λ y has.
      let from = Has-map-from f layer y has in
      let at : w < length layer = subst (λ n. w < n) long more in
      subst (λ (n : DdNode). IsBetween (k + 1) (2 * k) n.value) from.2 (subst (IsBetween (k + 1) (2 * k)) (sym (same from.0).1) (each-has (λ (x : DdNode). IsBetween (k + 1) (2 * k) x.value) layer from.0 (h.wide at) from.1)));
}

length-same : {X Y : Type 0} (f : X → Y) (xs : List X) → length (map f xs) ≡ length xs
length-same f [] = refl
length-same f (x ∷ xs) = ap suc (length-same f xs)

-- the arcs of an expanded layer
new-arc : (dp : Dp) → IsLawful dp → (k w : ℕ) (layer : List DdNode) → k < dp.vars → IsLayerWithin dp k w layer → (x : DdNode) → Has x (with_arcs dp k (new_layer dp k layer) layer) → (arc : DdArc) → Has arc x.arcs → IsArcWithin k (new_layer dp k layer) x arc
new-arc dp laws k w layer low h x has arc listed =
    let next = new_layer dp k layer in
    let a = arc-of dp k layer next x arc has listed in
    let f = leads-into dp k layer a.node a.decision low a.has a.listed in
    let aims : arc.target ≡ Some f.place = ap (λ (b : DdArc). b.target) a.is ∙ f.found in
    let state = each-has (λ (n : DdNode). IsStateOf dp k n.row) layer a.node h.states a.has in
    let small = laws.sizes.gain k a.node.row a.decision state (allowed-of dp k a.node.row a.decision low a.listed) in
    let gain : arc.gain ≡ dp.gain k a.node.row a.decision = ap (λ (b : DdArc). b.gain) a.is in
    let longer : arc.longer ≡ pos 0 = ap (λ (b : DdArc). b.longer) a.is in
    let top = most-reaching dp k layer low f.place f.node f.at (x.value +ℤ (arc.gain +ℤ arc.longer)) (record { source = x; has = has; arc = arc; listed = listed; aims = aims; is = refl }) in
    record {
      gain = subst IsSmall (sym gain) small;
      longer = record { low = omega (arith, ints); high = omega (arith, ints) };
      leads = subst (LeadsWithin (x.value +ℤ (arc.gain +ℤ arc.longer)) next) (sym aims) (subst (ReachesWithin (x.value +ℤ (arc.gain +ℤ arc.longer))) (sym f.at) top);
    }

each-arc : (k : ℕ) (next : List DdNode) (above : List DdNode) → ((x : DdNode) → Has x above → (arc : DdArc) → Has arc x.arcs → IsArcWithin k next x arc) → Each (λ (node : DdNode). Each (IsArcWithin k next node) node.arcs) above
each-arc k next above h = each-of-all (λ (node : DdNode). Each (IsArcWithin k next node) node.arcs) above (λ x has. each-of-all (IsArcWithin k next x) x.arcs (h x has))

pub expand-within : (dp : Dp) → IsLawful dp → (k w : ℕ) (layer : List DdNode) → k < dp.vars → IsLayerWithin dp k w layer → AreWithin dp k w (expand dp k layer)
expand-within dp laws k w layer low h = record {
  above = above-same dp k w (with_arcs_of dp k (new_layer dp k layer)) layer (λ x. (refl, refl)) (length-same (with_arcs_of dp k (new_layer dp k layer)) layer) h;
  next = next-within dp (k + 1) w (new_layer dp k layer) (new-state dp laws k w layer low h) (new-value dp laws k w layer low h);
  arcs = each-arc k (new_layer dp k layer) (with_arcs dp k (new_layer dp k layer) layer) (new-arc dp laws k w layer low h);
}

-- Redirecting.

target-of : (reached : ℤ) (o : Option DdNode) → ReachesWithin reached o → (y : DdNode) × (o ≡ Some y) × (reached ≤ℤ y.value)
target-of reached None h = absurd h
target-of reached (Some y) h = (y, refl, h)

module _ (dp : Dp) (laws : IsLawful dp) (k w : ℕ) (next next' : List DdNode) (redirects : List (Option Redirect)) (goes : (i : ℕ) (y : DdNode) (l : Redirect) → slice_get next i ≡ Some y → slice_get redirects i ≡ Some (Some l) → GoesTo dp (k + 1) next' y l) (old : IsLayerWithin dp (k + 1) w next) (new : IsLayerWithin dp (k + 1) w next') where
  arc-redirected : (source : DdNode) (arc : DdArc) → IsBetween (k + 1) (2 * k + 1) source.value → IsArcWithin k next source arc → IsArcWithin k next' source (redirected redirects arc)
  arc-redirected source arc value h =
      let none : IsArcWithin k next' source (redirected_by arc None) = record { gain = h.gain; longer = h.longer; leads = tt } in
      let some : (i : ℕ) (l : Redirect) → arc.target ≡ Some i → slice_get redirects i ≡ Some (Some l) → IsArcWithin k next' source (redirected_by arc (Some l)) = λ i l e f.
      (let reached = source.value +ℤ (arc.gain +ℤ arc.longer) in
      let to = target-of reached (slice_get next i) (subst (LeadsWithin reached next) e h.leads) in
      let y = to.0 in
      let g = goes i y l to.1 f in
      let most = to.2 in
      let sy = each-has (λ (n : DdNode). IsStateOf dp (k + 1) n.row) next y old.states (Has-at next i y to.1) in
      let there : Has g.node next' = Has-at next' l.place g.node g.at in
      let sg = each-has (λ (n : DdNode). IsStateOf dp (k + 1) n.row) next' g.node new.states there in
      let top = each-has (λ (n : DdNode). IsBetween (k + 1 + 1) (2 * (k + 1) + 1) n.value) next' g.node new.values there in
      let gap = laws.sizes.gap (k + 1) g.node.row y.row l.longer sg sy g.gap in
      let positive = gap.0 in
      let within = g.value in
      let least = value.low in let gain = h.gain.low in let before = h.longer.low in let high = top.high in
      record {
        gain = h.gain;
        longer = record { low = omega (arith, ints); high = omega (arith, ints) };
        leads = subst (ReachesWithin (source.value +ℤ (arc.gain +ℤ (arc.longer +ℤ l.longer)))) (sym g.at) (omega (arith, ints));
      }) in
      elim arc.target as (λ a. arc.target ≡ a → IsArcWithin k next' source (redirected_by arc (option_and_then (λ i. option_and_then (λ l. l) (slice_get redirects i)) a))) [
        | None ↦ λ e. none
        | Some i ↦ λ e. elim (slice_get redirects i) as (λ o. slice_get redirects i ≡ o → IsArcWithin k next' source (redirected_by arc (option_and_then (λ l. l) o))) [
          | None ↦ λ f. none
          | Some o ↦ elim o as (λ o. slice_get redirects i ≡ Some o → IsArcWithin k next' source (redirected_by arc o)) [ None ↦ λ f. none | Some l ↦ λ f. some i l e f ]
        ] refl
      ] refl

  each-redirected : (source : DdNode) → IsBetween (k + 1) (2 * k + 1) source.value → (arcs : List DdArc) → Each (IsArcWithin k next source) arcs → Each (IsArcWithin k next' (followed_node redirects source)) (map (redirected redirects) arcs)
  each-redirected source value [] h = tt
  each-redirected source value (arc ∷ arcs) h =
      let one = arc-redirected source arc value h.0 in
      (record { gain = one.gain; longer = one.longer; leads = one.leads }, each-redirected source value arcs h.1)

  pub redirect-within : (above : List DdNode) → IsLayerWithin dp k w above → Each (λ (node : DdNode). Each (IsArcWithin k next node) node.arcs) above
      → AreWithin dp k w (record { above = with_redirected redirects above; next = next' })
  redirect-within above a arcs = record {
    above = above-same dp k w (followed_node redirects) above (λ x. (refl, refl)) (length-same (followed_node redirects) above) a;
    next = new;
    arcs = each-of-all (λ (node : DdNode). Each (IsArcWithin k next' node) node.arcs) (with_redirected redirects above) (λ x has.
        let from = Has-map-from (followed_node redirects) above x has in
        let value = each-has (λ (n : DdNode). IsBetween (k + 1) (2 * k + 1) n.value) above from.0 a.values from.1 in
        let own = each-has (λ (n : DdNode). Each (IsArcWithin k next n) n.arcs) above from.0 arcs from.1 in
        subst (λ (n : DdNode). Each (IsArcWithin k next' n) n.arcs) from.2 (each-redirected from.0 value from.0.arcs own));
  }

-- Pruning.

states-of : (dp : Dp) (k w : ℕ) (layer : List DdNode) → IsLayerWithin dp k w layer → (x : DdNode) → Has x layer → IsStateOf dp k x.row
states-of dp k w layer h x has = each-has (λ (n : DdNode). IsStateOf dp k n.row) layer x h.states has

-- what is left of a layer
left-within : (dp : Dp) (k w : ℕ) (layer left : List DdNode) → ((x : DdNode) → Has x left → Has x layer) → length left ≤ length layer → IsLayerWithin dp k w layer → IsLayerWithin dp k w left
left-within dp k w layer left from few h = record {
  states = each-of-all (λ (n : DdNode). IsStateOf dp k n.row) left (λ x has. states-of dp k w layer h x (from x has));
  values = each-of-all (λ (n : DdNode). IsBetween (k + 1) (2 * k + 1) n.value) left (λ x has. each-has (λ (n : DdNode). IsBetween (k + 1) (2 * k + 1) n.value) layer x h.values (from x has));
  wide = λ more. (let at : w < length layer = omega arith in
      each-of-all (λ (n : DdNode). IsBetween (k + 1) (2 * k) n.value) left (λ x has. each-has (λ (n : DdNode). IsBetween (k + 1) (2 * k) n.value) layer x (h.wide at) (from x has)));
}

pub prune-within : (dp : Dp) → IsLawful dp → (k w : ℕ) (t : Option ℤ) (two : TwoLayers) → AreWithin dp k w two → AreWithin dp k w (prune dp (k + 1) t two)
prune-within dp laws k w t two h =
    let left = pruned_nodes dp (k + 1) t [] 0 two.next in
    let states = states-of dp (k + 1) w two.next h.next in
    redirect-within dp laws k w two.next left (prune_redirects dp (k + 1) t [] 0 two.next) (pruned-goes dp laws (k + 1) t two.next states) h.next
    (left-within dp (k + 1) w two.next left (pruned-has dp (k + 1) t [] 0 two.next) (few-pruned dp (k + 1) t [] 0 two.next) h.next) two.above h.above h.arcs

-- Keeping the first.

few-taken : {X : Type 0} (w : ℕ) (xs : List X) → length (take w xs) ≤ length xs
few-taken zero xs = omega arith
few-taken (suc w) [] = omega arith
few-taken (suc w) (x ∷ xs) = let less = few-taken w xs in omega arith

short-taken : {X : Type 0} (w : ℕ) (xs : List X) → length (take w xs) ≤ w
short-taken zero xs = omega arith
short-taken (suc w) [] = omega arith
short-taken (suc w) (x ∷ xs) = let less = short-taken w xs in omega arith

in-front : {X : Type 0} (xs ys : List X) (i : ℕ) (x : X) → slice_get xs i ≡ Some x → slice_get (xs ++ ys) i ≡ Some x
in-front xs ys i x e = slice_get-append xs ys i x e

all-none : (n i : ℕ) (l : Redirect) → slice_get (replicate n None) i ≡ Some (Some l) → ⊥
all-none zero i l e = absurd (let clash : None ≡ Some (Some l) = e in cc)
all-none (suc n) zero l e = absurd (let clash : Some None ≡ Some (Some l) = e in cc)
all-none (suc n) (suc i) l e = all-none n i l e

taken-at : {X : Type 0} (w i : ℕ) (xs : List X) (x : X) → i < w → slice_get xs i ≡ Some x → slice_get (take w xs) i ≡ Some x
taken-at zero i xs x less e = absurd (omega arith)
taken-at (suc w) i [] x less e = e
taken-at (suc w) zero (y ∷ xs) x less e = e
taken-at (suc w) (suc i) (y ∷ xs) x less e = taken-at w i xs x (omega arith) e

none-after : (w i n : ℕ) (l : Redirect) → w ≤ i → slice_get (staying w ++ replicate n None) i ≡ Some (Some l) → ⊥
none-after w i n l more e =
    let at : slice_get (staying w ++ replicate n None) (w + (i - w)) ≡ Some (Some l) = (let same : w + (i - w) ≡ i = omega arith in ap (slice_get (staying w ++ replicate n None)) same ∙ e) in
    all-none n (i - w) l (sym (following (staying w) (replicate n None) w (i - w) (length-staying w)) ∙ at)

pub keep-first-within : (dp : Dp) → IsLawful dp → (k w : ℕ) (two : TwoLayers) → AreWithin dp k w two → AreWithin dp k w (keep_first w two)
keep-first-within dp laws k w two h =
    let next = two.next in
    let states = states-of dp (k + 1) w next h.next in
    let goes : (i : ℕ) (y : DdNode) (l : Redirect) → slice_get next i ≡ Some y → slice_get (keep_redirects w next) i ≡ Some (Some l) → GoesTo dp (k + 1) (take w next) y l = λ i y l at e. (
    let split : (i < w) ⊎ (w ≤ i) = grind arith in
    elim split as (λ _. GoesTo dp (k + 1) (take w next) y l) [
      | inl less ↦ (
          let is : record { place = i; longer = pos 0 } ≡ l = same-Some (record { place = i; longer = pos 0 }) l (same-Some (Some (record { place = i; longer = pos 0 })) (Some l) (sym (in-front (staying w) (replicate (length next - w) None) i (Some (record { place = i; longer = pos 0 })) (staying-at w i less)) ∙ e)) in
          subst (GoesTo dp (k + 1) (take w next) y) is
          (record { node = y; at = taken-at w i next y less at; gap = laws.gaps.own (k + 1) y.row (states y (Has-at next i y at)); value = omega (arith, ints) }))
      | inr more ↦ absurd (none-after w i (length next - w) l more e)
    ]) in
    redirect-within dp laws k w next (take w next) (keep_redirects w next) goes h.next (left-within dp (k + 1) w next (take w next) (in-take w next) (few-taken w next) h.next) two.above h.above h.arcs

-- Merging.

merged-state : (dp : Dp) → IsLawful dp → (k n : ℕ) (layer : List DdNode) → n + 1 < length layer → ((x : DdNode) → Has x layer → IsStateOf dp k x.row) → (y : DdNode) → Has y (merged_layer dp k (n + 1) layer) → IsStateOf dp k y.row
merged-state dp laws k n layer wide states y has =
    let same : n + 1 - 1 ≡ n = omega arith in
    let has' = subst (λ m. Has y (take m layer ++ merged_node dp k (drop m layer) ∷ [])) same has in
    elim (Has-append-cases y (take n layer) (merged_node dp k (drop n layer) ∷ []) has') as (λ _. IsStateOf dp k y.row) [
      | inl front ↦ states y (in-take n layer y front)
      | inr last ↦ elim last as (λ _. IsStateOf dp k y.row) [ inl e ↦ subst (λ (x : DdNode). IsStateOf dp k x.row) e (covered dp laws k n layer wide states).state | inr none ↦ absurd none ]
    ]

-- a node of the merged layer has the value of an old one, and at most a unit more
merged-value : (dp : Dp) → IsLawful dp → (k n : ℕ) (layer : List DdNode) → n + 1 < length layer → ((x : DdNode) → Has x layer → IsStateOf dp k x.row) → ((x : DdNode) → Has x layer → IsBetween (k + 1) (2 * k) x.value)
    → (y : DdNode) → Has y (merged_layer dp k (n + 1) layer) → IsBetween (k + 1) (2 * k + 1) y.value
merged-value dp laws k n layer wide states values y has =
    let r = merge-redirects-of dp laws k n layer wide states in
    let at = place-of (merged_layer dp k (n + 1) layer) y has in
    let w = r.whole at.0 y at.1 in
    let g = r.goes w.from w.old (record { place = at.0; longer = w.longer }) w.at w.goes in
    let old = Has-at layer w.from w.old w.at in
    let there = Has-at (merged_layer dp k (n + 1) layer) at.0 g.node g.at in
    let gap = laws.sizes.gap k g.node.row w.old.row w.longer (merged-state dp laws k n layer wide states g.node there) (states w.old old) g.gap in
    let positive = gap.0 in let small = gap.1.high in
    let value = values w.old old in
    let low = value.low in let high = value.high in
    let is = w.value in
    record { low = omega (arith, ints); high = omega (arith, ints) }

merged-within : (dp : Dp) → IsLawful dp → (k w n : ℕ) (two : TwoLayers) → n + 1 ≡ w → n + 1 < length two.next → AreWithin dp k w two → AreWithin dp k w (merge_rest dp (k + 1) (n + 1) two)
merged-within dp laws k w n two same wide h =
    let next = two.next in
    let states = states-of dp (k + 1) w next h.next in
    let more : w < length next = omega arith in
    let values : (x : DdNode) → Has x next → IsBetween (k + 1 + 1) (2 * (k + 1)) x.value = λ x has. each-has (λ (m : DdNode). IsBetween (k + 1 + 1) (2 * (k + 1)) m.value) next x (h.next.wide more) has in
    let merged = merged_layer dp (k + 1) (n + 1) next in
    let r = merge-redirects-of dp laws (k + 1) n next wide states in
    let short : length merged ≤ w = (let long = length-append (take (n + 1 - 1) next) (merged_node dp (k + 1) (drop (n + 1 - 1) next) ∷ []) in let few = short-taken (n + 1 - 1) next in omega arith) in
    let new : IsLayerWithin dp (k + 1) w merged = record {
      states = each-of-all (λ (m : DdNode). IsStateOf dp (k + 1) m.row) merged (merged-state dp laws (k + 1) n next wide states);
      values = each-of-all (λ (m : DdNode). IsBetween (k + 1 + 1) (2 * (k + 1) + 1) m.value) merged (merged-value dp laws (k + 1) n next wide states values);
      wide = λ less. absurd (omega arith);
    } in
    redirect-within dp laws k w next merged (merge_redirects dp (k + 1) (n + 1) next) r.goes h.next new two.above h.above h.arcs

pub merge-within : (dp : Dp) → IsLawful dp → (k w : ℕ) (two : TwoLayers) → 1 ≤ w → w < length two.next → AreWithin dp k w two → AreWithin dp k w (merge_rest dp (k + 1) w two)
merge-within dp laws k w two some more h =
    let same : w - 1 + 1 ≡ w = omega arith in
    let at : w - 1 + 1 < length two.next = omega arith in
    subst (λ v. AreWithin dp k w (merge_rest dp (k + 1) v two)) same (merged-within dp laws k w (w - 1) two same at h)

pub numbers-small : (dp : Dp) → IsLawful dp → NumbersStaySmall dp
numbers-small dp laws = record {
  start = start-within dp laws;
  expand = expand-within dp laws;
  prune = prune-within dp laws;
  keep_first = keep-first-within dp laws;
  merge_rest = merge-within dp laws;
}

-- Suffixes.

pub greatest-has : (xs : List ℤ) (s : ℤ) → greatest xs ≡ Some s → Has s xs
greatest-has [] s e = absurd (let none : None ≡ Some s = e in cc)
greatest-has (x ∷ xs) s e = subst (λ v. Has v (x ∷ xs)) (same-Some (greatest_from x xs) s e) (greatest_from-in x xs)

last-suffix : (dp : Dp) (node : DdNode) → IsBetween (dp.vars + 1) (2 * dp.vars + 1) node.value → IsSuffixWithin dp dp.vars node (suffix_from dp dp.vars [] node.arcs)
last-suffix dp node h =
    let outside : nat_lt dp.vars dp.vars ≡ false = grind arith in
    let high = h.high in
    rw outside (omega (arith, ints), omega (arith, ints))

-- the suffix that an arc gives
arc-suffix : (dp : Dp) (k : ℕ) (next : List DdNode) (source : DdNode) (arc : DdArc) → k < dp.vars → IsArcWithin k next source arc → Each (λ (node : DdNode). IsSuffixWithin dp (k + 1) node node.suffix) next
    → (s : ℤ) → add_some (arc.gain +ℤ arc.longer) (suffix_at next arc.target) ≡ Some s → IsSuffixWithin dp k source (Some s)
arc-suffix dp k next source arc low h below s e =
    let reached = source.value +ℤ (arc.gain +ℤ arc.longer) in
    let Goal : Option ℕ → Type 0 = λ a. LeadsWithin reached next a → add_some (arc.gain +ℤ arc.longer) (suffix_at next a) ≡ Some s → IsSuffixWithin dp k source (Some s) in
    let at-node : (node : DdNode) → Has node next → reached ≤ℤ node.value → (o : Option ℤ) → node.suffix ≡ o → add_some (arc.gain +ℤ arc.longer) o ≡ Some s → IsSuffixWithin dp k source (Some s) = λ node has most o.
    elim o as (λ o. node.suffix ≡ o → add_some (arc.gain +ℤ arc.longer) o ≡ Some s → IsSuffixWithin dp k source (Some s)) [
      | None ↦ λ f e. absurd (let none : None ≡ Some s = e in cc)
      | Some more ↦ λ f e. (
          let within = subst (IsSuffixWithin dp (k + 1) node) f (each-has (λ (n : DdNode). IsSuffixWithin dp (k + 1) n n.suffix) next node below has) in
          let is : (arc.gain +ℤ arc.longer) +ℤ more ≡ s = same-Some ((arc.gain +ℤ arc.longer) +ℤ more) s e in
          let a = within.0 in let b = within.1 in let gain = h.gain.low in let longer = h.longer.low in
          (omega (arith, ints), omega (arith, ints)))
    ] in
    elim arc.target as (λ a. Goal a) [
      | None ↦ λ leads e. absurd (let none : None ≡ Some s = e in cc)
      | Some i ↦ λ leads e. (
          let to = target-of reached (slice_get next i) leads in
          let shown : add_some (arc.gain +ℤ arc.longer) to.0.suffix ≡ Some s = ap (λ o. add_some (arc.gain +ℤ arc.longer) (option_and_then (λ (n : DdNode). n.suffix) o)) (sym to.1) ∙ e in
          at-node to.0 (Has-at next i to.0 to.1) to.2 to.0.suffix refl shown)
    ] h.leads e

suffix-above : (dp : Dp) (k : ℕ) (next : List DdNode) (source : DdNode) → k < dp.vars → Each (IsArcWithin k next source) source.arcs → Each (λ (node : DdNode). IsSuffixWithin dp (k + 1) node node.suffix) next
    → (o : Option ℤ) → suffix_from dp k next source.arcs ≡ o → IsSuffixWithin dp k source o
suffix-above dp k next source low arcs below None e = tt
suffix-above dp k next source low arcs below (Some s) e =
    let inside : nat_lt k dp.vars ≡ true = grind arith in
    let lengths = filter_map (λ (arc : DdArc). add_some (arc.gain +ℤ arc.longer) (suffix_at next arc.target)) source.arcs in
    let is : greatest lengths ≡ Some s = (let plain : cond true (greatest lengths) (Some (pos 0)) ≡ Some s = subst (λ b. cond b (greatest lengths) (Some (pos 0)) ≡ Some s) inside e in plain) in
    let has : Has s lengths = greatest-has lengths s is in
    let from = Has-filter_map-from (λ (arc : DdArc). add_some (arc.gain +ℤ arc.longer) (suffix_at next arc.target)) source.arcs s has in
    arc-suffix dp k next source from.0 low (each-has (IsArcWithin k next source) source.arcs from.0 arcs from.1) below s from.2

pub suffixes-small : (dp : Dp) → SuffixesStaySmall dp
suffixes-small dp = record {
  last = λ w layer h. each-of-all (λ (node : DdNode). IsSuffixWithin dp dp.vars node (suffix_from dp dp.vars [] node.arcs)) layer
      (λ x has. last-suffix dp x (each-has (λ (n : DdNode). IsBetween (dp.vars + 1) (2 * dp.vars + 1) n.value) layer x h.values has));
  above = λ k layer next low arcs below. each-of-all (λ (node : DdNode). IsSuffixWithin dp k node (suffix_from dp k next node.arcs)) layer
      (λ x has. suffix-above dp k next x low (each-has (λ (node : DdNode). Each (IsArcWithin k next node) node.arcs) layer x arcs has) below (suffix_from dp k next x.arcs) refl);
}
