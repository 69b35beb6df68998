-- The children of a diagram are few, and their numbers bounded.
use Rattle.std.proofs.Common.{◌≡◌, ℕ, suc, ◌+◌, ◌-◌, ◌*◌, ◌^◌, ◌<◌, ◌≤◌, nat_le, nat_lt, int_le, ℤ, pos, neg_ℤ, ◌+ℤ◌, ◌≤ℤ◌, Bool, true, false, cond, List, [], ◌∷◌, get_or, length, drop, sum_by, slice_get, Option, Some, None, option_map, option_and_then, unwrap_or, ◌⊎◌, inl, inr, IsTrue, refl, sym, ◌∙◌, ap, subst, arith, length-append}
use Rattle.std.proofs.Math.Nat.{suc-mul, mul_assoc, mul_comm, add-mul, mul-le-mul_left, mul-le-mul_right}
use Rattle.std.proofs.lemmas.Int.{ints}
use Rattle.std.proofs.lemmas.List.{length-map}
use Rattle.std.proofs.lemmas.List.Sums.{sum_by-cons}
use Rattle.std.proofs.lemmas.Option.{slice_get-get_or}
use Rattle.std.specs.List.{filter_map, cons_option}
use Rattle.dp_model.specs.Dp.{Dp, IsAllowed}
use Rattle.dp_model.specs.Gaps.{IsStateOf}
use Rattle.dp_model.specs.Laws.{IsLawful}
use Rattle.dp_model.specs.Lists.{Each}
use Rattle.dp_model.specs.Numbers.{IsSmall, IsFar, add_some, greatest}
use Rattle.dp_model.specs.Reached.{Reached, reached}
use Rattle.dp_model.specs.Subproblem.{Subproblem}
use Rattle.dp_model.specs.declared.cut_kind.CutKind.{CutKind}
use Rattle.dp_model.specs.declared.cut_kind.CutKind.TheVariants.{LastExactLayer, Frontier}
use Rattle.dp_model.proofs.Members.{Has, each-has, each-of-all, Each-then, Has-map, Each-map}
use Rattle.dp_model.proofs.Sizes.{value_of-size}
use Rattle.dp_laws.specs.Children.{StandAt, children_size}
use Rattle.dp_laws.specs.Width.{FitsWidth}
use Rattle.dp_laws.specs.Restricted.Beam.{is_reduced, whole_layer, expanded, layer_below}
use Rattle.dp_laws.specs.Restricted.Beams.{layers}
use Rattle.dp_laws.specs.declared.arc.DdArc.{DdArc}
use Rattle.dp_laws.specs.Diagrams.Nodes.{DdNode, DdLayers, node_at, as_member}
use Rattle.dp_laws.specs.Diagrams.Seen.{HasArcs, Leads, LeadsTo, IsReachedBy, AreLayers, IsDiagram, suffix_at, suffix_from, exact_layers, decisions_at}
use Rattle.dp_laws.specs.Diagrams.Cutsets.{lesser_of, bound_of, ChildAt, places_where, last_exact_at, is_border, all_borders_at, passes, outermost, with_bound, child_from, path_at, frontier_at, children_at, children_of}
use Rattle.dp_laws.specs.Diagrams.Placed.{IsChildPlaced, ChildrenFit}
use Rattle.dp_laws.proofs.Diagrams.Places.{same-Some, Has-at, Has-filter_map-from}
use Rattle.dp_laws.proofs.Diagrams.Following.{covers-within, states-of}
use Rattle.dp_laws.proofs.Diagrams.Walks.{keeps-at, from-at, layer-above}
use Rattle.dp_laws.proofs.Diagrams.Starts.{layers-at, reducible}
use Rattle.dp_laws.proofs.Diagrams.Frontier.{some-below}
use Rattle.dp_laws.proofs.Diagrams.Placed.{in-drop, length-tail, placed}
use Rattle.dp_laws.proofs.Diagrams.Kinds.{last-exact-at}
use Rattle.dp_laws.proofs.Restricted.InOrder.{few-expanded, few-pruned, few-reduced}
use Rattle.dp_laws.proofs.Rules.Expanded.{allowed-of}
use Rattle.dp_laws.proofs.Rules.Within.{greatest-has}
use Rattle.dp_laws.proofs.Widths.{cost-least}

-- How low a suffix may be.

arc-gain : (dp : Dp) → IsLawful dp → (k : ℕ) (node : DdNode) (arc : DdArc) → k < dp.vars → IsStateOf dp k node.row → HasArcs dp k node → Has arc node.arcs → IsAllowed dp k node.row arc.decision × IsSmall arc.gain
arc-gain dp laws k node arc low state arcs has =
    let listed : Has arc.decision (decisions_at dp k node.row) = subst (λ ds. Has arc.decision ds) arcs.decisions (Has-map (λ (a : DdArc). a.decision) node.arcs arc has) in
    let allowed = allowed-of dp k node.row arc.decision low listed in
    let gain : arc.gain ≡ dp.gain k node.row arc.decision = each-has (λ (a : DdArc). a.gain ≡ dp.gain k node.row a.decision) node.arcs arc arcs.gains has in
    (allowed, subst IsSmall (sym gain) (laws.sizes.gain k node.row arc.decision state allowed))

-- an arc to a node is not shortened
arc-longer : (dp : Dp) → IsLawful dp → (k : ℕ) (node : DdNode) (arc : DdArc) (next : List DdNode) → k < dp.vars → IsStateOf dp k node.row → IsAllowed dp k node.row arc.decision → ((x : DdNode) → Has x next → IsTrue (dp.is_state (k + 1) x.row))
    → (i : ℕ) (target : DdNode) → slice_get next i ≡ Some target → LeadsTo dp k node arc (slice_get next i) → pos 0 ≤ℤ arc.longer
arc-longer dp laws k node arc next low state allowed states i target at leads =
    let over = subst (λ o. LeadsTo dp k node arc o) at leads in
    let covers = covers-within (dp.gap (k + 1) target.row (dp.step k node.row arc.decision)) arc.longer over in
    let st : IsStateOf dp (k + 1) target.row = record { layer = omega arith; test = states target (Has-at next i target at) } in
    let ss : IsStateOf dp (k + 1) (dp.step k node.row arc.decision) = record { layer = omega arith; test = laws.states.step k node.row arc.decision state allowed } in
    let least = (laws.sizes.gap (k + 1) target.row (dp.step k node.row arc.decision) covers.0 st ss covers.1).0 in
    let most = covers.2 in
    omega (arith, ints)

pub suffix-least : (dp : Dp) → IsLawful dp → (p : List ℕ) (w : ℕ) (t : Option ℤ) (k : ℕ) (layer : List DdNode) (more : List (List DdNode)) → AreLayers dp p w t k (layer ∷ more) → k + length more ≡ dp.vars
    → (node : DdNode) → Has node layer → (s : ℤ) → node.suffix ≡ Some s → neg_ℤ (pos (length more * 2 ^ 50)) ≤ℤ s
suffix-least dp laws p w t k layer [] all long node has s e =
    let is = each-has (λ (x : DdNode). x.suffix ≡ suffix_from dp k [] x.arcs) layer node all.suffixes has in
    let outside : nat_lt k dp.vars ≡ false = grind arith in
    let zero_is : node.suffix ≡ Some (pos 0) = is ∙ rw outside refl in
    let same : pos 0 ≡ s = same-Some (pos 0) s (sym zero_is ∙ e) in
    omega (arith, ints)
suffix-least dp laws p w t k layer (next ∷ rest) all long node has s e =
    let low : k < dp.vars = omega arith in
    let l = all.0 in
    let states = states-of dp p w t (k + 1) next rest all.1 in
    let state : IsStateOf dp k node.row = record { layer = omega arith; test = each-has (λ (x : DdNode). IsTrue (dp.is_state k x.row)) layer node l.states has } in
    let arcs = each-has (HasArcs dp k) layer node l.arcs has in
    let is = each-has (λ (x : DdNode). x.suffix ≡ suffix_from dp k next x.arcs) layer node l.suffixes has in
    let inside : nat_lt k dp.vars ≡ true = grind arith in
    let lengths = filter_map (λ (arc : DdArc). add_some (arc.gain +ℤ arc.longer) (suffix_at next arc.target)) node.arcs in
    let top : greatest lengths ≡ Some s = subst (λ b. cond b (greatest lengths) (Some (pos 0)) ≡ Some s) inside (sym is ∙ e) in
    let from = Has-filter_map-from (λ (arc : DdArc). add_some (arc.gain +ℤ arc.longer) (suffix_at next arc.target)) node.arcs s (greatest-has lengths s top) in
    let arc = from.0 in
    let own = arc-gain dp laws k node arc low state arcs from.1 in
    let leads : Leads dp k t node next arc arc.target = each-has (λ (x : DdArc). Leads dp k t node next x x.target) node.arcs arc (each-has (λ (n : DdNode). Each (λ (x : DdArc). Leads dp k t n next x x.target) n.arcs) layer node l.leads has) from.1 in
    let Goal : Type 0 = neg_ℤ (pos (length (next ∷ rest) * 2 ^ 50)) ≤ℤ s in
    let at-target : (i : ℕ) (o : Option DdNode) → slice_get next i ≡ o → LeadsTo dp k node arc o → add_some (arc.gain +ℤ arc.longer) (option_and_then (λ (n : DdNode). n.suffix) o) ≡ Some s → Goal = λ i o.
    elim o as (λ o. slice_get next i ≡ o → LeadsTo dp k node arc o → add_some (arc.gain +ℤ arc.longer) (option_and_then (λ (n : DdNode). n.suffix) o) ≡ Some s → Goal) [
      | None ↦ λ at leads e. absurd leads
      | Some target ↦ λ at leads. elim target.suffix as (λ u. target.suffix ≡ u → add_some (arc.gain +ℤ arc.longer) u ≡ Some s → Goal) [
        | None ↦ λ f e. absurd (let none : None ≡ Some s = e in cc)
        | Some rest_is ↦ λ f e. (
            let longer = arc-longer dp laws k node arc next low state own.0 states i target at (subst (λ o. LeadsTo dp k node arc o) (sym at) leads) in
            let later = suffix-least dp laws p w t (k + 1) next rest all.1 (omega arith) target (Has-at next i target at) rest_is f in
            let sum : (arc.gain +ℤ arc.longer) +ℤ rest_is ≡ s = same-Some ((arc.gain +ℤ arc.longer) +ℤ rest_is) s e in
            let gain = own.1.low in
            let many : length (next ∷ rest) ≡ length rest + 1 = omega arith in
            omega (arith, ints))
      ] refl
    ] in
    elim arc.target as (λ a. Leads dp k t node next arc a → add_some (arc.gain +ℤ arc.longer) (suffix_at next a) ≡ Some s → Goal) [
      | None ↦ λ leads e. absurd (let none : None ≡ Some s = e in cc)
      | Some i ↦ λ leads e. at-target i (slice_get next i) refl leads e
    ] leads from.2

-- Bounds are far.

lesser-between : (low high : ℤ) (s r : Option ℤ) (m : ℤ) → ((z : ℤ) → s ≡ Some z → low ≤ℤ z) → ((z : ℤ) → r ≡ Some z → (low ≤ℤ z) × (z ≤ℤ high)) → lesser_of s r ≡ Some m → (low ≤ℤ m) × (m ≤ℤ high)
lesser-between low high None r m hs hr e = absurd (let none : None ≡ Some m = e in cc)
lesser-between low high (Some a) None m hs hr e = absurd (let none : None ≡ Some m = e in cc)
lesser-between low high (Some a) (Some b) m hs hr e =
    let first = hs a refl in
    let second = hr b refl in
    let test : (int_le a b ≡ true) ⊎ (int_le a b ≡ false) = elim (int_le a b) as (λ v. (v ≡ true) ⊎ (v ≡ false)) [ true ↦ inl refl | false ↦ inr refl ] in
    let is : cond (int_le a b) a b ≡ m = same-Some (cond (int_le a b) a b) m e in
    elim test as (λ _. (low ≤ℤ m) × (m ≤ℤ high)) [
      | inl holds ↦ (
          let same : a ≡ m = ap (λ v. cond v a b) (sym holds) ∙ is in
          let less : a ≤ℤ b = grind (arith, ints) in
          let l = second.1 in
          (omega (arith, ints), omega (arith, ints)))
      | inr fails ↦ (
          let same : b ≡ m = ap (λ v. cond v a b) (sym fails) ∙ is in
          let l = second.0 in let h = second.1 in
          (omega (arith, ints), omega (arith, ints)))
    ]

lifted : (value : ℤ) (o : Option ℤ) (bound : ℤ) → option_map (λ more. value +ℤ more) o ≡ Some bound → (m : ℤ) × (o ≡ Some m) × (value +ℤ m ≡ bound)
lifted value None bound e = absurd (let none : None ≡ Some bound = e in cc)
lifted value (Some m) bound e = (m, refl, same-Some (value +ℤ m) bound e)

pub layer-of : (d : DdLayers) (depth place : ℕ) (node : DdNode) → node_at d depth place ≡ Some node → (layer : List DdNode) × (slice_get d.layers (depth - d.first) ≡ Some layer) × (slice_get layer place ≡ Some node)
layer-of d depth place node e =
    elim (slice_get d.layers (depth - d.first)) as (λ o. slice_get d.layers (depth - d.first) ≡ o → option_and_then (λ (l : List DdNode). slice_get l place) o ≡ Some node
    → (layer : List DdNode) × (slice_get d.layers (depth - d.first) ≡ Some layer) × (slice_get layer place ≡ Some node)) [
      | None ↦ λ at e. absurd (let none : None ≡ Some node = e in cc)
      | Some layer ↦ λ at e. (layer, at, e)
    ] refl e

pub child-far : (dp : Dp) → IsLawful dp → (p : List ℕ) (w : ℕ) (t : Option ℤ) (d : DdLayers) → length p < dp.vars → IsDiagram dp p w t d → (c : ChildAt) → IsChildPlaced dp d c → IsFar c.bound
child-far dp laws p w t d short h c here =
    let node = here.node in
    let below = here.below in let above = here.above in let first = h.first in let long = h.depth in
    let vars = laws.sizes.vars in
    let at = layer-of d c.depth c.place node here.is in
    let has = Has-at at.0 c.place node at.2 in
    let place : length p + (c.depth - d.first) ≡ c.depth = omega arith in
    let from = from-at dp p w t (length p) (c.depth - d.first) d.layers h.layer at.0 at.1 in
    let rest = from.long in
    let keeps = (keeps-at dp p w t (length p) (c.depth - d.first) d.layers h.layer at.0 at.1).keeps in
    let all = subst (λ n. AreLayers dp p w t n (at.0 ∷ from.more)) place from.all in
    let reached_by = subst (λ n. IsReachedBy dp p n node) place (each-has (λ (n : DdNode). IsTrue n.exact → IsReachedBy dp p (length p + (c.depth - d.first)) n) at.0 node keeps.exact has here.exact) in
    let size = value_of-size dp laws node.path reached_by.prefix in
    let value = reached_by.value in
    let deep = reached_by.depth in
    let state : IsStateOf dp c.depth node.row = record { layer = omega arith; test = subst (λ n. IsTrue (dp.is_state n node.row)) place (each-has (λ (n : DdNode). IsTrue (dp.is_state (length p + (c.depth - d.first)) n.row)) at.0 node keeps.states has) } in
    let many : c.depth + length from.more ≡ dp.vars = omega arith in
    let up = lifted node.value (lesser_of node.suffix (dp.rough c.depth node.row)) c.bound here.bound in
    let least = neg_ℤ (pos (1024 * 2 ^ 50)) in
    let most = pos (2 ^ 50) in
    let between = lesser-between least most node.suffix (dp.rough c.depth node.row) up.0
    (λ z e. (let s = suffix-least dp laws p w t c.depth at.0 from.more all many node has z e in omega (arith, ints)))
    (λ z e. (let r = laws.sizes.rough c.depth node.row z state e in let a = r.low in let b = r.high in (omega (arith, ints), omega (arith, ints)))) up.1 in
    let sum = up.2 in
    let a = between.0 in let b = between.1 in
    let low = size.low in let high = size.high in
    record { low = omega (arith, ints); high = omega (arith, ints) }

bound-kept : (o : Option DdNode) (bound : ℤ) → (with_bound o bound).bound ≡ bound
bound-kept None bound = refl
bound-kept (Some node) bound = refl

children-far : (dp : Dp) → IsLawful dp → (p : List ℕ) (w : ℕ) (t : Option ℤ) (d : DdLayers) → length p < dp.vars → IsDiagram dp p w t d → (kind : CutKind) → Each (λ (c : Subproblem). IsFar c.bound) (children_of dp d kind)
children-far dp laws p w t d short h kind =
    Each-map (child_from d) (λ (c : Subproblem). IsFar c.bound) (children_at dp d kind) (each-of-all (λ (c : ChildAt). IsFar (child_from d c).bound) (children_at dp d kind)
    (λ c has. subst IsFar (sym (bound-kept (node_at d c.depth c.place) c.bound)) (child-far dp laws p w t d short h c (placed dp p w t d kind short h c has))))

-- How many children there are.

few-cons : {X : Type 0} (o : Option X) (xs : List X) → length (cons_option o xs) ≤ length xs + 1
few-cons None xs = omega arith
few-cons (Some x) xs = omega arith

few-places : (test : DdNode → Bool) (dp : Dp) (k i : ℕ) (nodes : List DdNode) → length (places_where test dp k i nodes) ≤ length nodes
few-places test dp k i [] = omega arith
few-places test dp k i (node ∷ nodes) =
    let rest = few-places test dp k (i + 1) nodes in
    let one = few-cons (cond (test node) (option_map (λ bound. record { depth = k; place = i; bound = bound }) (bound_of dp k node)) None) (places_where test dp k (i + 1) nodes) in
    omega arith

few-left : {X : Type 0} (path : X → List ℕ) (kept xs : List X) → length (outermost path kept xs) ≤ length xs
few-left path kept [] = omega arith
few-left path kept (x ∷ xs) =
    let skip = few-left path kept xs in
    let keep = few-left path (x ∷ kept) xs in
    elim (passes path kept (path x)) as (λ b. length (cond b (outermost path kept xs) (x ∷ outermost path (x ∷ kept) xs)) ≤ length (x ∷ xs)) [ true ↦ omega arith | false ↦ omega arith ]

few-borders : (dp : Dp) (k w : ℕ) (ls : List (List DdNode)) → ((i : ℕ) (layer : List DdNode) → slice_get ls i ≡ Some layer → i + 1 < length ls → length layer ≤ w) → length (all_borders_at dp k ls) ≤ length ls * w
few-borders dp k w [] narrow = omega arith
few-borders dp k w (layer ∷ []) narrow = omega arith
few-borders dp k w (layer ∷ next ∷ rest) narrow =
    let one = narrow 0 layer refl (omega arith) in
    let here = few-places (is_border next) dp k 0 layer in
    let later = few-borders dp (k + 1) w (next ∷ rest) (λ i l at more. narrow (suc i) l at (omega arith)) in
    let sum = length-append (places_where (is_border next) dp k 0 layer) (all_borders_at dp (k + 1) (next ∷ rest)) in
    let more : length (layer ∷ next ∷ rest) * w ≡ length (next ∷ rest) * w + w = suc-mul (length (next ∷ rest)) w in
    omega arith

-- a layer from the second below the first one on is no wider than the width
narrow-at : (dp : Dp) (p : List ℕ) (w : ℕ) (t : Option ℤ) (d : DdLayers) → IsDiagram dp p w t d → (m : ℕ) (layer : List DdNode) → slice_get d.layers m ≡ Some layer → 2 ≤ m → length p + m < dp.vars → length layer ≤ w
narrow-at dp p w t d h m layer at deep low =
    let keeps = (keeps-at dp p w t (length p) m d.layers h.layer layer at).keeps in
    let test : IsTrue (is_reduced dp (length p) (length p + m)) = (let a : nat_le (length p + 2) (length p + m) ≡ true = grind arith in let b : nat_lt (length p + m) dp.vars ≡ true = grind arith in rw a b) in
    keeps.narrow test

-- the layer below the first one has no more nodes than the first decision choices
first-at : (dp : Dp) → IsLawful dp → (p : List ℕ) (w : ℕ) (t : Option ℤ) (d : DdLayers) → IsDiagram dp p w t d → length p < dp.vars → (layer : List DdNode) → slice_get d.layers 1 ≡ Some layer → length layer ≤ 1024
first-at dp laws p w t d h short layer at =
    let r = reached dp p in
    let b = layer-above (exact_layers dp.vars (length p) d.first_reduced) 1 d.layers (layers dp p w t) h.above (some-below dp p w t d h short d.first_reduced refl) layer at in
    let rs : b.0 ≡ layer_below dp r w t 1 = same-Some b.0 (layer_below dp r w t 1) (sym b.1 ∙ layers-at dp p w t 1 (omega arith)) in
    let long : length layer ≡ length b.0 = sym (length-map layer as_member) ∙ (ap length b.2 ∙ length-map b.0 (λ (x : Reached). Some x)) in
    let same : length b.0 ≡ length (layer_below dp r w t 1) = ap length rs in
    let k = length p + 0 in
    let a = few-reduced dp w (length p) (k + 1) (whole_layer dp k t (r ∷ [])) in
    let c = few-pruned dp (k + 1) t (expanded dp k (r ∷ [])) in
    let e = few-expanded dp k (r ∷ []) in
    let choices = laws.sizes.choices k (omega arith) in
    omega arith

-- what n layers of a width that fits have at most
width-most : (dp : Dp) → IsLawful dp → (w : ℕ) → FitsWidth dp w → 5 * (dp.vars * w) ≤ 2 ^ 25
width-most dp laws w fits =
    let least = cost-least dp laws dp.vars (omega arith) in
    let more = mul-le-mul_left w least in
    let cost = fits.cost in
    let turn : w * (dp.vars * 5) ≡ (w * dp.vars) * 5 = sym (mul_assoc w dp.vars 5) in
    let other : w * dp.vars ≡ dp.vars * w = mul_comm w dp.vars in
    omega arith

few-below : (dp : Dp) → IsLawful dp → (p : List ℕ) (w : ℕ) (t : Option ℤ) (d : DdLayers) → IsDiagram dp p w t d → length p < dp.vars → FitsWidth dp w → (ls : List (List DdNode)) → drop 1 d.layers ≡ ls → length (all_borders_at dp (d.first + 1) ls) ≤ 2 ^ 24
few-below dp laws p w t d h short fits [] are = omega arith
few-below dp laws p w t d h short fits (layer ∷ []) are = omega arith
few-below dp laws p w t d h short fits (layer ∷ next ∷ rest) are =
    let long = h.depth in
    let tail = length-tail d.layers (omega arith) in
    let many : length (drop 1 d.layers) ≡ length (layer ∷ next ∷ rest) = ap length are in
    let at-all : (i : ℕ) (l : List DdNode) → slice_get (layer ∷ next ∷ rest) i ≡ Some l → slice_get d.layers (i + 1) ≡ Some l = λ i l at. in-drop d.layers i l (ap (λ xs. slice_get xs i) are ∙ at) in
    let one = first-at dp laws p w t d h short layer (at-all 0 layer refl) in
    let here = few-places (is_border next) dp (d.first + 1) 0 layer in
    let later = few-borders dp (d.first + 1 + 1) w (next ∷ rest) (λ i l at more. narrow-at dp p w t d h (suc i + 1) l (at-all (suc i) l at) (omega arith) (omega arith)) in
    let sum = length-append (places_where (is_border next) dp (d.first + 1) 0 layer) (all_borders_at dp (d.first + 1 + 1) (next ∷ rest)) in
    let fewer : length (next ∷ rest) * w ≤ dp.vars * w = mul-le-mul_right w (let short' : length (next ∷ rest) ≤ dp.vars = omega arith in short') in
    let most = width-most dp laws w fits in
    omega arith

few-frontier : (dp : Dp) → IsLawful dp → (p : List ℕ) (w : ℕ) (t : Option ℤ) (d : DdLayers) → IsDiagram dp p w t d → length p < dp.vars → FitsWidth dp w → length (frontier_at dp d) ≤ 2 ^ 24
few-frontier dp laws p w t d h short fits =
    let below = few-below dp laws p w t d h short fits (drop 1 d.layers) refl in
    let left = few-left (path_at d) [] (all_borders_at dp (d.first + 1) (drop 1 d.layers)) in
    omega arith

-- the last exact layer is the one below the first, or no wider than the width
last-most : (dp : Dp) → IsLawful dp → (p : List ℕ) (w : ℕ) (t : Option ℤ) (d : DdLayers) → IsDiagram dp p w t d → length p < dp.vars → (o : Option ℕ) → d.first_reduced ≡ o → (length (last_exact_at dp d o) ≤ 1024) ⊎ (length (last_exact_at dp d o) ≤ w)
last-most dp laws p w t d h short None e = inl (omega arith)
last-most dp laws p w t d h short (Some depth) e =
    let r = reducible dp p w t depth (sym h.first_reduced ∙ e) in
    let low = r.below_first in let high = r.above_last in let long = h.depth in
    let first = h.first in
    let k = depth - 1 in
    let m = k - d.first in
    let layer = get_or d.layers m [] in
    let at : slice_get d.layers m ≡ Some layer = slice_get-get_or d.layers m [] (omega arith) in
    let same : length (last_exact_at dp d (Some depth)) ≡ length (places_where (λ node. true) dp k 0 layer) = ap (λ (o : Option (List DdNode)). length (places_where (λ node. true) dp k 0 (unwrap_or o []))) at in
    let few = few-places (λ node. true) dp k 0 layer in
    let split : (m ≡ 1) ⊎ (2 ≤ m) = grind arith in
    elim split as (λ _. (length (last_exact_at dp d (Some depth)) ≤ 1024) ⊎ (length (last_exact_at dp d (Some depth)) ≤ w)) [
      | inl one ↦ inl (let less = first-at dp laws p w t d h short layer (ap (slice_get d.layers) (sym one) ∙ at) in omega arith)
      | inr more ↦ inr (let less = narrow-at dp p w t d h m layer at more (omega arith) in omega arith)
    ]

children-few : (dp : Dp) → IsLawful dp → (p : List ℕ) (w : ℕ) (t : Option ℤ) (d : DdLayers) → IsDiagram dp p w t d → length p < dp.vars → FitsWidth dp w → (kind : CutKind) → length (children_of dp d kind) ≤ 2 ^ 24
children-few dp laws p w t d h short fits LastExactLayer =
    let same = length-map (last_exact_at dp d d.first_reduced) (child_from d) in
    let wide = fits.most in
    elim (last-most dp laws p w t d h short d.first_reduced refl) as (λ _. length (children_of dp d LastExactLayer) ≤ 2 ^ 24) [ inl few ↦ omega arith | inr few ↦ omega arith ]
children-few dp laws p w t d h short fits Frontier =
    let same = length-map (frontier_at dp d) (child_from d) in
    let few = few-frontier dp laws p w t d h short fits in
    omega arith

-- How large a record of the last exact layer is.

size-most : (n : ℕ) (cs : List Subproblem) → Each (λ (c : Subproblem). length c.decisions ≤ n) cs → sum_by (λ (c : Subproblem). 20 + 4 * length c.decisions) cs ≤ length cs * (20 + 4 * n)
size-most n [] h = omega arith
size-most n (c ∷ cs) h =
    let sum = sum_by-cons (λ (c : Subproblem). 20 + 4 * length c.decisions) c cs in
    let rest = size-most n cs h.1 in
    let one = h.0 in
    let more : length (c ∷ cs) * (20 + 4 * n) ≡ length cs * (20 + 4 * n) + (20 + 4 * n) = suc-mul (length cs) (20 + 4 * n) in
    omega arith

short-children : (n : ℕ) (o : Option ℕ) (cs : List Subproblem) → StandAt o cs → ((depth : ℕ) → o ≡ Some depth → depth ≤ n + 1) → Each (λ (c : Subproblem). length c.decisions ≤ n) cs
short-children n None cs h few = subst (λ xs. Each (λ (c : Subproblem). length c.decisions ≤ n) xs) (sym h) tt
short-children n (Some depth) cs h few =
    let most = few depth refl in
    Each-then (λ (c : Subproblem). length c.decisions + 1 ≡ depth) (λ (c : Subproblem). length c.decisions ≤ n) cs (λ c e. omega arith) h

times-out : (m w n : ℕ) → m ≤ w → m * (20 + 4 * n) ≤ 20 * w + 4 * (n * w)
times-out m w n few =
    let more = mul-le-mul_right (20 + 4 * n) few in
    let turn : w * (20 + 4 * n) ≡ (20 + 4 * n) * w = mul_comm w (20 + 4 * n) in
    let parts : (20 + 4 * n) * w ≡ 20 * w + (4 * n) * w = add-mul 20 (4 * n) w in
    let inner : (4 * n) * w ≡ 4 * (n * w) = mul_assoc 4 n w in
    omega arith

children-size : (dp : Dp) → IsLawful dp → (p : List ℕ) (w : ℕ) (t : Option ℤ) (d : DdLayers) → IsDiagram dp p w t d → length p < dp.vars → FitsWidth dp w → children_size (children_of dp d LastExactLayer) ≤ 2 ^ 32 - 1
children-size dp laws p w t d h short fits =
    let cs = children_of dp d LastExactLayer in
    let stand = last-exact-at dp laws p w t d h short in
    let depths : (depth : ℕ) → d.first_reduced ≡ Some depth → depth ≤ dp.vars + 1 = λ depth e. (let r = reducible dp p w t depth (sym h.first_reduced ∙ e) in let high = r.above_last in omega arith) in
    let each = short-children dp.vars d.first_reduced cs stand depths in
    let sum = size-most dp.vars cs each in
    let same = length-map (last_exact_at dp d d.first_reduced) (child_from d) in
    let vars = laws.sizes.vars in
    let most = width-most dp laws w fits in
    let wide = fits.most in
    elim (last-most dp laws p w t d h short d.first_reduced refl) as (λ _. children_size cs ≤ 2 ^ 32 - 1) [
      | inl few ↦ (let all = times-out (length cs) 1024 dp.vars (let less : length cs ≤ 1024 = omega arith in less) in omega arith)
      | inr few ↦ (let all = times-out (length cs) w dp.vars (let less : length cs ≤ w = omega arith in less) in omega arith)
    ]

pub children-fit : (dp : Dp) → IsLawful dp → (p : List ℕ) (w : ℕ) (t : Option ℤ) (d : DdLayers) → length p < dp.vars → IsDiagram dp p w t d → ChildrenFit dp w d
children-fit dp laws p w t d short h = record {
  far = children-far dp laws p w t d short h;
  few = λ kind fits. children-few dp laws p w t d h short fits kind;
  size = λ fits. children-size dp laws p w t d h short fits;
}
