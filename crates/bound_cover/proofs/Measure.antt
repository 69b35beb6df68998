-- An exploration ends: with each diagram fewer prefixes are left below those that wait.
use Rattle.std.proofs.Common.{◌≡◌, ℕ, ◌+◌, ◌-◌, ◌<◌, ℤ, true, false, not, cond, ◌&&◌, List, [], ◌∷◌, ◌++◌, length, map, Option, Some, None, inl, inr, IsTrue, refl, sym, ◌∙◌, ap, subst, arith}
use Rattle.std.specs.List.{sum_by}
use Rattle.std.proofs.lemmas.List.Sums.{sum_by-append, sum_by-cons}
use Rattle.std.proofs.lemmas.Bool.{and_parts}
use Rattle.dp_model.specs.Counts.{pot}
use Rattle.dp_model.specs.Decisions.{begins}
use Rattle.dp_model.specs.Dp.{Dp}
use Rattle.dp_model.specs.Lists.{Each}
use Rattle.dp_model.specs.Prefixes.{state_of}
use Rattle.dp_model.specs.Rows.{row_same}
use Rattle.dp_model.proofs.Members.{Has}
use Rattle.dp_model.proofs.RowLemmas.{row_same-self}
use Rattle.dp_laws.specs.Antichains.{IsExtension, NeitherBegins}
use Rattle.dp_laws.specs.Pairs.{EachTwo}
use Rattle.dp_laws.proofs.Counting.{pots-below, pots-positive, sum-map}
use Rattle.dp_laws.specs.Diagrams.Nodes.{DdNode, DdLayers}
use Rattle.dp_laws.specs.Diagrams.Seen.{IsReachedBy, repeats, are_distinct, IsDiagram, exact_layers}
use Rattle.dp_laws.proofs.Diagrams.Apart.{not-true, neither, same-length, rows-differ, AreReached, row_same-turned}
use Rattle.dp_laws.proofs.Diagrams.LastExact.{all-exact}
use Rattle.dp_laws.proofs.Diagrams.Starts.{reducible}
use Rattle.bound_cover.specs.Covers.{CoverRow}
use Rattle.bound_cover.specs.Exploring.{layer_of, leads_above, Waiting, waiting_in, waiting_after}
use Rattle.bound_cover.proofs.Placing.{layer-is-at, keeps-layer, reached-at}
use Rattle.dp_laws.proofs.Diagrams.ChildFacts.{begins-by}

abbrev pub prefixes : List Waiting → List (List ℕ)
prefixes ws = map (λ (q : Waiting). q.prefix) ws

paths-differ : (dp : Dp) (p : List ℕ) (k : ℕ) (a b : DdNode) → IsReachedBy dp p k a → IsReachedBy dp p k b → row_same a.row b.row ≡ false → begins a.path b.path ≡ false
paths-differ dp p k a b ra rb differ = not-true (begins a.path b.path) (λ h.
    let da = ra.depth in let db = rb.depth in
    let same : a.path ≡ b.path = same-length a.path b.path (da ∙ sym db) h in
    let rows : a.row ≡ b.row = ra.row ∙ (ap (state_of dp) same ∙ sym rb.row) in
    let same_row : row_same a.row b.row ≡ true = subst (λ r. row_same a.row r ≡ true) rows (row_same-self a.row) in
    let clash : true ≡ false = sym same_row ∙ differ in cc)

-- those that wait are among the layer's paths
all-of : (P : List ℕ → Type 0) (best : Option ℤ) (place : ℕ) (nodes : List DdNode) → ((node : DdNode) → Has node nodes → P node.path) → Each P (prefixes (waiting_in best place nodes))
all-of P best place [] all = tt
all-of P best place (node ∷ nodes) all =
    let rest = all-of P best (place + 1) nodes (λ n h. all n (inr h)) in
    elim (leads_above best node) as (λ b. Each P (prefixes (cond b (record { place = place; prefix = node.path } ∷ waiting_in best (place + 1) nodes) (waiting_in best (place + 1) nodes)))) [ true ↦ (all node (inl refl), rest) | false ↦ rest ]

-- a path and those of nodes with other rows
apart-from : (dp : Dp) (p : List ℕ) (k : ℕ) (node : DdNode) (rest : List DdNode) → IsTrue node.exact → IsReachedBy dp p k node → AreReached dp p k rest → IsTrue (not (repeats node rest)) → (other : DdNode) → Has other rest → NeitherBegins node.path other.path
apart-from dp p k node [] exact r all new other h = absurd h
apart-from dp p k node (x ∷ rest) exact r all new other h =
    let none = neither (node.exact && (x.exact && row_same node.row x.row)) (repeats node rest) new in
    elim h as (λ _. NeitherBegins node.path other.path) [
      | inl same ↦ (
          let of-x = all x (inl refl) in
          let differ : row_same node.row x.row ≡ false = rows-differ node.exact x.exact (row_same node.row x.row) exact of-x.0 none.0 in
          subst (λ (n : DdNode). NeitherBegins node.path n.path) same (record { first = paths-differ dp p k node x r of-x.1 differ; second = paths-differ dp p k x node of-x.1 r (row_same-turned node.row x.row differ) }))
      | inr later ↦ apart-from dp p k node rest exact r (λ n has. all n (inr has)) (rw none.1 refl) other later
    ]

all-apart : (dp : Dp) (p : List ℕ) (k : ℕ) (best : Option ℤ) (place : ℕ) (layer : List DdNode) → AreReached dp p k layer → IsTrue (are_distinct layer) → EachTwo NeitherBegins (prefixes (waiting_in best place layer))
all-apart dp p k best place [] all distinct = tt
all-apart dp p k best place (node ∷ rest) all distinct =
    let parts = and_parts (not (repeats node rest)) (are_distinct rest) distinct in
    let of-node = all node (inl refl) in
    let later = all-apart dp p k best (place + 1) rest (λ x has. all x (inr has)) parts.1 in
    elim (leads_above best node) as (λ b. EachTwo NeitherBegins (prefixes (cond b (record { place = place; prefix = node.path } ∷ waiting_in best (place + 1) rest) (waiting_in best (place + 1) rest)))) [
      | true ↦ (all-of (NeitherBegins node.path) best (place + 1) rest (λ n h. apart-from dp p k node rest of-node.0 of-node.1 (λ x has. all x (inr has)) parts.0 n h), later)
      | false ↦ later
    ]

-- the prefixes that wait after a diagram have fewer below them than the one that it was for
new-below : (dp : Dp) (best : Option ℤ) (w : ℕ) (rows : List (List CoverRow)) (q : Waiting) (d : DdLayers) → length q.prefix < dp.vars → IsDiagram dp q.prefix w best d → (o : Option ℕ) → d.first_reduced ≡ o
    → sum_by (pot dp) (prefixes (waiting_after best q d rows o)) < pot dp q.prefix
new-below dp best w rows q d short h None e = let some = pots-positive dp q.prefix short in omega arith
new-below dp best w rows q d short h (Some depth) e =
    let p = q.prefix in
    let r = reducible dp p w best depth (sym h.first_reduced ∙ e) in
    let low = r.below_first in let high = r.above_last in let long = h.depth in
    let m = depth - 1 - length p in
    let inside : m < length d.layers = omega arith in
    let above : m < exact_layers dp.vars (length p) d.first_reduced = subst (λ x. m < exact_layers dp.vars (length p) x) (sym e) (omega arith) in
    let place = length (layer_of rows (depth - 1)) in
    let layer = layer_of d.layers m in
    let reached : AreReached dp p (length p + m) layer = λ node has. (all-exact dp p w best d h (exact_layers dp.vars (length p) d.first_reduced) m refl above layer (layer-is-at d.layers m inside) node has, reached-at dp p w best d h m inside above node has) in
    let distinct = (keeps-layer dp p w best (length p) m d.layers h.layer inside).distinct in
    pots-below dp p (prefixes (waiting_in best place layer)) short
    (all-of (IsExtension dp p) best place layer (λ node has. let is = (reached node has).1 in record { prefix = is.prefix; extends = begins-by p node.path is.begins; deeper = (let deep = is.depth in omega arith) }))
    (all-apart dp p (length p + m) best place layer reached distinct)

-- how many prefixes are left below those that wait
abbrev pub left_below : Dp → List Waiting → ℕ
left_below dp ws = sum_by (λ (q : Waiting). pot dp q.prefix) ws

pub falls : (dp : Dp) (best : Option ℤ) (w : ℕ) (rows : List (List CoverRow)) (q : Waiting) (rest : List Waiting) (d : DdLayers) → length q.prefix < dp.vars → IsDiagram dp q.prefix w best d
    → left_below dp (rest ++ waiting_after best q d rows d.first_reduced) < left_below dp (q ∷ rest)
falls dp best w rows q rest d short h =
    let new = waiting_after best q d rows d.first_reduced in
    let less = new-below dp best w rows q d short h d.first_reduced refl in
    let same = sum-map (pot dp) (λ (x : Waiting). x.prefix) new in
    let split = sum_by-append (λ (x : Waiting). pot dp x.prefix) rest new in
    let first = sum_by-cons (λ (x : Waiting). pot dp x.prefix) q rest in
    omega arith
