-- A diagram that is put into a draft leaves a draft.
use Rattle.std.proofs.Common.{◌≡◌, ℕ, zero, suc, ◌+◌, ◌-◌, ◌<◌, ◌≤◌, nat_eq, nat_lt, nat_le, ℤ, Bool, true, false, not, cond, ◌&&◌, ◌||◌, List, [], ◌∷◌, ◌++◌, length, map, slice_get, Option, Some, None, ◌⊎◌, inl, inr, IsTrue, refl, sym, ◌∙◌, ap, subst, arith, add-zero}
use Rattle.dp_model.specs.Dp.{Dp}
use Rattle.dp_model.specs.Laws.{IsLawful}
use Rattle.dp_model.specs.Lists.{Each, OneOf}
use Rattle.dp_model.specs.Numbers.{add_some}
use Rattle.dp_model.proofs.Members.{Has}
use Rattle.dp_laws.specs.Diagrams.Nodes.{DdNode, DdLayers}
use Rattle.dp_laws.specs.Diagrams.Seen.{IsDiagram, exact_layers}
use Rattle.dp_laws.proofs.Diagrams.Places.{same-Some, Has-at}
use Rattle.dp_laws.proofs.Diagrams.Starts.{reducible}
use Rattle.bound_cover.specs.Covers.{CoverRow}
use Rattle.bound_cover.specs.Tests.{is_at_most, is_state_row}
use Rattle.bound_cover.specs.Verdicts.{covers_root, has_root, root_test}
use Rattle.bound_cover.specs.Exploring.{HoldsAll, needed_layers, layer_of, rest_of, greater_of, is_deep, is_last_exact, claim_of, leads_above, moved, row_for, Waiting, with_arcs_at, arcs_of_first, explored, waiting_in, waiting_after}
use Rattle.bound_cover.specs.DraftRows.{Passes, IsWaiting, IsDraft}
use Rattle.bound_cover.proofs.Keeping.{Keeps, keeps-same, keeps-following, keeps-arcs, append-following, map-at}
use Rattle.bound_cover.proofs.Claims.{at-most-self, greater-left, greater-right, suffix-within}
use Rattle.bound_cover.proofs.NodeRows.{IsEnough, row_with, passes-node}
use Rattle.bound_cover.proofs.Placing.{needed-above, layer-beyond, explored-at, keeps-layer, layer-states, reached-at}

-- a diagram for the first of the rows that wait
pub record IsStep (dp : Dp) (best : Option ℤ) (w : ℕ) (rows : List (List CoverRow)) (q : Waiting) (rest : List Waiting) (d : DdLayers) : Type 0 where
  pub laws : IsLawful dp
  pub most : HoldsAll dp best
  pub draft : IsDraft dp best rows (q ∷ rest)
  pub diagram : IsDiagram dp q.prefix w best d

-- ---- the layers afterwards

pub above-own : (dp : Dp) (best : Option ℤ) (q : Waiting) (d : DdLayers) (rows : List (List CoverRow)) (j : ℕ) → j ≤ dp.vars → j < length q.prefix → layer_of (explored dp best q d rows) j ≡ layer_of rows j
above-own dp best q d rows j low less =
    let e : nat_lt j (length q.prefix) ≡ true = grind arith in
    explored-at dp best q d rows j low ∙ rw e refl

pub own : (dp : Dp) (best : Option ℤ) (q : Waiting) (d : DdLayers) (rows : List (List CoverRow)) (j : ℕ) → j ≤ dp.vars → j ≡ length q.prefix
    → layer_of (explored dp best q d rows) j ≡ with_arcs_at q.place (map (moved (length (layer_of rows (j + 1)))) (arcs_of_first (layer_of d.layers 0))) (layer_of rows j)
own dp best q d rows j low same =
    let e : nat_lt j (length q.prefix) ≡ false = grind arith in
    let f : nat_eq j (length q.prefix) ≡ true = grind arith in
    explored-at dp best q d rows j low ∙ rw (e, f) refl

pub below-own : (dp : Dp) (best : Option ℤ) (q : Waiting) (d : DdLayers) (rows : List (List CoverRow)) (j m : ℕ) → j ≤ dp.vars → j ≡ length q.prefix + suc m
    → layer_of (explored dp best q d rows) j ≡ layer_of rows j ++ map (row_for dp best d.first_reduced j (length (layer_of rows (j + 1)))) (layer_of (needed_layers best (length q.prefix) d d.first_reduced) (suc m))
below-own dp best q d rows j m low same =
    let e : nat_lt j (length q.prefix) ≡ false = grind arith in
    let f : nat_eq j (length q.prefix) ≡ false = grind arith in
    let at : j - length q.prefix ≡ suc m = omega arith in
    explored-at dp best q d rows j low ∙ (rw (e, f) (ap (λ n. layer_of rows j ++ map (row_for dp best d.first_reduced j (length (layer_of rows (j + 1)))) (layer_of (needed_layers best (length q.prefix) d d.first_reduced) n)) at))

-- each row keeps its number, its words and its bound
pub keeps-after : (dp : Dp) (best : Option ℤ) (q : Waiting) (d : DdLayers) (rows : List (List CoverRow)) → length rows ≡ dp.vars + 1 → (j : ℕ) → Keeps (layer_of rows j) (layer_of (explored dp best q d rows) j)
keeps-after dp best q d rows long j =
    let split : (j ≤ dp.vars) ⊎ (dp.vars < j) = grind arith in
    elim split as (λ _. Keeps (layer_of rows j) (layer_of (explored dp best q d rows) j)) [
      | inr beyond ↦ λ t r at. absurd (let none : None ≡ Some r = ap (λ l. slice_get l t) (sym (layer-beyond rows j (omega arith))) ∙ at in cc)
      | inl low ↦ subst (λ l. Keeps (layer_of rows j) l) (sym (explored-at dp best q d rows j low))
          (elim (nat_lt j (length q.prefix)) as (λ b. Keeps (layer_of rows j) (cond b (layer_of rows j) (cond (nat_eq j (length q.prefix)) (with_arcs_at q.place (map (moved (length (layer_of rows (j + 1)))) (arcs_of_first (layer_of d.layers 0))) (layer_of rows j)) (layer_of rows j ++ map (row_for dp best d.first_reduced j (length (layer_of rows (j + 1)))) (layer_of (needed_layers best (length q.prefix) d d.first_reduced) (j - length q.prefix)))))) [
            | true ↦ keeps-same (layer_of rows j)
            | false ↦ elim (nat_eq j (length q.prefix)) as (λ b. Keeps (layer_of rows j) (cond b (with_arcs_at q.place (map (moved (length (layer_of rows (j + 1)))) (arcs_of_first (layer_of d.layers 0))) (layer_of rows j)) (layer_of rows j ++ map (row_for dp best d.first_reduced j (length (layer_of rows (j + 1)))) (layer_of (needed_layers best (length q.prefix) d d.first_reduced) (j - length q.prefix))))) [
              | true ↦ keeps-arcs q.place (map (moved (length (layer_of rows (j + 1)))) (arcs_of_first (layer_of d.layers 0))) (layer_of rows j)
              | false ↦ keeps-following (layer_of rows j) (map (row_for dp best d.first_reduced j (length (layer_of rows (j + 1)))) (layer_of (needed_layers best (length q.prefix) d d.first_reduced) (j - length q.prefix)))
            ]
          ])
    ]

-- ---- the root stays covered

root-from : (dp : Dp) (claim : Option ℤ) (rows : List CoverRow) → IsTrue (has_root dp claim rows) → (t : ℕ) × (r : CoverRow) × (slice_get rows t ≡ Some r) × IsTrue (root_test dp claim r)
root-from dp claim [] h = absurd (let clash : false ≡ true = h in cc)
root-from dp claim (row ∷ rows) h =
    elim (root_test dp claim row) as (λ b. root_test dp claim row ≡ b → IsTrue (b || has_root dp claim rows) → (t : ℕ) × (r : CoverRow) × (slice_get (row ∷ rows) t ≡ Some r) × IsTrue (root_test dp claim r)) [
      | true ↦ λ e _. (0, row, refl, e)
      | false ↦ λ _ more. (let rest = root-from dp claim rows more in (suc rest.0, rest.1, rest.2, rest.3))
    ] refl h

root-to : (dp : Dp) (claim : Option ℤ) (rows : List CoverRow) (t : ℕ) (r : CoverRow) → slice_get rows t ≡ Some r → IsTrue (root_test dp claim r) → IsTrue (has_root dp claim rows)
root-to dp claim [] t r at test = absurd (let none : None ≡ Some r = at in cc)
root-to dp claim (row ∷ rows) zero r at test = let here : IsTrue (root_test dp claim row) = subst (λ (x : CoverRow). IsTrue (root_test dp claim x)) (sym (same-Some row r at)) test in rw here refl
root-to dp claim (row ∷ rows) (suc t) r at test =
    let later : IsTrue (has_root dp claim rows) = root-to dp claim rows t r at test in
    elim (root_test dp claim row) as (λ b. IsTrue (b || has_root dp claim rows)) [ true ↦ refl | false ↦ later ]

pub root-kept : (dp : Dp) (claim : Option ℤ) (rows more : List CoverRow) → Keeps rows more → IsTrue (has_root dp claim rows) → IsTrue (has_root dp claim more)
root-kept dp claim rows more keeps h =
    let from = root-from dp claim rows h in
    let kept = keeps from.0 from.1 from.2 in
    let Test : List ℤ → Option ℤ → Type 0 = λ words bound. IsTrue (is_state_row dp 0 words && covers_root (dp.gap 0 words dp.root) dp.root_value bound claim) in
    root-to dp claim more from.0 kept.row kept.at (subst (λ b. Test kept.row.words b) (sym kept.bound) (subst (λ w. Test w from.1.bound) (sym kept.words) from.3))

-- ---- what waits

pub waits-after : (dp : Dp) (best : Option ℤ) (q : Waiting) (d : DdLayers) (rows : List (List CoverRow)) → length rows ≡ dp.vars + 1 → (x : Waiting) → IsWaiting dp best rows x → IsWaiting dp best (explored dp best q d rows) x
waits-after dp best q d rows long x h =
    let kept = keeps-after dp best q d rows long (length x.prefix) x.place h.row h.at in
    record { prefix = h.prefix; short = h.short; row = kept.row; at = kept.at; words = kept.words ∙ h.words; bound = kept.bound ∙ h.bound }

each-waiting : (P : Waiting → Type 0) (best : Option ℤ) (place : ℕ) (nodes : List DdNode) → ((t : ℕ) (node : DdNode) → slice_get nodes t ≡ Some node → P (record { place = place + t; prefix = node.path })) → Each P (waiting_in best place nodes)
each-waiting P best place [] all = tt
each-waiting P best place (node ∷ nodes) all =
    let rest = each-waiting P best (place + 1) nodes (λ t n at. (let e : place + 1 + t ≡ place + suc t = omega arith in subst (λ i. P (record { place = i; prefix = n.path })) (sym e) (all (suc t) n at))) in
    elim (leads_above best node) as (λ b. Each P (cond b (record { place = place; prefix = node.path } ∷ waiting_in best (place + 1) nodes) (waiting_in best (place + 1) nodes))) [
      | true ↦ (subst (λ i. P (record { place = i; prefix = node.path })) (add-zero place) (all 0 node refl), rest)
      | false ↦ rest
    ]

pub one-waiting : (P : Waiting → Type 0) (best : Option ℤ) (place : ℕ) (nodes : List DdNode) (t : ℕ) (node : DdNode) → slice_get nodes t ≡ Some node → IsTrue (leads_above best node) → P (record { place = place + t; prefix = node.path }) → OneOf P (waiting_in best place nodes)
one-waiting P best place [] t node at above p = absurd (let none : None ≡ Some node = at in cc)
one-waiting P best place (x ∷ nodes) zero node at above p =
    let same = same-Some x node at in
    let here : IsTrue (leads_above best x) = subst (λ (n : DdNode). IsTrue (leads_above best n)) (sym same) above in
    rw here (inl (subst (λ i. P (record { place = i; prefix = x.path })) (add-zero place) (subst (λ (n : DdNode). P (record { place = place + 0; prefix = n.path })) (sym same) p)))
one-waiting P best place (x ∷ nodes) (suc t) node at above p =
    let e : place + suc t ≡ place + 1 + t = omega arith in
    let later = one-waiting P best (place + 1) nodes t node at above (subst (λ i. P (record { place = i; prefix = node.path })) e p) in
    elim (leads_above best x) as (λ b. OneOf P (cond b (record { place = place; prefix = x.path } ∷ waiting_in best (place + 1) nodes) (waiting_in best (place + 1) nodes))) [ true ↦ inr later | false ↦ later ]

-- the nodes that wait stand for prefixes
pub new-waits : (dp : Dp) (best : Option ℤ) (w : ℕ) (rows : List (List CoverRow)) (q : Waiting) (rest : List Waiting) (d : DdLayers) → IsStep dp best w rows q rest d → (o : Option ℕ) → d.first_reduced ≡ o → Each (IsWaiting dp best (explored dp best q d rows)) (waiting_after best q d rows o)
new-waits dp best w rows q rest d s None e = tt
new-waits dp best w rows q rest d s (Some depth) e =
    let h = s.diagram in
    let short = s.draft.waits.0.short in
    let r = reducible dp q.prefix w best depth (sym h.first_reduced ∙ e) in
    let low = r.below_first in let high = r.above_last in let long = h.depth in
    let c = depth - 1 in
    let m = depth - 1 - length q.prefix - 1 in
    let at-m : depth - 1 - length q.prefix ≡ suc m = omega arith in
    let place : c ≡ length q.prefix + suc m = omega arith in
    let inside : suc m < length d.layers = omega arith in
    let above : suc m < exact_layers dp.vars (length q.prefix) d.first_reduced = subst (λ x. suc m < exact_layers dp.vars (length q.prefix) x) (sym e) (omega arith) in
    let shallow : is_deep d.first_reduced c ≡ false = ap (λ x. is_deep x c) e ∙ (let f : nat_le depth c ≡ false = grind arith in f) in
    let kept : layer_of (needed_layers best (length q.prefix) d d.first_reduced) (suc m) ≡ layer_of d.layers (suc m) = needed-above best (length q.prefix) d d.first_reduced (suc m) (λ x f. (let same : depth ≡ x = same-Some depth x (sym e ∙ f) in omega arith)) in
    let layer = below-own dp best q d rows c m (omega arith) place ∙ ap (λ l. layer_of rows c ++ map (row_for dp best d.first_reduced c (length (layer_of rows (c + 1)))) l) kept in
    let row = row_for dp best d.first_reduced c (length (layer_of rows (c + 1))) in
    subst (λ n. Each (IsWaiting dp best (explored dp best q d rows)) (waiting_in best (length (layer_of rows c)) (layer_of d.layers n))) (sym at-m)
    (each-waiting (IsWaiting dp best (explored dp best q d rows)) best (length (layer_of rows c)) (layer_of d.layers (suc m)) (λ t node at.
    let is = reached-at dp q.prefix w best d h (suc m) inside above node (Has-at (layer_of d.layers (suc m)) t node at) in
    let deep : length node.path ≡ c = is.depth ∙ sym place in
    let stands : slice_get (layer_of (explored dp best q d rows) c) (length (layer_of rows c) + t) ≡ Some (row node) =
    ap (λ l. slice_get l (length (layer_of rows c) + t)) layer ∙ (append-following (layer_of rows c) (map row (layer_of d.layers (suc m))) t ∙ map-at row (layer_of d.layers (suc m)) t node at) in
    record {
      prefix = is.prefix;
      short = omega arith;
      row = row node;
      at = subst (λ n. slice_get (layer_of (explored dp best q d rows) n) (length (layer_of rows c) + t) ≡ Some (row node)) (sym deep) stands;
      words = is.row;
      bound = ap (λ b. claim_of best b node) shallow ∙ ap (rest_of best) is.value;
    }))

-- ---- the rows that are new

-- the rest of a layer's claims
deeper : (reduced : Option ℕ) (k : ℕ) → IsTrue (is_deep reduced (k + 1)) → is_deep reduced k ≡ false → IsTrue (is_last_exact reduced k)
deeper None k h e = absurd (let clash : false ≡ true = h in cc)
deeper (Some depth) k h e =
    let a : nat_le depth (k + 1) ≡ true = h in
    let b : nat_le depth k ≡ false = e in
    let c : nat_eq depth (k + 1) ≡ true = grind arith in c

within-best : (best : Option ℤ) (cut : Bool) (node : DdNode) → IsTrue (not (cut && leads_above best node)) → IsTrue cut → IsTrue (is_at_most (add_some node.value node.suffix) best)
within-best best false node h e = absurd (let clash : false ≡ true = e in cc)
within-best best true node h e =
    elim (is_at_most (add_some node.value node.suffix) best) as (λ b. IsTrue (not (not b)) → IsTrue b) [ true ↦ λ _. refl | false ↦ λ k. absurd (let clash : false ≡ true = k in cc) ] h

pub enough-claim : (best : Option ℤ) (reduced : Option ℕ) (k : ℕ) (node : DdNode) → IsTrue (not (is_last_exact reduced k && leads_above best node)) → IsEnough best reduced k node (claim_of best (is_deep reduced k) node)
enough-claim best reduced k node h = record {
  rest = elim (is_deep reduced k) as (λ b. IsTrue (is_at_most (rest_of best node.value) (cond b (greater_of node.suffix (rest_of best node.value)) (rest_of best node.value)))) [
    | true ↦ greater-right node.suffix (rest_of best node.value)
    | false ↦ at-most-self (rest_of best node.value)
  ];
  suffix = λ e. elim (is_deep reduced k) as (λ b. is_deep reduced k ≡ b → IsTrue (is_at_most node.suffix (cond b (greater_of node.suffix (rest_of best node.value)) (rest_of best node.value)))) [
    | true ↦ λ _. greater-left node.suffix (rest_of best node.value)
    | false ↦ λ f. suffix-within node.value node.suffix best (within-best best (is_last_exact reduced k) node h (deeper reduced k e f))
  ] refl;
}

-- a node of the diagram above the last layer passes with a bound that is enough
pub node-passes : (dp : Dp) (best : Option ℤ) (w : ℕ) (rows : List (List CoverRow)) (q : Waiting) (rest : List Waiting) (d : DdLayers) → IsStep dp best w rows q rest d → (m : ℕ) → length q.prefix + m < dp.vars → (node : DdNode) → Has node (layer_of d.layers m)
    → (bound : Option ℤ) → IsEnough best d.first_reduced (length q.prefix + m) node bound → layer_of (needed_layers best (length q.prefix) d d.first_reduced) (suc m) ≡ layer_of d.layers (suc m)
    → Passes dp (length q.prefix + m) (layer_of (explored dp best q d rows) (length q.prefix + m + 1)) (row_with bound node (Some (map (moved (length (layer_of rows (length q.prefix + m + 1)))) node.arcs)))
node-passes dp best w rows q rest d s m short node has bound enough kept =
    let h = s.diagram in
    let long = h.depth in
    let k = length q.prefix + m in
    let keeps = keeps-layer dp q.prefix w best (length q.prefix) m d.layers h.layer (omega arith) in
    let up : length q.prefix + suc m ≡ k + 1 = omega arith in
    let states : (x : DdNode) → Has x (layer_of d.layers (suc m)) → IsTrue (dp.is_state (k + 1) x.row) =
    λ x k'. subst (λ n. IsTrue (dp.is_state n x.row)) up (layer-states dp q.prefix w best (length q.prefix) (suc m) d.layers h.layer x k') in
    let next = below-own dp best q d rows (k + 1) m (omega arith) (sym up) ∙ ap (λ l. layer_of rows (k + 1) ++ map (row_for dp best d.first_reduced (k + 1) (length (layer_of rows (k + 1 + 1)))) l) kept in
    subst (λ l. Passes dp k l (row_with bound node (Some (map (moved (length (layer_of rows (k + 1)))) node.arcs)))) (sym next)
    (passes-node dp s.laws q.prefix w best d.first_reduced k (layer_of d.layers m) (layer_of d.layers (suc m)) keeps states short node has bound enough (layer_of rows (k + 1)) (length (layer_of rows (k + 1 + 1))))
