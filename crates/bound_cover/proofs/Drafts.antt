-- From the root to a cover in which nothing waits.
use Rattle.std.proofs.Common.{◌≡◌, ℕ, zero, suc, ◌+◌, ◌-◌, ◌<◌, ◌≤◌, nat_eq, nat_lt, nat_le, ℤ, pos, ◌+ℤ◌, ◌-ℤ◌, Bool, true, false, not, cond, ◌&&◌, List, [], ◌∷◌, ◌++◌, length, map, slice_get, replicate, Option, Some, None, ◌⊎◌, inl, inr, IsTrue, refl, sym, ◌∙◌, ap, subst, arith, add-zero}
use Rattle.std.proofs.lemmas.Int.{ints}
use Rattle.std.proofs.lemmas.List.{length-replicate}
use Rattle.dp_model.specs.Best.{best, IsBest}
use Rattle.dp_model.specs.Dp.{Dp}
use Rattle.dp_model.specs.Gaps.{IsStateOf}
use Rattle.dp_model.specs.Laws.{IsLawful}
use Rattle.dp_model.specs.Lists.{Each, OneOf}
use Rattle.dp_model.specs.NumberLaws.{int_le-from}
use Rattle.dp_model.specs.Numbers.{AtMost, add_some}
use Rattle.dp_model.specs.Prefixes.{value_of}
use Rattle.dp_model.proofs.Members.{Has, each-has, Each-append, Each-then}
use Rattle.dp_laws.specs.Diagrams.Nodes.{DdNode, DdLayers}
use Rattle.dp_laws.specs.Diagrams.Seen.{suffix_from, exact_layers}
use Rattle.dp_laws.proofs.Diagrams.Places.{same-Some, Has-at}
use Rattle.dp_laws.proofs.Diagrams.Starts.{reducible, starts}
use Rattle.bound_cover.specs.declared.cover.CoverArc.{CoverArc}
use Rattle.bound_cover.specs.declared.cover.Why.TheVariants.{Root, Layers}
use Rattle.bound_cover.specs.Covers.{CoverRow}
use Rattle.bound_cover.specs.Tests.{is_at_most, unless, is_state_row, row_fault}
use Rattle.bound_cover.specs.Verdicts.{first_layer, rows_fault, layers_fault, covers_root, has_root, cover_fault, checked_rows}
use Rattle.bound_cover.specs.Exploring.{HoldsAll, layer_of, rest_of, greater_of, is_deep, is_last_exact, claim_of, leads_above, moved, has_arcs, row_for, Waiting, with_arcs_at, arcs_of_first, needed_layers, explored, waiting_in, waiting_after, start_cover, start_waiting, Explores}
use Rattle.bound_cover.specs.DraftRows.{Passes, IsAt, IsWaiting, IsDraft}
use Rattle.bound_cover.proofs.Faults.{first-both, unless-holds, cond-holds}
use Rattle.bound_cover.proofs.Keeping.{passes-kept, arcs-cases, append-cases, map-cases}
use Rattle.bound_cover.proofs.Claims.{at-most-self, greater-left, rest-positive}
use Rattle.bound_cover.proofs.NodeRows.{state-row, IsEnough, row_with, passes-last}
use Rattle.bound_cover.proofs.Placing.{needed-above, needed-in, needed-next, layer-beyond, explored-long, keeps-layer, layer-states, reached-at}
use Rattle.bound_cover.proofs.Steps.{IsStep, above-own, own, below-own, keeps-after, root-kept, waits-after, one-waiting, new-waits, enough-claim, node-passes}

one-left : {X : Type 0} (P : X → Type 0) (xs ys : List X) → OneOf P xs → OneOf P (xs ++ ys)
one-left P [] ys h = absurd h
one-left P (x ∷ xs) ys (inl here) = inl here
one-left P (x ∷ xs) ys (inr later) = inr (one-left P xs ys later)

one-right : {X : Type 0} (P : X → Type 0) (xs ys : List X) → OneOf P ys → OneOf P (xs ++ ys)
one-right P [] ys h = h
one-right P (x ∷ xs) ys h = inr (one-right P xs ys h)

-- ---- the nodes of the last layer

-- their claims are at least 0
last-claim : (dp : Dp) (best : Option ℤ) (w : ℕ) (rows : List (List CoverRow)) (q : Waiting) (rest : List Waiting) (d : DdLayers) → IsStep dp best w rows q rest d → (m : ℕ) → length q.prefix + m ≡ dp.vars → (node : DdNode) → Has node (layer_of d.layers m)
    → (o : Option ℕ) → d.first_reduced ≡ o → IsTrue (is_at_most (Some (pos 0)) (claim_of best (is_deep o dp.vars) node))
last-claim dp best w rows q rest d s m whole node has None e =
    let h = s.diagram in
    let long = h.depth in
    let inside : m < length d.layers = omega arith in
    let above : m < exact_layers dp.vars (length q.prefix) d.first_reduced = subst (λ x. m < exact_layers dp.vars (length q.prefix) x) (sym e) (omega arith) in
    let is = reached-at dp q.prefix w best d h m inside above node has in
    let low = s.most node.path (record { prefix = is.prefix; whole = is.depth ∙ whole }) in
    rest-positive node.value best (subst (λ z. AtMost z best) (sym is.value) low)
last-claim dp best w rows q rest d s m whole node has (Some depth) e =
    let h = s.diagram in
    let long = h.depth in
    let r = reducible dp q.prefix w best depth (sym h.first_reduced ∙ e) in
    let high = r.above_last in
    let deep : is_deep (Some depth) dp.vars ≡ true = (let f : nat_le depth dp.vars ≡ true = grind arith in f) in
    let keeps = keeps-layer dp q.prefix w best (length q.prefix) m d.layers h.layer (omega arith) in
    let suffix = each-has (λ (n : DdNode). n.suffix ≡ suffix_from dp (length q.prefix + m) (layer_of d.layers (suc m)) n.arcs) (layer_of d.layers m) node keeps.suffixes has in
    let outside : nat_lt (length q.prefix + m) dp.vars ≡ false = grind arith in
    let zero' : node.suffix ≡ Some (pos 0) = suffix ∙ rw outside refl in
    let claim : IsTrue (is_at_most (Some (pos 0)) (greater_of (Some (pos 0)) (rest_of best node.value))) = greater-left (Some (pos 0)) (rest_of best node.value) in
    rw (deep, zero') claim

-- ---- each row passes or waits

-- a row that was there
old-fine : (dp : Dp) (best : Option ℤ) (w : ℕ) (rows : List (List CoverRow)) (q : Waiting) (rest : List Waiting) (d : DdLayers) → IsStep dp best w rows q rest d → (new : List Waiting) (j i : ℕ) (r : CoverRow) → slice_get (layer_of rows j) i ≡ Some r → (IsAt j i q → ⊥)
    → Passes dp j (layer_of (explored dp best q d rows) (j + 1)) r ⊎ OneOf (IsAt j i) (rest ++ new)
old-fine dp best w rows q rest d s new j i r at other =
    elim (s.draft.fine j i r at) as (λ _. Passes dp j (layer_of (explored dp best q d rows) (j + 1)) r ⊎ OneOf (IsAt j i) (rest ++ new)) [
      | inl passes ↦ inl (passes-kept dp j (layer_of rows (j + 1)) (layer_of (explored dp best q d rows) (j + 1)) r (keeps-after dp best q d rows s.draft.long (j + 1)) passes)
      | inr waits ↦ elim waits as (λ _. Passes dp j (layer_of (explored dp best q d rows) (j + 1)) r ⊎ OneOf (IsAt j i) (rest ++ new)) [ inl this ↦ absurd (other this) | inr later ↦ inr (one-left (IsAt j i) rest new later) ]
    ]

-- no layer down to the one below the root is reduced
not-deep : (dp : Dp) (best : Option ℤ) (w : ℕ) (rows : List (List CoverRow)) (q : Waiting) (rest : List Waiting) (d : DdLayers) → IsStep dp best w rows q rest d → (j : ℕ) → j < length q.prefix + 2 → (o : Option ℕ) → d.first_reduced ≡ o → IsTrue (is_deep o j) → ⊥
not-deep dp best w rows q rest d s j low None e deep = let clash : false ≡ true = deep in cc
not-deep dp best w rows q rest d s j low (Some depth) e deep =
    let r = reducible dp q.prefix w best depth (sym s.diagram.first_reduced ∙ e) in
    let first = r.below_first in
    let test : nat_le depth j ≡ true = deep in
    let under : depth ≤ j = grind arith in omega arith

not-and : (a b : Bool) → not (a && b) ≡ false → IsTrue a × IsTrue b
not-and true true e = (refl, refl)
not-and true false e = absurd (let clash : true ≡ false = e in cc)
not-and false b e = absurd (let clash : true ≡ false = e in cc)

-- the path of a node of the last exact layer is as long as its depth
path-deep : (dp : Dp) (best : Option ℤ) (w : ℕ) (rows : List (List CoverRow)) (q : Waiting) (rest : List Waiting) (d : DdLayers) → IsStep dp best w rows q rest d → (j m : ℕ) → j ≤ dp.vars → j ≡ length q.prefix + suc m → (node : DdNode) → Has node (layer_of d.layers (suc m))
    → not (is_last_exact d.first_reduced j && leads_above best node) ≡ false → (o : Option ℕ) → d.first_reduced ≡ o → length node.path ≡ j
path-deep dp best w rows q rest d s j m low place node has e None is =
    absurd (let both = not-and (is_last_exact d.first_reduced j) (leads_above best node) e in let clash : false ≡ true = ap (λ o. is_last_exact o j) (sym is) ∙ both.0 in cc)
path-deep dp best w rows q rest d s j m low place node has e (Some depth) is =
    let both = not-and (is_last_exact d.first_reduced j) (leads_above best node) e in
    let cut : nat_eq depth (j + 1) ≡ true = ap (λ o. is_last_exact o j) (sym is) ∙ both.0 in
    let up : depth ≡ j + 1 = grind arith in
    let long = s.diagram.depth in
    let above : suc m < exact_layers dp.vars (length q.prefix) d.first_reduced = subst (λ x. suc m < exact_layers dp.vars (length q.prefix) x) (sym is) (omega arith) in
    (reached-at dp q.prefix w best d s.diagram (suc m) (omega arith) above node has).depth ∙ sym place

-- a node of the last exact layer that leads above best waits
now-waits : (dp : Dp) (best : Option ℤ) (q : Waiting) (d : DdLayers) (rows : List (List CoverRow)) (j m : ℕ) → j ≡ length q.prefix + suc m → (t : ℕ) (node : DdNode) → slice_get (layer_of d.layers (suc m)) t ≡ Some node → length node.path ≡ j
    → not (is_last_exact d.first_reduced j && leads_above best node) ≡ false → (o : Option ℕ) → d.first_reduced ≡ o → OneOf (IsAt j (length (layer_of rows j) + t)) (waiting_after best q d rows o)
now-waits dp best q d rows j m place t node at deep e None is =
    absurd (let both = not-and (is_last_exact d.first_reduced j) (leads_above best node) e in let clash : false ≡ true = ap (λ o. is_last_exact o j) (sym is) ∙ both.0 in cc)
now-waits dp best q d rows j m place t node at deep e (Some depth) is =
    let both = not-and (is_last_exact d.first_reduced j) (leads_above best node) e in
    let cut : nat_eq depth (j + 1) ≡ true = ap (λ o. is_last_exact o j) (sym is) ∙ both.0 in
    let up : depth ≡ j + 1 = grind arith in
    let here : depth - 1 ≡ j = omega arith in
    let there : depth - 1 - length q.prefix ≡ suc m = omega arith in
    let waits : OneOf (IsAt j (length (layer_of rows j) + t)) (waiting_in best (length (layer_of rows j)) (layer_of d.layers (suc m))) =
    one-waiting (IsAt j (length (layer_of rows j) + t)) best (length (layer_of rows j)) (layer_of d.layers (suc m)) t node at both.1 (record { depth = deep; place = refl }) in
    subst (λ n. OneOf (IsAt j (length (layer_of rows j) + t)) (waiting_in best (length (layer_of rows n)) (layer_of d.layers (depth - 1 - length q.prefix)))) (sym here)
    (subst (λ n. OneOf (IsAt j (length (layer_of rows j) + t)) (waiting_in best (length (layer_of rows j)) (layer_of d.layers n))) (sym there) waits)

-- the row that waited, with the arcs of the diagram's root
own-fine : (dp : Dp) (best : Option ℤ) (w : ℕ) (rows : List (List CoverRow)) (q : Waiting) (rest : List Waiting) (d : DdLayers) → IsStep dp best w rows q rest d → (new : List Waiting) (i : ℕ) (r : CoverRow)
    → slice_get (with_arcs_at q.place (map (moved (length (layer_of rows (length q.prefix + 1)))) (arcs_of_first (layer_of d.layers 0))) (layer_of rows (length q.prefix))) i ≡ Some r
    → Passes dp (length q.prefix) (layer_of (explored dp best q d rows) (length q.prefix + 1)) r ⊎ OneOf (IsAt (length q.prefix) i) (rest ++ new)
own-fine dp best w rows q rest d s new i r at =
    let k = length q.prefix in
    let arcs = map (moved (length (layer_of rows (k + 1)))) (arcs_of_first (layer_of d.layers 0)) in
    let Goal : Type 0 = Passes dp k (layer_of (explored dp best q d rows) (k + 1)) r ⊎ OneOf (IsAt k i) (rest ++ new) in
    elim (arcs-cases q.place arcs (layer_of rows k) i r at) as (λ _. Goal) [
      | inr old ↦ old-fine dp best w rows q rest d s new k i r old.at (λ a. old.other (sym a.place))
      | inl g ↦ (
          let waits = s.draft.waits.0 in
          let short = waits.short in
          let start = starts dp q.prefix w best d s.diagram waits.short in
          let root = start.root in
          let first : layer_of d.layers 0 ≡ root ∷ [] = ap (λ ls. layer_of ls 0) start.are in
          let has : Has root (layer_of d.layers 0) = subst (λ l. Has root l) (sym first) (inl refl) in
          let same : g.row ≡ waits.row = same-Some g.row waits.row (sym g.at ∙ (ap (slice_get (layer_of rows k)) g.here ∙ waits.at)) in
          let words : g.row.words ≡ root.row = ap (λ (x : CoverRow). x.words) same ∙ (waits.words ∙ sym start.row) in
          let bound : g.row.bound ≡ rest_of best root.value = ap (λ (x : CoverRow). x.bound) same ∙ (waits.bound ∙ ap (rest_of best) (sym start.value)) in
          let its : arcs ≡ map (moved (length (layer_of rows (k + 1)))) root.arcs = ap (λ l. map (moved (length (layer_of rows (k + 1)))) (arcs_of_first l)) first in
          let enough : IsEnough best d.first_reduced (k + 0) root (rest_of best root.value) = record {
            rest = at-most-self (rest_of best root.value);
            suffix = λ e. absurd (not-deep dp best w rows q rest d s (k + 0 + 1) (omega arith) d.first_reduced refl e);
          } in
          let kept : layer_of (needed_layers best (length q.prefix) d d.first_reduced) (suc 0) ≡ layer_of d.layers (suc 0) = needed-above best (length q.prefix) d d.first_reduced (suc 0) (λ x f. (let r = reducible dp q.prefix w best x (sym s.diagram.first_reduced ∙ f) in let low = r.below_first in omega arith)) in
          let passes = node-passes dp best w rows q rest d s 0 (omega arith) root has (rest_of best root.value) enough kept in
          let at-k : Passes dp k (layer_of (explored dp best q d rows) (k + 1)) (row_with (rest_of best root.value) root (Some (map (moved (length (layer_of rows (k + 1)))) root.arcs))) =
          subst (λ n. Passes dp n (layer_of (explored dp best q d rows) (n + 1)) (row_with (rest_of best root.value) root (Some (map (moved (length (layer_of rows (n + 1)))) root.arcs)))) (add-zero k) passes in
          let Row : Option ℤ → List ℤ → List CoverArc → CoverRow = λ b ws xs. record { bound = b; words = ws; arcs = Some xs } in
          let is : Row (rest_of best root.value) root.row (map (moved (length (layer_of rows (k + 1)))) root.arcs) ≡ r =
          ap (λ b. Row b root.row (map (moved (length (layer_of rows (k + 1)))) root.arcs)) (sym bound)
          ∙ (ap (λ ws. Row g.row.bound ws (map (moved (length (layer_of rows (k + 1)))) root.arcs)) (sym words) ∙ (ap (λ xs. Row g.row.bound g.row.words xs) (sym its) ∙ sym g.is)) in
          inl (subst (λ x. Passes dp k (layer_of (explored dp best q d rows) (k + 1)) x) is at-k))
    ]

-- the row of a further node
new-fine : (dp : Dp) (best : Option ℤ) (w : ℕ) (rows : List (List CoverRow)) (q : Waiting) (rest : List Waiting) (d : DdLayers) → IsStep dp best w rows q rest d → (j m : ℕ) → j ≤ dp.vars → j ≡ length q.prefix + suc m → (t : ℕ) (node : DdNode) → slice_get (layer_of (needed_layers best (length q.prefix) d d.first_reduced) (suc m)) t ≡ Some node
    → Passes dp j (layer_of (explored dp best q d rows) (j + 1)) (row_for dp best d.first_reduced j (length (layer_of rows (j + 1))) node) ⊎ OneOf (IsAt j (length (layer_of rows j) + t)) (rest ++ waiting_after best q d rows d.first_reduced)
new-fine dp best w rows q rest d s j m low place t node gets =
    let at = needed-in best (length q.prefix) d d.first_reduced (suc m) t node gets in
    let k = length q.prefix + suc m in
    let i = length (layer_of rows j) + t in
    let before = length (layer_of rows (j + 1)) in
    let has = Has-at (layer_of d.layers (suc m)) t node at in
    let claim = claim_of best (is_deep d.first_reduced j) node in
    let after = layer_of (explored dp best q d rows) (j + 1) in
    let Goal : Type 0 = Passes dp j after (row_for dp best d.first_reduced j before node) ⊎ OneOf (IsAt j i) (rest ++ waiting_after best q d rows d.first_reduced) in
    let split : (j < dp.vars) ⊎ (j ≡ dp.vars) = grind arith in
    elim split as (λ _. Goal) [
      | inl short ↦ (
          let inside : nat_lt j dp.vars ≡ true = grind arith in
          elim (not (is_last_exact d.first_reduced j && leads_above best node)) as (λ b. not (is_last_exact d.first_reduced j && leads_above best node) ≡ b → Goal) [
            | true ↦ λ e. (
                let passes = node-passes dp best w rows q rest d s (suc m) (omega arith) node has claim (subst (λ n. IsEnough best d.first_reduced n node claim) place (enough-claim best d.first_reduced j node e)) (needed-next best (length q.prefix) d d.first_reduced j (suc m) t node place gets e) in
                let at-j : Passes dp j after (row_with claim node (Some (map (moved before) node.arcs))) = subst (λ n. Passes dp n (layer_of (explored dp best q d rows) (n + 1)) (row_with claim node (Some (map (moved (length (layer_of rows (n + 1)))) node.arcs)))) (sym place) passes in
                let own' : has_arcs dp best d.first_reduced j node ≡ true = rw (inside, e) refl in
                inl (subst (λ b. Passes dp j after (row_with claim node (cond b (Some (map (moved before) node.arcs)) None))) (sym own') at-j))
            | false ↦ λ e. inr (one-right (IsAt j i) rest (waiting_after best q d rows d.first_reduced) (now-waits dp best q d rows j m place t node at (path-deep dp best w rows q rest d s j m low place node has e d.first_reduced refl) e d.first_reduced refl))
          ] refl)
      | inr last ↦ (
          let outside : nat_lt j dp.vars ≡ false = grind arith in
          let bare : has_arcs dp best d.first_reduced j node ≡ false = rw outside refl in
          let state : IsStateOf dp dp.vars node.row = record { layer = omega arith; test = subst (λ n. IsTrue (dp.is_state n node.row)) (sym place ∙ last) (layer-states dp q.prefix w best (length q.prefix) (suc m) d.layers s.diagram.layer node has) } in
          let test = last-claim dp best w rows q rest d s (suc m) (sym place ∙ last) node has d.first_reduced refl in
          let row = row_for dp best d.first_reduced j before node in
          let passes : Passes dp dp.vars after row = passes-last dp s.laws after row state (ap (λ b. cond b (Some (map (moved before) node.arcs)) None) bare) (subst (λ n. IsTrue (is_at_most (Some (pos 0)) (claim_of best (is_deep d.first_reduced n) node))) (sym last) test) in
          inl (subst (λ n. Passes dp n after row) (sym last) passes))
    ]

fine-below : (dp : Dp) (best : Option ℤ) (w : ℕ) (rows : List (List CoverRow)) (q : Waiting) (rest : List Waiting) (d : DdLayers) → IsStep dp best w rows q rest d → (j m : ℕ) → j ≤ dp.vars → j ≡ length q.prefix + suc m → (i : ℕ) (r : CoverRow)
    → slice_get (layer_of rows j ++ map (row_for dp best d.first_reduced j (length (layer_of rows (j + 1)))) (layer_of (needed_layers best (length q.prefix) d d.first_reduced) (suc m))) i ≡ Some r
    → Passes dp j (layer_of (explored dp best q d rows) (j + 1)) r ⊎ OneOf (IsAt j i) (rest ++ waiting_after best q d rows d.first_reduced)
fine-below dp best w rows q rest d s j m low place i r at =
    let new = waiting_after best q d rows d.first_reduced in
    let row = row_for dp best d.first_reduced j (length (layer_of rows (j + 1))) in
    let Goal : CoverRow → ℕ → Type 0 = λ x n. Passes dp j (layer_of (explored dp best q d rows) (j + 1)) x ⊎ OneOf (IsAt j n) (rest ++ new) in
    elim (append-cases (layer_of rows j) (map row (layer_of (needed_layers best (length q.prefix) d d.first_reduced) (suc m))) i r at) as (λ _. Goal r i) [
      | inl old ↦ old-fine dp best w rows q rest d s new j i r old (λ a. (let depth = a.depth in omega arith))
      | inr b ↦ (
          let from = map-cases row (layer_of (needed_layers best (length q.prefix) d d.first_reduced) (suc m)) b.place r b.at in
          let fine = new-fine dp best w rows q rest d s j m low place b.place from.0 from.1 in
          subst (λ n. Goal r n) (sym b.is) (subst (λ x. Goal x (length (layer_of rows j) + b.place)) from.2 fine))
    ]

fine-after : (dp : Dp) (best : Option ℤ) (w : ℕ) (rows : List (List CoverRow)) (q : Waiting) (rest : List Waiting) (d : DdLayers) → IsStep dp best w rows q rest d → (j i : ℕ) (r : CoverRow) → slice_get (layer_of (explored dp best q d rows) j) i ≡ Some r
    → Passes dp j (layer_of (explored dp best q d rows) (j + 1)) r ⊎ OneOf (IsAt j i) (rest ++ waiting_after best q d rows d.first_reduced)
fine-after dp best w rows q rest d s j i r at =
    let new = waiting_after best q d rows d.first_reduced in
    let k = length q.prefix in
    let short = s.draft.waits.0.short in
    let Goal : ℕ → Type 0 = λ n. Passes dp n (layer_of (explored dp best q d rows) (n + 1)) r ⊎ OneOf (IsAt n i) (rest ++ new) in
    let split : (dp.vars < j) ⊎ ((j < k) ⊎ ((j ≡ k) ⊎ ((k < j) × (j ≤ dp.vars)))) = grind arith in
    elim split as (λ _. Goal j) [
      | inl beyond ↦ absurd (
          let long = explored-long dp best q d rows in
          let none : None ≡ Some r = ap (λ l. slice_get l i) (sym (layer-beyond (explored dp best q d rows) j (omega arith))) ∙ at in cc)
      | inr within ↦ elim within as (λ _. Goal j) [
        | inl less ↦ old-fine dp best w rows q rest d s new j i r (ap (λ l. slice_get l i) (sym (above-own dp best q d rows j (omega arith) less)) ∙ at) (λ a. (let depth = a.depth in omega arith))
        | inr more ↦ elim more as (λ _. Goal j) [
          | inl same ↦ subst Goal (sym same) (own-fine dp best w rows q rest d s new i r (ap (λ l. slice_get l i) (sym (own dp best q d rows k (omega arith) refl)) ∙ subst (λ n. slice_get (layer_of (explored dp best q d rows) n) i ≡ Some r) same at))
          | inr below ↦ (
              let over = below.0 in let low = below.1 in
              let place : j ≡ k + suc (j - k - 1) = omega arith in
              fine-below dp best w rows q rest d s j (j - k - 1) low place i r (ap (λ l. slice_get l i) (sym (below-own dp best q d rows j (j - k - 1) low place)) ∙ at))
        ]
      ]
    ]

-- a step leaves a draft
pub stays-draft : (dp : Dp) (best : Option ℤ) (w : ℕ) (rows : List (List CoverRow)) (q : Waiting) (rest : List Waiting) (d : DdLayers) → IsStep dp best w rows q rest d → IsDraft dp best (explored dp best q d rows) (rest ++ waiting_after best q d rows d.first_reduced)
stays-draft dp best w rows q rest d s = record {
  long = explored-long dp best q d rows;
  root = root-kept dp best (layer_of rows 0) (layer_of (explored dp best q d rows) 0) (keeps-after dp best q d rows s.draft.long 0) s.draft.root;
  fine = fine-after dp best w rows q rest d s;
  waits = Each-append (IsWaiting dp best (explored dp best q d rows)) rest (waiting_after best q d rows d.first_reduced)
      (Each-then (IsWaiting dp best rows) (IsWaiting dp best (explored dp best q d rows)) rest (waits-after dp best q d rows s.draft.long) s.draft.waits.1)
      (new-waits dp best w rows q rest d s d.first_reduced refl);
}

-- ---- the start

abbrev no_rows : List CoverRow
no_rows = []

empty-below : (n j : ℕ) → layer_of (replicate n no_rows) j ≡ []
empty-below zero j = refl
empty-below (suc n) zero = refl
empty-below (suc n) (suc j) = empty-below n j

root-within : (value : ℤ) (best : Option ℤ) → IsTrue (is_at_most (add_some (value +ℤ pos 0) (rest_of best value)) best)
root-within value None = refl
root-within value (Some b) = int_le-from ((value +ℤ pos 0) +ℤ (b -ℤ value)) b (omega (arith, ints))

start-root : (dp : Dp) → IsLawful dp → (best : Option ℤ) → IsTrue (has_root dp best (layer_of (start_cover dp best) 0))
start-root dp laws best =
    let state : IsStateOf dp 0 dp.root = record { layer = omega arith; test = laws.states.root } in
    let a : is_state_row dp 0 dp.root ≡ true = state-row dp laws 0 dp.root state in
    let own' : dp.gap 0 dp.root dp.root ≡ Some (pos 0) = laws.gaps.own 0 dp.root state in
    let b : covers_root (dp.gap 0 dp.root dp.root) dp.root_value (rest_of best dp.root_value) best ≡ true = ap (λ o. covers_root o dp.root_value (rest_of best dp.root_value) best) own' ∙ root-within dp.root_value best in
    rw (a, b) refl

-- the row of the root, alone
start-fine : (dp : Dp) → IsLawful dp → (o : Option ℤ) → HoldsAll dp o → (k i : ℕ) (r : CoverRow) → slice_get (layer_of (start_cover dp o) k) i ≡ Some r → Passes dp k (layer_of (start_cover dp o) (k + 1)) r ⊎ OneOf (IsAt k i) (start_waiting dp)
start-fine dp laws o is (suc k) i r at = absurd (let none : None ≡ Some r = ap (λ l. slice_get l i) (sym (empty-below dp.vars k)) ∙ at in cc)
start-fine dp laws o is zero (suc i) r at = absurd (let none : None ≡ Some r = at in cc)
start-fine dp laws o is zero zero r at =
    let row : CoverRow = record { bound = rest_of o dp.root_value; words = dp.root; arcs = None } in
    let same : row ≡ r = same-Some row r at in
    let after = layer_of (start_cover dp o) (0 + 1) in
    elim (nat_eq dp.vars 0) as (λ b. nat_eq dp.vars 0 ≡ b → Passes dp 0 after r ⊎ OneOf (IsAt 0 0) (cond b [] (record { place = 0; prefix = [] } ∷ []))) [
      | false ↦ λ _. inr (inl (record { depth = refl; place = refl }))
      | true ↦ λ e. (
          let none : dp.vars ≡ 0 = grind arith in
          let state : IsStateOf dp dp.vars dp.root = subst (λ n. IsStateOf dp n dp.root) (sym none) (record { layer = omega arith; test = laws.states.root }) in
          let low : AtMost (value_of dp []) o = is [] (record { prefix = tt; whole = sym none }) in
          let value : value_of dp [] ≡ dp.root_value = omega (arith, ints) in
          let test = rest-positive dp.root_value o (subst (λ z. AtMost z o) value low) in
          let passes : Passes dp dp.vars after row = passes-last dp laws after row state refl test in
          inl (subst (λ x. Passes dp 0 after x) same (subst (λ n. Passes dp n after row) none passes)))
    ] refl

start-waits : (dp : Dp) (o : Option ℤ) → Each (IsWaiting dp o (start_cover dp o)) (start_waiting dp)
start-waits dp o =
    elim (nat_eq dp.vars 0) as (λ b. nat_eq dp.vars 0 ≡ b → Each (IsWaiting dp o (start_cover dp o)) (cond b [] (record { place = 0; prefix = [] } ∷ []))) [
      | true ↦ λ _. tt
      | false ↦ λ e. (
          let value : value_of dp [] ≡ dp.root_value = omega (arith, ints) in
          (record { prefix = tt; short = grind arith; row = record { bound = rest_of o dp.root_value; words = dp.root; arcs = None }; at = refl; words = refl; bound = ap (rest_of o) (sym value) }, tt))
    ] refl

pub start-is-draft : (dp : Dp) → IsLawful dp → (o : Option ℤ) → HoldsAll dp o → IsDraft dp o (start_cover dp o) (start_waiting dp)
start-is-draft dp laws o is = record {
  long = (let rest = length-replicate dp.vars no_rows in omega arith);
  root = start-root dp laws o;
  fine = start-fine dp laws o is;
  waits = start-waits dp o;
}

-- ---- the end

rows-pass : (dp : Dp) (k : ℕ) (next : List CoverRow) (i : ℕ) (rows : List CoverRow) → ((t : ℕ) (r : CoverRow) → slice_get rows t ≡ Some r → Passes dp k next r) → rows_fault dp k next i rows ≡ None
rows-pass dp k next i [] all = refl
rows-pass dp k next i (row ∷ rows) all =
    first-both (row_fault dp k i next row) (rows_fault dp k next (i + 1) rows) (all 0 row refl i) (rows-pass dp k next (i + 1) rows (λ t r at. all (suc t) r at))

first-is : (layers : List (List CoverRow)) → layer_of layers 0 ≡ first_layer layers
first-is [] = refl
first-is (layer ∷ layers) = refl

layers-pass : (dp : Dp) (k : ℕ) (layers : List (List CoverRow)) → ((m t : ℕ) (r : CoverRow) → slice_get (layer_of layers m) t ≡ Some r → Passes dp (k + m) (layer_of layers (suc m)) r) → layers_fault dp k layers ≡ None
layers-pass dp k [] all = refl
layers-pass dp k (layer ∷ more) all =
    first-both (rows_fault dp k (first_layer more) 0 layer) (layers_fault dp (k + 1) more)
    (rows-pass dp k (first_layer more) 0 layer (λ t r at. subst (λ n. Passes dp n (first_layer more) r) (add-zero k) (subst (λ l. Passes dp (k + 0) l r) (first-is more) (all 0 t r at))))
    (layers-pass dp (k + 1) more (λ m t r at. (let e : k + suc m ≡ k + 1 + m = omega arith in subst (λ n. Passes dp n (layer_of more (suc m)) r) e (all (suc m) t r at))))

-- a draft in which nothing waits is accepted
pub whole-draft : (dp : Dp) (best : Option ℤ) (rows : List (List CoverRow)) → IsDraft dp best rows [] → checked_rows dp best rows ≡ None
whole-draft dp best rows h =
    let long = h.long in
    let count : nat_eq (length rows) (dp.vars + 1) ≡ true = grind arith in
    let root : IsTrue (has_root dp best (first_layer rows)) = subst (λ l. IsTrue (has_root dp best l)) (first-is rows) h.root in
    cond-holds (nat_eq (length rows) (dp.vars + 1)) (cover_fault dp best rows) (Some Layers) count
    (first-both (unless (has_root dp best (first_layer rows)) Root) (layers_fault dp 0 rows) (unless-holds (has_root dp best (first_layer rows)) Root root)
    (layers-pass dp 0 rows (λ m t r at. elim (h.fine m t r at) as (λ _. Passes dp (0 + m) (layer_of rows (suc m)) r) [
      | inl passes ↦ (let a : m ≡ 0 + m = omega arith in let b : m + 1 ≡ suc m = omega arith in subst (λ n. Passes dp n (layer_of rows (suc m)) r) a (subst (λ n. Passes dp m (layer_of rows n) r) b passes))
      | inr never ↦ absurd never
    ])))

-- ---- from the start to the end

explored-is-draft : (dp : Dp) → IsLawful dp → (o : Option ℤ) → HoldsAll dp o → (w : ℕ) (ds : List DdLayers) (rows : List (List CoverRow)) (waiting : List Waiting) (cover : List (List CoverRow)) → IsDraft dp o rows waiting → Explores dp o w ds rows waiting cover → checked_rows dp o cover ≡ None
explored-is-draft dp laws o is w [] rows [] cover h e = subst (λ c. checked_rows dp o c ≡ None) e (whole-draft dp o rows h)
explored-is-draft dp laws o is w [] rows (q ∷ rest) cover h e = absurd e
explored-is-draft dp laws o is w (d ∷ ds) rows [] cover h e = absurd e
explored-is-draft dp laws o is w (d ∷ ds) rows (q ∷ rest) cover h e =
    explored-is-draft dp laws o is w ds (explored dp o q d rows) (rest ++ waiting_after o q d rows d.first_reduced) cover
    (stays-draft dp o w rows q rest d (record { laws = laws; most = is; draft = h; diagram = e.0 })) e.1

-- the cover of an exploration with a threshold that holds all feasible solutions is accepted
pub exploration-accepted : (dp : Dp) → IsLawful dp → (claim : Option ℤ) → HoldsAll dp claim → (w : ℕ) (ds : List DdLayers) (cover : List (List CoverRow)) → Explores dp claim w ds (start_cover dp claim) (start_waiting dp) cover → checked_rows dp claim cover ≡ None
exploration-accepted dp laws claim most w ds cover e =
    explored-is-draft dp laws claim most w ds (start_cover dp claim) (start_waiting dp) cover (start-is-draft dp laws claim most) e

-- the best value holds all
pub best-holds : (dp : Dp) (o : Option ℤ) → IsBest dp o → HoldsAll dp o
best-holds dp None is = λ x h. absurd (is x h)
best-holds dp (Some v) is = λ x h. is.most x h
