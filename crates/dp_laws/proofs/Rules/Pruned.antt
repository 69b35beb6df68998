-- A layer that is pruned.
use Rattle.std.proofs.Common.{◌≡◌, ℕ, zero, suc, ◌+◌, ◌≤◌, nat_le, ℤ, pos, ◌+ℤ◌, ◌≤ℤ◌, int_le, Bool, true, false, cond, not, ◌&&◌, List, [], ◌∷◌, ◌++◌, length, slice_get, Option, Some, None, ◌⊎◌, inl, inr, IsTrue, refl, sym, ◌∙◌, ap, subst, arith, append_assoc, length-append, add-zero, zero-add}
use Rattle.std.proofs.lemmas.Int.{ints}
use Rattle.dp_model.specs.Dp.{Dp}
use Rattle.dp_model.specs.Gaps.{IsStateOf}
use Rattle.dp_model.specs.Laws.{IsLawful}
use Rattle.dp_model.specs.Lists.{Each}
use Rattle.dp_model.proofs.Members.{Has, each-has, each-of-all, Each-append, Each-then}
use Rattle.dp_laws.specs.Pairs.{EachTwo}
use Rattle.dp_laws.specs.Diagrams.Nodes.{DdNode}
use Rattle.dp_laws.proofs.Diagrams.Places.{same-Some, slice_get-append, slice_get-last}
use Rattle.dp_laws.specs.Rules.Redirects.{Redirect}
use Rattle.dp_laws.specs.Rules.Pruning.{Leader, redirect_within, first_redirect, at_leader, is_struck, leaders_past, pruned_nodes, prune_redirects}
use Rattle.dp_laws.proofs.Rules.Redirecting.{GoesTo, GoesWhole, AreRedirects}
use Rattle.dp_laws.proofs.Rules.Layers.{Differ, AreNodes}
use Rattle.dp_model.specs.declared.limits.TheConstants.{MOST_LEADERS}

-- a leader is one of the nodes that stay
pub record IsLeader (done : List DdNode) (a : Leader) : Type 0 where
  pub node : DdNode
  pub at : slice_get done a.place ≡ Some node
  pub row : node.row ≡ a.row
  pub value : node.value ≡ a.value

-- the leader at which a node goes
pub record LedBy (dp : Dp) (k : ℕ) (leaders : List Leader) (node : DdNode) (l : Redirect) : Type 0 where
  pub leader : Leader
  pub has : Has leader leaders
  pub place : l.place ≡ leader.place
  pub gap : dp.gap k leader.row node.row ≡ Some l.longer
  pub value : (node.value +ℤ l.longer) ≤ℤ leader.value

within-is : (place : ℕ) (gap : Option ℤ) (above number : ℤ) (l : Redirect) → redirect_within place gap above number ≡ Some l → (gap ≡ Some l.longer) × (l.place ≡ place) × ((number +ℤ l.longer) ≤ℤ above)
within-is place None above number l e = absurd (let none : None ≡ Some l = e in cc)
within-is place (Some g) above number l e =
    elim (int_le (number +ℤ g) above) as (λ b. int_le (number +ℤ g) above ≡ b → cond b (Some (record { place = place; longer = g })) None ≡ Some l → (Some g ≡ Some l.longer) × (l.place ≡ place) × ((number +ℤ l.longer) ≤ℤ above)) [
      | true ↦ λ t h. (
          let same = same-Some (record { place = place; longer = g }) l h in
          let longer : g ≡ l.longer = ap (λ (x : Redirect). x.longer) same in
          let low : (number +ℤ g) ≤ℤ above = grind (arith, ints) in
          (ap Some longer, sym (ap (λ (x : Redirect). x.place) same), subst (λ z. (number +ℤ z) ≤ℤ above) longer low))
      | false ↦ λ t h. absurd (let none : None ≡ Some l = h in cc)
    ] refl e

first-is : (one other : Option Redirect) (l : Redirect) → first_redirect one other ≡ Some l → (one ≡ Some l) ⊎ (other ≡ Some l)
first-is None other l e = inr e
first-is (Some x) other l e = inl e

led-by : (dp : Dp) (k : ℕ) (leaders : List Leader) (node : DdNode) (l : Redirect) → at_leader dp k leaders node ≡ Some l → LedBy dp k leaders node l
led-by dp k [] node l e = absurd (let none : None ≡ Some l = e in cc)
led-by dp k (a ∷ leaders) node l e =
    elim (first-is (redirect_within a.place (dp.gap k a.row node.row) a.value node.value) (at_leader dp k leaders node) l e) as (λ _. LedBy dp k (a ∷ leaders) node l) [
      | inl here ↦ (let w = within-is a.place (dp.gap k a.row node.row) a.value node.value l here in record { leader = a; has = inl refl; place = w.1; gap = w.0; value = w.2 })
      | inr later ↦ (let b = led-by dp k leaders node l later in record { leader = b.leader; has = inr b.has; place = b.place; gap = b.gap; value = b.value })
    ]

-- How a layer goes, beside the nodes that stay already.

-- the node at the place goes as its redirect says
abbrev Goes : Dp → ℕ → Option ℤ → List DdNode → DdNode → Option Redirect → Type 0
Goes dp k t next y None = IsTrue (is_struck dp k t y)
Goes dp k t next y (Some l) = GoesTo dp k next y l

-- the redirect at the place, and that it is right
pub record HasRedirect (dp : Dp) (k : ℕ) (t : Option ℤ) (next : List DdNode) (redirects : List (Option Redirect)) (i : ℕ) (y : DdNode) : Type 0 where
  pub redirect : Option Redirect
  pub at : slice_get redirects i ≡ Some redirect
  pub goes : Goes dp k t next y redirect

leaders-more : (done : List DdNode) (node : DdNode) (leaders : List Leader) → Each (IsLeader done) leaders → Each (IsLeader (done ++ node ∷ [])) leaders
leaders-more done node leaders h = Each-then (IsLeader done) (IsLeader (done ++ node ∷ [])) leaders (λ a l. record { node = l.node; at = slice_get-append done (node ∷ []) a.place l.node l.at; row = l.row; value = l.value }) h

leaders-led : (done : List DdNode) (node : DdNode) (leaders : List Leader) (place : ℕ) → length done ≡ place → Each (IsLeader done) leaders → Each (IsLeader (done ++ node ∷ [])) (leaders_past leaders place node)
leaders-led done node leaders place long h =
    let more = leaders-more done node leaders h in
    let new : IsLeader (done ++ node ∷ []) (record { place = place; row = node.row; value = node.value }) = record { node = node; at = slice_get-last done node place long; row = refl; value = refl } in
    elim (node.exact && not (nat_le MOST_LEADERS (length leaders))) as (λ b. Each (IsLeader (done ++ node ∷ [])) (cond b (leaders ++ record { place = place; row = node.row; value = node.value } ∷ []) leaders)) [
      | true ↦ Each-append (IsLeader (done ++ node ∷ [])) leaders (record { place = place; row = node.row; value = node.value } ∷ []) more (new, tt)
      | false ↦ more
    ]

shift : (dp : Dp) (k : ℕ) (t : Option ℤ) (next : List DdNode) (redirects : List (Option Redirect)) (o : Option Redirect) (i : ℕ) (y : DdNode) → HasRedirect dp k t next redirects i y → HasRedirect dp k t next (o ∷ redirects) (suc i) y
shift dp k t next redirects o i y h = record { redirect = h.redirect; at = h.at; goes = h.goes }

at-leader-goes : (dp : Dp) (k : ℕ) (t : Option ℤ) (done rest : List DdNode) (leaders : List Leader) (node : DdNode) (l : Redirect) → Each (IsLeader done) leaders → at_leader dp k leaders node ≡ Some l → GoesTo dp k (done ++ rest) node l
at-leader-goes dp k t done rest leaders node l h e =
    let b = led-by dp k leaders node l e in
    let a = each-has (IsLeader done) leaders b.leader h b.has in
    let value = b.value in let same = a.value in
    record {
      node = a.node;
      at = slice_get-append done rest l.place a.node (ap (slice_get done) b.place ∙ a.at);
      gap = ap (λ r. dp.gap k r node.row) a.row ∙ b.gap;
      value = omega (arith, ints);
    }

stays-goes : (dp : Dp) → IsLawful dp → (k : ℕ) (done rest : List DdNode) (place : ℕ) (node : DdNode) → length done ≡ place → IsStateOf dp k node.row → GoesTo dp k (done ++ node ∷ rest) node (record { place = place; longer = pos 0 })
stays-goes dp laws k done rest place node long state = record {
  node = node;
  at = (let whole = append_assoc done (node ∷ []) rest in ap (λ l. slice_get l place) (sym whole) ∙ slice_get-append (done ++ node ∷ []) rest place node (slice_get-last done node place long));
  gap = laws.gaps.own k node.row state;
  value = omega (arith, ints);
}

-- The three cases of a node.

module _ (dp : Dp) (k : ℕ) (t : Option ℤ) (leaders : List Leader) (place : ℕ) (node : DdNode) (nodes : List DdNode) where
  struck-nodes : is_struck dp k t node ≡ true → pruned_nodes dp k t leaders place (node ∷ nodes) ≡ pruned_nodes dp k t leaders place nodes
  struck-nodes e = rw e refl

  struck-redirects : is_struck dp k t node ≡ true → prune_redirects dp k t leaders place (node ∷ nodes) ≡ None ∷ prune_redirects dp k t leaders place nodes
  struck-redirects e = rw e refl

  led-nodes : (l : Redirect) → is_struck dp k t node ≡ false → at_leader dp k leaders node ≡ Some l → pruned_nodes dp k t leaders place (node ∷ nodes) ≡ pruned_nodes dp k t leaders place nodes
  led-nodes l e f = rw (e, f) refl

  led-redirects : (l : Redirect) → is_struck dp k t node ≡ false → at_leader dp k leaders node ≡ Some l → prune_redirects dp k t leaders place (node ∷ nodes) ≡ Some l ∷ prune_redirects dp k t leaders place nodes
  led-redirects l e f = rw (e, f) refl

  stays-nodes : is_struck dp k t node ≡ false → at_leader dp k leaders node ≡ None → pruned_nodes dp k t leaders place (node ∷ nodes) ≡ node ∷ pruned_nodes dp k t (leaders_past leaders place node) (place + 1) nodes
  stays-nodes e f = rw (e, f) refl

  stays-redirects : is_struck dp k t node ≡ false → at_leader dp k leaders node ≡ None → prune_redirects dp k t leaders place (node ∷ nodes) ≡ Some (record { place = place; longer = pos 0 }) ∷ prune_redirects dp k t (leaders_past leaders place node) (place + 1) nodes
  stays-redirects e f = rw (e, f) refl

  -- what holds in each of the three cases holds
  by-case : (P : List DdNode → List (Option Redirect) → Type 0)
      → (is_struck dp k t node ≡ true → P (pruned_nodes dp k t leaders place nodes) (None ∷ prune_redirects dp k t leaders place nodes))
      → ((l : Redirect) → at_leader dp k leaders node ≡ Some l → P (pruned_nodes dp k t leaders place nodes) (Some l ∷ prune_redirects dp k t leaders place nodes))
      → P (node ∷ pruned_nodes dp k t (leaders_past leaders place node) (place + 1) nodes) (Some (record { place = place; longer = pos 0 }) ∷ prune_redirects dp k t (leaders_past leaders place node) (place + 1) nodes)
      → P (pruned_nodes dp k t leaders place (node ∷ nodes)) (prune_redirects dp k t leaders place (node ∷ nodes))
  by-case P struck to_leader stays =
      let second : is_struck dp k t node ≡ false → (o : Option Redirect) → at_leader dp k leaders node ≡ o → P (pruned_nodes dp k t leaders place (node ∷ nodes)) (prune_redirects dp k t leaders place (node ∷ nodes)) = λ e o.
      elim o as (λ o. at_leader dp k leaders node ≡ o → P (pruned_nodes dp k t leaders place (node ∷ nodes)) (prune_redirects dp k t leaders place (node ∷ nodes))) [
        | None ↦ λ f. subst (λ ns. P ns (prune_redirects dp k t leaders place (node ∷ nodes))) (sym (stays-nodes e f)) (subst (P (node ∷ pruned_nodes dp k t (leaders_past leaders place node) (place + 1) nodes)) (sym (stays-redirects e f)) stays)
        | Some l ↦ λ f. subst (λ ns. P ns (prune_redirects dp k t leaders place (node ∷ nodes))) (sym (led-nodes l e f)) (subst (P (pruned_nodes dp k t leaders place nodes)) (sym (led-redirects l e f)) (to_leader l f))
      ] in
      let first : (b : Bool) → is_struck dp k t node ≡ b → P (pruned_nodes dp k t leaders place (node ∷ nodes)) (prune_redirects dp k t leaders place (node ∷ nodes)) = λ b.
      elim b as (λ b. is_struck dp k t node ≡ b → P (pruned_nodes dp k t leaders place (node ∷ nodes)) (prune_redirects dp k t leaders place (node ∷ nodes))) [
        | true ↦ λ e. subst (λ ns. P ns (prune_redirects dp k t leaders place (node ∷ nodes))) (sym (struck-nodes e)) (subst (P (pruned_nodes dp k t leaders place nodes)) (sym (struck-redirects e)) (struck e))
        | false ↦ λ e. second e (at_leader dp k leaders node) refl
      ] in
      first (is_struck dp k t node) refl

-- All arcs are redirected.

prune-goes : (dp : Dp) → IsLawful dp → (k : ℕ) (t : Option ℤ) (leaders : List Leader) (place : ℕ) (done nodes : List DdNode) → length done ≡ place → Each (IsLeader done) leaders → ((x : DdNode) → Has x nodes → IsStateOf dp k x.row)
    → (i : ℕ) (y : DdNode) → slice_get nodes i ≡ Some y → HasRedirect dp k t (done ++ pruned_nodes dp k t leaders place nodes) (prune_redirects dp k t leaders place nodes) i y
prune-goes dp laws k t leaders place done [] long h states i y at = absurd (let none : None ≡ Some y = at in cc)
prune-goes dp laws k t leaders place done (node ∷ nodes) long h states zero y at =
    let same : node ≡ y = same-Some node y at in
    subst (λ (n : DdNode). HasRedirect dp k t (done ++ pruned_nodes dp k t leaders place (node ∷ nodes)) (prune_redirects dp k t leaders place (node ∷ nodes)) 0 n) same
    (by-case dp k t leaders place node nodes (λ ns ls. HasRedirect dp k t (done ++ ns) ls 0 node)
    (λ e. record { redirect = None; at = refl; goes = e })
    (λ l e. record { redirect = Some l; at = refl; goes = at-leader-goes dp k t done (pruned_nodes dp k t leaders place nodes) leaders node l h e })
    (record { redirect = Some (record { place = place; longer = pos 0 }); at = refl; goes = stays-goes dp laws k done (pruned_nodes dp k t (leaders_past leaders place node) (place + 1) nodes) place node long (states node (inl refl)) }))
prune-goes dp laws k t leaders place done (node ∷ nodes) long h states (suc i) y at =
    by-case dp k t leaders place node nodes (λ ns ls. HasRedirect dp k t (done ++ ns) ls (suc i) y)
    (λ e. shift dp k t (done ++ pruned_nodes dp k t leaders place nodes) (prune_redirects dp k t leaders place nodes) None i y (prune-goes dp laws k t leaders place done nodes long h (λ x has. states x (inr has)) i y at))
    (λ l e. shift dp k t (done ++ pruned_nodes dp k t leaders place nodes) (prune_redirects dp k t leaders place nodes) (Some l) i y (prune-goes dp laws k t leaders place done nodes long h (λ x has. states x (inr has)) i y at))
    (let more = done ++ node ∷ [] in
    let rest = pruned_nodes dp k t (leaders_past leaders place node) (place + 1) nodes in
    let ih = prune-goes dp laws k t (leaders_past leaders place node) (place + 1) more nodes (length-append done (node ∷ []) ∙ omega arith) (leaders-led done node leaders place long h) (λ x has. states x (inr has)) i y at in
    let whole : more ++ rest ≡ done ++ node ∷ rest = append_assoc done (node ∷ []) rest in
    shift dp k t (done ++ node ∷ rest) (prune_redirects dp k t (leaders_past leaders place node) (place + 1) nodes) (Some (record { place = place; longer = pos 0 })) i y
    (subst (λ ns. HasRedirect dp k t ns (prune_redirects dp k t (leaders_past leaders place node) (place + 1) nodes) i y) whole ih))

-- Each node that stays goes whole.

later-whole : (nodes : List DdNode) (redirects : List (Option Redirect)) (node : DdNode) (o : Option Redirect) (place : ℕ) (y : DdNode) → GoesWhole nodes redirects place y → GoesWhole (node ∷ nodes) (o ∷ redirects) place y
later-whole nodes redirects node o place y w = record { from = suc w.from; old = w.old; at = w.at; longer = w.longer; goes = w.goes; value = w.value }

prune-whole : (dp : Dp) (k : ℕ) (t : Option ℤ) (leaders : List Leader) (place : ℕ) (nodes : List DdNode) (j : ℕ) (y : DdNode) → slice_get (pruned_nodes dp k t leaders place nodes) j ≡ Some y → GoesWhole nodes (prune_redirects dp k t leaders place nodes) (place + j) y
prune-whole dp k t leaders place [] j y at = absurd (let none : None ≡ Some y = at in cc)
prune-whole dp k t leaders place (node ∷ nodes) j y at =
    by-case dp k t leaders place node nodes (λ ns ls. slice_get ns j ≡ Some y → GoesWhole (node ∷ nodes) ls (place + j) y)
    (λ e at. later-whole nodes (prune_redirects dp k t leaders place nodes) node None (place + j) y (prune-whole dp k t leaders place nodes j y at))
    (λ l e at. later-whole nodes (prune_redirects dp k t leaders place nodes) node (Some l) (place + j) y (prune-whole dp k t leaders place nodes j y at))
    (elim j as (λ j. slice_get (node ∷ pruned_nodes dp k t (leaders_past leaders place node) (place + 1) nodes) j ≡ Some y → GoesWhole (node ∷ nodes) (Some (record { place = place; longer = pos 0 }) ∷ prune_redirects dp k t (leaders_past leaders place node) (place + 1) nodes) (place + j) y) [
      | zero ↦ λ at. record { from = 0; old = node; at = refl; longer = pos 0; goes = ap (λ n. Some (Some (record { place = n; longer = pos 0 }))) (sym (add-zero place)); value = (let same = ap (λ (n : DdNode). n.value) (same-Some node y at) in omega (arith, ints)) }
      | suc i ↦ λ at. (
          let e : place + 1 + i ≡ place + suc i = omega arith in
          later-whole nodes (prune_redirects dp k t (leaders_past leaders place node) (place + 1) nodes) node (Some (record { place = place; longer = pos 0 })) (place + suc i) y
          (subst (λ n. GoesWhole nodes (prune_redirects dp k t (leaders_past leaders place node) (place + 1) nodes) n y) e (prune-whole dp k t (leaders_past leaders place node) (place + 1) nodes i y at)))
    ]) at

-- The nodes that stay are nodes of the layer.

pub pruned-has : (dp : Dp) (k : ℕ) (t : Option ℤ) (leaders : List Leader) (place : ℕ) (nodes : List DdNode) (x : DdNode) → Has x (pruned_nodes dp k t leaders place nodes) → Has x nodes
pruned-has dp k t leaders place [] x h = absurd h
pruned-has dp k t leaders place (node ∷ nodes) x h =
    by-case dp k t leaders place node nodes (λ ns ls. Has x ns → Has x (node ∷ nodes))
    (λ e h. inr (pruned-has dp k t leaders place nodes x h))
    (λ l e h. inr (pruned-has dp k t leaders place nodes x h))
    (λ h. elim h as (λ _. Has x (node ∷ nodes)) [ inl same ↦ inl same | inr later ↦ inr (pruned-has dp k t (leaders_past leaders place node) (place + 1) nodes x later) ]) h

module _ (R : DdNode → DdNode → Type 0) where
  pub pruned-two : (dp : Dp) (k : ℕ) (t : Option ℤ) (leaders : List Leader) (place : ℕ) (nodes : List DdNode) → EachTwo R nodes → EachTwo R (pruned_nodes dp k t leaders place nodes)
  pruned-two dp k t leaders place [] h = tt
  pruned-two dp k t leaders place (node ∷ nodes) h =
      by-case dp k t leaders place node nodes (λ ns ls. EachTwo R ns)
      (λ e. pruned-two dp k t leaders place nodes h.1)
      (λ l e. pruned-two dp k t leaders place nodes h.1)
      (each-of-all (R node) (pruned_nodes dp k t (leaders_past leaders place node) (place + 1) nodes) (λ x has. each-has (R node) nodes x h.0 (pruned-has dp k t (leaders_past leaders place node) (place + 1) nodes x has)), pruned-two dp k t (leaders_past leaders place node) (place + 1) nodes h.1)

pub pruned-nodes : (dp : Dp) (p : List ℕ) (k : ℕ) (t : Option ℤ) (layer : List DdNode) → AreNodes dp p k layer → AreNodes dp p k (pruned_nodes dp k t [] 0 layer)
pruned-nodes dp p k t layer h = record {
  states = λ x has. h.states x (pruned-has dp k t [] 0 layer x has);
  reached = λ x has exact. h.reached x (pruned-has dp k t [] 0 layer x has) exact;
  differ = pruned-two Differ dp k t [] 0 layer h.differ;
}

-- a redirect of a pruned layer, by what it is
redirect-is : (dp : Dp) (k : ℕ) (t : Option ℤ) (next : List DdNode) (redirects : List (Option Redirect)) (i : ℕ) (y : DdNode) (l : Redirect) → HasRedirect dp k t next redirects i y → slice_get redirects i ≡ Some (Some l) → GoesTo dp k next y l
redirect-is dp k t next redirects i y l h e = subst (Goes dp k t next y) (same-Some h.redirect (Some l) (sym h.at ∙ e)) h.goes

pub prune-redirects : (dp : Dp) → IsLawful dp → (p : List ℕ) (k : ℕ) (t : Option ℤ) (layer : List DdNode) → AreNodes dp p k layer → k ≤ dp.vars → AreRedirects dp k layer (pruned_nodes dp k t [] 0 layer) (prune_redirects dp k t [] 0 layer)
prune-redirects dp laws p k t layer h low =
    let states : (x : DdNode) → Has x layer → IsStateOf dp k x.row = λ x has. record { layer = low; test = h.states x has } in
    record {
      goes = λ i y l at e. redirect-is dp k t (pruned_nodes dp k t [] 0 layer) (prune_redirects dp k t [] 0 layer) i y l (prune-goes dp laws k t [] 0 [] layer refl tt states i y at) e;
      all = λ i y at. (let l = prune-goes dp laws k t [] 0 [] layer refl tt states i y at in (l.redirect, l.at));
      whole = λ j y at. subst (λ n. GoesWhole layer (prune_redirects dp k t [] 0 layer) n y) (zero-add j) (prune-whole dp k t [] 0 layer j y at);
    }

pub pruned-goes : (dp : Dp) → IsLawful dp → (k : ℕ) (t : Option ℤ) (layer : List DdNode) → ((x : DdNode) → Has x layer → IsStateOf dp k x.row)
    → (i : ℕ) (y : DdNode) (l : Redirect) → slice_get layer i ≡ Some y → slice_get (prune_redirects dp k t [] 0 layer) i ≡ Some (Some l) → GoesTo dp k (pruned_nodes dp k t [] 0 layer) y l
pruned-goes dp laws k t layer states i y l at e =
    redirect-is dp k t (pruned_nodes dp k t [] 0 layer) (prune_redirects dp k t [] 0 layer) i y l (prune-goes dp laws k t [] 0 [] layer refl tt states i y at) e

pub few-pruned : (dp : Dp) (k : ℕ) (t : Option ℤ) (leaders : List Leader) (place : ℕ) (nodes : List DdNode) → length (pruned_nodes dp k t leaders place nodes) ≤ length nodes
few-pruned dp k t leaders place [] = omega arith
few-pruned dp k t leaders place (node ∷ nodes) =
    by-case dp k t leaders place node nodes (λ ns ls. length ns ≤ length (node ∷ nodes))
    (λ e. let less = few-pruned dp k t leaders place nodes in omega arith)
    (λ l e. let less = few-pruned dp k t leaders place nodes in omega arith)
    (let less = few-pruned dp k t (leaders_past leaders place node) (place + 1) nodes in omega arith)

-- a node without a redirect is struck
pub struck-node : (dp : Dp) → IsLawful dp → (p : List ℕ) (k : ℕ) (t : Option ℤ) (layer : List DdNode) → AreNodes dp p k layer → k ≤ dp.vars → (i : ℕ) (y : DdNode) → slice_get layer i ≡ Some y → slice_get (prune_redirects dp k t [] 0 layer) i ≡ Some None → IsTrue (is_struck dp k t y)
struck-node dp laws p k t layer h low i y at e =
    let states : (x : DdNode) → Has x layer → IsStateOf dp k x.row = λ x has. record { layer = low; test = h.states x has } in
    let l = prune-goes dp laws k t [] 0 [] layer refl tt states i y at in
    subst (Goes dp k t (pruned_nodes dp k t [] 0 layer) y) (same-Some l.redirect None (sym l.at ∙ e)) l.goes
