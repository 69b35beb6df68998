-- Arcs that are redirected when nodes of a layer are taken out.
use Rattle.std.proofs.Common.{◌≡◌, ℕ, ◌+◌, ℤ, ◌+ℤ◌, ◌≤ℤ◌, List, [], ◌∷◌, map, slice_get, Option, Some, None, option_and_then, IsTrue, refl, sym, ◌∙◌, ap, subst, arith}
use Rattle.std.proofs.lemmas.Int.{ints}
use Rattle.dp_model.specs.Dp.{Dp}
use Rattle.dp_model.specs.Gaps.{is_struck_by, IsStateOf}
use Rattle.dp_model.specs.Laws.{IsChained}
use Rattle.dp_model.specs.Lists.{Each}
use Rattle.dp_model.proofs.Members.{Has, Has-map, Has-map-from}
use Rattle.dp_laws.specs.declared.arc.DdArc.{DdArc}
use Rattle.dp_laws.specs.Diagrams.Nodes.{DdNode}
use Rattle.dp_laws.specs.Diagrams.Seen.{HasArcs, CoversWithin, Leads, LeadsTo}
use Rattle.dp_laws.proofs.Diagrams.Places.{same-Some, Has-at}
use Rattle.dp_laws.specs.Rules.Redirects.{Redirect, redirected_by, redirected, with_redirected}
use Rattle.dp_laws.proofs.Rules.Linked.{IsLength, IsLongest, AreLinked}

-- a node goes at a node that covers it, within what its arcs are lengthened by, and whose value is as much more
pub record GoesTo (dp : Dp) (k : ℕ) (next' : List DdNode) (y : DdNode) (l : Redirect) : Type 0 where
  pub node : DdNode
  pub at : slice_get next' l.place ≡ Some node
  pub gap : dp.gap k node.row y.row ≡ Some l.longer
  pub value : (y.value +ℤ l.longer) ≤ℤ node.value

-- a node goes with its whole value at the place
pub record GoesWhole (next : List DdNode) (redirects : List (Option Redirect)) (place : ℕ) (node : DdNode) : Type 0 where
  pub from : ℕ
  pub old : DdNode
  pub at : slice_get next from ≡ Some old
  pub longer : ℤ
  pub goes : slice_get redirects from ≡ Some (Some (record { place = place; longer = longer }))
  pub value : node.value ≡ old.value +ℤ longer

-- the redirects of a layer at depth k, of which each node that stays gets one with its whole value
pub record AreRedirects (dp : Dp) (k : ℕ) (next next' : List DdNode) (redirects : List (Option Redirect)) : Type 0 where
  pub goes : (i : ℕ) (y : DdNode) (l : Redirect) → slice_get next i ≡ Some y → slice_get redirects i ≡ Some (Some l) → GoesTo dp k next' y l
  pub all : (i : ℕ) (y : DdNode) → slice_get next i ≡ Some y → (o : Option Redirect) × (slice_get redirects i ≡ Some o)
  pub whole : (j : ℕ) (y : DdNode) → slice_get next' j ≡ Some y → GoesWhole next redirects j y

-- the arcs whose target has no redirect lead to a state that is struck
abbrev pub AreStruck : Dp → Option ℤ → ℕ → List DdNode → List (Option Redirect) → Type 0
AreStruck dp t k above redirects = (x : DdNode) → Has x above → (arc : DdArc) → Has arc x.arcs → (i : ℕ) → arc.target ≡ Some i → slice_get redirects i ≡ Some None
    → IsTrue (is_struck_by (x.value +ℤ arc.gain) (dp.rough (k + 1) (dp.step k x.row arc.decision)) t)

redirected-decision : (arc : DdArc) (o : Option Redirect) → (redirected_by arc o).decision ≡ arc.decision
redirected-decision arc None = refl
redirected-decision arc (Some l) = refl

redirected-gain : (arc : DdArc) (o : Option Redirect) → (redirected_by arc o).gain ≡ arc.gain
redirected-gain arc None = refl
redirected-gain arc (Some l) = refl

decisions-redirected : (redirects : List (Option Redirect)) (arcs : List DdArc) → map (λ (arc : DdArc). arc.decision) (map (redirected redirects) arcs) ≡ map (λ (arc : DdArc). arc.decision) arcs
decisions-redirected redirects [] = refl
decisions-redirected redirects (arc ∷ arcs) =
    let here = redirected-decision arc (option_and_then (λ i. option_and_then (λ l. l) (slice_get redirects i)) arc.target) in
    let rest = decisions-redirected redirects arcs in
    ap (λ d. d ∷ map (λ (a : DdArc). a.decision) (map (redirected redirects) arcs)) here ∙ ap (λ ds. arc.decision ∷ ds) rest

gains-redirected : (dp : Dp) (k : ℕ) (s : List ℤ) (redirects : List (Option Redirect)) (arcs : List DdArc) → Each (λ (arc : DdArc). arc.gain ≡ dp.gain k s arc.decision) arcs → Each (λ (arc : DdArc). arc.gain ≡ dp.gain k s arc.decision) (map (redirected redirects) arcs)
gains-redirected dp k s redirects [] h = tt
gains-redirected dp k s redirects (arc ∷ arcs) h =
    let o = option_and_then (λ i. option_and_then (λ l. l) (slice_get redirects i)) arc.target in
    (redirected-gain arc o ∙ (h.0 ∙ ap (dp.gain k s) (sym (redirected-decision arc o))), gains-redirected dp k s redirects arcs h.1)

-- How an arc leads on.

leads-redirected-to : (dp : Dp) → IsChained dp → (k : ℕ) (x : DdNode) (arc : DdArc) (y : DdNode) (next' : List DdNode) (l : Redirect) → IsStateOf dp (k + 1) y.row → ((z : DdNode) → Has z next' → IsStateOf dp (k + 1) z.row) → IsStateOf dp (k + 1) (dp.step k x.row arc.decision)
    → (gap : Option ℤ) → dp.gap (k + 1) y.row (dp.step k x.row arc.decision) ≡ gap → CoversWithin gap arc.longer → (h : GoesTo dp (k + 1) next' y l) → CoversWithin (dp.gap (k + 1) h.node.row (dp.step k x.row arc.decision)) (arc.longer +ℤ l.longer)
leads-redirected-to dp chained k x arc y next' l state states step None e covers h = absurd covers
leads-redirected-to dp chained k x arc y next' l state states step (Some g) e covers h =
    let c = chained (k + 1) h.node.row y.row (dp.step k x.row arc.decision) l.longer g (states h.node (Has-at next' l.place h.node h.at)) state step h.gap e in
    let within = c.within in
    let most : g ≤ℤ arc.longer = covers in
    rw c.is (omega (arith, ints))

leads-at : (dp : Dp) → IsChained dp → (t : Option ℤ) (k : ℕ) (x : DdNode) (arc : DdArc) (next' : List DdNode) (l : Redirect) → ((z : DdNode) → Has z next' → IsStateOf dp (k + 1) z.row) → IsStateOf dp (k + 1) (dp.step k x.row arc.decision)
    → (o : Option DdNode) → ((y : DdNode) → o ≡ Some y → IsStateOf dp (k + 1) y.row) → ((y : DdNode) → o ≡ Some y → GoesTo dp (k + 1) next' y l) → LeadsTo dp k x arc o → LeadsTo dp k x (redirected_by arc (Some l)) (slice_get next' l.place)
leads-at dp chained t k x arc next' l states step None state goes leads = absurd leads
leads-at dp chained t k x arc next' l states step (Some y) state goes leads =
    let h = goes y refl in
    rw h.at (leads-redirected-to dp chained k x arc y next' l (state y refl) states step (dp.gap (k + 1) y.row (dp.step k x.row arc.decision)) refl leads h)

target-of : (dp : Dp) (k : ℕ) (x : DdNode) (arc : DdArc) (o : Option DdNode) → LeadsTo dp k x arc o → (y : DdNode) × (o ≡ Some y)
target-of dp k x arc None h = absurd h
target-of dp k x arc (Some y) h = (y, refl)

leads-redirected : (dp : Dp) → IsChained dp → (t : Option ℤ) (k : ℕ) (above next next' : List DdNode) (redirects : List (Option Redirect)) → AreRedirects dp (k + 1) next next' redirects → AreStruck dp t k above redirects
    → ((y : DdNode) → Has y next → IsStateOf dp (k + 1) y.row) → ((z : DdNode) → Has z next' → IsStateOf dp (k + 1) z.row) → (x : DdNode) → Has x above → (arc : DdArc) → Has arc x.arcs → IsStateOf dp (k + 1) (dp.step k x.row arc.decision)
    → (aim : Option ℕ) → arc.target ≡ aim → Leads dp k t x next arc aim → Leads dp k t x next' (redirected redirects arc) (redirected redirects arc).target
leads-redirected dp chained t k above next next' redirects h struck states states' x has arc listed step None e leads =
    let none : redirected redirects arc ≡ redirected_by arc None = ap (λ o. redirected_by arc (option_and_then (λ i. option_and_then (λ l. l) (slice_get redirects i)) o)) e in
    rw none leads
leads-redirected dp chained t k above next next' redirects h struck states states' x has arc listed step (Some i) e leads =
    let to = target-of dp k x arc (slice_get next i) leads in
    let o = h.all i to.0 to.1 in
    let is : redirected redirects arc ≡ redirected_by arc o.0 =
    ap (λ a. redirected_by arc (option_and_then (λ i. option_and_then (λ l. l) (slice_get redirects i)) a)) e ∙ ap (λ a. redirected_by arc (option_and_then (λ l. l) a)) o.1 in
    let Goal : Option Redirect → Type 0 = λ q. Leads dp k t x next' (redirected_by arc q) (redirected_by arc q).target in
    subst (λ (a : DdArc). Leads dp k t x next' a a.target) (sym is)
    (elim o.0 as (λ q. slice_get redirects i ≡ Some q → Goal q) [
      | None ↦ λ none. struck x has arc listed i e none
      | Some l ↦ λ some. leads-at dp chained t k x arc next' l states' step (slice_get next i) (λ y at. states y (Has-at next i y at)) (λ y at. h.goes i y l at some) leads
    ] o.1)

-- How long an arc is.

redirected-as : (redirects : List (Option Redirect)) (arc : DdArc) (i : ℕ) (o : Option Redirect) → arc.target ≡ Some i → slice_get redirects i ≡ Some o → redirected redirects arc ≡ redirected_by arc o
redirected-as redirects arc i o aims at =
    ap (λ a. redirected_by arc (option_and_then (λ i. option_and_then (λ l. l) (slice_get redirects i)) a)) aims ∙ ap (λ a. redirected_by arc (option_and_then (λ l. l) a)) at

-- an arc that leads to a place after redirect led to a node that redirected there
pub record RedirectedFrom (redirects : List (Option Redirect)) (arc : DdArc) (place : ℕ) : Type 0 where
  pub from : ℕ
  pub aims : arc.target ≡ Some from
  pub longer : ℤ
  pub goes : slice_get redirects from ≡ Some (Some (record { place = place; longer = longer }))

redirected-by : (redirects : List (Option Redirect)) (arc : DdArc) (place i : ℕ) → arc.target ≡ Some i → (o : Option (Option Redirect)) → slice_get redirects i ≡ o → (redirected_by arc (option_and_then (λ l. l) o)).target ≡ Some place → RedirectedFrom redirects arc place
redirected-by redirects arc place i aims None at e = absurd (let none : None ≡ Some place = e in cc)
redirected-by redirects arc place i aims (Some None) at e = absurd (let none : None ≡ Some place = e in cc)
redirected-by redirects arc place i aims (Some (Some l)) at e =
    let same : l.place ≡ place = same-Some l.place place e in
    record { from = i; aims = aims; longer = l.longer; goes = at ∙ ap (λ n. Some (Some (record { place = n; longer = l.longer }))) same }

redirected-from : (redirects : List (Option Redirect)) (arc : DdArc) (place : ℕ) → (aim : Option ℕ) → arc.target ≡ aim → (redirected redirects arc).target ≡ Some place → RedirectedFrom redirects arc place
redirected-from redirects arc place None aims e =
    let none : (redirected redirects arc).target ≡ None = ap (λ a. (redirected_by arc (option_and_then (λ i. option_and_then (λ l. l) (slice_get redirects i)) a)).target) aims in
    absurd (let clash : None ≡ Some place = sym none ∙ e in cc)
redirected-from redirects arc place (Some i) aims e =
    let is : (redirected redirects arc).target ≡ (redirected_by arc (option_and_then (λ l. l) (slice_get redirects i))).target =
    ap (λ a. (redirected_by arc (option_and_then (λ i. option_and_then (λ l. l) (slice_get redirects i)) a)).target) aims in
    redirected-by redirects arc place i aims (slice_get redirects i) refl (sym is ∙ e)

-- the node above whose arcs follow
abbrev pub followed_node : List (Option Redirect) → DdNode → DdNode
followed_node redirects node = record node { arcs = map (redirected redirects) node.arcs }

length-redirected : (dp : Dp) (k : ℕ) (above next next' : List DdNode) (redirects : List (Option Redirect)) → AreRedirects dp k next next' redirects → (place : ℕ) (y : DdNode) → slice_get next' place ≡ Some y
    → ((i : ℕ) (old : DdNode) → slice_get next i ≡ Some old → IsLongest above i old.value) → IsLength (with_redirected redirects above) place y.value
length-redirected dp k above next next' redirects h place y at longest =
    let w = h.whole place y at in
    let l = (longest w.from w.old w.at).reached in
    let is : redirected redirects l.arc ≡ redirected_by l.arc (Some (record { place = place; longer = w.longer })) = redirected-as redirects l.arc w.from (Some (record { place = place; longer = w.longer })) l.aims w.goes in
    let value = w.value in let old = l.is in
    subst (λ v. IsLength (with_redirected redirects above) place v) (sym value) (record {
      source = followed_node redirects l.source;
      has = Has-map (followed_node redirects) above l.source l.has;
      arc = redirected_by l.arc (Some (record { place = place; longer = w.longer }));
      listed = subst (λ a. Has a (map (redirected redirects) l.source.arcs)) is (Has-map (redirected redirects) l.source.arcs l.arc l.listed);
      aims = refl;
      is = omega (arith, ints);
    })

most-redirected : (dp : Dp) (t : Option ℤ) (k : ℕ) (above next next' : List DdNode) (redirects : List (Option Redirect)) → AreLinked dp t k above next → AreRedirects dp (k + 1) next next' redirects → (place : ℕ) (y : DdNode) → slice_get next' place ≡ Some y
    → (z : ℤ) → IsLength (with_redirected redirects above) place z → z ≤ℤ y.value
most-redirected dp t k above next next' redirects linked h place y at z l =
    let from = Has-map-from (followed_node redirects) above l.source l.has in
    let arcs : l.source.arcs ≡ map (redirected redirects) from.0.arcs = ap (λ (n : DdNode). n.arcs) (sym from.2) in
    let value : l.source.value ≡ from.0.value = ap (λ (n : DdNode). n.value) (sym from.2) in
    let old = Has-map-from (redirected redirects) from.0.arcs l.arc (subst (λ as_. Has l.arc as_) arcs l.listed) in
    let aims : (redirected redirects old.0).target ≡ Some place = ap (λ (a : DdArc). a.target) old.2 ∙ l.aims in
    let by = redirected-from redirects old.0 place old.0.target refl aims in
    let leads : LeadsTo dp k from.0 old.0 (slice_get next by.from) = subst (λ a. Leads dp k t from.0 next old.0 a) by.aims (linked.leads from.0 from.1 old.0 old.1) in
    let to = target-of dp k from.0 old.0 (slice_get next by.from) leads in
    let goes = h.goes by.from to.0 (record { place = place; longer = by.longer }) to.1 by.goes in
    let node : goes.node ≡ y = same-Some goes.node y (sym goes.at ∙ at) in
    let top = (linked.values by.from to.0 to.1).most (from.0.value +ℤ (old.0.gain +ℤ old.0.longer)) (record { source = from.0; has = from.1; arc = old.0; listed = old.1; aims = by.aims; is = refl }) in
    let is : redirected redirects old.0 ≡ redirected_by old.0 (Some (record { place = place; longer = by.longer })) = redirected-as redirects old.0 by.from (Some (record { place = place; longer = by.longer })) by.aims by.goes in
    let arc : l.arc ≡ redirected_by old.0 (Some (record { place = place; longer = by.longer })) = sym old.2 ∙ is in
    let gain : l.arc.gain ≡ old.0.gain = ap (λ (a : DdArc). a.gain) arc in
    let longer : l.arc.longer ≡ old.0.longer +ℤ by.longer = ap (λ (a : DdArc). a.longer) arc in
    let most = goes.value in let ends = ap (λ (n : DdNode). n.value) node in let z-is = l.is in
    omega (arith, ints)

leads-to-arcless : (dp : Dp) (k : ℕ) (x : DdNode) (redirects : List (Option Redirect)) (arc : DdArc) (o : Option DdNode) → LeadsTo dp k x arc o → LeadsTo dp k (followed_node redirects x) arc o
leads-to-arcless dp k x redirects arc None h = h
leads-to-arcless dp k x redirects arc (Some y) h = h

leads-arcless : (dp : Dp) (k : ℕ) (t : Option ℤ) (x : DdNode) (redirects : List (Option Redirect)) (next : List DdNode) (arc : DdArc) (aim : Option ℕ) → Leads dp k t x next arc aim → Leads dp k t (followed_node redirects x) next arc aim
leads-arcless dp k t x redirects next arc None h = h
leads-arcless dp k t x redirects next arc (Some i) h = leads-to-arcless dp k x redirects arc (slice_get next i) h

-- layers stay linked where the arcs follow the redirects
pub linked-redirected : (dp : Dp) → IsChained dp → (t : Option ℤ) (k : ℕ) (above next next' : List DdNode) (redirects : List (Option Redirect)) → AreLinked dp t k above next → AreRedirects dp (k + 1) next next' redirects → AreStruck dp t k above redirects
    → ((y : DdNode) → Has y next → IsStateOf dp (k + 1) y.row) → ((z : DdNode) → Has z next' → IsStateOf dp (k + 1) z.row) → ((x : DdNode) → Has x above → (arc : DdArc) → Has arc x.arcs → IsStateOf dp (k + 1) (dp.step k x.row arc.decision)) → AreLinked dp t k (with_redirected redirects above) next'
linked-redirected dp chained t k above next next' redirects linked h struck states states' steps = record {
  arcs = λ x has. (
      let from = Has-map-from (followed_node redirects) above x has in
      let old = linked.arcs from.0 from.1 in
      subst (HasArcs dp k) from.2 (record { decisions = decisions-redirected redirects from.0.arcs ∙ old.decisions; gains = gains-redirected dp k from.0.row redirects from.0.arcs old.gains }));
  leads = λ x has arc listed. (
      let from = Has-map-from (followed_node redirects) above x has in
      let arcs : x.arcs ≡ map (redirected redirects) from.0.arcs = ap (λ (n : DdNode). n.arcs) (sym from.2) in
      let old = Has-map-from (redirected redirects) from.0.arcs arc (subst (λ as_. Has arc as_) arcs listed) in
      let base = leads-redirected dp chained t k above next next' redirects h struck states states' from.0 from.1 old.0 old.1 (steps from.0 from.1 old.0 old.1) old.0.target refl (linked.leads from.0 from.1 old.0 old.1) in
      let on-arc : Leads dp k t from.0 next' arc arc.target = subst (λ (a : DdArc). Leads dp k t from.0 next' a a.target) old.2 base in
      subst (λ (n : DdNode). Leads dp k t n next' arc arc.target) from.2 (leads-arcless dp k t from.0 redirects next' arc arc.target on-arc));
  values = λ place y at. record { reached = length-redirected dp (k + 1) above next next' redirects h place y at linked.values; most = most-redirected dp t k above next next' redirects linked h place y at };
}

-- a redirected arc keeps its decision
pub redirected-decision-of : (redirects : List (Option Redirect)) (arc : DdArc) → (redirected redirects arc).decision ≡ arc.decision
redirected-decision-of redirects arc = redirected-decision arc (option_and_then (λ i. option_and_then (λ l. l) (slice_get redirects i)) arc.target)

-- the node to which an arc of linked layers leads
pub linked-target : (dp : Dp) (t : Option ℤ) (k : ℕ) (above next : List DdNode) → AreLinked dp t k above next → (x : DdNode) → Has x above → (arc : DdArc) → Has arc x.arcs → (i : ℕ) → arc.target ≡ Some i → (y : DdNode) × (slice_get next i ≡ Some y)
linked-target dp t k above next l x has arc listed i aims =
    let leads : LeadsTo dp k x arc (slice_get next i) = subst (λ a. Leads dp k t x next arc a) aims (l.leads x has arc listed) in
    target-of dp k x arc (slice_get next i) leads
