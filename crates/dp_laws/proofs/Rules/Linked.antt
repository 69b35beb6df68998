-- Two layers with the arcs between them, in the words of their members.
use Rattle.std.proofs.Common.{◌≡◌, ℕ, suc, ◌+◌, ℤ, ◌+ℤ◌, ◌≤ℤ◌, true, false, List, [], ◌∷◌, map, filter, slice_get, Option, Some, None, option_map, inl, inr, IsTrue, refl, sym, ◌∙◌, ap, subst, arith, zero-add, add-zero}
use Rattle.std.proofs.lemmas.Int.{ints}
use Rattle.std.proofs.lemmas.Option.{slice_get-map}
use Rattle.dp_model.specs.Dp.{Dp}
use Rattle.dp_model.specs.Lists.{Each}
use Rattle.dp_model.specs.Numbers.{greatest, greatest_from}
use Rattle.dp_model.proofs.Members.{Has, each-of-all, Has-map-from, Has-filter-from, Has-flat_map-from, Has-map}
use Rattle.dp_model.proofs.RowLemmas.{nat_eq-is}
use Rattle.dp_model.proofs.Solutions.{greatest_from-least, greatest_from-most, greatest_from-in}
use Rattle.dp_laws.specs.declared.arc.DdArc.{DdArc}
use Rattle.dp_laws.specs.Diagrams.Nodes.{DdNode}
use Rattle.dp_laws.specs.Diagrams.Seen.{HasArcs, Leads, LeadsTo, is_place, lengths_into, HaveValues}
use Rattle.dp_laws.proofs.Diagrams.Places.{same-Some}
use Rattle.dp_laws.proofs.Diagrams.Following.{Has-length}

-- a length of an arc to the place
pub record IsLength (above : List DdNode) (place : ℕ) (z : ℤ) : Type 0 where
  pub source : DdNode
  pub has : Has source above
  pub arc : DdArc
  pub listed : Has arc source.arcs
  pub aims : arc.target ≡ Some place
  pub is : z ≡ source.value +ℤ (arc.gain +ℤ arc.longer)

-- the number is the greatest of the lengths to the place
pub record IsLongest (above : List DdNode) (place : ℕ) (v : ℤ) : Type 0 where
  pub reached : IsLength above place v
  pub most : (z : ℤ) → IsLength above place z → z ≤ℤ v

-- the arcs of the layer at depth k lead to the next one, whose nodes have the greatest of the lengths to them
pub record AreLinked (dp : Dp) (t : Option ℤ) (k : ℕ) (above next : List DdNode) : Type 0 where
  pub arcs : (x : DdNode) → Has x above → HasArcs dp k x
  pub leads : (x : DdNode) → Has x above → (arc : DdArc) → Has arc x.arcs → Leads dp k t x next arc arc.target
  pub values : (place : ℕ) (y : DdNode) → slice_get next place ≡ Some y → IsLongest above place y.value

-- In the words of the readers.

is-place : (j : ℕ) (o : Option ℕ) → IsTrue (is_place j o) → o ≡ Some j
is-place j None h = absurd (let clash : false ≡ true = h in cc)
is-place j (Some i) h = ap Some (nat_eq-is i j h)

length-is : (above : List DdNode) (j : ℕ) (z : ℤ) → Has z (lengths_into above j) → IsLength above j z
length-is above j z h =
    let of-node = Has-flat_map-from (λ (node : DdNode). map (λ (arc : DdArc). node.value +ℤ (arc.gain +ℤ arc.longer)) (filter (λ (arc : DdArc). is_place j arc.target) node.arcs)) above z h in
    let node = of-node.0 in
    let of-arc = Has-map-from (λ (arc : DdArc). node.value +ℤ (arc.gain +ℤ arc.longer)) (filter (λ (arc : DdArc). is_place j arc.target) node.arcs) z of-node.2 in
    let listed = Has-filter-from (λ (arc : DdArc). is_place j arc.target) node.arcs of-arc.0 of-arc.1 in
    record { source = node; has = of-node.1; arc = of-arc.0; listed = listed.0; aims = is-place j of-arc.0.target listed.1; is = sym of-arc.2 }

has-length : (above : List DdNode) (j : ℕ) (z : ℤ) → IsLength above j z → Has z (lengths_into above j)
has-length above j z l = subst (λ v. Has v (lengths_into above j)) (sym l.is) (Has-length above l.source l.arc j l.has l.listed l.aims)

greatest-is : (xs : List ℤ) (v : ℤ) → Has v xs → ((z : ℤ) → Has z xs → z ≤ℤ v) → Some v ≡ greatest xs
greatest-is [] v h most = absurd h
greatest-is (x ∷ xs) v h most =
    let top = greatest_from x xs in
    let up : v ≤ℤ top = elim h as (λ _. v ≤ℤ top) [ inl same ↦ subst (λ w. w ≤ℤ top) same (greatest_from-least x xs) | inr later ↦ greatest_from-most x xs v later ] in
    let down : top ≤ℤ v = most top (greatest_from-in x xs) in
    ap Some (omega (arith, ints))

have-values : (above : List DdNode) (j : ℕ) (next : List DdNode) → ((i : ℕ) (y : DdNode) → slice_get next i ≡ Some y → IsLongest above (j + i) y.value) → HaveValues above j next
have-values above j [] longest = tt
have-values above j (y ∷ next) longest =
    let here = subst (λ n. IsLongest above n y.value) (add-zero j) (longest 0 y refl) in
    let e : Some y.value ≡ greatest (lengths_into above j) = greatest-is (lengths_into above j) y.value (has-length above j y.value here.reached) (λ z h. here.most z (length-is above j z h)) in
    (e, have-values above (j + 1) next (λ i x at. let same : j + suc i ≡ j + 1 + i = omega arith in subst (λ n. IsLongest above n x.value) same (longest (suc i) x at)))

pub linked-values : (dp : Dp) (t : Option ℤ) (k : ℕ) (above next : List DdNode) → AreLinked dp t k above next → HaveValues above 0 next
linked-values dp t k above next l = have-values above 0 next (λ i y at. subst (λ n. IsLongest above n y.value) (sym (zero-add i)) (l.values i y at))

pub linked-arcs : (dp : Dp) (t : Option ℤ) (k : ℕ) (above next : List DdNode) → AreLinked dp t k above next → Each (HasArcs dp k) above
linked-arcs dp t k above next l = each-of-all (HasArcs dp k) above l.arcs

pub linked-leads : (dp : Dp) (t : Option ℤ) (k : ℕ) (above next : List DdNode) → AreLinked dp t k above next → Each (λ (node : DdNode). Each (λ (arc : DdArc). Leads dp k t node next arc arc.target) node.arcs) above
linked-leads dp t k above next l =
    each-of-all (λ (node : DdNode). Each (λ (arc : DdArc). Leads dp k t node next arc arc.target) node.arcs) above
    (λ x has. each-of-all (λ (arc : DdArc). Leads dp k t x next arc arc.target) x.arcs (l.leads x has))

-- Nodes in the place of others.

-- the same row, value and arcs
pub record HasSame (x y : DdNode) : Type 0 where
  pub row : x.row ≡ y.row
  pub value : x.value ≡ y.value
  pub arcs : x.arcs ≡ y.arcs

leads-to-same : (dp : Dp) (k : ℕ) (x x' : DdNode) (arc : DdArc) (g : DdNode → DdNode) → x'.row ≡ x.row → ((y : DdNode) → (g y).row ≡ y.row) → (o : Option DdNode) → LeadsTo dp k x arc o → LeadsTo dp k x' arc (option_map g o)
leads-to-same dp k x x' arc g rows keeps None h = h
leads-to-same dp k x x' arc g rows keeps (Some y) h = rw (keeps y, rows) h

leads-same : (dp : Dp) (k : ℕ) (t : Option ℤ) (x x' : DdNode) (next : List DdNode) (g : DdNode → DdNode) → x'.row ≡ x.row → x'.value ≡ x.value → ((y : DdNode) → (g y).row ≡ y.row) → (arc : DdArc) (aim : Option ℕ) → Leads dp k t x next arc aim → Leads dp k t x' (map g next) arc aim
leads-same dp k t x x' next g rows values keeps arc None h = rw (rows, values) h
leads-same dp k t x x' next g rows values keeps arc (Some i) h = rw (slice_get-map g next i) (leads-to-same dp k x x' arc g rows keeps (slice_get next i) h)

mapped-at : (g : DdNode → DdNode) (o : Option DdNode) (y : DdNode) → option_map g o ≡ Some y → (z : DdNode) × (o ≡ Some z) × (g z ≡ y)
mapped-at g None y e = absurd (let none : None ≡ Some y = e in cc)
mapped-at g (Some z) y e = (z, refl, same-Some (g z) y e)

length-from : (f : DdNode → DdNode) (above : List DdNode) (place : ℕ) (z : ℤ) → ((x : DdNode) → HasSame (f x) x) → IsLength (map f above) place z → IsLength above place z
length-from f above place z keeps l =
    let from = Has-map-from f above l.source l.has in
    let same = keeps from.0 in
    let arcs : l.source.arcs ≡ from.0.arcs = ap (λ (x : DdNode). x.arcs) (sym from.2) ∙ same.arcs in
    let value : l.source.value ≡ from.0.value = ap (λ (x : DdNode). x.value) (sym from.2) ∙ same.value in
    record { source = from.0; has = from.1; arc = l.arc; listed = subst (λ as_. Has l.arc as_) arcs l.listed; aims = l.aims; is = l.is ∙ ap (λ v. v +ℤ (l.arc.gain +ℤ l.arc.longer)) value }

length-to : (f : DdNode → DdNode) (above : List DdNode) (place : ℕ) (z : ℤ) → ((x : DdNode) → HasSame (f x) x) → IsLength above place z → IsLength (map f above) place z
length-to f above place z keeps l =
    let same = keeps l.source in
    record { source = f l.source; has = Has-map f above l.source l.has; arc = l.arc; listed = subst (λ as_. Has l.arc as_) (sym same.arcs) l.listed; aims = l.aims; is = l.is ∙ ap (λ v. v +ℤ (l.arc.gain +ℤ l.arc.longer)) (sym same.value) }

-- layers stay linked where nodes keep their rows, values and, above, their arcs
pub linked-same : (dp : Dp) (t : Option ℤ) (k : ℕ) (above next : List DdNode) (f g : DdNode → DdNode) → ((x : DdNode) → HasSame (f x) x) → ((y : DdNode) → ((g y).row ≡ y.row) × ((g y).value ≡ y.value)) → AreLinked dp t k above next → AreLinked dp t k (map f above) (map g next)
linked-same dp t k above next f g keeps keeps' l = record {
  arcs = λ x has. (
      let from = Has-map-from f above x has in
      let same = keeps from.0 in
      subst (HasArcs dp k) from.2 (let h = l.arcs from.0 from.1 in record {
        decisions = rw (same.arcs, same.row) h.decisions;
        gains = rw (same.arcs, same.row) h.gains;
      }));
  leads = λ x has arc listed. (
      let from = Has-map-from f above x has in
      let same = keeps from.0 in
      let arcs : x.arcs ≡ from.0.arcs = ap (λ (n : DdNode). n.arcs) (sym from.2) ∙ same.arcs in
      let row : x.row ≡ from.0.row = ap (λ (n : DdNode). n.row) (sym from.2) ∙ same.row in
      let value : x.value ≡ from.0.value = ap (λ (n : DdNode). n.value) (sym from.2) ∙ same.value in
      leads-same dp k t from.0 x next g row value (λ y. (keeps' y).0) arc arc.target (l.leads from.0 from.1 arc (subst (λ as_. Has arc as_) arcs listed)));
  values = λ place y at. (
      let from = mapped-at g (slice_get next place) y (sym (slice_get-map g next place) ∙ at) in
      let value : y.value ≡ from.0.value = ap (λ (n : DdNode). n.value) (sym from.2) ∙ (keeps' from.0).1 in
      let longest = l.values place from.0 from.1 in
      subst (λ v. IsLongest (map f above) place v) (sym value) (record {
        reached = length-to f above place from.0.value keeps longest.reached;
        most = λ z h. longest.most z (length-from f above place z keeps h);
      }));
}
