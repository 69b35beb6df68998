-- Rules by which a layer is expanded: the whole next layer, that without its struck nodes, and that merged to the width.
use Rattle.std.proofs.Common.{◌≡◌, ℕ, ◌+◌, ◌*◌, ◌<◌, ◌≤◌, nat_lt, ℤ, pos, Bool, true, false, not, cond, List, length, slice_get, Option, Some, IsTrue, refl, sym, ap, ◌∙◌, subst, arith}
use Rattle.std.proofs.lemmas.Bool.Decides.{nat_tests}
use Rattle.std.proofs.lemmas.Int.{ints}
use Rattle.std.proofs.lemmas.List.Sums.{length-filter, count_by-le-length}
use Rattle.dp_model.specs.Dp.{Dp}
use Rattle.dp_model.specs.Gaps.{IsStateOf}
use Rattle.dp_model.specs.Laws.{IsLawful}
use Rattle.dp_model.proofs.Members.{Has, Has-filter-from, each-has, each-of-all}
use Rattle.dp_laws.specs.Diagrams.Nodes.{DdNode}
use Rattle.dp_laws.specs.Rules.Compiling.{TwoLayers, expand, merge_rest}
use Rattle.dp_laws.specs.Rules.Pruning.{is_struck}
use Rattle.dp_laws.specs.Rules.Redirects.{Redirect}
use Rattle.dp_laws.specs.Rules.Reducing.{merge_redirects}
use Rattle.dp_laws.specs.Rules.Within.{IsBetween, IsLayerWithin, AreWithin}
use Rattle.dp_laws.proofs.Diagrams.Places.{same-Some, Has-at}
use Rattle.dp_laws.proofs.Rules.Redirecting.{GoesTo}
use Rattle.dp_laws.proofs.Rules.Within.{expand-within, redirect-within, merge-within}
use Rattle.layer_nodes.specs.declared.striking.Strikes.{Strikes}
use Rattle.layer_nodes.specs.declared.striking.Strikes.TheVariants.{AtMost, Nothing}
use Rattle.layer_nodes.specs.Sifting.{sifted_nodes, sift_redirects, sifted, expand_sifted, expanded_by}
use Rattle.layer_nodes.proofs.SiftedLayers.{struck-at, stays-at}
use Rattle.layer_build.specs.declared.stack.Making.{Making}
use Rattle.layer_build.specs.declared.stack.Making.TheVariants.{By, Within}
use Rattle.layer_build.specs.Stacked.{HaveDepth}
use Rattle.layer_build.specs.Within.{within_width, expanded_as}
use Rattle.layer_build.proofs.Depths.{expanded-above, expanded-next, redirected-depth, merged-depth}

-- the layers of the rule at each depth stay within the bounds that hold for this width, and its exact nodes keep paths of their depth
pub record Expands (dp : Dp) (w : ℕ) (rule : ℕ → List DdNode → TwoLayers) : Type 0 where
  pub within : (k : ℕ) (layer : List DdNode) → k < dp.vars → IsLayerWithin dp k w layer → AreWithin dp k w (rule k layer)
  pub above : (k : ℕ) (layer : List DdNode) → HaveDepth k layer → HaveDepth k (rule k layer).above
  pub next : (k : ℕ) (layer : List DdNode) → k < dp.vars → HaveDepth k layer → HaveDepth (k + 1) (rule k layer).next

expands : (dp : Dp) → IsLawful dp → (w : ℕ) → Expands dp w (expand dp)
expands dp laws w = record {
  within = λ k layer low h. expand-within dp laws k w layer low h;
  above = λ k layer h. expanded-above dp k layer h;
  next = λ k layer low h. expanded-next dp k layer low h;
}

-- Struck nodes are left out.

module _ (dp : Dp) (t : Option ℤ) where
  sifted-has : (k : ℕ) (nodes : List DdNode) (x : DdNode) → Has x (sifted_nodes dp k t nodes) → Has x nodes
  sifted-has k nodes x has = (Has-filter-from (λ (n : DdNode). not (is_struck dp k t n)) nodes x has).0

  sifted-few : (k : ℕ) (nodes : List DdNode) → length (sifted_nodes dp k t nodes) ≤ length nodes
  sifted-few k nodes = (let same = length-filter (λ (n : DdNode). not (is_struck dp k t n)) nodes in let most = count_by-le-length (λ (n : DdNode). not (is_struck dp k t n)) nodes in omega arith)

  left-within : (k w : ℕ) (nodes : List DdNode) → IsLayerWithin dp k w nodes → IsLayerWithin dp k w (sifted_nodes dp k t nodes)
  left-within k w nodes h =
      let left = sifted_nodes dp k t nodes in
      let few = sifted-few k nodes in
      record {
        states = each-of-all (λ (n : DdNode). IsStateOf dp k n.row) left (λ x has. each-has (λ (n : DdNode). IsStateOf dp k n.row) nodes x h.states (sifted-has k nodes x has));
        values = each-of-all (λ (n : DdNode). IsBetween (k + 1) (2 * k + 1) n.value) left (λ x has. each-has (λ (n : DdNode). IsBetween (k + 1) (2 * k + 1) n.value) nodes x h.values (sifted-has k nodes x has));
        wide = λ more. (let at : w < length nodes = omega arith in
            each-of-all (λ (n : DdNode). IsBetween (k + 1) (2 * k) n.value) left (λ x has. each-has (λ (n : DdNode). IsBetween (k + 1) (2 * k) n.value) nodes x (h.wide at) (sifted-has k nodes x has)));
      }

  goes-by : IsLawful dp → (k : ℕ) (nodes : List DdNode) (i : ℕ) (y : DdNode) (l : Redirect) → IsStateOf dp k y.row → slice_get nodes i ≡ Some y → slice_get (sift_redirects dp k t 0 nodes) i ≡ Some (Some l) → (b : Bool) → is_struck dp k t y ≡ b
      → GoesTo dp k (sifted_nodes dp k t nodes) y l
  goes-by laws k nodes i y l state at e true struck = absurd (let gone = struck-at dp k t 0 nodes i y at struck in cc)
  goes-by laws k nodes i y l state at e false free =
      let s = stays-at dp k t 0 nodes i y at free in
      let is : record { place = 0 + s.place; longer = pos 0 } ≡ l = same-Some (record { place = 0 + s.place; longer = pos 0 }) l (same-Some (Some (record { place = 0 + s.place; longer = pos 0 })) (Some l) (sym s.goes ∙ e)) in
      let first : 0 + s.place ≡ s.place = omega arith in
      subst (GoesTo dp k (sifted_nodes dp k t nodes) y) is (record {
        node = y;
        at = ap (slice_get (sifted_nodes dp k t nodes)) first ∙ s.at;
        gap = laws.gaps.own k y.row state;
        value = omega (arith, ints);
      })

  sifted-within : IsLawful dp → (k w : ℕ) (two : TwoLayers) → AreWithin dp k w two → AreWithin dp k w (sifted dp (k + 1) t two)
  sifted-within laws k w two h =
      redirect-within dp laws k w two.next (sifted_nodes dp (k + 1) t two.next) (sift_redirects dp (k + 1) t 0 two.next)
      (λ i y l at e. goes-by laws (k + 1) two.next i y l (each-has (λ (n : DdNode). IsStateOf dp (k + 1) n.row) two.next y h.next.states (Has-at two.next i y at)) at e (is_struck dp (k + 1) t y) refl)
      h.next (left-within (k + 1) w two.next h.next) two.above h.above h.arcs

  sifted-depth : (d k : ℕ) (nodes : List DdNode) → HaveDepth k nodes → HaveDepth k (sifted_nodes dp d t nodes)
  sifted-depth d k nodes h =
      let P = λ (n : DdNode). IsTrue n.exact → length n.path ≡ k in
      each-of-all P (sifted_nodes dp d t nodes) (λ x has. each-has P nodes x h (sifted-has d nodes x has))

  expands-sifted : IsLawful dp → (w : ℕ) → Expands dp w (λ k layer. expand_sifted dp k t layer)
  expands-sifted laws w = record {
    within = λ k layer low h. sifted-within laws k w (expand dp k layer) (expand-within dp laws k w layer low h);
    above = λ k layer h. redirected-depth (sift_redirects dp (k + 1) t 0 (expand dp k layer).next) k (expand dp k layer).above (expanded-above dp k layer h);
    next = λ k layer low h. sifted-depth (k + 1) (k + 1) (expand dp k layer).next (expanded-next dp k layer low h);
  }

expands-by : (dp : Dp) (strikes : Strikes) → IsLawful dp → (w : ℕ) → Expands dp w (expanded_by strikes dp)
expands-by dp (AtMost t) laws w = expands-sifted dp t laws w
expands-by dp Nothing laws w = expands dp laws w

-- A layer that is wider than the width is merged to it.

merged-to : (dp : Dp) → IsLawful dp → (k w : ℕ) (two : TwoLayers) → 1 ≤ w → AreWithin dp k w two → AreWithin dp k w (within_width dp w (k + 1) two)
merged-to dp laws k w two some h =
    elim (nat_lt w (length two.next)) as (λ b. nat_lt w (length two.next) ≡ b → AreWithin dp k w (cond b (merge_rest dp (k + 1) w two) two)) [
      | true ↦ λ e. merge-within dp laws k w two some (let wide : w < length two.next = grind (arith, nat_tests) in wide) h
      | false ↦ λ e. h
    ] refl

expands-within : (dp : Dp) → IsLawful dp → (w : ℕ) → 1 ≤ w → (rule : ℕ → List DdNode → TwoLayers) → Expands dp w rule → Expands dp w (λ k layer. within_width dp w (k + 1) (rule k layer))
expands-within dp laws w some rule e = record {
  within = λ k layer low h. merged-to dp laws k w (rule k layer) some (e.within k layer low h);
  above = λ k layer h. elim (nat_lt w (length (rule k layer).next)) as (λ b. HaveDepth k (cond b (merge_rest dp (k + 1) w (rule k layer)) (rule k layer)).above) [
    | true ↦ redirected-depth (merge_redirects dp (k + 1) w (rule k layer).next) k (rule k layer).above (e.above k layer h)
    | false ↦ e.above k layer h
  ];
  next = λ k layer low h. elim (nat_lt w (length (rule k layer).next)) as (λ b. HaveDepth (k + 1) (cond b (merge_rest dp (k + 1) w (rule k layer)) (rule k layer)).next) [
    | true ↦ merged-depth dp (k + 1) w (k + 1) (rule k layer).next (e.next k layer low h)
    | false ↦ e.next k layer low h
  ];
}

pub expands-as : (dp : Dp) (making : Making) (merged : Bool) → IsLawful dp → (w : ℕ) → 1 ≤ w → Expands dp w (expanded_as making merged dp w)
expands-as dp (By strikes) merged laws w some = expands-by dp strikes laws w
expands-as dp (Within t) true laws w some = expands-within dp laws w some (λ k layer. expand_sifted dp k t layer) (expands-sifted dp t laws w)
expands-as dp (Within t) false laws w some = expands-sifted dp t laws w
