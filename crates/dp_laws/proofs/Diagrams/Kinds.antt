-- The children of a diagram, of either kind.
use Rattle.std.proofs.Common.{IsTrue, slice_get, Some, ◌-◌, ◌≡◌, ℕ, ◌<◌, ℤ, List, length, Option, None, option_map, refl, sym, ◌∙◌, ap, subst}
use Rattle.dp_model.specs.Dp.{Dp}
use Rattle.dp_model.specs.Lists.{Each}
use Rattle.dp_model.specs.Numbers.{AtMost}
use Rattle.dp_model.proofs.Members.{each-of-all}
use Rattle.dp_model.specs.Laws.{IsLawful}
use Rattle.dp_model.specs.declared.cut_kind.CutKind.{CutKind}
use Rattle.dp_model.specs.declared.cut_kind.CutKind.TheVariants.{LastExactLayer, Frontier}
use Rattle.dp_laws.specs.Children.{AreSound, StandAt, StandDeep, found_value}
use Rattle.dp_laws.specs.Restricted.Beams.{beam}
use Rattle.dp_laws.specs.Diagrams.Nodes.{DdNode, DdLayers}
use Rattle.dp_laws.specs.Diagrams.Seen.{IsDiagram, FallFrom}
use Rattle.dp_laws.specs.Diagrams.Cutsets.{children_of, first_exact, found_in}
use Rattle.dp_laws.proofs.Diagrams.Children.{last_exact_from, frontier_from, found_from, last-exact-are, frontier-are}
use Rattle.dp_laws.proofs.Diagrams.Found.{last-of, first-greatest}
use Rattle.dp_laws.proofs.Diagrams.Places.{same-Some}
use Rattle.dp_laws.proofs.Diagrams.LastExact.{last-exact-is-sound}
use Rattle.dp_laws.proofs.Diagrams.Frontier.{frontier-is-sound}
use Rattle.dp_laws.proofs.Diagrams.Deep.{as_best, at-deep, beam-found, last-exact-stands, frontier-deep, frontier-shorter}

pub children-sound : (dp : Dp) → IsLawful dp → (p : List ℕ) (w : ℕ) (t : Option ℤ) (d : DdLayers) (kind : CutKind) → IsDiagram dp p w t d → length p < dp.vars → AreSound dp p t (found_in dp d) (children_of dp d kind)
children-sound dp laws p w t d LastExactLayer h short =
    let from = last-exact-is-sound dp laws p w t d h short d.first_reduced refl in
    let here = subst (λ n. AreSound dp p t (found_from dp n d.layers) (last_exact_from dp n d.layers d.first_reduced)) (sym h.first) from in
    subst (λ cs. AreSound dp p t (found_from dp d.first d.layers) cs) (sym (last-exact-are dp d d.first_reduced)) here
children-sound dp laws p w t d Frontier h short =
    let from = frontier-is-sound dp laws p w t d h short in
    let here = subst (λ n. AreSound dp p t (found_from dp n d.layers) (frontier_from dp n d.layers)) (sym h.first) from in
    subst (λ cs. AreSound dp p t (found_from dp d.first d.layers) cs) (sym (frontier-are dp d)) here

pub last-exact-at : (dp : Dp) → IsLawful dp → (p : List ℕ) (w : ℕ) (t : Option ℤ) (d : DdLayers) → IsDiagram dp p w t d → length p < dp.vars → StandAt d.first_reduced (children_of dp d LastExactLayer)
last-exact-at dp laws p w t d h short =
    let here = subst (λ n. StandAt d.first_reduced (last_exact_from dp n d.layers d.first_reduced)) (sym h.first) (last-exact-stands dp laws p w t d h short d.first_reduced refl) in
    subst (λ cs. StandAt d.first_reduced cs) (sym (last-exact-are dp d d.first_reduced)) here

pub children-deep : (dp : Dp) → IsLawful dp → (p : List ℕ) (w : ℕ) (t : Option ℤ) (d : DdLayers) (kind : CutKind) → IsDiagram dp p w t d → length p < dp.vars → StandDeep d.first_reduced (children_of dp d kind)
children-deep dp laws p w t d LastExactLayer h short = at-deep d.first_reduced (children_of dp d LastExactLayer) (last-exact-at dp laws p w t d h short)
children-deep dp laws p w t d Frontier h short =
    let here = subst (λ n. StandDeep d.first_reduced (frontier_from dp n d.layers)) (sym h.first) (frontier-deep dp p w t d h short d.first_reduced refl (frontier-shorter dp laws p w t d h short)) in
    subst (λ cs. StandDeep d.first_reduced cs) (sym (frontier-are dp d)) here

pub beam-in : (dp : Dp) (p : List ℕ) (w : ℕ) (t : Option ℤ) (d : DdLayers) → IsDiagram dp p w t d → length p < dp.vars → d.first_reduced ≡ None → found_in dp d ≡ option_map as_best (beam dp p w t)
beam-in dp p w t d h short e = ap (λ n. found_from dp n d.layers) h.first ∙ beam-found dp p w t d h short e

pub found-greatest : (dp : Dp) (p : List ℕ) (w : ℕ) (t : Option ℤ) (d : DdLayers) (layer : List DdNode) → length p < dp.vars → IsDiagram dp p w t d → slice_get d.layers (dp.vars - length p) ≡ Some layer
    → Each (λ (node : DdNode). IsTrue node.exact → AtMost node.value (found_value (found_in dp d))) layer
found-greatest dp p w t d layer short h at =
    let l = last-of dp p w t d h short in
    let same : l.layer ≡ layer = same-Some l.layer layer (sym l.at ∙ at) in
    let found : found_in dp d ≡ first_exact layer = ap (λ n. found_from dp n d.layers) h.first ∙ (l.found ∙ ap first_exact same) in
    each-of-all (λ (node : DdNode). IsTrue node.exact → AtMost node.value (found_value (found_in dp d))) layer (λ node has exact.
    subst (λ o. AtMost node.value (found_value o)) (sym found) (first-greatest layer (subst FallFrom same l.falls) node has exact))
