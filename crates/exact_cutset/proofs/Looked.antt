-- A node is looked at, and the layers are walked one after another.
use Rattle.std.proofs.Common.{◌≡◌, ℕ, suc, ◌+◌, ◌-◌, ◌*◌, ◌<◌, Bool, true, false, List, [], ◌++◌, length, map, Option, Some, None, refl, sym, ◌∙◌, ap, subst, arith, append-nil}
use Rattle.std.proofs.Math.Nat.{suc-mul}
use Rattle.dp_model.specs.Dp.{Dp}
use Rattle.dp_laws.specs.Diagrams.Nodes.{DdNode, DdLayers, node_at}
use Rattle.dp_laws.specs.Diagrams.Cutsets.{ChildAt, outermost, child_from, path_at, frontier_at}
use Rattle.dp_laws.proofs.Diagrams.Places.{same-Some}
use Rattle.relaxed_dd.specs.Shown.{layer_in, last_of}
use Rattle.exact_cutset.specs.Seen.{ChildrenView}
use Rattle.exact_cutset.specs.Ready.{IsChildReady, IsChildReadyAt}
use Rattle.exact_cutset.specs.Walking.{IsWalkable, AreMarks, HasLooked, IsWalkedTo, HasLeaving, HasFrontier, IsFreeNode}
use Rattle.exact_cutset.proofs.Searched.{there}
use Rattle.exact_cutset.proofs.Taken.{node-here}
use Rattle.exact_cutset.proofs.Lefts.{from-start, left-end, from-last}
use Rattle.exact_cutset.proofs.Passing.{each-short}

pub node-there : (d : DdLayers) (depth i : ℕ) → i < length (layer_in d depth) → (x : DdNode) × (node_at d depth i ≡ Some x)
node-there d depth i less = let x = there (layer_in d depth) i less in (x.0, node-here d depth i ∙ x.1)

-- what a free node may be asked
pub free-exact : (d : DdLayers) (depth : ℕ) (above : List Bool) (o : Option DdNode) (x : DdNode) → o ≡ Some x → IsFreeNode d depth above o true → x.exact ≡ true
free-exact d depth above None x e h = absurd h
free-exact d depth above (Some y) x e h =
    let same : y ≡ x = same-Some y x e in
    elim y.exact as (λ b. y.exact ≡ b → x.exact ≡ true) [
      | true ↦ λ yes_exact. ap (λ (n : DdNode). n.exact) (sym same) ∙ yes_exact
      | false ↦ λ no. absurd (let clash : true ≡ false = h.0 no in cc)
    ] refl

ready-of : (dp : Dp) (depth : ℕ) (o : Option DdNode) (x : DdNode) → o ≡ Some x → IsChildReady dp depth x → IsChildReadyAt dp depth o
ready-of dp depth None x e h = absurd (let none : None ≡ Some x = e in cc)
ready-of dp depth (Some y) x e h = subst (IsChildReady dp depth) (sym (same-Some y x e)) h

leaving-of : (d : DdLayers) (depth : ℕ) (o : Option DdNode) (x : DdNode) → o ≡ Some x → HasLeaving d depth (Some x) → HasLeaving d depth o
leaving-of d depth o x e h = subst (HasLeaving d depth) (sym e) h

pub ready-here : (dp : Dp) (d : DdLayers) (wide room depth i : ℕ) (above : List Bool) → IsWalkable dp d wide room → d.first < depth → depth < last_of d → i < length (layer_in d depth) → IsFreeNode d depth above (node_at d depth i) true → IsChildReadyAt dp depth (node_at d depth i) × HasLeaving d depth (node_at d depth i)
ready-here dp d wide room depth i above w low high less h =
    let x = node-there d depth i less in
    let e = w.exact depth i x.0 low high x.1 (free-exact d depth above (node_at d depth i) x.0 x.1 h) in
    (ready-of dp depth (node_at d depth i) x.0 x.1 e.ready, leaving-of d depth (node_at d depth i) x.0 x.1 e.leads)

-- Layers.

pub layer-starts : (dp : Dp) (d : DdLayers) (wide room depth : ℕ) (cs : List ChildAt) (above : List Bool) → IsWalkable dp d wide room → d.first < depth → depth < last_of d → IsWalkedTo dp d wide depth cs above → HasLooked dp d wide depth cs cs []
layer-starts dp d wide room depth cs above w low high h = record {
  whole = ap (λ l. cs ++ outermost (path_at d) cs l) (sym (from-start dp d depth (omega arith) high)) ∙ h.whole;
  ahead = λ j x more at exact. refl;
  marked = λ j x less. absurd (omega arith);
  short = each-short (path_at d) cs (depth - 1) depth (omega arith) h.short;
  few = (let f = h.few in omega arith);
}

pub layer-ends : (dp : Dp) (d : DdLayers) (wide room depth : ℕ) (before cs : List ChildAt) (marks : List Bool) → IsWalkable dp d wide room → d.first < depth → depth < last_of d → length marks ≡ length (layer_in d depth) → HasLooked dp d wide depth before cs marks → IsWalkedTo dp d wide (depth + 1) cs marks
layer-ends dp d wide room depth before cs marks w low high all h =
    let back : depth + 1 - 1 ≡ depth = omega arith in
    let few = w.few depth low high in
    let sum = h.few in
    let times : depth + 1 - d.first - 1 ≡ suc (depth - d.first - 1) = omega arith in
    let more = suc-mul (depth - d.first - 1) wide in
    let product : (depth + 1 - d.first - 1) * wide ≡ suc (depth - d.first - 1) * wide = ap (λ n. n * wide) times in
    record {
      whole = ap (λ l. cs ++ outermost (path_at d) cs l) (sym (left-end dp d depth (length marks) all)) ∙ h.whole;
      marked = subst (λ k. AreMarks d k cs marks) (sym back) h.marked;
      all = all ∙ ap (λ k. length (layer_in d k)) (sym back);
      short = each-short (path_at d) cs depth (depth + 1 - 1) (omega arith) h.short;
      few = omega arith;
    }

pub walk-ends : (dp : Dp) (d : DdLayers) (wide room depth : ℕ) (cs : List ChildAt) (above : List Bool) → IsWalkable dp d wide room → depth ≡ last_of d → IsWalkedTo dp d wide depth cs above → cs ≡ frontier_at dp d
walk-ends dp d wide room depth cs above w last h =
    let first = w.first in
    let none = from-last dp d depth (omega arith) last in
    sym (append-nil cs) ∙ (ap (λ l. cs ++ outermost (path_at d) cs l) (sym none) ∙ h.whole)

pub has-frontier : (dp : Dp) (d : DdLayers) (old new : ChildrenView) → new ≡ record old { places = new.places; subs = new.subs } → new.subs ≡ map (child_from d) new.places → new.places ≡ frontier_at dp d → HasFrontier dp d old new
has-frontier dp d old new rest subs places =
    rest ∙ (ap (λ ss. record old { places = new.places; subs = ss }) subs ∙ ap (λ ps. record old { places = ps; subs = map (child_from d) ps }) places)
