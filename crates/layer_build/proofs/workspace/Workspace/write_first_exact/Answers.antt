use Rattle.std.proofs.Common.{◌≡◌, ◌≤◌, ◌++◌, ℕ, ℤ, List, take, drop, length, Option, Some, None, get_or, w64, to_z, of_z, refl, sym, ap, ◌∙◌, subst, arith}
use Rattle.std.proofs.lemmas.Int.{to_z-of_z}
use Rattle.dp_model.specs.Solution.{Solution}
use Rattle.layer_nodes.specs.Nodes.{NodeView}
use Rattle.layer_build.specs.contracts.workspace.Workspace.{the_view}
use Rattle.layer_build.specs.Finding.{IsFoundAs}
use Rattle.layer_build.specs.Layers.{last_depth}
use Rattle.layer_build.specs.Stacked.{nodes_in}
use Rattle.layer_build.proofs.Going.{deep}
use Rattle.layer_build.proofs.Standing.{has-all-depths, not-found, found-at, IsFirstAt, written-size, written-front, taken-back, cells-held}
use Rattle.layer_build.proofs.Walked.{path_of, no_node, read-is}
use Rattle.layer_build.proofs.workspace.Workspace.write_first_exact.Goals as goal

pub returns-in_err-node-clause-found : goal.returns-in_err-node-clause-found
returns-in_err-node-clause-found c =
    let now = c.args.self.now in
    let d = take (last_depth now) now.path in
    let none = not-found c.self.inside c.self.invariant now c.self.view_is (sym c.exact_place.ensures ∙ c.in_err-node.was) in
    subst (λ (o : Option Solution). IsFoundAs o c.from_residual.result d) (sym none) (subst (λ (r : Option ℤ). IsFoundAs None r d) (sym c.from_residual.ensures) tt)

pub returns-in_err-node-clause-cells : goal.returns-in_err-node-clause-cells
returns-in_err-node-clause-cells c = cells-held c.self.inside c.self.invariant c.args.self.now c.self.view_is

pub write_front-requires-clause-stored : goal.write_front-requires-clause-stored
write_front-requires-clause-stored c = has-all-depths c.self.inside c.self.invariant

pub write_front-requires-clause-whole : goal.write_front-requires-clause-whole
write_front-requires-clause-whole c =
    let i = c.self.inside in
    let first : IsFirstAt i c.args.self.now c.in_ok-node.node = found-at i c.self.invariant c.args.self.now c.self.view_is c.in_ok-node.node (sym c.exact_place.ensures ∙ c.in_ok-node.was) in
    subst (λ (p : List ℕ). length (path_of (nodes_in i.stack) p i.stack.first i.stack.last c.in_ok-node.node) ≡ i.stack.last) (sym c.as_slice.ensures.value) first.whole

pub invariant_of-self : goal.invariant_of-self
invariant_of-self c =
    let i = c.self.inside in
    let h = c.self.invariant in
    let buffer = c.as_mut_slice.result.now in
    let out = c.write_front.new.out in
    let first : IsFirstAt i c.args.self.now c.in_ok-node.node = found-at i h c.args.self.now c.self.view_is c.in_ok-node.node (sym c.exact_place.ensures ∙ c.in_ok-node.was) in
    let path = path_of (nodes_in i.stack) c.as_slice.result.now i.stack.first i.stack.last c.in_ok-node.node in
    let whole : length path ≡ i.stack.last = subst (λ (p : List ℕ). length (path_of (nodes_in i.stack) p i.stack.first i.stack.last c.in_ok-node.node) ≡ i.stack.last) (sym c.as_slice.ensures.value) first.whole in
    let same : length buffer ≡ length i.path.items = ap (λ (l : List ℕ). length l) c.as_mut_slice.ensures.value in
    let cells = h.path in
    let low = h.stack.last in
    let size = written-size path buffer out i.stack.last c.write_front.ensures whole (omega arith) in
    let long : length buffer ≡ i.path.len = c.as_mut_slice.ensures.len in
    record {
      stack = h.stack;
      rows = h.rows;
      first = h.first;
      prefix_fits = h.prefix_fits;
      expands = h.expands;
      redirects_fit = h.redirects_fit;
      path = ap (λ (l : List ℕ). length l) (taken-back out (drop (length out) i.path.items) i.path.len (size ∙ long)) ∙ (size ∙ (same ∙ h.path));
      depths = h.depths;
      has_layers = h.has_layers;
    }

pub returns-clause-cells : goal.returns-clause-cells
returns-clause-cells c =
    let i = c.self.inside in
    let h = c.self.invariant in
    let buffer = c.as_mut_slice.result.now in
    let out = c.write_front.new.out in
    let first : IsFirstAt i c.args.self.now c.in_ok-node.node = found-at i h c.args.self.now c.self.view_is c.in_ok-node.node (sym c.exact_place.ensures ∙ c.in_ok-node.was) in
    let path = path_of (nodes_in i.stack) c.as_slice.result.now i.stack.first i.stack.last c.in_ok-node.node in
    let whole : length path ≡ i.stack.last = subst (λ (p : List ℕ). length (path_of (nodes_in i.stack) p i.stack.first i.stack.last c.in_ok-node.node) ≡ i.stack.last) (sym c.as_slice.ensures.value) first.whole in
    let same : length buffer ≡ length i.path.items = ap (λ (l : List ℕ). length l) c.as_mut_slice.ensures.value in
    let cells = h.path in
    let low = h.stack.last in
    let size = written-size path buffer out i.stack.last c.write_front.ensures whole (omega arith) in
    let long : length buffer ≡ i.path.len = c.as_mut_slice.ensures.len in
    let all : length (take i.path.len (out ++ drop (length out) i.path.items)) ≡ length i.path.items = ap (λ (l : List ℕ). length l) (taken-back out (drop (length out) i.path.items) i.path.len (size ∙ long)) ∙ (size ∙ same) in
    subst (λ (n : ℕ). last_depth (the_view i) ≤ n) (sym all) (cells-held i h (the_view i) refl)

pub returns-clause-found : goal.returns-clause-found
returns-clause-found c =
    let i = c.self.inside in
    let h = c.self.invariant in
    let now = c.args.self.now in
    let buffer = c.as_mut_slice.result.now in
    let out = c.write_front.new.out in
    let node = c.in_ok-node.node in
    let first : IsFirstAt i now node = found-at i h now c.self.view_is node (sym c.exact_place.ensures ∙ c.in_ok-node.was) in
    let path = path_of (nodes_in i.stack) c.as_slice.result.now i.stack.first i.stack.last node in
    let whole : length path ≡ i.stack.last = subst (λ (p : List ℕ). length (path_of (nodes_in i.stack) p i.stack.first i.stack.last node) ≡ i.stack.last) (sym c.as_slice.ensures.value) first.whole in
    let same : length buffer ≡ length i.path.items = ap (λ (l : List ℕ). length l) c.as_mut_slice.ensures.value in
    let cells = h.path in
    let low = h.stack.last in
    let size = written-size path buffer out i.stack.last c.write_front.ensures whole (omega arith) in
    let long : length buffer ≡ i.path.len = c.as_mut_slice.ensures.len in
    let last : last_depth now ≡ i.stack.last = ap last_depth (sym c.self.view_is) ∙ deep i h in
    let value : to_z w64 (of_z w64 c.value.result) ≡ (get_or i.stack.newest.nodes node no_node).value =
    to_z-of_z w64 c.value.result (record { sfits = c.value.type_inv }) ∙ sym (read-is (λ (n : NodeView). n.value) i.stack.newest.nodes node c.value.result first.within c.value.ensures) in
    let decisions : take (last_depth now) (take i.path.len (out ++ drop (length out) i.path.items)) ≡ path_of (nodes_in i.stack) i.prefix.items i.stack.first i.stack.last node =
    ap (take (last_depth now)) (taken-back out (drop (length out) i.path.items) i.path.len (size ∙ long))
    ∙ (ap (λ (n : ℕ). take n out) last ∙ (written-front path buffer out i.stack.last c.write_front.ensures whole
    ∙ ap (λ (p : List ℕ). path_of (nodes_in i.stack) p i.stack.first i.stack.last node) c.as_slice.ensures.value)) in
    subst (λ (o : Option Solution). IsFoundAs o (Some (to_z w64 (of_z w64 c.value.result))) (take (last_depth now) (take i.path.len (out ++ drop (length out) i.path.items)))) (sym first.found) (value, decisions)
