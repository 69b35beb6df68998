-- The node above an exact one, which its kept path leads through.
use Rattle.std.proofs.Common.{◌≡◌, ℕ, ◌+◌, ◌-◌, ◌<◌, ◌≤◌, true, List, [], ◌∷◌, ◌++◌, take, length, get_or, Option, Some, None, option_map, refl, sym, ap, ◌∙◌, arith}
use Rattle.std.proofs.lemmas.List.{take_all, take-append-le, length_push}
use Rattle.std.proofs.lemmas.Option.{slice_get-get_or}
use Rattle.dp_laws.specs.Diagrams.Nodes.{DdNode, path_below, node_at}
use Rattle.layer_nodes.specs.Nodes.{NodeView, shown}
use Rattle.layer_build.specs.contracts.workspace.Workspace.{the_view, the_invariant}
use Rattle.layer_build.specs.declared.workspace.Workspace.TheInside.{Inside}
use Rattle.layer_build.specs.Layers.{diagram_of}
use Rattle.layer_build.specs.Stacked.{nodes_in}
use Rattle.layer_build.proofs.Reading.{node-seen}
use Rattle.layer_build.proofs.Standing.{whole-path}
use Rattle.layer_build.proofs.Walked.{no_node, path_of, path-by-parent, place-is}

-- the node at the place of the layer at the depth, and its path
abbrev node_in : Inside → ℕ → ℕ → NodeView
node_in i depth node = get_or (nodes_in i.stack depth) node no_node

abbrev path_in_space : Inside → ℕ → ℕ → List ℕ
path_in_space i depth node = path_of (nodes_in i.stack) i.prefix.items i.stack.first depth node

-- an exact node has a parent, with whose path its own one begins
pub record HasParent (i : Inside) (depth node : ℕ) : Type 0 where
  pub place : ℕ
  pub is : (node_in i depth node).parent ≡ Some place
  pub path : path_in_space i depth node ≡ path_in_space i (depth - 1) place ++ (node_in i depth node).decision ∷ []
  pub size : length (path_in_space i (depth - 1) place) ≡ depth - 1
  pub front : take (depth - 1) (path_in_space i depth node) ≡ path_in_space i (depth - 1) place

pub has-parent : (i : Inside) → the_invariant i → (depth node : ℕ) → i.stack.first < depth → depth ≤ i.stack.last → node < length (nodes_in i.stack depth) → (node_in i depth node).exact ≡ true → HasParent i depth node
has-parent i h depth node above low within exact = go (node_in i depth node).parent refl
  where
    d : ℕ
    d = (node_in i depth node).decision

    own : List ℕ
    own = path_in_space i depth node

    whole : length (path_in_space i depth node) ≡ depth
    whole = whole-path i h depth node (omega arith) low within exact

    split : path_in_space i depth node ≡ path_below (path_of (nodes_in i.stack) i.prefix.items i.stack.first (depth - 1)) (node_in i depth node).parent (node_in i depth node).decision
    split = path-by-parent (nodes_in i.stack) i.prefix.items i.stack.first depth node above within

    go : (o : Option ℕ) → (node_in i depth node).parent ≡ o → HasParent i depth node
    go None e =
        let none : path_in_space i depth node ≡ [] = split ∙ ap (λ (o : Option ℕ). path_below (path_of (nodes_in i.stack) i.prefix.items i.stack.first (depth - 1)) o (node_in i depth node).decision) e in
        let empty = ap (λ (l : List ℕ). length l) none in
        let long = whole in
        absurd (omega arith)
    go (Some p) e =
        let rest = path_in_space i (depth - 1) p in
        let is : path_in_space i depth node ≡ rest ++ (node_in i depth node).decision ∷ [] =
        split ∙ ap (λ (o : Option ℕ). path_below (path_of (nodes_in i.stack) i.prefix.items i.stack.first (depth - 1)) o (node_in i depth node).decision) e in
        let one = ap (λ (l : List ℕ). length l) is in
        let more = length_push rest (node_in i depth node).decision in
        let long = whole in
        let size : length rest ≡ depth - 1 = omega arith in
        record {
          place = p;
          is = e;
          path = is;
          size = size;
          front = ap (take (depth - 1)) is ∙ (take-append-le (depth - 1) rest ((node_in i depth node).decision ∷ []) (omega arith) ∙ take_all (depth - 1) rest (omega arith));
        }

-- where the parent is a node of the layer above
pub parent-seen : (i : Inside) → the_invariant i → (depth node : ℕ) (p : HasParent i depth node) → i.stack.first + 1 < depth → depth ≤ i.stack.last
    → option_map (λ (n : DdNode). n.path) (node_at (diagram_of (the_view i)) (depth - 1) p.place) ≡ Some (path_in_space i (depth - 1) p.place)
parent-seen i h depth node p above low =
    let within = place-is (nodes_in i.stack) i.prefix.items i.stack.first (depth - 1) p.place (omega arith) p.size in
    ap (option_map (λ (n : DdNode). n.path)) (node-seen i h (depth - 1) p.place (omega arith) (omega arith)
    ∙ ap (option_map (shown (path_in_space i (depth - 1) p.place))) (slice_get-get_or (nodes_in i.stack (depth - 1)) p.place no_node within))

-- the last decision, read of the node in memory
pub decision-seen : (i : Inside) → the_invariant i → (depth node : ℕ) (o : Option DdNode) (d : ℕ) (p : HasParent i depth node) → o ≡ Some (shown (path_in_space i depth node) (node_in i depth node)) → (node_in i depth node).decision ≡ d
    → option_map (λ (n : DdNode). n.path) o ≡ option_map (λ (n : DdNode). take (depth - 1) n.path ++ d ∷ []) o
decision-seen i h depth node o d p is same =
    let own = path_in_space i depth node in
    let whole : own ≡ take (depth - 1) own ++ d ∷ [] = p.path ∙ (ap (λ (l : List ℕ). l ++ (node_in i depth node).decision ∷ []) (sym p.front) ∙ ap (λ (e : ℕ). take (depth - 1) own ++ e ∷ []) same) in
    ap (option_map (λ (n : DdNode). n.path)) is ∙ (ap (λ (l : List ℕ). Some l) whole ∙ sym (ap (option_map (λ (n : DdNode). take (depth - 1) n.path ++ d ∷ [])) is))

-- the parent's path, read of the node in memory
pub front-seen : (i : Inside) → the_invariant i → (depth node place : ℕ) (o : Option DdNode) (p : HasParent i depth node) → o ≡ Some (shown (path_in_space i depth node) (node_in i depth node)) → place ≡ p.place → i.stack.first + 1 < depth → depth ≤ i.stack.last
    → option_map (λ (n : DdNode). n.path) (node_at (diagram_of (the_view i)) (depth - 1) place) ≡ option_map (λ (n : DdNode). take (depth - 1) n.path) o
front-seen i h depth node place o p is same above low =
    ap (λ (q : ℕ). option_map (λ (n : DdNode). n.path) (node_at (diagram_of (the_view i)) (depth - 1) q)) same
    ∙ (parent-seen i h depth node p above low ∙ (ap (λ (l : List ℕ). Some l) (sym p.front) ∙ sym (ap (option_map (λ (n : DdNode). take (depth - 1) n.path)) is)))
