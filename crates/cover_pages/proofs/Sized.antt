-- How many words a diagram counts for.
use Rattle.std.proofs.Common.{◌≡◌, ℕ, ◌+◌, ◌*◌, ◌<◌, ◌≤◌, List, [], ◌∷◌, length, map, take, slice_get, Option, Some, None, option_map, refl, sym, ◌∙◌, ap, arith}
use Rattle.std.specs.List.{sum_by}
use Rattle.std.proofs.lemmas.List.Sums.{sum_by-cons, sum_by_push, sum_by-take-le}
use Rattle.std.proofs.lemmas.List.{length-map, take_all}
use Rattle.std.proofs.lemmas.Option.{none-some, same_Some}
use Rattle.dp_laws.specs.Diagrams.Nodes.{DdNode, DdLayers, node_at}
use Rattle.cover_pages.specs.Pages.{NodeView, PageView, bare_arc, node_of, node_size, size_of}
use Rattle.cover_pages.specs.Sizes.{node_words, layer_words, words_of, Leaves, LeavesAt}
use Rattle.cover_pages.proofs.Lists.{take-next, node-here}
use Rattle.relaxed_dd.specs.Shown.{layer_in}

-- a node counts for its arcs
pub node-leaves-none : (words left size arcs : ℕ) (o : Option DdNode) → option_map (λ (n : DdNode). length n.arcs) o ≡ Some arcs → size ≡ words + 2 + 2 * arcs → left < size → LeavesAt words left o None
node-leaves-none words left size arcs None e s less = absurd (none-some arcs e)
node-leaves-none words left size arcs (Some n) e s less = let a = same_Some (length n.arcs) arcs e in let b = length-map n.arcs bare_arc in omega arith

pub node-leaves : (words left size arcs rest : ℕ) (o : Option DdNode) → option_map (λ (n : DdNode). length n.arcs) o ≡ Some arcs → size ≡ words + 2 + 2 * arcs → size ≤ left → rest + size ≡ left → LeavesAt words left o (Some rest)
node-leaves words left size arcs rest None e s more is = absurd (none-some arcs e)
node-leaves words left size arcs rest (Some n) e s more is = let a = same_Some (length n.arcs) arcs e in let b = length-map n.arcs bare_arc in omega arith

-- of a list of things of such sizes
pub leaves-more : {X : Type 0} (f : X → ℕ) (xs : List X) (i : ℕ) (x : X) (left now rest : ℕ) → slice_get xs i ≡ Some x → Leaves now (f x) (Some rest) → now + sum_by f (take i xs) ≡ left → rest + sum_by f (take (i + 1) xs) ≡ left
leaves-more f xs i x left now rest at leaves h =
    let next : sum_by f (take (i + 1) xs) ≡ sum_by f (take i xs) + f x = ap (sum_by f) (take-next xs i x at) ∙ sum_by_push f (take i xs) x in
    omega arith

pub leaves-none : {X : Type 0} (f : X → ℕ) (xs : List X) (i : ℕ) (x : X) (left now : ℕ) → slice_get xs i ≡ Some x → Leaves now (f x) None → now + sum_by f (take i xs) ≡ left → Leaves left (sum_by f xs) None
leaves-none f xs i x left now at leaves h =
    let next : sum_by f (take (i + 1) xs) ≡ sum_by f (take i xs) + f x = ap (sum_by f) (take-next xs i x at) ∙ sum_by_push f (take i xs) x in
    let most = sum_by-take-le f xs (i + 1) in
    omega arith

pub leaves-all : {X : Type 0} (f : X → ℕ) (xs : List X) (i : ℕ) (left now : ℕ) → i ≡ length xs → now + sum_by f (take i xs) ≡ left → Leaves left (sum_by f xs) (Some now)
leaves-all f xs i left now end h =
    let whole : sum_by f (take i xs) ≡ sum_by f xs = ap (sum_by f) (take_all i xs (omega arith)) in
    omega arith

-- the node that it is asked of
pub leaves-of : (words left : ℕ) (d : DdLayers) (depth i : ℕ) (rest : Option ℕ) → LeavesAt words left (node_at d depth i) rest → (x : DdNode) × (slice_get (layer_in d depth) i ≡ Some x) × Leaves left (node_words words x) rest
leaves-of words left d depth i rest h = leaves-at (node_at d depth i) refl h
  where
    leaves-at : (o : Option DdNode) → node_at d depth i ≡ o → LeavesAt words left o rest → (x : DdNode) × (slice_get (layer_in d depth) i ≡ Some x) × Leaves left (node_words words x) rest
    leaves-at None e l = absurd l
    leaves-at (Some n) e l = (n, sym (node-here d depth i) ∙ e, l)

-- the page of a diagram counts for as many words
layer-sizes : (words : ℕ) (layer : List DdNode) → sum_by (node_size words) (map node_of layer) ≡ layer_words words layer
layer-sizes words [] = refl
layer-sizes words (n ∷ ns) =
    let a = sum_by-cons (node_size words) (node_of n) (map node_of ns) in
    let b = sum_by-cons (node_words words) n ns in
    let rest = layer-sizes words ns in
    omega arith

all-sizes : (words : ℕ) (layers : List (List DdNode)) → sum_by (λ (layer : List NodeView). sum_by (node_size words) layer) (map (map node_of) layers) ≡ words_of words layers
all-sizes words [] = refl
all-sizes words (l ∷ ls) =
    let a = sum_by-cons (λ (layer : List NodeView). sum_by (node_size words) layer) (map node_of l) (map (map node_of) ls) in
    let b = sum_by-cons (layer_words words) l ls in
    let here = layer-sizes words l in
    let rest = all-sizes words ls in
    omega arith

pub page-size : (words : ℕ) (d : DdLayers) (page : PageView) → page.layers ≡ map (map node_of) d.layers → size_of words page ≡ words_of words d.layers
page-size words d page e = ap (λ (ls : List (List NodeView)). sum_by (λ (layer : List NodeView). sum_by (node_size words) layer) ls) e ∙ all-sizes words d.layers
