-- Lists, one member after another, and the nodes of a diagram's layers.
use Rattle.std.proofs.Common.{◌≡◌, ℕ, zero, suc, ◌+◌, ◌-◌, ◌<◌, List, [], ◌∷◌, ◌++◌, length, map, take, slice_get, Option, Some, None, option_map, option_and_then, unwrap_or, refl, sym, ◌∙◌, ap, subst, arith}
use Rattle.dp_model.specs.Lists.{Each}
use Rattle.std.proofs.lemmas.Option.{none-some, same_Some}
use Rattle.dp_laws.specs.Diagrams.Nodes.{DdNode, DdLayers, node_at}
use Rattle.relaxed_dd.specs.Shown.{layer_in}

pub there : {X : Type 0} (xs : List X) (i : ℕ) → i < length xs → (x : X) × (slice_get xs i ≡ Some x)
there [] i less = absurd (omega arith)
there (x ∷ xs) zero less = (x, refl)
there (x ∷ xs) (suc i) less = there xs i (omega arith)

take-after : {X : Type 0} (xs : List X) (i : ℕ) (x : X) → slice_get xs i ≡ Some x → take (suc i) xs ≡ take i xs ++ x ∷ []
take-after [] i x e = absurd (none-some x e)
take-after (y ∷ ys) zero x e = ap (λ z. z ∷ []) (same_Some y x e)
take-after (y ∷ ys) (suc i) x e = ap (λ l. y ∷ l) (take-after ys i x e)

-- one member more is taken
pub take-next : {X : Type 0} (xs : List X) (i : ℕ) (x : X) → slice_get xs i ≡ Some x → take (i + 1) xs ≡ take i xs ++ x ∷ []
take-next xs i x e = let next : i + 1 ≡ suc i = omega arith in ap (λ n. take n xs) next ∙ take-after xs i x e

pub map-push : {X Y : Type 0} (f : X → Y) (xs : List X) (x : X) → map f (xs ++ x ∷ []) ≡ map f xs ++ f x ∷ []
map-push f [] x = refl
map-push f (y ∷ ys) x = ap (λ l. f y ∷ l) (map-push f ys x)

-- what something is mapped to
pub mapped : {X Y : Type 0} (f : X → Y) (o : Option X) (y : Y) → option_map f o ≡ Some y → (x : X) × (o ≡ Some x) × (f x ≡ y)
mapped f None y e = absurd (none-some y e)
mapped f (Some x) y e = (x, refl, same_Some (f x) y e)

at-layer : (o : Option (List DdNode)) (i : ℕ) → option_and_then (λ (l : List DdNode). slice_get l i) o ≡ slice_get (unwrap_or o []) i
at-layer None i = refl
at-layer (Some l) i = refl

pub node-here : (d : DdLayers) (depth i : ℕ) → node_at d depth i ≡ slice_get (layer_in d depth) i
node-here d depth i = at-layer (slice_get d.layers (depth - d.first)) i

pub layer-here : (d : DdLayers) (i : ℕ) → i < length d.layers → slice_get d.layers i ≡ Some (layer_in d (d.first + i))
layer-here d i less =
    let x = there d.layers i less in
    let back : d.first + i - d.first ≡ i = omega arith in
    x.1 ∙ ap Some (sym (ap (λ k. unwrap_or (slice_get d.layers k) []) back ∙ ap (λ (o : Option (List DdNode)). unwrap_or o []) x.1))

-- a list is mapped, one member after another
pub map-more : {X Y : Type 0} (f : X → Y) (xs : List X) (i : ℕ) (x : X) (y : Y) (now new : List Y) → slice_get xs i ≡ Some x → f x ≡ y → now ≡ map f (take i xs) → new ≡ now ++ y ∷ [] → new ≡ map f (take (i + 1) xs)
map-more f xs i x y now new at is h n =
    n ∙ (ap (λ l. l ++ y ∷ []) h ∙ (ap (λ z. map f (take i xs) ++ z ∷ []) (sym is) ∙ (sym (map-push f (take i xs) x) ∙ ap (map f) (sym (take-next xs i x at)))))

-- the nodes of a layer
pub node-more : {Y : Type 0} (f : DdNode → Y) (d : DdLayers) (depth i : ℕ) (y : Y) (now new : List Y) → option_map f (node_at d depth i) ≡ Some y → now ≡ map f (take i (layer_in d depth)) → new ≡ now ++ y ∷ [] → new ≡ map f (take (i + 1) (layer_in d depth))
node-more f d depth i y now new is h n =
    let m = mapped f (node_at d depth i) y is in
    map-more f (layer_in d depth) i m.0 y now new (sym (node-here d depth i) ∙ m.1) m.2 h n

-- one of those that have a fact
pub each-at : {X : Type 0} (P : X → Type 0) (xs : List X) (i : ℕ) (x : X) → slice_get xs i ≡ Some x → Each P xs → P x
each-at P [] i x e h = absurd (none-some x e)
each-at P (y ∷ ys) zero x e h = subst P (same_Some y x e) h.0
each-at P (y ∷ ys) (suc i) x e h = each-at P ys i x e h.1

-- a node of layers whose nodes have a fact
pub node-has : (P : DdNode → Type 0) (d : DdLayers) (depth i : ℕ) (x : DdNode) → node_at d depth i ≡ Some x → Each (Each P) d.layers → P x
node-has P d depth i x e h = in-layer (slice_get d.layers (depth - d.first)) refl e
  where
    in-layer : (o : Option (List DdNode)) → slice_get d.layers (depth - d.first) ≡ o → option_and_then (λ (l : List DdNode). slice_get l i) o ≡ Some x → P x
    in-layer None is at = absurd (none-some x at)
    in-layer (Some l) is at = each-at P l i x at (each-at (Each P) d.layers (depth - d.first) l is h)
