-- Layers of a cover, by their places.
use Rattle.std.proofs.Common.{◌≡◌, ℕ, zero, suc, ◌+◌, ◌-◌, ◌<◌, ◌≤◌, ℤ, true, false, ◌&&◌, List, [], ◌∷◌, ◌++◌, length, map, take, drop, set, get_or, replicate, slice_get, Option, Some, None, option_map, option_and_then, unwrap_or, refl, sym, ◌∙◌, ap, ap₂, arith, append_assoc}
use Rattle.std.proofs.lemmas.List.{map_more, take_all, drop_all, replicate_more}
use Rattle.std.proofs.lemmas.Option.{none-some, same_Some, get_or_from_slice_get}
use Rattle.dp_laws.specs.Diagrams.Nodes.{DdNode, DdLayers, node_at}
use Rattle.bound_cover.specs.declared.cover.CoverArc.{CoverArc}
use Rattle.bound_cover.specs.Covers.{CoverRow}
use Rattle.bound_cover.specs.Exploring.{layer_of, with_arcs_at, leads_above, all_wait}
use Rattle.relaxed_dd.specs.Shown.{layer_in}
use Rattle.cover_book.specs.Nodes.{with_arcs}

-- layers that are the same at each place are the same
pub same-layers : {X : Type 0} (xs ys : List (List X)) → length xs ≡ length ys → ((j : ℕ) → j < length xs → layer_of xs j ≡ layer_of ys j) → xs ≡ ys
same-layers [] [] long same = refl
same-layers [] (y ∷ ys) long same = absurd (omega arith)
same-layers (x ∷ xs) [] long same = absurd (omega arith)
same-layers (x ∷ xs) (y ∷ ys) long same = ap (λ z. z ∷ xs) (same zero (omega arith)) ∙ ap (λ l. y ∷ l) (same-layers xs ys (omega arith) (λ j less. same (suc j) (omega arith)))

pub layer-set : {X : Type 0} (xs : List (List X)) (j : ℕ) (l : List X) → j < length xs → layer_of (set xs j l) j ≡ l
layer-set [] j l less = absurd (omega arith)
layer-set (x ∷ xs) zero l less = refl
layer-set (x ∷ xs) (suc j) l less = layer-set xs j l (omega arith)

pub layer-other : {X : Type 0} (xs : List (List X)) (i j : ℕ) (l : List X) → (i ≡ j → ⊥) → layer_of (set xs j l) i ≡ layer_of xs i
layer-other [] i j l other = refl
layer-other (x ∷ xs) zero zero l other = absurd (other refl)
layer-other (x ∷ xs) zero (suc j) l other = refl
layer-other (x ∷ xs) (suc i) zero l other = refl
layer-other (x ∷ xs) (suc i) (suc j) l other = layer-other xs i j l (λ e. other (ap suc e))

-- arcs are set at a place
pub arcs-set : (place : ℕ) (arcs : List CoverArc) (rows new : List CoverRow) (row d : CoverRow) → place < length rows → row ≡ with_arcs arcs (get_or rows place d) → new ≡ set rows place row → new ≡ with_arcs_at place arcs rows
arcs-set place arcs rows new row d less is n = n ∙ (ap (set rows place) is ∙ arcs-at place arcs rows d less)
  where
    arcs-at : (place : ℕ) (arcs : List CoverArc) (rows : List CoverRow) (d : CoverRow) → place < length rows → set rows place (with_arcs arcs (get_or rows place d)) ≡ with_arcs_at place arcs rows
    arcs-at place arcs [] d less = absurd (omega arith)
    arcs-at zero arcs (row ∷ rows) d less = refl
    arcs-at (suc place) arcs (row ∷ rows) d less = ap (λ l. row ∷ l) (arcs-at place arcs rows d (omega arith))

pub arcs-past : (place : ℕ) (arcs : List CoverArc) (rows : List CoverRow) → length rows ≤ place → rows ≡ with_arcs_at place arcs rows
arcs-past place arcs [] less = refl
arcs-past zero arcs (row ∷ rows) less = absurd (omega arith)
arcs-past (suc place) arcs (row ∷ rows) less = ap (λ l. row ∷ l) (arcs-past place arcs rows (omega arith))

-- ---- the nodes of a layer

drop-next : {X : Type 0} (xs : List X) (i : ℕ) (x : X) → slice_get xs i ≡ Some x → drop i xs ≡ x ∷ drop (suc i) xs
drop-next [] i x e = absurd (none-some x e)
drop-next (y ∷ ys) zero x e = ap (λ z. z ∷ ys) (same_Some y x e)
drop-next (y ∷ ys) (suc i) x e = drop-next ys i x e

pub drop-at : {X : Type 0} (xs : List X) (i : ℕ) (x : X) → slice_get xs i ≡ Some x → drop i xs ≡ x ∷ drop (i + 1) xs
drop-at xs i x e = let next : suc i ≡ i + 1 = omega arith in drop-next xs i x e ∙ ap (λ n. x ∷ drop n xs) next

pub there : {X : Type 0} (xs : List X) (i : ℕ) → i < length xs → (x : X) × (slice_get xs i ≡ Some x)
there [] i less = absurd (omega arith)
there (x ∷ xs) zero less = (x, refl)
there (x ∷ xs) (suc i) less = there xs i (omega arith)

at-layer : (o : Option (List DdNode)) (i : ℕ) → option_and_then (λ (l : List DdNode). slice_get l i) o ≡ slice_get (unwrap_or o []) i
at-layer None i = refl
at-layer (Some l) i = refl

pub node-here : (d : DdLayers) (depth i : ℕ) → node_at d depth i ≡ slice_get (layer_in d depth) i
node-here d depth i = at-layer (slice_get d.layers (depth - d.first)) i

-- one more node of a layer gets its row
pub node-more : (f : DdNode → CoverRow) (d : DdLayers) (depth i : ℕ) (old now new : List CoverRow) (row : CoverRow) → i < length (layer_in d depth) → now ≡ old ++ map f (take i (layer_in d depth)) → option_map f (node_at d depth i) ≡ Some row → new ≡ now ++ row ∷ []
    → new ≡ old ++ map f (take (i + 1) (layer_in d depth))
node-more f d depth i old now new row less h is n =
    let layer = layer_in d depth in
    let x = there layer i less in
    let its : f x.0 ≡ row = same_Some (f x.0) row (sym (ap (option_map f) (node-here d depth i ∙ x.1)) ∙ is) in
    let same : get_or layer i x.0 ≡ x.0 = get_or_from_slice_get layer i x.0 x.0 x.1 in
    let more : map f (take (i + 1) layer) ≡ map f (take i layer) ++ row ∷ [] = map_more f layer i x.0 less ∙ ap (λ r. map f (take i layer) ++ r ∷ []) (ap f same ∙ its) in
    n ∙ (ap (λ l. l ++ row ∷ []) h ∙ (append_assoc old (map f (take i layer)) (row ∷ []) ∙ ap (λ l. old ++ l) (sym more)))

-- whether all nodes wait, one after another
pub waits-so-far : (claim : Option ℤ) (d : DdLayers) (depth i : ℕ) → i < length (layer_in d depth) → option_map (leads_above claim) (node_at d depth i) ≡ Some true → all_wait claim (drop i (layer_in d depth)) ≡ all_wait claim (layer_in d depth)
    → all_wait claim (drop (i + 1) (layer_in d depth)) ≡ all_wait claim (layer_in d depth)
waits-so-far claim d depth i less leads h =
    let x = there (layer_in d depth) i less in
    let above : leads_above claim x.0 ≡ true = same_Some (leads_above claim x.0) true (sym (ap (option_map (leads_above claim)) (node-here d depth i ∙ x.1)) ∙ leads) in
    sym (ap (all_wait claim) (drop-at (layer_in d depth) i x.0 x.1) ∙ ap (λ b. b && all_wait claim (drop (i + 1) (layer_in d depth))) above) ∙ h

pub one-does-not : (claim : Option ℤ) (d : DdLayers) (depth i : ℕ) → i < length (layer_in d depth) → option_map (leads_above claim) (node_at d depth i) ≡ Some false → all_wait claim (drop i (layer_in d depth)) ≡ all_wait claim (layer_in d depth) → false ≡ all_wait claim (layer_in d depth)
one-does-not claim d depth i less leads h =
    let x = there (layer_in d depth) i less in
    let under : leads_above claim x.0 ≡ false = same_Some (leads_above claim x.0) false (sym (ap (option_map (leads_above claim)) (node-here d depth i ∙ x.1)) ∙ leads) in
    sym (ap (all_wait claim) (drop-at (layer_in d depth) i x.0 x.1) ∙ ap (λ b. b && all_wait claim (drop (i + 1) (layer_in d depth))) under) ∙ h

pub all-do : (claim : Option ℤ) (d : DdLayers) (depth i : ℕ) → i ≡ length (layer_in d depth) → all_wait claim (drop i (layer_in d depth)) ≡ all_wait claim (layer_in d depth) → true ≡ all_wait claim (layer_in d depth)
all-do claim d depth i end h = sym (ap (all_wait claim) (drop_all i (layer_in d depth) (omega arith))) ∙ h

-- how many rows a layer has
pub layer-get : {X : Type 0} (rows : List (List X)) (j : ℕ) (d : List X) → j < length rows → layer_of rows j ≡ get_or rows j d
layer-get [] j d less = absurd (omega arith)
layer-get (x ∷ rows) zero d less = refl
layer-get (x ∷ rows) (suc j) d less = layer-get rows j d (omega arith)

pub layer-none : {X : Type 0} (rows : List (List X)) (j : ℕ) → length rows ≤ j → layer_of rows j ≡ []
layer-none [] j far = refl
layer-none (x ∷ rows) zero far = absurd (omega arith)
layer-none (x ∷ rows) (suc j) far = layer-none rows j (omega arith)

-- empty layers after the first one
pub start-more : (top : List CoverRow) (n : ℕ) (rows new : List (List CoverRow)) (x : List CoverRow) → x ≡ [] → rows ≡ top ∷ replicate n [] → new ≡ rows ++ x ∷ [] → new ≡ top ∷ replicate (n + 1) []
start-more top n rows new x none h is = is ∙ (ap₂ (λ (l : List (List CoverRow)) (y : List CoverRow). l ++ y ∷ []) h none ∙ ap (λ (l : List (List CoverRow)). top ∷ l) (replicate_more n []))

pub start-all : (top : List CoverRow) (n vars : ℕ) (rows : List (List CoverRow)) → n ≡ vars → rows ≡ top ∷ replicate n [] → rows ≡ top ∷ replicate vars []
start-all top n vars rows e h = h ∙ ap (λ m. top ∷ replicate m []) e
