-- Layers in memory and how they are seen.
use Rattle.std.proofs.Common.{◌≡◌, ℕ, zero, suc, ◌+◌, ◌*◌, ◌<◌, ◌≤◌, ℤ, List, [], ◌∷◌, ◌++◌, map, length, true, false, Option, Some, None, IsSome, refl, sym, ◌⊎◌, inl, inr, ap, ap₂, ◌∙◌, subst, arith, append_assoc, length-append}
use Rattle.std.proofs.Math.Seq.{get_or-append_seam}
use Rattle.std.proofs.lemmas.Int.{ints}
use Rattle.dp_model.specs.Dp.{Dp}
use Rattle.dp_model.specs.Gaps.{IsStateOf}
use Rattle.dp_model.specs.Lists.{Each, OneOf}
use Rattle.dp_model.specs.Numbers.{IsFar}
use Rattle.dp_laws.specs.Diagrams.Nodes.{DdNode, path_below}
use Rattle.dp_laws.specs.Rules.Compiling.{TwoLayers}
use Rattle.dp_laws.specs.Rules.Within.{IsBetween}
use Rattle.layer_candidates.specs.Ways.{IsNear, IsNearly}
use Rattle.layer_nodes.specs.Nodes.{Told, told_by, told_of, NodeView, shown, shown_from, shown_layer, shown_below, without_arcs}
use Rattle.layer_nodes.specs.Steps.{IsParent, IsNodeOf, IsRanked, AreAmong}
use Rattle.layer_build.specs.Layers.{last_layer, expand_last, on_last_two}
use Rattle.layer_build.specs.Stacked.{path_in, paths_below, paths_at, shown_down}
use Rattle.layer_build.specs.UnderWay.{last_two}

-- ---- one layer

map-of : {X Y Z : Type 0} (f : Y → Z) (g : X → Y) (xs : List X) → map f (map g xs) ≡ map (λ x. f (g x)) xs
map-of f g [] = refl
map-of f g (x ∷ xs) = ap (λ l. f (g x) ∷ l) (map-of f g xs)

-- a layer whose nodes have their paths by their parents is seen as one below another
shown-each : (q : NodeView → List ℕ) (front : List (List ℕ)) (nodes : List NodeView) → shown_from (path_in (front ++ map q nodes)) (length front) nodes ≡ map (λ (n : NodeView). shown (q n) n) nodes
shown-each q front [] = refl
shown-each q front (n ∷ nodes) =
    let here : path_in (front ++ q n ∷ map q nodes) (length front) ≡ q n = get_or-append_seam front (q n) (map q nodes) [] in
    let longer : length (front ++ q n ∷ []) ≡ length front + 1 = length-append front (q n ∷ []) in
    let all : (front ++ q n ∷ []) ++ map q nodes ≡ front ++ q n ∷ map q nodes = simp append_assoc in
    let rest = shown-each q (front ++ q n ∷ []) nodes in
    let moved : shown_from (path_in (front ++ q n ∷ map q nodes)) (length front + 1) nodes ≡ map (λ (m : NodeView). shown (q m) m) nodes =
    subst (λ (i : ℕ). shown_from (path_in (front ++ q n ∷ map q nodes)) i nodes ≡ map (λ (m : NodeView). shown (q m) m) nodes) longer
    (subst (λ (ps : List (List ℕ)). shown_from (path_in ps) (length (front ++ q n ∷ [])) nodes ≡ map (λ (m : NodeView). shown (q m) m) nodes) all rest) in
    ap₂ (λ (p : List ℕ) (l : List DdNode). shown p n ∷ l) here moved

pub as-below : (above : List (List ℕ)) (nodes : List NodeView) → shown_layer (path_in (paths_below above nodes)) nodes ≡ shown_below (path_in above) nodes
as-below above nodes = shown-each (λ (n : NodeView). path_below (path_in above) n.parent n.decision) [] nodes

pub length-shown : (paths : ℕ → List ℕ) (i : ℕ) (nodes : List NodeView) → length (shown_from paths i nodes) ≡ length nodes
length-shown paths i [] = refl
length-shown paths i (n ∷ nodes) = ap suc (length-shown paths (i + 1) nodes)

-- the arcs of the nodes do not count for the paths below them
pub paths-same : (above : List (List ℕ)) (a b : List NodeView) → map without_arcs a ≡ map without_arcs b → paths_below above a ≡ paths_below above b
paths-same above a b e =
    let q = λ (n : NodeView). path_below (path_in above) n.parent n.decision in
    sym (map-of q without_arcs a) ∙ (ap (map q) e ∙ map-of q without_arcs b)

-- ---- what a layer in memory keeps, read from what is seen of it

-- a rank and a hash that are the same
pub told-same : (a b : Told) → a.rank ≡ b.rank → a.hash ≡ b.hash → a ≡ b
told-same a b rank hash = ap₂ (λ (r : ℤ) (h : ℕ). (let t : Told = record { rank = r; hash = h } in t)) rank hash

pub ranks-of : (dp : Dp) (k : ℕ) (paths : ℕ → List ℕ) (i : ℕ) (nodes : List NodeView) → Each (IsRanked dp k) nodes
    → map told_by nodes ≡ map (λ (n : DdNode). told_of dp k n.row) (shown_from paths i nodes)
ranks-of dp k paths i [] h = refl
ranks-of dp k paths i (n ∷ nodes) h = ap₂ (λ (t : Told) (l : List Told). t ∷ l) (told-same (told_by n) (told_of dp k n.row) h.0.rank h.0.hash) (ranks-of dp k paths (i + 1) nodes h.1)

head-of : {X : Type 0} (a b : X) (xs ys : List X) → a ∷ xs ≡ b ∷ ys → a ≡ b
head-of a b xs ys e = cc

tail-of : {X : Type 0} (a b : X) (xs ys : List X) → a ∷ xs ≡ b ∷ ys → xs ≡ ys
tail-of a b xs ys e = cc

near-of : (k : ℕ) (z : ℤ) → k < 1024 → IsBetween (k + 1) (2 * k + 1) z → IsNear z
near-of k z low h = let a = h.low in let b = h.high in record { low = omega (arith, ints); high = omega (arith, ints) }

nearly-of : (k : ℕ) (z : ℤ) → k ≤ 1024 → IsBetween (k + 1) (2 * k + 1) z → IsNearly z
nearly-of k z low h = let a = h.low in let b = h.high in record { low = omega (arith, ints); high = omega (arith, ints) }

pub far-of : (k : ℕ) (z : ℤ) → k < 1024 → IsBetween 0 (3 * k + 5) z → IsFar z
far-of k z low h = let a = h.low in let b = h.high in record { low = omega (arith, ints); high = omega (arith, ints) }

pub nodes-of : (dp : Dp) (k : ℕ) (paths : ℕ → List ℕ) (i : ℕ) (nodes : List NodeView) → k ≤ 1024
    → Each (λ (n : DdNode). IsStateOf dp k n.row) (shown_from paths i nodes) → Each (λ (n : DdNode). IsBetween (k + 1) (2 * k + 1) n.value) (shown_from paths i nodes)
    → map told_by nodes ≡ map (λ (n : DdNode). told_of dp k n.row) (shown_from paths i nodes) → Each (IsNodeOf dp k) nodes
nodes-of dp k paths i [] low states values told = tt
nodes-of dp k paths i (n ∷ nodes) low states values told =
    (record { state = states.0; rank = ap (λ (t : Told). t.rank) (head-of (told_by n) (told_of dp k n.row) _ _ told); hash = ap (λ (t : Told). t.hash) (head-of (told_by n) (told_of dp k n.row) _ _ told); value = nearly-of k n.value low values.0 }, nodes-of dp k paths (i + 1) nodes low states.1 values.1 (tail-of _ _ _ _ told))

pub parents-of : (dp : Dp) (k : ℕ) (paths : ℕ → List ℕ) (i : ℕ) (nodes : List NodeView) → k < 1024
    → Each (λ (n : DdNode). IsStateOf dp k n.row) (shown_from paths i nodes) → Each (λ (n : DdNode). IsBetween (k + 1) (2 * k + 1) n.value) (shown_from paths i nodes)
    → map told_by nodes ≡ map (λ (n : DdNode). told_of dp k n.row) (shown_from paths i nodes) → Each (IsParent dp k) nodes
parents-of dp k paths i [] low states values told = tt
parents-of dp k paths i (n ∷ nodes) low states values told =
    (record { state = states.0; rank = ap (λ (t : Told). t.rank) (head-of (told_by n) (told_of dp k n.row) _ _ told); hash = ap (λ (t : Told). t.hash) (head-of (told_by n) (told_of dp k n.row) _ _ told); value = near-of k n.value low values.0 }, parents-of dp k paths (i + 1) nodes low states.1 values.1 (tail-of _ _ _ _ told))

-- a node with a parent has a path
some-path : (paths : ℕ → List ℕ) (parent : Option ℕ) (d : ℕ) → IsSome parent → 1 ≤ length (path_below paths parent d)
some-path paths None d h = absurd (let clash : false ≡ true = h in cc)
some-path paths (Some p) d h = let e = length-append (paths p) (d ∷ []) in omega arith

pub have-paths : (paths : ℕ → List ℕ) (nodes : List NodeView) → Each (λ (n : NodeView). IsSome n.parent) nodes → Each (λ (n : DdNode). 1 ≤ length n.path) (shown_below paths nodes)
have-paths paths [] h = tt
have-paths paths (n ∷ nodes) h = (some-path paths n.parent n.decision h.0, have-paths paths nodes h.1)

-- what each of the old nodes is, each of those that stay is
one-of : {X : Type 0} (P : X → Type 0) (x : X) (old : List X) → OneOf (λ (other : X). other ≡ x) old → Each P old → P x
one-of P x [] h all = absurd h
one-of P x (y ∷ old) (inl e) all = subst P e all.0
one-of P x (y ∷ old) (inr later) all = one-of P x old later all.1

pub stays : (P : NodeView → Type 0) (old new : List NodeView) → AreAmong old new → Each P old → Each P new
stays P old [] h all = tt
stays P old (n ∷ new) h all = (one-of P n old h.0 all, stays P old new h.1 all)

pub ranked-of : (dp : Dp) (k : ℕ) (nodes : List NodeView) → Each (IsNodeOf dp k) nodes → Each (IsRanked dp k) nodes
ranked-of dp k [] h = tt
ranked-of dp k (n ∷ nodes) h = (record { state = h.0.state; rank = h.0.rank; hash = h.0.hash }, ranked-of dp k nodes h.1)

-- ---- layer below layer

pub expand-last-on : (rule : List DdNode → TwoLayers) (a : List DdNode) (nodes : ℕ → List NodeView) (ps : List (List ℕ)) (k m : ℕ)
    → expand_last rule (a ∷ shown_down nodes ps k m) ≡ a ∷ expand_last rule (shown_down nodes ps k m)
expand-last-on rule a nodes ps k zero = refl
expand-last-on rule a nodes ps k (suc m) = refl

pub on-last-two-on : (rule : TwoLayers → TwoLayers) (a : List DdNode) (nodes : ℕ → List NodeView) (ps : List (List ℕ)) (k m : ℕ)
    → on_last_two rule (a ∷ shown_down nodes ps k (suc m)) ≡ a ∷ on_last_two rule (shown_down nodes ps k (suc m))
on-last-two-on rule a nodes ps k zero = refl
on-last-two-on rule a nodes ps k (suc m) = refl

last-on : (a : List DdNode) (nodes : ℕ → List NodeView) (ps : List (List ℕ)) (k m : ℕ) → last_layer (a ∷ shown_down nodes ps k m) ≡ last_layer (shown_down nodes ps k m)
last-on a nodes ps k zero = refl
last-on a nodes ps k (suc m) = refl

two-on : (a : List DdNode) (nodes : ℕ → List NodeView) (ps : List (List ℕ)) (k m : ℕ) → last_two (a ∷ shown_down nodes ps k (suc m)) ≡ last_two (shown_down nodes ps k (suc m))
two-on a nodes ps k zero = refl
two-on a nodes ps k (suc m) = refl

pub length-down : (nodes : ℕ → List NodeView) (ps : List (List ℕ)) (k m : ℕ) → length (shown_down nodes ps k m) ≡ m + 1
length-down nodes ps k zero = refl
length-down nodes ps k (suc m) = let e = length-down nodes (paths_below ps (nodes (k + 1))) (k + 1) m in omega arith

-- the last layer, and the one above it
pub last-is : (nodes : ℕ → List NodeView) (ps : List (List ℕ)) (k m d : ℕ) → k + m ≡ d → last_layer (shown_down nodes ps k m) ≡ shown_layer (path_in (paths_at nodes ps k m)) (nodes d)
last-is nodes ps k zero d e = let same : k ≡ d = omega arith in ap (λ (j : ℕ). shown_layer (path_in ps) (nodes j)) same
last-is nodes ps k (suc m) d e =
    last-on (shown_layer (path_in ps) (nodes k)) nodes (paths_below ps (nodes (k + 1))) (k + 1) m ∙ last-is nodes (paths_below ps (nodes (k + 1))) (k + 1) m d (omega arith)

pub paths-last : (nodes : ℕ → List NodeView) (ps : List (List ℕ)) (k m d : ℕ) → k + m + 1 ≡ d → paths_at nodes ps k (suc m) ≡ paths_below (paths_at nodes ps k m) (nodes d)
paths-last nodes ps k zero d e = let same : k + 1 ≡ d = omega arith in ap (λ (j : ℕ). paths_below ps (nodes j)) same
paths-last nodes ps k (suc m) d e = paths-last nodes (paths_below ps (nodes (k + 1))) (k + 1) m d (omega arith)

pub two-are : (nodes : ℕ → List NodeView) (ps : List (List ℕ)) (k m d : ℕ) → k + m ≡ d
    → last_two (shown_down nodes ps k (suc m)) ≡ record { above = shown_layer (path_in (paths_at nodes ps k m)) (nodes d); next = shown_below (path_in (paths_at nodes ps k m)) (nodes (d + 1)) }
two-are nodes ps k zero d e =
    let same : k ≡ d = omega arith in
    subst (λ (j : ℕ). last_two (shown_down nodes ps j 1) ≡ record { above = shown_layer (path_in ps) (nodes d); next = shown_below (path_in ps) (nodes (d + 1)) }) (sym same)
    (ap (λ (l : List DdNode). record { above = shown_layer (path_in ps) (nodes d); next = l }) (as-below ps (nodes (d + 1))))
two-are nodes ps k (suc m) d e =
    two-on (shown_layer (path_in ps) (nodes k)) nodes (paths_below ps (nodes (k + 1))) (k + 1) m ∙ two-are nodes (paths_below ps (nodes (k + 1))) (k + 1) m d (omega arith)

-- layers that are the same but for the last one's arcs are seen in the same way, and one more below them
pub expand-shown : (rule : List DdNode → TwoLayers) (old new : ℕ → List NodeView) (d : ℕ) → ((j : ℕ) → j < d → new j ≡ old j) → ((j : ℕ) → j ≤ d → map without_arcs (new j) ≡ map without_arcs (old j))
    → ((paths : ℕ → List ℕ) → shown_layer paths (new d) ≡ (rule (shown_layer paths (old d))).above) → ((paths : ℕ → List ℕ) → shown_below paths (new (d + 1)) ≡ (rule (shown_layer paths (old d))).next)
    → (ps : List (List ℕ)) (k m : ℕ) → k + m ≡ d → shown_down new ps k (suc m) ≡ expand_last rule (shown_down old ps k m)
expand-shown rule old new d same bare above next ps k zero e =
    let at : k ≡ d = omega arith in
    subst (λ (j : ℕ). shown_down new ps j 1 ≡ expand_last rule (shown_down old ps j 0)) (sym at)
    (ap₂ (λ (a b : List DdNode). a ∷ b ∷ []) (above (path_in ps)) (as-below ps (new (d + 1)) ∙ next (path_in ps)))
expand-shown rule old new d same bare above next ps k (suc m) e =
    let here = same k (omega arith) in
    let paths = paths-same ps (new (k + 1)) (old (k + 1)) (bare (k + 1) (omega arith)) in
    let rest = expand-shown rule old new d same bare above next (paths_below ps (new (k + 1))) (k + 1) m (omega arith) in
    ap₂ (λ (a : List DdNode) (b : List (List DdNode)). a ∷ b) (ap (shown_layer (path_in ps)) here) (rest ∙ ap (λ (p : List (List ℕ)). expand_last rule (shown_down old p (k + 1) m)) paths)
    ∙ sym (expand-last-on rule (shown_layer (path_in ps) (old k)) old (paths_below ps (old (k + 1))) (k + 1) m)

pub two-shown : (rule : TwoLayers → TwoLayers) (old new : ℕ → List NodeView) (d : ℕ) → ((j : ℕ) → j < d → new j ≡ old j) → ((j : ℕ) → j ≤ d → map without_arcs (new j) ≡ map without_arcs (old j))
    → ((paths below : ℕ → List ℕ) → shown_layer paths (new d) ≡ (rule (record { above = shown_layer paths (old d); next = shown_below below (old (d + 1)) })).above)
    → ((paths : ℕ → List ℕ) (a : List DdNode) → shown_below paths (new (d + 1)) ≡ (rule (record { above = a; next = shown_below paths (old (d + 1)) })).next)
    → (ps : List (List ℕ)) (k m : ℕ) → k + m ≡ d → shown_down new ps k (suc m) ≡ on_last_two rule (shown_down old ps k (suc m))
two-shown rule old new d same bare above next ps k zero e =
    let at : k ≡ d = omega arith in
    let paths = paths-same ps in
    subst (λ (j : ℕ). shown_down new ps j 1 ≡ on_last_two rule (shown_down old ps j 1)) (sym at)
    (subst (λ (l : List DdNode). shown_layer (path_in ps) (new d) ∷ shown_layer (path_in (paths_below ps (new (d + 1)))) (new (d + 1)) ∷ []
    ≡ (rule (record { above = shown_layer (path_in ps) (old d); next = l })).above ∷ (rule (record { above = shown_layer (path_in ps) (old d); next = l })).next ∷ []) (sym (as-below ps (old (d + 1))))
    (ap₂ (λ (a b : List DdNode). a ∷ b ∷ []) (above (path_in ps) (path_in ps)) (as-below ps (new (d + 1)) ∙ next (path_in ps) (shown_layer (path_in ps) (old d)))))
two-shown rule old new d same bare above next ps k (suc m) e =
    let here = same k (omega arith) in
    let paths = paths-same ps (new (k + 1)) (old (k + 1)) (bare (k + 1) (omega arith)) in
    let rest = two-shown rule old new d same bare above next (paths_below ps (new (k + 1))) (k + 1) m (omega arith) in
    ap₂ (λ (a : List DdNode) (b : List (List DdNode)). a ∷ b) (ap (shown_layer (path_in ps)) here) (rest ∙ ap (λ (p : List (List ℕ)). on_last_two rule (shown_down old p (k + 1) (suc m))) paths)
    ∙ sym (on-last-two-on rule (shown_layer (path_in ps) (old k)) old (paths_below ps (old (k + 1))) (k + 1) m)

pub bare-all : (old new : ℕ → List NodeView) (d : ℕ) → ((j : ℕ) → j < d → new j ≡ old j) → map without_arcs (new d) ≡ map without_arcs (old d) → (j : ℕ) → j ≤ d → map without_arcs (new j) ≡ map without_arcs (old j)
bare-all old new d same here j low = go (grind arith)
  where
    go : (j < d) ⊎ (j ≡ d) → map without_arcs (new j) ≡ map without_arcs (old j)
    go (inl less) = ap (map without_arcs) (same j less)
    go (inr e) = subst (λ (i : ℕ). map without_arcs (new i) ≡ map without_arcs (old i)) (sym e) here
