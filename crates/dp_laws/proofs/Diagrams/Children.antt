-- The children of a diagram as subproblems, without their places.
use Rattle.std.proofs.Common.{◌≡◌, ℕ, zero, suc, ◌+◌, ◌-◌, ◌+ℤ◌, Bool, true, false, cond, List, [], ◌∷◌, ◌++◌, length, map, filter, drop, slice_get, Option, Some, None, option_map, option_and_then, unwrap_or, refl, sym, ◌∙◌, ap, arith, length-append, append_assoc}
use Rattle.std.specs.List.{filter_map, cons_option}
use Rattle.dp_model.specs.Solution.{Solution}
use Rattle.dp_model.specs.Dp.{Dp}
use Rattle.dp_model.specs.Subproblem.{Subproblem}
use Rattle.dp_laws.specs.Diagrams.Nodes.{DdNode, DdLayers, node_at}
use Rattle.dp_laws.specs.Diagrams.Cutsets.{lesser_of, bound_of, places_where, last_exact_at, is_border, all_borders_at, passes, outermost, with_bound, child_from, frontier_at, first_exact}

-- the node as a child
abbrev pub child_of : Dp → ℕ → DdNode → Option Subproblem
child_of dp k node =
    option_map (λ more. record { decisions = node.path; row = node.row; value = node.value; bound = node.value +ℤ more })
    (lesser_of node.suffix (dp.rough k node.row))

abbrev pub last_exact_from : Dp → ℕ → List (List DdNode) → Option ℕ → List Subproblem
last_exact_from dp first layers None = []
last_exact_from dp first layers (Some depth) = filter_map (child_of dp (depth - 1)) (unwrap_or (slice_get layers (depth - 1 - first)) [])

abbrev pub borders : Dp → ℕ → List DdNode → List DdNode → List Subproblem
borders dp k layer next = filter_map (child_of dp k) (filter (is_border next) layer)

abbrev pub all_borders : Dp → ℕ → List (List DdNode) → List Subproblem
all_borders dp k [] = []
all_borders dp k (layer ∷ []) = []
all_borders dp k (layer ∷ next ∷ rest) = borders dp k layer next ++ all_borders dp (k + 1) (next ∷ rest)

abbrev pub path_of : Subproblem → List ℕ
path_of c = c.decisions

abbrev pub frontier_from : Dp → ℕ → List (List DdNode) → List Subproblem
frontier_from dp first layers = outermost path_of [] (all_borders dp (first + 1) (drop 1 layers))

abbrev pub found_from : Dp → ℕ → List (List DdNode) → Option Solution
found_from dp first layers = first_exact (unwrap_or (slice_get layers (dp.vars - first)) [])

-- The subproblems of the places.

at-front : {X : Type 0} (front : List X) (x : X) (rest : List X) (i : ℕ) → length front ≡ i → slice_get (front ++ x ∷ rest) i ≡ Some x
at-front [] x rest zero e = refl
at-front [] x rest (suc i) e = absurd (omega arith)
at-front (y ∷ front) x rest zero e = absurd (omega arith)
at-front (y ∷ front) x rest (suc i) e = at-front front x rest i (omega arith)

one-more : {X : Type 0} (front : List X) (x : X) (i : ℕ) → length front ≡ i → length (front ++ x ∷ []) ≡ i + 1
one-more front x i e = let long = length-append front (x ∷ []) in omega arith

-- a node that is shown at its place is the child's
one-child : (dp : Dp) (d : DdLayers) (k i : ℕ) (node : DdNode) → node_at d k i ≡ Some node
    → option_map (child_from d) (option_map (λ bound. record { depth = k; place = i; bound = bound }) (bound_of dp k node)) ≡ child_of dp k node
one-child dp d k i node at =
    elim (lesser_of node.suffix (dp.rough k node.row)) as (λ o. option_map (child_from d) (option_map (λ bound. record { depth = k; place = i; bound = bound }) (option_map (λ more. node.value +ℤ more) o))
    ≡ option_map (λ more. record { decisions = node.path; row = node.row; value = node.value; bound = node.value +ℤ more }) o) [
      | None ↦ refl
      | Some more ↦ ap (λ (o : Option DdNode). Some (with_bound o (node.value +ℤ more))) at
    ]

map-cons : {X Y : Type 0} (f : X → Y) (o : Option X) (xs : List X) → map f (cons_option o xs) ≡ cons_option (option_map f o) (map f xs)
map-cons f None xs = refl
map-cons f (Some x) xs = refl

filter-cons : {X Y : Type 0} (f : X → Option Y) (test : X → Bool) (x : X) (xs : List X)
    → filter_map f (filter test (x ∷ xs)) ≡ cons_option (cond (test x) (f x) None) (filter_map f (filter test xs))
filter-cons f test x xs = elim (test x) as (λ b. filter_map f (cond b (x ∷ filter test xs) (filter test xs)) ≡ cons_option (cond b (f x) None) (filter_map f (filter test xs))) [ true ↦ refl | false ↦ refl ]

map-cond : {X Y : Type 0} (f : X → Y) (b : Bool) (o : Option X) → option_map f (cond b o None) ≡ cond b (option_map f o) None
map-cond f true o = refl
map-cond f false o = refl

places-are : (test : DdNode → Bool) (dp : Dp) (d : DdLayers) (k i : ℕ) (front nodes : List DdNode) → slice_get d.layers (k - d.first) ≡ Some (front ++ nodes) → length front ≡ i
    → map (child_from d) (places_where test dp k i nodes) ≡ filter_map (child_of dp k) (filter test nodes)
places-are test dp d k i front [] at e = refl
places-are test dp d k i front (node ∷ nodes) at e =
    let place = option_map (λ bound. record { depth = k; place = i; bound = bound }) (bound_of dp k node) in
    let here : node_at d k i ≡ Some node = ap (λ o. option_and_then (λ (layer : List DdNode). slice_get layer i) o) at ∙ at-front front node nodes i e in
    let later = places-are test dp d k (i + 1) (front ++ node ∷ []) nodes (at ∙ ap (λ l. Some l) (sym (append_assoc front (node ∷ []) nodes))) (one-more front node i e) in
    let child : option_map (child_from d) (cond (test node) place None) ≡ cond (test node) (child_of dp k node) None =
    map-cond (child_from d) (test node) place ∙ ap (λ o. cond (test node) o None) (one-child dp d k i node here) in
    map-cons (child_from d) (cond (test node) place None) (places_where test dp k (i + 1) nodes) ∙
    (ap (λ o. cons_option o (map (child_from d) (places_where test dp k (i + 1) nodes))) child ∙
    (ap (λ cs. cons_option (cond (test node) (child_of dp k node) None) cs) later ∙ sym (filter-cons (child_of dp k) test node nodes)))

filter-all : {X : Type 0} (xs : List X) → filter (λ x. true) xs ≡ xs
filter-all [] = refl
filter-all (x ∷ xs) = ap (λ l. x ∷ l) (filter-all xs)

last-exact-here : (dp : Dp) (d : DdLayers) (k : ℕ) (o : Option (List DdNode)) → slice_get d.layers (k - d.first) ≡ o
    → map (child_from d) (places_where (λ node. true) dp k 0 (unwrap_or o [])) ≡ filter_map (child_of dp k) (unwrap_or o [])
last-exact-here dp d k None at = refl
last-exact-here dp d k (Some layer) at = places-are (λ node. true) dp d k 0 [] layer at refl ∙ ap (filter_map (child_of dp k)) (filter-all layer)

pub last-exact-are : (dp : Dp) (d : DdLayers) (o : Option ℕ) → map (child_from d) (last_exact_at dp d o) ≡ last_exact_from dp d.first d.layers o
last-exact-are dp d None = refl
last-exact-are dp d (Some depth) = last-exact-here dp d (depth - 1) (slice_get d.layers (depth - 1 - d.first)) refl

map-append : {X Y : Type 0} (f : X → Y) (xs ys : List X) → map f (xs ++ ys) ≡ map f xs ++ map f ys
map-append f [] ys = refl
map-append f (x ∷ xs) ys = ap (λ l. f x ∷ l) (map-append f xs ys)

borders-are : (dp : Dp) (d : DdLayers) (j k : ℕ) (front layers : List (List DdNode)) → d.layers ≡ front ++ layers → length front ≡ j → k ≡ d.first + j
    → map (child_from d) (all_borders_at dp k layers) ≡ all_borders dp k layers
borders-are dp d j k front [] are long e = refl
borders-are dp d j k front (layer ∷ []) are long e = refl
borders-are dp d j k front (layer ∷ next ∷ rest) are long e =
    let place : k - d.first ≡ j = omega arith in
    let at : slice_get d.layers (k - d.first) ≡ Some layer =
    ap (λ ls. slice_get ls (k - d.first)) are ∙ (ap (λ n. slice_get (front ++ layer ∷ next ∷ rest) n) place ∙ at-front front layer (next ∷ rest) j long) in
    let here = places-are (is_border next) dp d k 0 [] layer at refl in
    let later = borders-are dp d (j + 1) (k + 1) (front ++ layer ∷ []) (next ∷ rest) (are ∙ sym (append_assoc front (layer ∷ []) (next ∷ rest))) (one-more front layer j long) (omega arith) in
    map-append (child_from d) (places_where (is_border next) dp k 0 layer) (all_borders_at dp (k + 1) (next ∷ rest)) ∙
    (ap (λ cs. cs ++ map (child_from d) (all_borders_at dp (k + 1) (next ∷ rest))) here ∙ ap (λ cs. borders dp k layer next ++ cs) later)

passes-map : {X Y : Type 0} (f : X → Y) (path : Y → List ℕ) (xs : List X) (p : List ℕ) → passes (λ x. path (f x)) xs p ≡ passes path (map f xs) p
passes-map f path [] p = refl
passes-map f path (x ∷ xs) p = let rest = passes-map f path xs p in rw rest refl

outermost-map : {X Y : Type 0} (f : X → Y) (path : Y → List ℕ) (kept xs : List X) → map f (outermost (λ x. path (f x)) kept xs) ≡ outermost path (map f kept) (map f xs)
outermost-map f path kept [] = refl
outermost-map f path kept (x ∷ xs) =
    let skip = outermost-map f path kept xs in
    let keep = outermost-map f path (x ∷ kept) xs in
    let test = passes-map f path kept (path (f x)) in
    elim (passes (λ x. path (f x)) kept (path (f x))) as (λ b. passes (λ x. path (f x)) kept (path (f x)) ≡ b
    → map f (cond b (outermost (λ x. path (f x)) kept xs) (x ∷ outermost (λ x. path (f x)) (x ∷ kept) xs)) ≡ cond (passes path (map f kept) (path (f x))) (outermost path (map f kept) (map f xs)) (f x ∷ outermost path (map f (x ∷ kept)) (map f xs))) [
      | true ↦ λ e. (let same : passes path (map f kept) (path (f x)) ≡ true = sym test ∙ e in rw same skip)
      | false ↦ λ e. (let same : passes path (map f kept) (path (f x)) ≡ false = sym test ∙ e in rw same (ap (λ l. f x ∷ l) keep))
    ] refl

first-drop : (d : DdLayers) (dp : Dp) (layers : List (List DdNode)) → d.layers ≡ layers → map (child_from d) (all_borders_at dp (d.first + 1) (drop 1 layers)) ≡ all_borders dp (d.first + 1) (drop 1 layers)
first-drop d dp [] are = refl
first-drop d dp (layer ∷ layers) are = borders-are dp d 1 (d.first + 1) (layer ∷ []) layers are refl refl

pub frontier-are : (dp : Dp) (d : DdLayers) → map (child_from d) (frontier_at dp d) ≡ frontier_from dp d.first d.layers
frontier-are dp d =
    outermost-map (child_from d) path_of [] (all_borders_at dp (d.first + 1) (drop 1 d.layers)) ∙ ap (outermost path_of []) (first-drop d dp d.layers refl)

pub borders-below : (dp : Dp) (d : DdLayers) → map (child_from d) (all_borders_at dp (d.first + 1) (drop 1 d.layers)) ≡ all_borders dp (d.first + 1) (drop 1 d.layers)
borders-below dp d = first-drop d dp d.layers refl
