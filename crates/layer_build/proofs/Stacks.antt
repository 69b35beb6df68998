-- Where the layers of a stack lie.
use Rattle.std.proofs.Common.{◌≡◌, ◌≢◌, ℕ, zero, suc, ◌+◌, ◌-◌, ◌*◌, ◌<◌, ◌≤◌, nat_eq, Bool, true, false, cond, List, [], ◌∷◌, ◌++◌, map, set, length, get_or, slice_index_or, ◌⊎◌, inl, inr, mul-le-mul_right, refl, sym, ap, ◌∙◌, subst, arith, length-append}
use Rattle.std.proofs.lemmas.Bool.Decides.{nat_tests}
use Rattle.std.proofs.lemmas.List.{get_or-set_same, get_or-set_other}
use Rattle.std.proofs.Math.ListN.{get_or-map}
use Rattle.std.proofs.Math.Seq.{map-set_same, get_or-append_seam}
use Rattle.std.proofs.lemmas.List.{get_or_append_left}
use Rattle.dp_model.specs.Decisions.{below}
use Rattle.dp_model.specs.Dp.{Dp}
use Rattle.layer_nodes.specs.Nodes.{NodeView, LayerView}
use Rattle.layer_nodes.specs.Steps.{KeepsRoom}
use Rattle.layer_build.specs.Layers.{AreEnough}
use Rattle.layer_build.specs.Stacked.{no_layer, place_of, place_above, room_of, HaveRooms, shown_down}
use Rattle.layer_build.proofs.Shown.{length-down}

-- the nodes at a depth
abbrev pub at_depth : ℕ → ℕ → ℕ → List LayerView → LayerView → ℕ → List NodeView
at_depth vars first last layers newest depth = (cond (nat_eq depth last) newest (slice_index_or layers (place_of vars first depth) no_layer)).nodes

eq-test : (a b : ℕ) → a ≡ b → nat_eq a b ≡ true
eq-test a b e = grind (arith, nat_tests)

other-test : (a b : ℕ) → a ≢ b → nat_eq a b ≡ false
other-test a b n = grind (arith, nat_tests)

pub newest-at : (vars first last : ℕ) (layers : List LayerView) (newest : LayerView) (depth : ℕ) → depth ≡ last → at_depth vars first last layers newest depth ≡ newest.nodes
newest-at vars first last layers newest depth e = ap (λ (b : Bool). (cond b newest (slice_index_or layers (place_of vars first depth) no_layer)).nodes) (eq-test depth last e)

pub above-at : (vars first last : ℕ) (layers : List LayerView) (newest : LayerView) (depth : ℕ) → depth ≢ last → at_depth vars first last layers newest depth ≡ (slice_index_or layers (place_of vars first depth) no_layer).nodes
above-at vars first last layers newest depth n = ap (λ (b : Bool). (cond b newest (slice_index_or layers (place_of vars first depth) no_layer)).nodes) (other-test depth last n)

pub place-other : (vars first depth : ℕ) → depth ≢ first + 1 → place_of vars first depth ≡ depth
place-other vars first depth n = ap (λ (b : Bool). cond b vars depth) (other-test depth (first + 1) n)

pub place-second : (vars first depth : ℕ) → depth ≡ first + 1 → place_of vars first depth ≡ vars
place-second vars first depth e = ap (λ (b : Bool). cond b vars depth) (eq-test depth (first + 1) e)

pub is-or : (a b : ℕ) → (a ≡ b) ⊎ (a ≢ b)
is-or a b = elim (nat_eq a b) as (λ v. nat_eq a b ≡ v → (a ≡ b) ⊎ (a ≢ b)) [
  | true ↦ λ e. inl (grind (arith, nat_tests))
  | false ↦ λ e. inr (λ same. let t = eq-test a b same in absurd (let clash : true ≡ false = sym t ∙ e in cc))
] refl

pub place-low : (vars first depth : ℕ) → depth ≤ vars → place_of vars first depth ≤ vars
place-low vars first depth low = go (is-or depth (first + 1))
  where
    go : (depth ≡ first + 1) ⊎ (depth ≢ first + 1) → place_of vars first depth ≤ vars
    go (inl e) = let p = place-second vars first depth e in omega arith
    go (inr n) = let p = place-other vars first depth n in omega arith

pub places-apart : (vars first i j : ℕ) → i < vars → j < vars → i ≢ j → place_of vars first i ≢ place_of vars first j
places-apart vars first i j li lj n = go (is-or i (first + 1)) (is-or j (first + 1))
  where
    go : (i ≡ first + 1) ⊎ (i ≢ first + 1) → (j ≡ first + 1) ⊎ (j ≢ first + 1) → place_of vars first i ≢ place_of vars first j
    go (inl a) (inl b) = absurd (n (a ∙ sym b))
    go (inl a) (inr b) = λ same. (let p = place-second vars first i a in let q = place-other vars first j b in absurd (omega arith))
    go (inr a) (inl b) = λ same. (let p = place-other vars first i a in let q = place-second vars first j b in absurd (omega arith))
    go (inr a) (inr b) = λ same. (let p = place-other vars first i a in let q = place-other vars first j b in n (sym p ∙ (same ∙ q)))

pub above-first : (vars first last : ℕ) → last ≡ first → place_above vars first last ≡ vars + 1
above-first vars first last e = ap (λ (b : Bool). cond b (vars + 1) (place_of vars first (last - 1))) (eq-test last first e)

pub above-later : (vars first last : ℕ) → first < last → place_above vars first last ≡ place_of vars first (last - 1)
above-later vars first last less = ap (λ (b : Bool). cond b (vars + 1) (place_of vars first (last - 1))) (other-test last first (λ e. absurd (omega arith)))

pub above-low : (vars first last : ℕ) → first ≤ last → last ≤ vars → place_above vars first last < vars + 2
above-low vars first last ordered low = go (is-or last first)
  where
    go : (last ≡ first) ⊎ (last ≢ first) → place_above vars first last < vars + 2
    go (inl e) = let p = above-first vars first last e in omega arith
    go (inr n) = let p = above-later vars first last (omega arith) in let q = place-low vars first (last - 1) (omega arith) in omega arith

-- ---- a layer is replaced

-- the layers at other depths stay
pub kept-at : (vars first last last' i : ℕ) (layers : List LayerView) (x newest newest' : LayerView) (j : ℕ) → j < last → j < last' → i ≢ place_of vars first j
    → at_depth vars first last' (set layers i x) newest' j ≡ at_depth vars first last layers newest j
kept-at vars first last last' i layers x newest newest' j low low' apart =
    above-at vars first last' (set layers i x) newest' j (λ e. absurd (omega arith))
    ∙ (ap (λ (l : LayerView). l.nodes) (get_or-set_other layers i (place_of vars first j) x no_layer (λ e. apart (sym e)))
    ∙ sym (above-at vars first last layers newest j (λ e. absurd (omega arith))))

-- the one that was replaced
pub put-at : (vars first last : ℕ) (layers : List LayerView) (x newest : LayerView) (j : ℕ) → j < last → place_of vars first j < length layers
    → at_depth vars first last (set layers (place_of vars first j) x) newest j ≡ x.nodes
put-at vars first last layers x newest j low within =
    above-at vars first last (set layers (place_of vars first j) x) newest j (λ e. absurd (omega arith))
    ∙ ap (λ (l : LayerView). l.nodes) (get_or-set_same layers (place_of vars first j) x no_layer within)

-- the rooms of the layers stay where one is replaced by another of its rooms
record-same : (a b : LayerView) → a.words ≡ b.words → a.nodes_room ≡ b.nodes_room → a.arcs_room ≡ b.arcs_room → room_of a ≡ room_of b
record-same a b p q r = cc

room-same : (a b : LayerView) → KeepsRoom b a → room_of a ≡ room_of b
room-same a b h = record-same a b h.words h.nodes_room h.arcs_room

pub rooms-set : (layers : List LayerView) (i : ℕ) (x old d : LayerView) → old ≡ get_or layers i d → KeepsRoom old x → map room_of (set layers i x) ≡ map room_of layers
rooms-set layers i x old d e k = map-set_same room_of layers i x d (room-same x old k ∙ ap room_of e)

-- ---- rooms

pub map-length : {X Y : Type 0} (f : X → Y) (xs : List X) → length (map f xs) ≡ length xs
map-length f [] = refl
map-length f (x ∷ xs) = ap suc (map-length f xs)

pub count-of : (vars words width : ℕ) (choices : List ℕ) (layers : List LayerView) → HaveRooms vars words width choices (map room_of layers) → length layers ≡ vars + 2
count-of vars words width choices layers h = sym (map-length room_of layers) ∙ h.count

pub room-at : (layers : List LayerView) (i : ℕ) → slice_index_or (map room_of layers) i no_layer ≡ room_of (slice_index_or layers i no_layer)
room-at layers i = get_or-map room_of layers i no_layer

pub words-at : (vars words width : ℕ) (choices : List ℕ) (layers : List LayerView) → HaveRooms vars words width choices (map room_of layers) → (i : ℕ) → i < vars + 2
    → (slice_index_or layers i no_layer).words ≡ words
words-at vars words width choices layers h i low = ap (λ (l : LayerView). l.words) (sym (room-at layers i)) ∙ h.words_are i low

pub length-below : (n : ℕ) → length (below n) ≡ n
length-below zero = refl
length-below (suc n) = let e = length-append (below n) (n ∷ []) in let f = length-below n in omega arith

pub map-append : {X Y : Type 0} (f : X → Y) (xs ys : List X) → map f (xs ++ ys) ≡ map f xs ++ map f ys
map-append f [] ys = refl
map-append f (x ∷ xs) ys = ap (λ l. f x ∷ l) (map-append f xs ys)

below-more : {X : Type 0} (f : ℕ → X) (n k : ℕ) (d : X) → (k < n → get_or (map f (below n)) k d ≡ f k) → (k ≡ n) ⊎ (k ≢ n) → k < suc n → get_or (map f (below n ++ n ∷ [])) k d ≡ f k
below-more f n k d again (inl e) less =
    let size : length (map f (below n)) ≡ n = map-length f (below n) ∙ length-below n in
    ap (λ l. get_or l k d) (map-append f (below n) (n ∷ [])) ∙ (ap (λ (i : ℕ). get_or (map f (below n) ++ f n ∷ []) i d) (e ∙ sym size) ∙ (get_or-append_seam (map f (below n)) (f n) [] d ∙ ap f (sym e)))
below-more f n k d again (inr other) less =
    let size : length (map f (below n)) ≡ n = map-length f (below n) ∙ length-below n in
    ap (λ l. get_or l k d) (map-append f (below n) (n ∷ [])) ∙ (get_or_append_left (map f (below n)) (f n ∷ []) d k (omega arith) ∙ again (omega arith))

pub below-at : {X : Type 0} (f : ℕ → X) (n k : ℕ) (d : X) → k < n → get_or (map f (below n)) k d ≡ f k
below-at f zero k d less = absurd (omega arith)
below-at f (suc n) k d less = below-more f n k d (λ low. below-at f n k d low) (is-or k n) less

pub choice-at : (dp : Dp) (choices : List ℕ) (vars k : ℕ) → choices ≡ map dp.choices (below dp.vars) → vars ≡ dp.vars → k < vars → slice_index_or choices k 0 ≡ dp.choices k
choice-at dp choices vars k e v less = ap (λ (l : List ℕ). slice_index_or l k 0) e ∙ below-at dp.choices dp.vars k 0 (omega arith)

-- what the last layer needs to be expanded: a place above with room for it and its arcs, and room for all candidates
pub record FitsAbove (n choices room : ℕ) (layer : LayerView) : Type 0 where
  pub nodes : n ≤ layer.nodes_room
  pub arcs : n * choices ≤ layer.arcs_room
  pub candidates : n * choices ≤ room

pub fits-above : (dp : Dp) (vars words width room : ℕ) (choices : List ℕ) (layers : List LayerView) (first last n : ℕ) → HaveRooms vars words width choices (map room_of layers)
    → choices ≡ map dp.choices (below dp.vars) → vars ≡ dp.vars → AreEnough dp width dp.vars room → 1 ≤ width → first ≤ last → last < vars
    → (last ≡ first → n ≤ 1) → (last ≡ first + 1 → n ≤ dp.choices first) → (first + 2 ≤ last → n ≤ width)
    → FitsAbove n (dp.choices last) room (slice_index_or layers (place_of vars first last) no_layer)
fits-above dp vars words width room choices layers first last n h e v enough positive ordered low one second later = go (is-or last (first + 1))
  where
    here : slice_index_or choices last 0 ≡ dp.choices last
    here = choice-at dp choices vars last e v low

    at-last : slice_index_or layers last no_layer ≡ slice_index_or layers last no_layer
    at-last = refl

    plain : n ≤ width → place_of vars first last ≡ last → FitsAbove n (dp.choices last) room (slice_index_or layers (place_of vars first last) no_layer)
    plain few at =
        let nodes : (slice_index_or layers last no_layer).nodes_room ≡ width = ap (λ (l : LayerView). l.nodes_room) (sym (room-at layers last)) ∙ h.nodes last low in
        let arcs : (slice_index_or layers last no_layer).arcs_room ≡ width * dp.choices last = ap (λ (l : LayerView). l.arcs_room) (sym (room-at layers last)) ∙ (h.arcs last low ∙ ap (λ (c : ℕ). width * c) here) in
        let product : n * dp.choices last ≤ width * dp.choices last = mul-le-mul_right (dp.choices last) few in
        let most : width * dp.choices last ≤ room = enough.later last (omega arith) in
        subst (λ (i : ℕ). FitsAbove n (dp.choices last) room (slice_index_or layers i no_layer)) (sym at) (record { nodes = omega arith; arcs = omega arith; candidates = omega arith })

    go : (last ≡ first + 1) ⊎ (last ≢ first + 1) → FitsAbove n (dp.choices last) room (slice_index_or layers (place_of vars first last) no_layer)
    go (inl same) =
        let at = place-second vars first last same in
        let few : n ≤ dp.choices first = second same in
        let first-is = choice-at dp choices vars first e v (omega arith) in
        let next-is : slice_index_or choices (first + 1) 0 ≡ dp.choices last = choice-at dp choices vars (first + 1) e v (omega arith) ∙ ap dp.choices (sym same) in
        let nodes : dp.choices first ≤ (slice_index_or layers vars no_layer).nodes_room = subst (λ (l : LayerView). dp.choices first ≤ l.nodes_room) (room-at layers vars) (subst (λ (c : ℕ). c ≤ (slice_index_or (map room_of layers) vars no_layer).nodes_room) first-is (h.second_nodes first (omega arith))) in
        let pairs : slice_index_or choices first 0 * slice_index_or choices (first + 1) 0 ≤ (slice_index_or (map room_of layers) vars no_layer).arcs_room = h.second_arcs first (omega arith) in
        let arcs : dp.choices first * dp.choices last ≤ (slice_index_or layers vars no_layer).arcs_room = subst (λ (l : LayerView). dp.choices first * dp.choices last ≤ l.arcs_room) (room-at layers vars)
        (subst (λ (c : ℕ). c * dp.choices last ≤ (slice_index_or (map room_of layers) vars no_layer).arcs_room) first-is (subst (λ (c : ℕ). slice_index_or choices first 0 * c ≤ (slice_index_or (map room_of layers) vars no_layer).arcs_room) next-is pairs)) in
        let product : n * dp.choices last ≤ dp.choices first * dp.choices last = mul-le-mul_right (dp.choices last) few in
        let most : dp.choices first * dp.choices last ≤ room = subst (λ (j : ℕ). dp.choices first * dp.choices j ≤ room) (sym same) (enough.second first (omega arith)) in
        subst (λ (i : ℕ). FitsAbove n (dp.choices last) room (slice_index_or layers i no_layer)) (sym at) (record { nodes = omega arith; arcs = omega arith; candidates = omega arith })
    go (inr other) = plain (narrow (is-or last first)) (place-other vars first last other)
      where
        narrow : (last ≡ first) ⊎ (last ≢ first) → n ≤ width
        narrow (inl same) = let few = one same in omega arith
        narrow (inr away) = later (omega arith)

-- ---- the depth of the last layer

pub depth-is : (nodes : ℕ → List NodeView) (ps : List (List ℕ)) (k first last : ℕ) → first ≡ k → first ≤ last → k + (length (shown_down nodes ps first (last - first)) - 1) ≡ last
depth-is nodes ps k first last e ordered = let long = length-down nodes ps first (last - first) in omega arith
