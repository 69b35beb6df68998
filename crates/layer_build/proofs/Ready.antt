-- A workspace that was made has its rooms.
use Rattle.std.proofs.Common.{◌≡◌, ℕ, ◌+◌, ◌-◌, ◌*◌, ◌<◌, ◌≤◌, List, [], ◌∷◌, ◌++◌, map, length, slice_index_or, None, refl, sym, ap, ap₂, ◌∙◌, subst, arith, length-append, mul-le-mul_right, ◌⊎◌, inl, inr}
use Rattle.std.proofs.lemmas.List.{get_or_append_left, get_or-append-add, length-replicate}
use Rattle.dp_model.specs.Decisions.{below}
use Rattle.dp_model.specs.Dp.{Dp}
use Rattle.dp_model.specs.Laws.{IsLawful}
use Rattle.dp_laws.specs.Width.{cost_below}
use Rattle.layer_candidates.specs.HeldRows.{AreLive}
use Rattle.layer_nodes.specs.Holding.{AreHeld, places_of}
use Rattle.layer_nodes.specs.Nodes.{NodeView, LayerView}
use Rattle.row_region.specs.Region.{RegionView}
use Rattle.layer_build.specs.Layers.{IsWidth}
use Rattle.layer_build.specs.Stacked.{empty_layer, no_layer, room_of, second_room, nodes_in, places_down, places_from, rows_below, HaveRooms, HasRows, HasStack}
use Rattle.layer_build.specs.Preparing.{IsReady}
use Rattle.layer_build.specs.declared.stack.Stack.{Stack}
use Rattle.layer_build.proofs.Held.{newest-nodes}
use Rattle.layer_build.proofs.Stacks.{choice-at, map-append, below-at}
use Rattle.layer_build.proofs.Memory.{count-below}

pub width-one : (dp : Dp) (w : ℕ) → IsWidth dp w → IsWidth dp 1
width-one dp w h =
    let cost = h.fits.cost in
    let more : 1 * cost_below dp dp.vars ≤ w * cost_below dp dp.vars = mul-le-mul_right (cost_below dp dp.vars) h.positive in
    record { positive = omega arith; fits = record { most = omega arith; cost = omega arith } }

rooms-below : (f : ℕ → LayerView) → ((k : ℕ) → room_of (f k) ≡ f k) → (xs : List ℕ) → map room_of (map f xs) ≡ map f xs
rooms-below f same [] = refl
rooms-below f same (x ∷ xs) = ap₂ (λ (a : LayerView) (l : List LayerView). a ∷ l) (same x) (rooms-below f same xs)

any-of : (P : LayerView → Type 0) (at : ℕ → LayerView) (n : ℕ) → ((k : ℕ) → k < n → P (at k)) → P (at n) → P (at (n + 1)) → (i : ℕ) → i < n + 2 → P (at i)
any-of P at n a b c i within = go (grind arith)
  where
    go : (i < n) ⊎ ((i ≡ n) ⊎ (i ≡ n + 1)) → P (at i)
    go (inl less) = a i less
    go (inr (inl same)) = subst (λ (k : ℕ). P (at k)) (sym same) b
    go (inr (inr same)) = subst (λ (k : ℕ). P (at k)) (sym same) c

pub ready-stack : (dp : Dp) → IsLawful dp → (width room words : ℕ) (choices : List ℕ) (s : Stack) → IsReady dp width room s → words ≡ dp.words → choices ≡ map dp.choices (below dp.vars) → HasStack words width choices s
ready-stack dp laws width room words choices s r words-are e =
    let f = λ (k : ℕ). empty_layer dp.words width (width * dp.choices k) in
    let second = empty_layer dp.words r.nodes r.arcs in
    let top = empty_layer dp.words 0 0 in
    let front = map f (below dp.vars) in
    let size : length front ≡ dp.vars = count-below f dp.vars in
    let all : map room_of s.layers.items ≡ front ++ second ∷ top ∷ [] = ap (map room_of) r.layers ∙ (map-append room_of front (second ∷ top ∷ []) ∙ ap (λ (l : List LayerView). l ++ second ∷ top ∷ []) (rooms-below f (λ k. refl) (below dp.vars))) in
    let low : (k : ℕ) → k < dp.vars → slice_index_or (front ++ second ∷ top ∷ []) k no_layer ≡ f k = λ k less. get_or_append_left front (second ∷ top ∷ []) no_layer k (omega arith) ∙ below-at f dp.vars k no_layer less in
    let at-second : slice_index_or (front ++ second ∷ top ∷ []) dp.vars no_layer ≡ second = ap (λ (k : ℕ). slice_index_or (front ++ second ∷ top ∷ []) k no_layer) (let g : dp.vars ≡ length front + 0 = omega arith in g) ∙ get_or-append-add front (second ∷ top ∷ []) 0 no_layer in
    let at-top : slice_index_or (front ++ second ∷ top ∷ []) (dp.vars + 1) no_layer ≡ top = ap (λ (k : ℕ). slice_index_or (front ++ second ∷ top ∷ []) k no_layer) (let g : dp.vars + 1 ≡ length front + 1 = omega arith in g) ∙ get_or-append-add front (second ∷ top ∷ []) 1 no_layer in
    let vars = laws.sizes.vars in
    let is-vars = r.vars in
    let is-first = r.first in
    let is-last = r.last in
    let any : (P : LayerView → Type 0) → ((k : ℕ) → k < dp.vars → P (f k)) → P second → P top → (i : ℕ) → i < dp.vars + 2 → P (slice_index_or (front ++ second ∷ top ∷ []) i no_layer) = λ P a b c i within.
    any-of P (λ (k : ℕ). slice_index_or (front ++ second ∷ top ∷ []) k no_layer) dp.vars (λ k less. subst P (sym (low k less)) (a k less)) (subst P (sym at-second) b) (subst P (sym at-top) c) i within in
    let plain : HaveRooms dp.vars dp.words width choices (front ++ second ∷ top ∷ []) = record {
      count = length-append front (second ∷ top ∷ []) ∙ omega arith;
      words_are = any (λ (l : LayerView). l.words ≡ dp.words) (λ k less. refl) refl refl;
      nodes = λ k less. ap (λ (l : LayerView). l.nodes_room) (low k less);
      arcs = λ k less. ap (λ (l : LayerView). l.arcs_room) (low k less) ∙ ap (λ (n : ℕ). width * n) (sym (choice-at dp choices dp.vars k e refl less));
      second_nodes = λ k less. subst (λ (l : LayerView). slice_index_or choices k 0 ≤ l.nodes_room) (sym at-second) (subst (λ (n : ℕ). n ≤ r.nodes) (sym (choice-at dp choices dp.vars k e refl less)) (r.choices k less));
      second_arcs = λ k less. subst (λ (l : LayerView). slice_index_or choices k 0 * slice_index_or choices (k + 1) 0 ≤ l.arcs_room) (sym at-second)
          (subst (λ (n : ℕ). n * slice_index_or choices (k + 1) 0 ≤ r.arcs) (sym (choice-at dp choices dp.vars k e refl (omega arith))) (subst (λ (n : ℕ). dp.choices k * n ≤ r.arcs) (sym (choice-at dp choices dp.vars (k + 1) e refl less)) (r.pairs k less)));
    } in
    record {
      small = omega arith;
      first = omega arith;
      last = omega arith;
      rooms = subst (λ (v : ℕ). HaveRooms v words width choices (map room_of s.layers.items)) (sym r.vars)
          (subst (λ (n : ℕ). HaveRooms dp.vars n width choices (map room_of s.layers.items)) (sym words-are) (subst (HaveRooms dp.vars dp.words width choices) (sym all) plain));
      newest_words = ap (λ (l : LayerView). l.words) r.newest ∙ sym words-are;
      top = ap (λ (v : ℕ). (slice_index_or s.layers.items (v + 1) no_layer).nodes) r.vars ∙ (ap (λ (l : List LayerView). (slice_index_or l (dp.vars + 1) no_layer).nodes) r.layers ∙ ap (λ (l : LayerView). l.nodes) at-top);
    }

-- the room below the first layer
second-ready : (dp : Dp) (width room : ℕ) (s : Stack) (r : IsReady dp width room s) → second_room s.vars s.layers.items ≡ r.nodes
second-ready dp width room s r =
    let f = λ (k : ℕ). empty_layer dp.words width (width * dp.choices k) in
    let rest = empty_layer dp.words r.nodes r.arcs ∷ empty_layer dp.words 0 0 ∷ [] in
    let size : length (map f (below dp.vars)) ≡ dp.vars = count-below f dp.vars in
    let at : s.vars ≡ length (map f (below dp.vars)) + 0 = (let v = r.vars in omega arith) in
    ap (λ (l : List LayerView). second_room s.vars l) r.layers
    ∙ (ap (λ (k : ℕ). second_room k (map f (below dp.vars) ++ rest)) at ∙ ap (λ (l : LayerView). l.nodes_room) (get_or-append-add (map f (below dp.vars)) rest 0 no_layer))

pub ready-rows : (dp : Dp) (width room words : ℕ) (s : Stack) → IsReady dp width room s → words ≡ dp.words → HasRows words width 0 s
ready-rows dp width room words s r words-are =
    let second = second-ready dp width room s r in
    let first = r.first in
    let last = r.last in
    let none : s.vars - s.last ≡ s.vars = omega arith in
    let below : (s.vars - s.last) * width ≡ dp.vars * width = ap (λ (n : ℕ). n * width) (none ∙ r.vars) in
    let all : s.vars * width ≡ dp.vars * width = ap (λ (n : ℕ). n * width) r.vars in
    let free = ap (λ (v : RegionView). v.spare) r.region in
    let size = ap (λ (v : RegionView). length v.rows) r.region ∙ length-replicate (dp.vars * width + r.nodes + rows_below width room) None in
    let is-room = ap (λ (l : LayerView). l.nodes_room) r.newest in
    let count = ap (λ (l : List ℕ). length l) places in
    record {
      words_are = ap (λ (v : RegionView). v.words) r.region ∙ sym words-are;
      begun = omega arith;
      low = omega arith;
      held_rows = λ k from low. (let same : k ≡ s.last = omega arith in subst (λ (d : ℕ). AreHeld s.region (nodes_in s d)) (sym same) (subst (AreHeld s.region) (sym (newest-nodes s ∙ empty)) tt));
      live = subst (AreLive s.region) (sym places) (record { live = tt; apart = tt });
      count = omega arith;
      few = subst (λ (l : List NodeView). length l ≤ s.newest.nodes_room) (sym empty) (omega arith);
      spare = omega arith;
      second_spare = λ near. omega arith;
      enough = omega arith;
    }
  where
    empty : s.newest.nodes ≡ []
    empty = ap (λ (l : LayerView). l.nodes) r.newest

    places : places_from 0 s ≡ []
    places = let last : s.last - 0 ≡ 0 = (let none = r.last in omega arith) in ap₂ (λ (n : ℕ) (l : List NodeView). places_down (nodes_in s) 0 n ++ places_of l) last empty
