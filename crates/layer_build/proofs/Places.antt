-- The places of the rows that layers hold, and the rows that stay where others are given back and taken.
use Rattle.std.proofs.Common.{◌≡◌, ◌≢◌, ℕ, zero, suc, ◌+◌, ◌<◌, ◌≤◌, List, [], ◌∷◌, ◌++◌, slice_get, ◌⊎◌, inl, inr, refl, sym, ap, ap₂, ◌∙◌, subst, arith, append_assoc, append-nil, length-append}
use Rattle.std.proofs.lemmas.List.Sorted.{IsPermutation-append_comm}
use Rattle.dp_model.specs.Lists.{Each}
use Rattle.dp_model.proofs.Members.{Each-append}
use Rattle.layer_candidates.specs.HeldRows.{AreLive, AreSame, HasExchanged}
use Rattle.layer_candidates.proofs.HeldRows.{each-left, each-right, live-right, live-moved, exchange-beside}
use Rattle.layer_nodes.specs.Holding.{AreHeld, places_of}
use Rattle.layer_nodes.specs.Nodes.{NodeView}
use Rattle.row_region.specs.Region.{RegionView}
use Rattle.layer_build.specs.Stacked.{places_down}

-- ---- layer by layer

pub places-more : (nodes : ℕ → List NodeView) (k n : ℕ) → places_down nodes k (suc n) ≡ places_down nodes k n ++ places_of (nodes (k + n))
places-more nodes k zero = append-nil (places_of (nodes k)) ∙ ap (λ (j : ℕ). places_of (nodes j)) (let e : k ≡ k + 0 = omega arith in e)
places-more nodes k (suc n) =
    ap (λ (l : List ℕ). places_of (nodes k) ++ l) (places-more nodes (k + 1) n ∙ ap (λ (j : ℕ). places_down nodes (k + 1) n ++ places_of (nodes j)) (let e : k + 1 + n ≡ k + suc n = omega arith in e))
    ∙ sym (append_assoc (places_of (nodes k)) (places_down nodes (k + 1) n) (places_of (nodes (k + suc n))))

pub places-same : (old new : ℕ → List NodeView) (k n : ℕ) → ((j : ℕ) → k ≤ j → j < k + n → places_of (new j) ≡ places_of (old j)) → places_down new k n ≡ places_down old k n
places-same old new k zero same = refl
places-same old new k (suc n) same = ap₂ (λ (a b : List ℕ). a ++ b) (same k (omega arith) (omega arith)) (places-same old new (k + 1) n (λ j above low. same j (omega arith) (omega arith)))

-- what holds of all places holds of those of one layer
places-at : (P : ℕ → Type 0) (nodes : ℕ → List NodeView) (k n j : ℕ) → Each P (places_down nodes k n) → k ≤ j → j < k + n → Each P (places_of (nodes j))
places-at P nodes k zero j all above low = absurd (omega arith)
places-at P nodes k (suc n) j all above low =
    let rest = each-right P (places_of (nodes k)) (places_down nodes (k + 1) n) all in
    go (each-left P (places_of (nodes k)) (places_down nodes (k + 1) n) all) (λ later. places-at P nodes (k + 1) n j rest (omega arith) (omega arith)) (grind arith)
  where
    go : Each P (places_of (nodes k)) → (k < j → Each P (places_of (nodes j))) → (j ≡ k) ⊎ (k < j) → Each P (places_of (nodes j))
    go here rest (inl same) = subst (λ (i : ℕ). Each P (places_of (nodes i))) (sym same) here
    go here rest (inr later) = rest later

-- ---- the rows of nodes

held-same : (old new : RegionView) → new.words ≡ old.words → (nodes : List NodeView) → AreSame old new (places_of nodes) → AreHeld old nodes → AreHeld new nodes
held-same old new words [] same held = tt
held-same old new words (node ∷ nodes) same held = (record { found = same.0 ∙ held.0.found; size = held.0.size ∙ sym words }, held-same old new words nodes same.1 held.1)

-- both parts are live in either order
swapped : (region : RegionView) (xs ys : List ℕ) → AreLive region (xs ++ ys) → AreLive region (ys ++ xs)
swapped region xs ys h = live-moved region (xs ++ ys) (ys ++ xs) (IsPermutation-append_comm xs ys) h

pub live-left : (region : RegionView) (xs ys : List ℕ) → AreLive region (xs ++ ys) → AreLive region xs
live-left region xs ys h = live-right region ys xs (swapped region xs ys h)

-- the last layer's rows are exchanged
module _ (old new : RegionView) (before held : List ℕ) (e : HasExchanged old before new held) where
  pub live-beside : (rest : List ℕ) → AreLive old (rest ++ before) → AreLive new (rest ++ held)
  live-beside rest all = (exchange-beside old new before held e rest all).0.live

  -- the rows of a layer above it stay
  pub held-above : (nodes : ℕ → List NodeView) (from n k : ℕ) → AreLive old (places_down nodes from n ++ before) → from ≤ k → k < from + n → AreHeld old (nodes k) → AreHeld new (nodes k)
  held-above nodes from n k all above low here =
      let same = (exchange-beside old new before held e (places_down nodes from n) all).1 in
      held-same old new e.words (nodes k) (places-at (λ (place : ℕ). slice_get new.rows place ≡ slice_get old.rows place) nodes from n k same above low) here

-- rows are taken, and none is given back
module _ (old new : RegionView) (held : List ℕ) (e : HasExchanged old [] new held) where
  pub live-more : (rest : List ℕ) → AreLive old rest → AreLive new (rest ++ held)
  live-more rest all = live-beside old new [] held e rest (subst (AreLive old) (sym (append-nil rest)) all)

  pub held-more : (nodes : List NodeView) → AreHeld old nodes → AreHeld new nodes
  held-more [] here = tt
  held-more (node ∷ nodes) here = (record { found = (e.others node.place node.row here.0.found tt).0; size = here.0.size ∙ sym e.words }, held-more nodes here.1)

-- the first of the rows are given back, and none is taken
module _ (old new : RegionView) (before : List ℕ) (e : HasExchanged old before new []) where
  pub exchange-front : (rest : List ℕ) → AreLive old (before ++ rest) → HasExchanged old (before ++ rest) new rest
  exchange-front rest all =
      let beside = (exchange-beside old new before [] e rest (swapped old before rest all)).0 in
      let count = length-append before rest in
      let free = e.spare in
      record {
        words = e.words;
        count = e.count;
        spare = omega arith;
        others = λ place row here apart. (
            let differ = λ (other : ℕ). place ≢ other in
            let stays = beside.others place row here (Each-append differ rest before (each-right differ before rest apart) (each-left differ before rest apart)) in
            (stays.0, each-left differ rest [] stays.1));
        live = subst (AreLive new) (append-nil rest) beside.live;
      }

  pub held-following : (nodes : List NodeView) → AreLive old (before ++ places_of nodes) → AreHeld old nodes → AreHeld new nodes
  held-following nodes all held = held-same old new e.words nodes (exchange-beside old new before [] e (places_of nodes) (swapped old before (places_of nodes) all)).1 held
