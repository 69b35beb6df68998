-- The rows of the layers, which stand in the region.
use Rattle.std.proofs.Common.{◌≡◌, ◌≢◌, ℕ, suc, ◌+◌, ◌-◌, ◌*◌, ◌<◌, ◌≤◌, ℤ, List, [], ◌∷◌, ◌++◌, map, length, replicate, Some, None, ◌⊎◌, inl, inr, mul-le-mul_right, refl, sym, ap, ap₂, ◌∙◌, subst, arith, length-append}
use Rattle.std.proofs.lemmas.List.{length-replicate, length-set}
use Rattle.std.proofs.Math.Nat.{suc-mul}
use Rattle.std.specs.declared.alloc.Global.{Global}
use Rattle.std.specs.declared.vec.Vec.{Vec}
use Rattle.dp_model.specs.Dp.{Dp}
use Rattle.dp_model.specs.Laws.{IsLawful}
use Rattle.dp_model.proofs.Members.{Each-then}
use Rattle.layer_candidates.specs.Beaming.{HasBeamRows}
use Rattle.layer_candidates.specs.HeldRows.{AreLive, HasExchanged, IsSameRegion}
use Rattle.layer_nodes.specs.Holding.{AreHeld, HasStarted, places_of}
use Rattle.layer_nodes.specs.Nodes.{NodeView, LayerView}
use Rattle.layer_nodes.specs.Stored.{Room}
use Rattle.row_region.specs.Region.{RegionView, IsLive, IsRow}
use Rattle.layer_build.specs.declared.stack.Stack.{Stack}
use Rattle.layer_build.specs.Layers.{AreEnough}
use Rattle.layer_build.specs.Stacked.{nodes_in, room_of, second_room, places_down, places_above, places_from, beam_width, rows_below, HasRows}
use Rattle.layer_candidates.proofs.HeldRows.{live-right, exchange-self}
use Rattle.layer_nodes.proofs.Holding.{held-more as stay-held}
use Rattle.row_region.proofs.Callers.{put_row}
use Rattle.layer_build.proofs.Places.{live-beside, live-more, held-above, held-more, held-following, exchange-front, places-more, places-same}
use Rattle.layer_build.proofs.Stacks.{newest-at, room-at, is-or, map-length}

pub second-same : (vars : ℕ) (old new : List LayerView) → map room_of new ≡ map room_of old → second_room vars new ≡ second_room vars old
second-same vars old new e =
    ap (λ (l : LayerView). l.nodes_room) (sym (room-at new vars)) ∙ (ap (λ (l : List LayerView). second_room vars l) e ∙ ap (λ (l : LayerView). l.nodes_room) (room-at old vars))

-- the room for another last layer with as many nodes
pub room-as : {words old new : ℕ} {room : Room} → new ≡ old → room ≡ record { most = old; words = words } → room ≡ record { most = new; words = words }
room-as {words} {old} {new} {room} e h = subst (λ (m : ℕ). room ≡ record { most = m; words = words }) (sym e) h

pub length-places : (nodes : List NodeView) → length (places_of nodes) ≡ length nodes
length-places nodes = map-length (λ (node : NodeView). node.place) nodes

pub newest-nodes : (s : Stack) → nodes_in s s.last ≡ s.newest.nodes
newest-nodes s = newest-at s.vars s.first s.last s.layers.items s.newest s.last refl

last-or : (k last : ℕ) → k ≤ last → (k < last) ⊎ (k ≡ last)
last-or k last low = grind arith

-- ---- a step that changes arcs or suffixes, or takes nodes out of the last layer

-- the nodes have the same rows
pub record HaveSameRows (old new : List NodeView) : Type 0 where
  pub places : places_of new ≡ places_of old
  pub held : (region : RegionView) → AreHeld region old → AreHeld region new

pub same-rows : (old new : List NodeView) → new ≡ old → HaveSameRows old new
same-rows old new e = subst (HaveSameRows old) (sym e) (record { places = refl; held = λ region held. held })

-- the depths and the rooms of the layers stay, and the rows of those above the last one; those of the last one were exchanged
pub record StandsLike (old new : Stack) : Type 0 where
  pub vars : new.vars ≡ old.vars
  pub first : new.first ≡ old.first
  pub last : new.last ≡ old.last
  pub rooms : map room_of new.layers.items ≡ map room_of old.layers.items
  pub newest_room : new.newest.nodes_room ≡ old.newest.nodes_room
  pub above : (k : ℕ) → old.first ≤ k → k < old.last → HaveSameRows (nodes_in old k) (nodes_in new k)
  pub held : AreHeld old.region old.newest.nodes → AreHeld new.region new.newest.nodes
  pub exchanged : AreLive old.region (places_of old.newest.nodes) → HasExchanged old.region (places_of old.newest.nodes) new.region (places_of new.newest.nodes)
  pub fewer : length new.newest.nodes ≤ length old.newest.nodes

pub newest-live : (words width held : ℕ) (s : Stack) → HasRows words width held s → AreLive s.region (places_of s.newest.nodes)
newest-live words width held s h = live-right s.region (places_above held s) (places_of s.newest.nodes) h.live

pub newest-held : (words width held : ℕ) (s : Stack) → HasRows words width held s → AreHeld s.region s.newest.nodes
newest-held words width held s h = subst (AreHeld s.region) (newest-nodes s) (h.held_rows s.last h.low (let e : s.last ≤ s.last = omega arith in e))

pub rows-like : (words width held : ℕ) (old new : Stack) → StandsLike old new → HasRows words width held old → HasRows words width held new
rows-like words width held old new e h =
    let vars = e.vars in
    let first = e.first in
    let last = e.last in
    let room = e.newest_room in
    let fewer = e.fewer in
    let begun = h.begun in
    let low = h.low in
    let few = h.few in
    let second : second_room new.vars new.layers.items ≡ second_room old.vars old.layers.items =
    ap (λ (v : ℕ). second_room v new.layers.items) e.vars ∙ second-same old.vars old.layers.items new.layers.items e.rooms in
    let took = exchanged.spare in
    let size = exchanged.count in
    let were = length-places old.newest.nodes in
    let are = length-places new.newest.nodes in
    let below : (new.vars - new.last) * width ≡ (old.vars - old.last) * width = ap₂ (λ (v l : ℕ). (v - l) * width) e.vars e.last in
    let all : new.vars * width ≡ old.vars * width = ap (λ (v : ℕ). v * width) e.vars in
    let count = h.count in
    let before = length-append (places_above held old) (places_of old.newest.nodes) in
    let now = length-append (places_above held new) (places_of new.newest.nodes) in
    let same = ap (λ (l : List ℕ). length l) front in
    record {
      words_are = exchanged.words ∙ h.words_are;
      begun = omega arith;
      low = omega arith;
      held_rows = λ k from deep. held-at k from (last-or k old.last (omega arith));
      live = subst (λ (l : List ℕ). AreLive new.region (l ++ places_of new.newest.nodes)) (sym front) (live-beside old.region new.region (places_of old.newest.nodes) (places_of new.newest.nodes) exchanged (places_above held old) h.live);
      count = omega arith;
      few = omega arith;
      spare = (let a = h.spare in omega arith);
      second_spare = λ near. (let a = h.second_spare (omega arith) in omega arith);
      enough = (let a = h.enough in omega arith);
    }
  where
    exchanged : HasExchanged old.region (places_of old.newest.nodes) new.region (places_of new.newest.nodes)
    exchanged = e.exchanged (newest-live words width held old h)

    front : places_above held new ≡ places_above held old
    front =
        let begun = h.begun in
        let low = h.low in
        ap (λ (l : ℕ). places_down (nodes_in new) held (l - held)) e.last
        ∙ places-same (nodes_in old) (nodes_in new) held (old.last - held) (λ k from deep. (e.above k (omega arith) (omega arith)).places)

    held-at : (k : ℕ) → held ≤ k → (k < old.last) ⊎ (k ≡ old.last) → AreHeld new.region (nodes_in new k)
    held-at k from (inl less) =
        let begun = h.begun in
        (e.above k (omega arith) less).held new.region
        (held-above old.region new.region (places_of old.newest.nodes) (places_of new.newest.nodes) exchanged (nodes_in old) held (old.last - held) k h.live from (omega arith) (h.held_rows k from (omega arith)))
    held-at k from (inr same) =
        subst (λ (d : ℕ). AreHeld new.region (nodes_in new d)) (sym (same ∙ sym e.last)) (subst (AreHeld new.region) (sym (newest-nodes new)) (e.held (newest-held words width held old h)))

-- the region stays, and the rows of all layers
pub record StandsStill (old new : Stack) : Type 0 where
  pub vars : new.vars ≡ old.vars
  pub first : new.first ≡ old.first
  pub last : new.last ≡ old.last
  pub region : new.region ≡ old.region
  pub rooms : map room_of new.layers.items ≡ map room_of old.layers.items
  pub newest_room : new.newest.nodes_room ≡ old.newest.nodes_room
  pub rows : (k : ℕ) → old.first ≤ k → k ≤ old.last → HaveSameRows (nodes_in old k) (nodes_in new k)

still-like : (old new : Stack) → old.first ≤ old.last → StandsStill old new → StandsLike old new
still-like old new ordered e = record {
  vars = e.vars;
  first = e.first;
  last = e.last;
  rooms = e.rooms;
  newest_room = e.newest_room;
  above = λ k from less. e.rows k from (omega arith);
  held = λ held. subst (λ (r : RegionView). AreHeld r new.newest.nodes) (sym e.region) (newest.held old.region held);
  exchanged = λ live. subst (λ (r : RegionView). HasExchanged old.region (places_of old.newest.nodes) r (places_of new.newest.nodes)) (sym e.region)
      (subst (HasExchanged old.region (places_of old.newest.nodes) old.region) (sym newest.places) (exchange-self old.region (places_of old.newest.nodes) live));
  fewer = (let same = ap (λ (l : List ℕ). length l) newest.places in let were = length-places old.newest.nodes in let are = length-places new.newest.nodes in omega arith);
}
  where
    newest : HaveSameRows old.newest.nodes new.newest.nodes
    newest =
        subst (HaveSameRows old.newest.nodes) (ap (nodes_in new) (sym e.last) ∙ newest-nodes new)
        (subst (λ (l : List NodeView). HaveSameRows l (nodes_in new old.last)) (newest-nodes old) (e.rows old.last ordered (let same : old.last ≤ old.last = omega arith in same)))

pub rows-still : (words width held : ℕ) (old new : Stack) → old.first ≤ old.last → StandsStill old new → HasRows words width held old → HasRows words width held new
rows-still words width held old new ordered e h = rows-like words width held old new (still-like old new ordered e) h

-- ---- the last layer is kept

-- the stack with the last layer kept, and with the next one
abbrev pub kept_stack : Stack → Vec LayerView Global → LayerView → RegionView → Stack
kept_stack s layers newest region = record { vars = s.vars; first = s.first; last = s.last + 1; layers = layers; newest = newest; region = region }

-- the layer at the last depth has the rows of the last layer, and those of the next one were taken besides
pub record HasKept (s new : Stack) : Type 0 where
  pub above : (k : ℕ) → k < s.last → nodes_in new k ≡ nodes_in s k
  pub places : places_of (nodes_in new s.last) ≡ places_of s.newest.nodes
  pub above_held : AreHeld new.region (nodes_in new s.last)
  pub held : AreHeld new.region new.newest.nodes
  pub exchanged : HasExchanged s.region [] new.region (places_of new.newest.nodes)
  pub rooms : map room_of new.layers.items ≡ map room_of s.layers.items
  pub newest_room : new.newest.nodes_room ≡ s.newest.nodes_room
  pub few : length new.newest.nodes ≤ s.newest.nodes_room

-- the last layer has as many nodes as the width, or just below the first layer as many as there is room for
pub record IsNarrow (s : Stack) (width : ℕ) : Type 0 where
  pub second : s.last ≡ s.first + 1 → length s.newest.nodes ≤ second_room s.vars s.layers.items
  pub other : s.last ≢ s.first + 1 → length s.newest.nodes ≤ width

-- one depth more needs as many rows as the width
one-more : (vars last width : ℕ) → last < vars → (vars - last) * width ≡ (vars - (last + 1)) * width + width
one-more vars last width low = let more : vars - last ≡ suc (vars - (last + 1)) = omega arith in ap (λ (k : ℕ). k * width) more ∙ suc-mul (vars - (last + 1)) width

-- there are rows to spare for all candidates, and one more
pub rows-fit : (words width held : ℕ) (s : Stack) → s.last < s.vars → IsNarrow s width → HasRows words width held s → s.newest.nodes_room + 1 ≤ s.region.spare
rows-fit words width held s low narrow h = go (is-or s.last (s.first + 1))
  where
    go : (s.last ≡ s.first + 1) ⊎ (s.last ≢ s.first + 1) → s.newest.nodes_room + 1 ≤ s.region.spare
    go (inl same) = let a = h.second_spare (omega arith) in let b = narrow.second same in omega arith
    go (inr other) = let a = h.spare in let b = narrow.other other in let c = one-more s.vars s.last width low in omega arith

pub rows-more : (words width held : ℕ) (s : Stack) (layers : Vec LayerView Global) (newest : LayerView) (region : RegionView) → s.last < s.vars
    → IsNarrow s width → HasKept s (kept_stack s layers newest region) → HasRows words width held s → HasRows words width held (kept_stack s layers newest region)
rows-more words width held s layers newest region low narrow e h =
    let split = one-more s.vars s.last width low in
    let took = e.exchanged.spare in
    let size = e.exchanged.count in
    let room = e.newest_room in
    let few = e.few in
    let begun = h.begun in
    let deep = h.low in
    let second = second-same s.vars s.layers.items layers.items e.rooms in
    let are = length-places newest.nodes in
    let count = h.count in
    let now = length-append (places_from held s) (places_of newest.nodes) in
    let all = ap (λ (l : List ℕ). length l) places in
    record {
      words_are = e.exchanged.words ∙ h.words_are;
      begun = h.begun;
      low = omega arith;
      held_rows = λ k from most. held-at k from (last-or k (s.last + 1) most);
      live = subst (AreLive region) (sym places) (live-more s.region region (places_of newest.nodes) e.exchanged (places_from held s) h.live);
      count = omega arith;
      few = omega arith;
      spare = spare (is-or s.last (s.first + 1)) split (omega arith);
      second_spare = λ near. (let a = h.second_spare (omega arith) in let b = narrow.other (λ f. absurd (omega arith)) in omega arith);
      enough = (let a = h.enough in omega arith);
    }
  where
    new : Stack
    new = kept_stack s layers newest region

    places : places_from held new ≡ places_from held s ++ places_of newest.nodes
    places =
        let begun = h.begun in
        let deep = h.low in
        let longer : s.last + 1 - held ≡ suc (s.last - held) = omega arith in
        let end : held + (s.last - held) ≡ s.last = omega arith in
        ap (λ (l : List ℕ). l ++ places_of newest.nodes) (ap (places_down (nodes_in new) held) longer ∙ (places-more (nodes_in new) held (s.last - held)
        ∙ ap₂ (λ (a b : List ℕ). a ++ b) (places-same (nodes_in s) (nodes_in new) held (s.last - held) (λ k from less. ap places_of (e.above k (omega arith))))
        (ap (λ (k : ℕ). places_of (nodes_in new k)) end ∙ e.places)))

    held-deep : (k : ℕ) → held ≤ k → (k < s.last) ⊎ (k ≡ s.last) → AreHeld region (nodes_in new k)
    held-deep k from (inl less) =
        subst (AreHeld region) (sym (e.above k less))
        (held-more s.region region (places_of newest.nodes) e.exchanged (nodes_in s k) (h.held_rows k from (omega arith)))
    held-deep k from (inr same) = subst (λ (d : ℕ). AreHeld region (nodes_in new d)) (sym same) e.above_held

    held-at : (k : ℕ) → held ≤ k → (k < s.last + 1) ⊎ (k ≡ s.last + 1) → AreHeld region (nodes_in new k)
    held-at k from (inl less) = held-deep k from (last-or k s.last (omega arith))
    held-at k from (inr same) = subst (λ (d : ℕ). AreHeld region (nodes_in new d)) (sym same) (subst (AreHeld region) (sym (newest-nodes new)) e.held)

    spare : (s.last ≡ s.first + 1) ⊎ (s.last ≢ s.first + 1) → (s.vars - s.last) * width ≡ (s.vars - (s.last + 1)) * width + width
        → region.spare + length newest.nodes ≡ s.region.spare → (s.vars - (s.last + 1)) * width + rows_below width newest.nodes_room ≤ region.spare + length newest.nodes
    spare (inl same) split free = let a = h.second_spare (omega arith) in let b = narrow.second same in let c = e.newest_room in omega arith
    spare (inr other) split free = let a = h.spare in let b = narrow.other other in let c = e.newest_room in omega arith

-- ---- all rows are given back, and that of the first node is put into the region

abbrev pub cleared : RegionView → RegionView
cleared region = record region { rows = replicate (length region.rows) None; spare = length region.rows }

pub rows-cleared : (words width held : ℕ) (s : Stack) → HasRows words width held s → 0 < (cleared s.region).spare
rows-cleared words width held s h = let a = h.enough in omega arith

-- the stack with the first node alone
abbrev pub started_stack : Stack → ℕ → LayerView → RegionView → Stack
started_stack s first newest region = record { vars = s.vars; first = first; last = first; layers = s.layers; newest = newest; region = region }

pub rows-started : (words width held first : ℕ) (s : Stack) (newest : LayerView) (region : RegionView) (row : List ℤ) (value rank : ℤ) (hash : ℕ) → length row ≡ words → newest.nodes_room ≡ s.newest.nodes_room → 1 ≤ s.newest.nodes_room
    → HasStarted row value rank hash (cleared s.region) region newest.nodes → HasRows words width held s → HasRows words width first (started_stack s first newest region)
rows-started words width held first s newest region row value rank hash long room some e h =
    let fewer : (s.vars - first) * width ≤ s.vars * width = mul-le-mul_right width (let f : s.vars - first ≤ s.vars = omega arith in f) in
    let enough = h.enough in
    let total = length-replicate (length s.region.rows) None in
    let size : length region.rows ≡ length s.region.rows = ap length e.put.rows ∙ (length-set (cleared s.region).rows e.place (Some row) ∙ total) in
    let took = e.put.spare in
    let one : length newest.nodes ≡ 1 = ap (λ (l : List NodeView). length l) e.nodes_are in
    let all = ap (λ (l : List ℕ). length l) places in
    record {
      words_are = e.put.words ∙ h.words_are;
      begun = omega arith;
      low = omega arith;
      held_rows = λ k from deep. (let same : k ≡ first = omega arith in subst (λ (d : ℕ). AreHeld region (nodes_in new d)) (sym same) (subst (AreHeld region) (sym (newest-nodes new)) held-first));
      live = subst (AreLive region) (sym places) (record { live = ((row, here.found), tt); apart = (tt, tt) });
      count = omega arith;
      few = omega arith;
      spare = omega arith;
      second_spare = λ near. omega arith;
      enough = omega arith;
    }
  where
    new : Stack
    new = started_stack s first newest region

    here : IsRow region e.place row
    here = put_row (cleared s.region) region e.place row e.put (long ∙ sym h.words_are)

    held-first : AreHeld region newest.nodes
    held-first = subst (AreHeld region) (sym e.nodes_are) (here, tt)

    places : places_from first new ≡ e.place ∷ []
    places =
        let none : first - first ≡ 0 = omega arith in
        ap₂ (λ (n : ℕ) (l : List NodeView). places_down (nodes_in new) first n ++ places_of l) none e.nodes_are

-- ---- the rows of the layers above the last one are given back

pub rows-dropped : (words width held : ℕ) (s : Stack) (region : RegionView) → HasExchanged s.region (places_above held s) region [] → HasRows words width held s → HasRows words width s.last (record s { region = region })
rows-dropped words width held s region e h =
    let begun = h.begun in
    let low = h.low in
    let size = e.count in
    let free = e.spare in
    let count = h.count in
    let both = length-append (places_above held s) (places_of s.newest.nodes) in
    let all = ap (λ (l : List ℕ). length l) places in
    record {
      words_are = e.words ∙ h.words_are;
      begun = omega arith;
      low = omega arith;
      held_rows = λ k from deep. (let same : k ≡ s.last = omega arith in subst (λ (d : ℕ). AreHeld region (nodes_in new d)) (sym same) (subst (AreHeld region) (sym (newest-nodes new)) held-last));
      live = subst (AreLive region) (sym places) (exchange-front s.region region (places_above held s) e (places_of s.newest.nodes) h.live).live;
      count = omega arith;
      few = h.few;
      spare = (let a = h.spare in omega arith);
      second_spare = λ near. (let a = h.second_spare near in omega arith);
      enough = (let a = h.enough in omega arith);
    }
  where
    new : Stack
    new = record s { region = region }

    held-last : AreHeld region s.newest.nodes
    held-last = held-following s.region region (places_above held s) e s.newest.nodes h.live (newest-held words width held s h)

    places : places_from s.last new ≡ places_of s.newest.nodes
    places = let none : s.last - s.last ≡ 0 = omega arith in ap (λ (n : ℕ). places_down (nodes_in new) s.last n ++ places_of s.newest.nodes) none

-- ---- a beam takes rows and gives them back

pub rows-for-beam : (dp : Dp) → IsLawful dp → (words width held : ℕ) (s : Stack) → AreEnough dp width dp.vars s.newest.nodes_room → HasRows words width held s → HasBeamRows dp width s.region.spare
rows-for-beam dp laws words width held s enough h =
    let spare = h.spare in
    let few = h.few in
    record {
      room = s.newest.nodes_room;
      widest = beam_width width;
      enough = record {
        first = enough.first;
        second = enough.second;
        later = enough.later;
        members = record {
          one = omega arith;
          choices = λ k low. (let few = laws.sizes.choices k low in omega arith);
          width = omega arith;
        };
      };
      fits = omega arith;
    }

pub rows-same : (words width held : ℕ) (s : Stack) (region : RegionView) → IsSameRegion s.region region → HasRows words width held s → HasRows words width held (record s { region = region })
rows-same words width held s region e h =
    let free = e.spare in
    let size = e.more.count in
    let count = h.count in
    record {
      words_are = e.more.words ∙ h.words_are;
      begun = h.begun;
      low = h.low;
      held_rows = λ k from deep. stay-held s.region region e.more (nodes_in s k) (h.held_rows k from deep);
      live = record { live = Each-then (IsLive s.region) (IsLive region) (places_from held s) (λ place live. (live.0, e.more.same place live.0 live.1)) h.live.live; apart = h.live.apart };
      count = omega arith;
      few = h.few;
      spare = (let a = h.spare in omega arith);
      second_spare = λ near. (let a = h.second_spare near in omega arith);
      enough = (let a = h.enough in omega arith);
    }
