-- The rows of the layers above the last one are given back, layer by layer.
use Rattle.std.proofs.Common.{◌≡◌, ℕ, suc, ◌+◌, ◌-◌, ◌<◌, ◌≤◌, ◌++◌, [], List, get_or, refl, sym, ap, ◌∙◌, subst, arith}
use Rattle.dp_model.specs.Dp.{Dp}
use Rattle.layer_candidates.specs.HeldRows.{AreLive, HasExchanged}
use Rattle.layer_candidates.proofs.HeldRows.{exchange-self, exchange-then}
use Rattle.layer_nodes.specs.Holding.{places_of}
use Rattle.layer_nodes.specs.Nodes.{NodeView, LayerView}
use Rattle.row_region.specs.Region.{RegionView}
use Rattle.layer_build.specs.contracts.workspace.Workspace.{the_view, the_invariant}
use Rattle.layer_build.specs.declared.stack.Stack.{Stack}
use Rattle.layer_build.specs.declared.workspace.Workspace.TheInside.{Inside}
use Rattle.layer_build.specs.Layers.{SpaceView, last_depth}
use Rattle.layer_build.specs.UnderWay.{IsUnderWay}
use Rattle.layer_build.specs.Stacked.{place_of, nodes_in, places_down, places_above, HasAllDepths}
use Rattle.layer_build.proofs.Going.{deep, lent}
use Rattle.layer_build.proofs.Held.{rows-dropped}
use Rattle.layer_build.proofs.Places.{live-left, exchange-front}
use Rattle.layer_build.proofs.Stacks.{above-at}
use Rattle.layer_build.proofs.Walked.{place-held}

-- the rows of the layers from one depth down to this one were given back
pub record HasDropped (old now : Stack) (from depth : ℕ) : Type 0 where
  pub same : now ≡ record old { region = now.region }
  pub exchanged : HasExchanged old.region (places_above from old) now.region (places_above depth old)

pub dropped-none : (s : Stack) (from : ℕ) → AreLive s.region (places_above from s) → HasDropped s s from from
dropped-none s from live = record { same = refl; exchanged = exchange-self s.region (places_above from s) live }

-- the layer at the depth, which was lent
pub record IsLentAt (old now : Stack) (depth at : ℕ) (layer d : LayerView) : Type 0 where
  pub place : at ≡ place_of now.vars now.first depth
  pub is : layer ≡ get_or now.layers.items at d

lent-at : (old now : Stack) (from depth at : ℕ) (layer d : LayerView) → HasDropped old now from depth → HasAllDepths old → depth < old.last → IsLentAt old now depth at layer d → layer.nodes ≡ nodes_in old depth
lent-at old now from depth at layer d h few less e =
    let within = place-held old depth few (omega arith) in
    let place : at ≡ place_of old.vars old.first depth = e.place ∙ ap (λ (s : Stack). place_of s.vars s.first depth) h.same in
    let is : layer ≡ get_or old.layers.items at d = e.is ∙ ap (λ (s : Stack). get_or s.layers.items at d) h.same in
    ap (λ (l : LayerView). l.nodes) (lent old.layers.items at (place_of old.vars old.first depth) layer d is place within)
    ∙ sym (above-at old.vars old.first old.last old.layers.items old.newest depth (λ same. absurd (omega arith)))

places-split : (s : Stack) (depth : ℕ) → depth < s.last → places_above depth s ≡ places_of (nodes_in s depth) ++ places_above (depth + 1) s
places-split s depth less = let more : s.last - depth ≡ suc (s.last - (depth + 1)) = omega arith in ap (places_down (nodes_in s) depth) more

live-at : (old now : Stack) (from depth : ℕ) → HasDropped old now from depth → depth < old.last → AreLive now.region (places_of (nodes_in old depth) ++ places_above (depth + 1) old)
live-at old now from depth h less = subst (AreLive now.region) (places-split old depth less) h.exchanged.live

pub dropped-live : (old now : Stack) (from depth at : ℕ) (layer d : LayerView) → HasDropped old now from depth → HasAllDepths old → depth < old.last → IsLentAt old now depth at layer d → AreLive now.region (places_of layer.nodes)
dropped-live old now from depth at layer d h few less e =
    subst (λ (l : List NodeView). AreLive now.region (places_of l)) (sym (lent-at old now from depth at layer d h few less e))
    (live-left now.region (places_of (nodes_in old depth)) (places_above (depth + 1) old) (live-at old now from depth h less))

pub dropped-more : (old now : Stack) (from depth at : ℕ) (layer d : LayerView) (region : RegionView) → HasDropped old now from depth → HasAllDepths old → depth < old.last → IsLentAt old now depth at layer d
    → HasExchanged now.region (places_of layer.nodes) region [] → HasDropped old (record now { region = region }) from (depth + 1)
dropped-more old now from depth at layer d region h few less e given =
    let here = subst (λ (l : List NodeView). HasExchanged now.region (places_of l) region []) (lent-at old now from depth at layer d h few less e) given in
    let rest = exchange-front now.region region (places_of (nodes_in old depth)) here (places_above (depth + 1) old) (live-at old now from depth h less) in
    record {
      same = ap (λ (s : Stack). record s { region = region }) h.same;
      exchanged = exchange-then old.region now.region region (places_above from old) (places_above depth old) (places_above (depth + 1) old) h.exchanged
          (subst (λ (l : List ℕ). HasExchanged now.region l region (places_above (depth + 1) old)) (sym (places-split old depth less)) rest);
    }

pub dropped-all : (old now : Stack) (from depth : ℕ) → HasDropped old now from depth → old.last ≤ depth → HasExchanged old.region (places_above from old) now.region []
dropped-all old now from depth h end =
    let none : old.last - depth ≡ 0 = omega arith in
    subst (HasExchanged old.region (places_above from old) now.region) (ap (places_down (nodes_in old) depth) none) h.exchanged

-- ---- the workspace

-- the workspace with another stack, which holds the rows of the last layer alone
abbrev pub with_last : Inside → Stack → Inside
with_last i s = record i { stack = s; held = s.last }

pub dropped-space : (i : Inside) → the_invariant i → (s : Stack) → s ≡ record i.stack { region = s.region } → HasExchanged i.stack.region (places_above i.held i.stack) s.region [] → the_invariant (with_last i s)
dropped-space i h s same e = subst (λ (t : Stack). the_invariant (with_last i t)) (sym same) (record {
  stack = record { small = h.stack.small; first = h.stack.first; last = h.stack.last; rooms = h.stack.rooms; newest_words = h.stack.newest_words; top = h.stack.top };
  rows = rows-dropped i.words i.width i.held i.stack s.region e h.rows;
  first = h.first;
  prefix_fits = h.prefix_fits;
  expands = h.expands;
  redirects_fit = h.redirects_fit;
  path = h.path;
  depths = h.depths;
  has_layers = h.has_layers;
})

pub dropped-seen : (i : Inside) → the_invariant i → (s : Stack) → s ≡ record i.stack { region = s.region } → (v : SpaceView) → the_view i ≡ v → the_view (with_last i s) ≡ record v { held = last_depth v }
dropped-seen i h s same v e =
    ap (λ (t : Stack). the_view (with_last i t)) same
    ∙ (ap (λ (k : ℕ). record (the_view i) { held = k }) (sym (deep i h)) ∙ ap (λ (u : SpaceView). record u { held = last_depth u }) e)

pub dropped-under-way : (dp : Dp) (v : SpaceView) (held : ℕ) → IsUnderWay dp v → IsUnderWay dp (record v { held = held })
dropped-under-way dp v held u = record {
  lawful = u.lawful;
  prepared = record { vars = u.prepared.vars; words = u.prepared.words; choices = u.prepared.choices; width = u.prepared.width; enough = u.prepared.enough; path = u.prepared.path };
  prefix = u.prefix;
  some = u.some;
  low = u.low;
  within = u.within;
  two = u.two;
  told = u.told;
  unmerged = u.unmerged;
  few = u.few;
  one = u.one;
  second = u.second;
}
