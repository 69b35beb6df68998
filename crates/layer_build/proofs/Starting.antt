-- A compilation starts from a prefix.
use Rattle.std.proofs.Common.{◌≡◌, ℕ, ◌-◌, ◌≤◌, ℤ, true, List, [], ◌∷◌, length, None, refl, sym, ap, ap₂, ◌∙◌, subst, arith}
use Rattle.dp_model.specs.Dp.{Dp}
use Rattle.dp_model.specs.Prefixes.{state_of, value_of}
use Rattle.dp_model.specs.Reached.{reached}
use Rattle.dp_laws.specs.Rules.Compiling.{start_layer}
use Rattle.layer_nodes.specs.Holding.{HasStarted}
use Rattle.layer_nodes.specs.Nodes.{NodeView, LayerView, shown_layer}
use Rattle.layer_nodes.specs.Steps.{KeepsRoom}
use Rattle.row_region.specs.Region.{RegionView}
use Rattle.layer_build.specs.contracts.workspace.Workspace.{the_invariant}
use Rattle.layer_build.specs.declared.workspace.Workspace.TheInside.{Inside}
use Rattle.layer_build.specs.declared.stack.Stack.{Stack}
use Rattle.layer_build.specs.Stacked.{HasSpace, HaveDepths, path_in, shown_down, shown_stack, nodes_in}
use Rattle.layer_build.proofs.Held.{cleared, started_stack, rows-started, room-as}
use Rattle.layer_build.proofs.Stacks.{newest-at}

-- the stack before it is expanded
abbrev pub started : Inside → ℕ → LayerView → RegionView → Stack
started i first n region = started_stack i.stack first n region

pub started-layers : (dp : Dp) (i : Inside) (p : List ℕ) (first : ℕ) (n : LayerView) (region : RegionView) (row : List ℤ) (value rank : ℤ) (hash : ℕ) (before : RegionView) → HasStarted row value rank hash before region n.nodes → row ≡ state_of dp p → value ≡ value_of dp p
    → shown_stack p (started i first n region) ≡ start_layer (reached dp p) ∷ []
started-layers dp i p first n region row value rank hash before e row-is value-is =
    let none : first - first ≡ 0 = omega arith in
    ap (shown_down (nodes_in (started i first n region)) (p ∷ []) first) none
    ∙ (ap (λ (l : List NodeView). shown_layer (path_in (p ∷ [])) l ∷ []) (newest-at i.stack.vars first first i.stack.layers.items n first refl ∙ e.nodes_are)
    ∙ ap₂ (λ (r : List ℤ) (v : ℤ). (record { row = r; value = v; exact = true; arcs = []; path = p; suffix = None } ∷ []) ∷ []) row-is value-is)

pub started-space : (dp : Dp) (i : Inside) → the_invariant i → (p : List ℕ) (room first : ℕ) (n : LayerView) (region : RegionView) → i.stack.vars ≤ room → first ≡ length p → first ≤ i.stack.vars → KeepsRoom i.stack.newest n → 1 ≤ i.stack.newest.nodes_room
    → (row : List ℤ) (value rank : ℤ) (hash : ℕ) → length row ≡ i.words → HasStarted row value rank hash (cleared i.stack.region) region n.nodes → shown_stack p (started i first n region) ≡ start_layer (reached dp p) ∷ []
    → HasSpace i.words i.width first i.choices.items p room (started i first n region) i.expansion i.redirects i.path.items i.beam
started-space dp i h p room first n region fits begun low rooms some row value rank hash long e seen = record {
  stack = record {
    small = h.stack.small;
    first = omega arith;
    last = low;
    rooms = h.stack.rooms;
    newest_words = rooms.words ∙ h.stack.newest_words;
    top = h.stack.top;
  };
  rows = rows-started i.words i.width i.held first i.stack n region row value rank hash long rooms.nodes_room some e h.rows;
  first = begun;
  prefix_fits = fits;
  expands = room-as rooms.nodes_room h.expands;
  redirects_fit = room-as rooms.nodes_room h.redirects_fit;
  path = h.path;
  depths = subst (HaveDepths first) (sym seen) (((λ exact. sym begun), tt), tt);
  has_layers = h.has_layers;
}
