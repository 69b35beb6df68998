-- Layers whose rows stand in a region.
use Rattle.std.proofs.Common.{◌≡◌, ℕ, zero, suc, ◌<◌, ℤ, List, [], ◌∷◌, length, map, take, slice_get, get_or, option_map, Some, None, true, refl, sym, ◌∙◌, ap, ap₂, subst, arith}
use Rattle.dp_model.specs.Lists.{Each}
use Rattle.dp_model.proofs.Members.{Each-then}
use Rattle.dp_laws.specs.declared.arc.DdArc.{DdArc}
use Rattle.layer_candidates.specs.HeldRows.{HoldsMore, held_row}
use Rattle.layer_candidates.proofs.HeldRows.{held-is}
use Rattle.row_region.specs.Region.{RegionView, IsRow, HasPut}
use Rattle.row_region.proofs.Callers.{put_row}
use Rattle.layer_nodes.specs.declared.node.Node.{Node}
use Rattle.layer_nodes.specs.declared.routing.StoredArc.{StoredArc}
use Rattle.layer_nodes.specs.Holding.{AreHeld, places_of, HaveRows}
use Rattle.layer_nodes.specs.Nodes.{NodeView, LayerView, without_arcs}
use Rattle.layer_nodes.specs.Steps.{AreAmong, KeepsNodes}
use Rattle.layer_nodes.specs.Stored.{node_view_by, rows_in, bare_of, HasArcsIn}
use Rattle.layer_nodes.proofs.Stored.{among-each, among-map, among-take}

-- ---- the rows stay

is-row-more : (old new : RegionView) → HoldsMore old new → (place : ℕ) (row : List ℤ) → IsRow old place row → IsRow new place row
is-row-more old new more place row here = record { found = more.same place row here.found; size = here.size ∙ sym more.words }

pub held-more : (old new : RegionView) → HoldsMore old new → (nodes : List NodeView) → AreHeld old nodes → AreHeld new nodes
held-more old new more nodes held =
    Each-then (λ (node : NodeView). IsRow old node.place node.row) (λ (node : NodeView). IsRow new node.place node.row) nodes (λ node here. is-row-more old new more node.place node.row here) held

-- nodes that differ in their arcs alone have the same rows
held-alike : (region : RegionView) (old new : List NodeView) → map without_arcs new ≡ map without_arcs old → places_of new ≡ places_of old → AreHeld region old → AreHeld region new
held-alike region old [] nodes places held = tt
held-alike region [] (new ∷ news) nodes places held = absurd (cc)
held-alike region (old ∷ olds) (new ∷ news) nodes places held =
    let same : without_arcs new ≡ without_arcs old = cc in
    let rest : map without_arcs news ≡ map without_arcs olds = cc in
    let place : new.place ≡ old.place = cc in
    let later : places_of news ≡ places_of olds = cc in
    let row : new.row ≡ old.row = ap (λ (n : NodeView). n.row) same in (
      subst (λ p. IsRow region p new.row) (sym place) (subst (λ r. IsRow region old.place r) (sym row) held.0),
      held-alike region olds news rest later held.1,
    )

pub held-nodes : (region : RegionView) (old new : LayerView) → KeepsNodes old new → AreHeld region old.nodes → AreHeld region new.nodes
held-nodes region old new kept held = held-alike region old.nodes new.nodes kept.nodes kept.places held

-- ---- nodes in memory

-- rows as they are read
pub rows-own : (region : RegionView) (row : ℕ → List ℤ) (places : List ℕ) → HaveRows region row places → HaveRows region (held_row region) places
rows-own region row [] have = tt
rows-own region row (p ∷ places) have = (subst (IsRow region p) (sym (held-is region p (row p) have.0.found)) have.0, rows-own region row places have.1)

module _ (region : RegionView) (row : ℕ → List ℤ) (arcs : List DdArc) where
  pub held-rows : (nodes : List Node) → AreHeld region (map (node_view_by row arcs) nodes) → HaveRows region row (rows_in nodes)
  held-rows [] held = tt
  held-rows (node ∷ nodes) held = (held.0, held-rows nodes held.1)

  pub rows-held : (nodes : List Node) → HaveRows region row (rows_in nodes) → AreHeld region (map (node_view_by row arcs) nodes)
  rows-held [] have = tt
  rows-held (node ∷ nodes) have = (have.0, rows-held nodes have.1)

  -- their rows are those that the region has
  pub views-held : (nodes : List Node) → HaveRows region row (rows_in nodes) → map (node_view_by (held_row region) arcs) nodes ≡ map (node_view_by row arcs) nodes
  views-held [] have = refl
  views-held (node ∷ nodes) have = ap₂ (λ r l. record (node_view_by row arcs node) { row = r } ∷ l) (held-is region node.row (row node.row) have.0.found) (views-held nodes have.1)

  -- copies without arcs
  pub kept-views : (nodes : List Node) → HaveRows region row (rows_in nodes) → map without_arcs (map (node_view_by (held_row region) []) (map bare_of nodes)) ≡ map without_arcs (map (node_view_by row arcs) nodes)
  kept-views [] have = refl
  kept-views (node ∷ nodes) have = ap₂ (λ r l. record (without_arcs (node_view_by row arcs node)) { row = r } ∷ l) (held-is region node.row (row node.row) have.0.found) (kept-views nodes have.1)

  pub kept-held : (nodes : List Node) → HaveRows region row (rows_in nodes) → AreHeld region (map (node_view_by (held_row region) []) (map bare_of nodes))
  kept-held [] have = tt
  kept-held (node ∷ nodes) have = (subst (IsRow region node.row) (sym (held-is region node.row (row node.row) have.0.found)) have.0, kept-held nodes have.1)

pub kept-bare : (row : ℕ → List ℤ) (nodes : List Node) → Each (λ (n : NodeView). n.arcs ≡ []) (map (node_view_by row []) (map bare_of nodes))
kept-bare row [] = tt
kept-bare row (node ∷ nodes) = (refl, kept-bare row nodes)

pub kept-places : (nodes : List Node) → rows_in (map bare_of nodes) ≡ rows_in nodes
kept-places [] = refl
kept-places (node ∷ nodes) = ap (λ l. node.row ∷ l) (kept-places nodes)

pub kept-arcs : (nodes : List Node) → Each (HasArcsIn {X = StoredArc} []) (map bare_of nodes)
kept-arcs [] = tt
kept-arcs (node ∷ nodes) = (omega arith, kept-arcs nodes)

-- of the nodes that are left the region has the rows that it had of all
pub taken-among : (region : RegionView) (row : ℕ → List ℤ) (old now : List Node) (n : ℕ) → HaveRows region row (rows_in old) → AreAmong old now → HaveRows region row (rows_in (take n now))
taken-among region row old now n have among = among-each (λ (p : ℕ). IsRow region p (row p)) (rows_in old) (rows_in (take n now)) (among-map (λ (node : Node). node.row) old (take n now) (among-take n old now among)) have

-- the first node of all
pub started-views : (old new : RegionView) (place : ℕ) (row : List ℤ) (value rank : ℤ) (hash : ℕ) → HasPut old place row new → length row ≡ old.words
    → map (node_view_by (held_row new) []) (record { value = value; rank = rank; hash = hash; suffix = None; parent = None; row = place; decision = 0; first_arc = 0; arcs = 0; exact = true } ∷ [])
    ≡ record { row = row; place = place; value = value; rank = rank; hash = hash; exact = true; parent = None; decision = 0; arcs = []; suffix = None } ∷ []
started-views old new place row value rank hash put long =
    ap (λ (r : List ℤ). record { row = r; place = place; value = value; rank = rank; hash = hash; exact = true; parent = None; decision = 0; arcs = []; suffix = None } ∷ []) (held-is new place row (put_row old new place row put long).found)

-- ---- a row is read

module _ (region : RegionView) (row : ℕ → List ℤ) (arcs : List DdArc) where
  pub held-at : (nodes : List Node) (i : ℕ) (d : Node) → AreHeld region (map (node_view_by row arcs) nodes) → i < length nodes → IsRow region (get_or nodes i d).row (row (get_or nodes i d).row)
  held-at [] i d held less = absurd (omega arith)
  held-at (node ∷ nodes) zero d held less = held.0
  held-at (node ∷ nodes) (suc i) d held less = held-at nodes i d held.1 (omega arith)

  row-seen : (nodes : List Node) (i : ℕ) (d : Node) → i < length nodes → option_map (λ (n : NodeView). n.row) (slice_get (map (node_view_by row arcs) nodes) i) ≡ Some (row (get_or nodes i d).row)
  row-seen [] i d less = absurd (omega arith)
  row-seen (node ∷ nodes) zero d less = refl
  row-seen (node ∷ nodes) (suc i) d less = row-seen nodes i d (omega arith)

  -- the row that is found at the place of a node's row is that of the node
  pub row-is : (nodes : List Node) (i : ℕ) (d : Node) (found : List ℤ) → AreHeld region (map (node_view_by row arcs) nodes) → i < length nodes → slice_get region.rows (get_or nodes i d).row ≡ Some (Some found)
      → option_map (λ (n : NodeView). n.row) (slice_get (map (node_view_by row arcs) nodes) i) ≡ Some found
  row-is nodes i d found held less there =
      let here = (held-at nodes i d held less).found in
      let same : row (get_or nodes i d).row ≡ found = cc in
      row-seen nodes i d less ∙ ap Some same
