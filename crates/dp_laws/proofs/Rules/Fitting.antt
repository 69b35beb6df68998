-- The beam of a restricted diagram, and how many nodes an expanded layer has.
use Rattle.std.proofs.Common.{◌≡◌, ℕ, ◌-◌, ◌*◌, ◌≤◌, ℤ, List, length, map, Option, option_map, subst, arith}
use Rattle.std.proofs.lemmas.List.{length-map}
use Rattle.dp_model.specs.Dp.{Dp}
use Rattle.dp_model.specs.Reached.{reached}
use Rattle.dp_laws.specs.Restricted.Beam.{expanded, layer_below}
use Rattle.dp_laws.specs.Restricted.Beams.{beam}
use Rattle.dp_laws.specs.Diagrams.Nodes.{prefix_at}
use Rattle.dp_laws.specs.Diagrams.Cutsets.{first_exact}
use Rattle.dp_laws.specs.Rules.Expanding.{node_for}
use Rattle.dp_laws.specs.Rules.Compiling.{start_layer, restricted_below, LayersFit}
use Rattle.dp_laws.proofs.Diagrams.Deep.{as_best, first-member}
use Rattle.dp_laws.proofs.Restricted.InOrder.{few-expanded}
use Rattle.dp_laws.proofs.Rules.Relaxed.{restricted-stands}

pub finds-beam : (dp : Dp) (p : List ℕ) (w : ℕ) (t : Option ℤ)
    → first_exact (restricted_below dp (length p) w t (length p) (dp.vars - length p) (start_layer (reached dp p))) ≡ option_map as_best (beam dp p w t)
finds-beam dp p w t =
    first-member (restricted_below dp (length p) w t (length p) (dp.vars - length p) (start_layer (reached dp p))) (layer_below dp (reached dp p) w t (dp.vars - length p))
    (restricted-stands dp p w t (dp.vars - length p))

pub layers-fit : (dp : Dp) → LayersFit dp
layers-fit dp k layer =
    let few = few-expanded dp k (map prefix_at layer) in
    let above : length (map prefix_at layer) ≡ length layer = length-map layer prefix_at in
    let below = length-map (expanded dp k (map prefix_at layer)) (node_for dp k layer) in
    let few' : length (expanded dp k (map prefix_at layer)) ≤ length layer * dp.choices k = subst (λ n. length (expanded dp k (map prefix_at layer)) ≤ n * dp.choices k) above few in
    omega arith
