use Rattle.std.proofs.Common.{rules, ◌≡◌, ◌<◌, ◌++◌, List, map, set, take, drop, slice_index_or, ◌∙◌, ap, ap₂, arith}
use Rattle.layer_nodes.specs.Nodes.{NodeView, LayerView}
use Rattle.layer_nodes.specs.Ending.{ended_layer}
use Rattle.layer_build.specs.Stacked.{no_layer}
use Rattle.layer_build.proofs.Ended.{leads-following, front-at, following-at, set-front, set-following}
use Rattle.layer_build.proofs.ending.end_at.Goals as goal

pub set_suffixes-requires-else-at-below-clause-leads : goal.set_suffixes-requires-else-at-below-clause-leads
set_suffixes-requires-else-at-below-clause-leads c =
    let a = c.args in
    let test = c.if-at-below.false in
    let within = c.requires.at in
    let less : a.below < a.at = (let apart = c.requires.apart in omega arith) in
    let front : c.split_at_mut-front-else-at-below.result.0.now ≡ take a.at a.layers.now = search rules in
    let following : c.split_at_mut-front-else-at-below.result.1.now ≡ drop a.at a.layers.now = search rules in
    leads-following a.layers.now c.split_at_mut-front-else-at-below.result.0.now c.split_at_mut-front-else-at-below.result.1.now a.at a.below _ _ front following less within c.requires.leads

pub returns-then-at-below : goal.returns-then-at-below
returns-then-at-below c =
    let a = c.args in
    let test = c.if-at-below.true in
    let within = c.requires.below in
    let front : c.split_at_mut-front.result.0.now ≡ take a.below a.layers.now = search rules in
    let following : c.split_at_mut-front.result.1.now ≡ drop a.below a.layers.now = search rules in
    let new : LayerView → LayerView → LayerView = λ l m. ended_layer (map (λ (other : NodeView). other.suffix) l.nodes) m in
    let is : c.set_suffixes.new.layer ≡ new (slice_index_or a.layers.now a.below no_layer) (slice_index_or a.layers.now a.at no_layer) =
    c.set_suffixes.ensures ∙ ap₂ new (following-at a.layers.now c.split_at_mut-front.result.1.now a.below _ following within) (front-at a.layers.now c.split_at_mut-front.result.0.now a.below a.at _ front (omega arith) (omega arith)) in
    ap (λ x. set c.split_at_mut-front.result.0.now a.at x ++ c.split_at_mut-front.result.1.now) is
    ∙ (ap₂ (λ (f b : List LayerView). set f a.at (new (slice_index_or a.layers.now a.below no_layer) (slice_index_or a.layers.now a.at no_layer)) ++ b) front following
    ∙ set-front a.layers.now a.below a.at _ (omega arith) (omega arith))

pub returns-else-at-below : goal.returns-else-at-below
returns-else-at-below c =
    let a = c.args in
    let test = c.if-at-below.false in
    let within = c.requires.at in
    let less : a.below < a.at = (let apart = c.requires.apart in omega arith) in
    let front : c.split_at_mut-front-else-at-below.result.0.now ≡ take a.at a.layers.now = search rules in
    let following : c.split_at_mut-front-else-at-below.result.1.now ≡ drop a.at a.layers.now = search rules in
    let new : LayerView → LayerView → LayerView = λ l m. ended_layer (map (λ (other : NodeView). other.suffix) l.nodes) m in
    let is : c.set_suffixes-else-at-below.new.layer ≡ new (slice_index_or a.layers.now a.below no_layer) (slice_index_or a.layers.now a.at no_layer) =
    c.set_suffixes-else-at-below.ensures ∙ ap₂ new (front-at a.layers.now c.split_at_mut-front-else-at-below.result.0.now a.at a.below _ front less (omega arith)) (following-at a.layers.now c.split_at_mut-front-else-at-below.result.1.now a.at _ following within) in
    ap (λ x. c.split_at_mut-front-else-at-below.result.0.now ++ set c.split_at_mut-front-else-at-below.result.1.now 0 x) is
    ∙ (ap₂ (λ (f b : List LayerView). f ++ set b 0 (new (slice_index_or a.layers.now a.below no_layer) (slice_index_or a.layers.now a.at no_layer))) front following
    ∙ set-following a.layers.now a.at _ (omega arith))
