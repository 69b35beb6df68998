use Rattle.std.proofs.Common.{◌≤◌, length, sym, ap, ◌∙◌, arith}
use Rattle.layer_nodes.specs.Nodes.{LayerView}
use Rattle.layer_build.specs.Layers.{SpaceView, last_depth, layer_at}
use Rattle.layer_build.proofs.Going.{deep}
use Rattle.layer_build.proofs.Reading.{begun-low, layer-seen}
use Rattle.layer_build.proofs.Standing.{has-depth}
use Rattle.layer_build.proofs.workspace.Workspace.nodes.Goals as goal

pub layer_at-requires : goal.layer_at-requires
layer_at-requires c =
    let i = c.self.inside in let h = c.self.invariant in
    let at = ap last_depth c.self.view_is in
    let here = deep i h in
    let last = c.requires.last in
    has-depth i h c.args.depth (omega arith)

pub returns : goal.returns
returns c =
    let i = c.self.inside in let h = c.self.invariant in
    let low = begun-low i h c.args.self.now c.self.view_is c.args.depth c.requires.first in
    let at = ap last_depth c.self.view_is in
    let here = deep i h in
    let last = c.requires.last in
    let high : c.args.depth ≤ i.stack.last = omega arith in
    c.len.ensures.count ∙ (ap (λ (l : LayerView). length l.nodes) c.layer_at.ensures ∙ (sym (layer-seen i h c.args.depth low high) ∙ ap (λ (s : SpaceView). length (layer_at s c.args.depth)) c.self.view_is))
