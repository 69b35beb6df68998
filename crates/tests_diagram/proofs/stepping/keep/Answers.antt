use Rattle.std.proofs.Common.{◌≡◌, ◌<◌, length, ◌∙◌, ap, arith}
use Rattle.layer_build.specs.Layers.{last_layer}
use Rattle.relaxed_dd.proofs.Lasts.{last-at-depth}
use Rattle.tests_diagram.proofs.stepping.keep.Goals as goal

pub keep_first-requires-clause-wide : goal.keep_first-requires-clause-wide
keep_first-requires-clause-wide c =
    let s = c.args.space.now in
    let some = c.requires.1.some in
    let last = last-at-depth (length s.prefix) s.layers c.last_depth.result (omega arith) c.last_depth.ensures in
    let nodes : c.nodes.result ≡ length (last_layer s.layers) = c.nodes.ensures ∙ ap (λ l. length l) last in
    let width = c.width.ensures in
    let test = c.if-nodes-width.false in
    omega arith
