use Rattle.std.proofs.Common.{◌≡◌, ◌-◌, length, drop, sym, ap, ◌∙◌, arith}
use Rattle.layer_build.specs.Layers.{live_in}
use Rattle.layer_build.specs.Stacked.{places_from, shown_stack}
use Rattle.layer_build.proofs.Walked.{count_all, held-counted}
use Rattle.layer_build.proofs.workspace.Workspace.live_rows.Goals as goal

pub overflow_sub-result : goal.overflow_sub-result
overflow_sub-result c = (let count = c.self.invariant.rows.count in let all = c.rows.ensures.rows in let free = c.spare.ensures.spare in omega arith)

pub returns : goal.returns
returns c =
    let i = c.self.inside in
    let h = c.self.invariant in
    let count = h.rows.count in
    let all = c.rows.ensures.rows in
    let free = c.spare.ensures.spare in
    let live : c.rows.result - c.spare.result ≡ length (places_from i.held i.stack) = omega arith in
    live ∙ (sym (held-counted i.stack i.prefix.items i.held h.rows.begun h.rows.low)
    ∙ (ap (λ (f : _). count_all (drop (i.held - f) (shown_stack i.prefix.items i.stack))) h.first ∙ ap live_in c.self.view_is))
