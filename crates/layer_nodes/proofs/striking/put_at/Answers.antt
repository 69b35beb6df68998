use Rattle.std.proofs.Common.{◌≡◌, slice_get, sym, ◌∙◌, ap, arith}
use Rattle.layer_nodes.proofs.Pruned.{set-own}
use Rattle.layer_nodes.proofs.striking.put_at.Goals as goal

pub returns-else-place-from : goal.returns-else-place-from
returns-else-place-from c =
    let a = c.args in
    let test = c.if-place-from.false in
    let same : a.place ≡ a.from = omega arith in
    sym (set-own a.nodes.now a.place a.node.now (ap (slice_get a.nodes.now) same ∙ c.requires.from))
