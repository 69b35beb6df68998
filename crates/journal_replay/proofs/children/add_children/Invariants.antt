use Rattle.std.proofs.Common.{map, drop}
use Rattle.journal_bytes.specs.Views.{child_view}
use Rattle.journal_replay.proofs.Adding.{AddsOn}
use Rattle.journal_replay.proofs.children.add_children.Given as goal

abbrev pub invariant-loop-child : goal.invariant-loop-child
invariant-loop-child g l =
    AddsOn (g.M.DpModel.meaning (g.M.DpModel.numbers l.model)) l.prefix l.state (map child_view (drop l.child-index l.children)) l.fn.state (map child_view l.children)
