use Rattle.std.proofs.Common.{Some, ap, ◌∙◌}
use Rattle.std.specs.Prelude.{option_map}
use Rattle.cover_text.specs.Texts.{text_in}
use Rattle.cover_join.specs.Joining.{answer_of}
use Rattle.cover_join.proofs.RootRows.{root_here}
use Rattle.cover_join.proofs.finding.root_arcs.Goals as goal

pub returns-then-is_root_row : goal.returns-then-is_root_row
returns-then-is_root_row g c =
    root_here (g.M.DpModel.meaning (g.M.DpModel.numbers c.args.model.now)) (answer_of (text_in c.args.text.now)) c.loop-row.row (option_map (λ a. a.now) c.arcs.result)
    (c.is_root_row.ensures ∙ ap Some c.if-is_root_row.true) c.arcs.ensures c.loop-row.invariant
