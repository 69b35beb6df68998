use Rattle.std.proofs.Common.{◌≡◌, sym, ◌∙◌, ap, map, w64, to_z, of_z, rules}
use Rattle.std.specs.Arc.{arc_value}
use Rattle.dp_model.specs.Dp.{Dp}
use Rattle.part_text.specs.Reports.{settled_view}
use Rattle.answers.proofs.ReportsJoined.{found-joined}
use Rattle.answers.proofs.reporting.joined_best.Goals as goal

pub best_on-requires-after_bounds : goal.best_on-requires-after_bounds
best_on-requires-after_bounds g c κs within = c.in-Ok-stopped_board.ensures.numbers ∙ ap g.M.DpModel.numbers (sym c.deref.ensures)

pub returns-in-Ok-stopped_board : goal.returns-in-Ok-stopped_board
returns-in-Ok-stopped_board g c =
    let meant : g.row.M.Denot → Dp = λ m. g.M.DpModel.meaning (g.M.DpModel.numbers m) in
    let held = c.in-Ok.ensures.ok in
    let read : to_z w64 (of_z w64 c.within.result) ≡ c.within.result = search rules in
    found-joined (meant c.args.model) (meant (arc_value c.in-Ok.model)) (meant c.deref.result.now) (ap meant held) (ap meant (c.deref.ensures ∙ held)) c.args.records.now.within (to_z w64 (of_z w64 c.within.result)) (read ∙ c.within.ensures) c.args.digest.now c.args.records.now.records (map settled_view c.args.reports.items)
    c.in-Ok-stopped_board.ensures.accepted c.in-Ok-stopped_board.board.board c.in-Ok-stopped_board.ensures.board c.args.records.now.first c.best_on.result c.best_on.ensures.found c.best_on.ensures.refused
