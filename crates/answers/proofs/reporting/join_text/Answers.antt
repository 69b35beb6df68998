use Rattle.std.proofs.Common.{List, Result, inr, map, refl, subst, sym}
use Rattle.std.specs.Prelude.{IsOk}
use Rattle.part_text.specs.Reports.{SettledView, settled_view}
use Rattle.tokens.specs.declared.instance_error.InstanceError.{InstanceError}
use Rattle.answers.proofs.ReportsJoined.{text-joined}
use Rattle.answers.proofs.reporting.join_text.Goals as goal

pub returns-in-Ok-clause-joins : goal.returns-in-Ok-clause-joins
returns-in-Ok-clause-joins g c = inr (text-joined g.D.Disk c.args.path.now c.args.disk.now c.join_named.new.disk c.args.bytes.now (map settled_view c.in-Ok.reports.items) c.in-Ok.ensures.read c.join_named.result c.join_named.ensures)

pub returns-in-Ok-clause-left : goal.returns-in-Ok-clause-left
returns-in-Ok-clause-left g c =
    inr (c.join_named.ensures.attaches, c.join_named.ensures.unwritten, subst (λ (read : Result (List SettledView) InstanceError). IsOk read) (sym c.in-Ok.ensures.read) refl)
