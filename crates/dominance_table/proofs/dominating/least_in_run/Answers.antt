use Rattle.std.proofs.Common.{◌≡◌, ◌+◌, ◌<◌, length, take, Some, sym, ◌∙◌, ap, subst, arith}
use Rattle.dominance_table.specs.Dominator.{lesser, entry_dominates, dominator, IsReached}
use Rattle.dominance_table.specs.Entries.{entry_at, with_row, with_rows}
use Rattle.dominance_table.proofs.Walks.{past_then, past_else, state_at, found_one, settled}
use Rattle.dominance_table.proofs.dominating.least_in_run.Goals as goal
use Rattle.dominance_table.proofs.dominating.least_in_run.Goals.{then-dominates+else-seen, else-dominates}

pub dominates-requires-clause-row : goal.dominates-requires-clause-row
dominates-requires-clause-row g c κs within =
    let a = c.args in
    let s = a.seen.now in
    let at = c.loop-at.at in
    let dp = g.M.DpModel.meaning (g.M.DpModel.numbers a.model.now) in
    let less : at < length s.entries.now = (let end = c.requires.end in let test = c.loop-at-test.true in omega arith) in
    subst (λ r. IsReached dp a.sought.now.depth r (entry_at s.entries.now at).rank) (sym c.row_at.ensures)
    (state_at dp a.sought.now.depth a.sought.now.row.now a.sought.now.value s.words s.entries.now s.cells.now at less c.requires.rows
    (c.requires.depth at c.loop-at.invariant.from c.loop-at-test.true))

pub returns-then-seen : goal.returns-then-seen
returns-then-seen g c =
    let a = c.args in
    let s = a.seen.now in
    let at = c.loop-at.at in
    let dp = g.M.DpModel.meaning (g.M.DpModel.numbers a.model.now) in
    let e = entry_at s.entries.now at in
    let test = c.loop-at-test.true in
    let less : at < length s.entries.now = (let end = c.requires.end in omega arith) in
    let is = sym (c.dominates.ensures ∙ ap (λ r. entry_dominates dp a.sought.now.depth a.sought.now.row.now a.sought.now.value (with_row e r)) c.row_at.ensures) ∙ c.if-dominates.true in
    let one = found_one dp a.sought.now.depth a.sought.now.row.now a.sought.now.value s.words s.entries.now s.cells.now at in
    let now = past_then dp a.sought.now.depth a.sought.now.row.now a.sought.now.value s.words s.entries.now s.cells.now at less is in
    let rest = settled dp a.sought.now.depth a.sought.now.row.now a.sought.now.value s.words s.entries.now s.cells.now (at + 1) a.end one.0 (omega arith) c.requires.end (c.requires.rising c.if-seen.true) (now ∙ one.1) in
    c.lesser-least.ensures ∙ (ap (λ o. lesser o (Some e.ticket)) c.loop-at.invariant.least ∙ (one.1 ∙ sym rest))

pub loop-at-preserved : goal.loop-at-preserved
loop-at-preserved g c =
    let a = c.args in
    let s = a.seen.now in
    let at = c.loop-at.at in
    let dp = g.M.DpModel.meaning (g.M.DpModel.numbers a.model.now) in
    let e = entry_at s.entries.now at in
    let test = c.loop-at-test.true in
    let less : at < length s.entries.now = (let end = c.requires.end in omega arith) in
    let tells = c.dominates.ensures ∙ ap (λ r. entry_dominates dp a.sought.now.depth a.sought.now.row.now a.sought.now.value (with_row e r)) c.row_at.ensures in
    let now : c.if-dominates.least ≡ dominator dp (take (at + 1) (with_rows s.words s.entries.now s.cells.now)) a.sought.now.depth a.sought.now.row.now a.sought.now.value =
    elim c.if-dominates.branch [
      | then-dominates+else-seen w ↦ w.least-is ∙ (w.lesser-least.ensures ∙ (ap (λ o. lesser o (Some e.ticket)) c.loop-at.invariant.least
          ∙ sym (past_then dp a.sought.now.depth a.sought.now.row.now a.sought.now.value s.words s.entries.now s.cells.now at less (sym tells ∙ w.if-dominates.true))))
      | else-dominates w ↦ w.least-is ∙ (c.loop-at.invariant.least
          ∙ sym (past_else dp a.sought.now.depth a.sought.now.row.now a.sought.now.value s.words s.entries.now s.cells.now at less (sym tells ∙ w.if-dominates.false)))
    ] in
    let from = c.loop-at.invariant.from in
    record { least = now; from = omega arith; within = omega arith }
