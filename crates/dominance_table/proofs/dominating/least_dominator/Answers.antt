use Rattle.std.proofs.Common.{◌≡◌, ℕ, refl, ◌+◌, ◌<◌, length, take, Some, true, is_some, Option, None, sym, ◌∙◌, ap, subst, arith}
use Rattle.dominance_table.specs.Dominator.{dominator}
use Rattle.dominance_table.specs.Groups.{fold_at, group_fold, start_at}
use Rattle.dominance_table.specs.Entries.{AreGrouped, with_rows}
use Rattle.dominance_table.proofs.Puts.{start_is}
use Rattle.dominance_table.proofs.Walks.{at_start, jumped, skipped_run, settled_all}
use Rattle.dominance_table.proofs.dominating.least_dominator.Goals as goal
use Rattle.dominance_table.proofs.dominating.least_dominator.Goals.{then-run-sought+then-run-sought-2+else-seen, else-run-sought, else-run-sought-via-then-run-sought+else-run-sought-2, else-run-sought-via-else-run-sought}

pub loop-at-init : goal.loop-at-init
loop-at-init g c =
    let a = c.args in
    let s = a.seen.now in
    let dp = g.M.DpModel.meaning (g.M.DpModel.numbers a.model.now) in
    let runs = c.runs-runs.result.now in
    let same = c.runs-runs.ensures in
    let grouped = subst (λ l. AreGrouped s.entries.now l) (sym same) c.requires.grouped in
    let own = c.group_fold.ensures ∙ ap (group_fold a.sought.now.depth) c.requires.bucket in
    record {
      least = jumped dp a.sought.now.depth a.sought.now.row.now a.sought.now.value s.words s.entries.now s.cells.now runs 0 c.first-at.result None (omega arith) (omega arith) grouped
          (λ j from to there fold. c.first-at.ensures.before j to (subst (λ l. j < length l) same there) (sym (ap (λ l. fold_at l j) same) ∙ (fold ∙ sym own)))
          (at_start dp a.sought.now.depth a.sought.now.row.now a.sought.now.value s.words s.entries.now s.cells.now);
      fold = λ there. ap (λ l. fold_at l c.first-at.result) same ∙ (c.first-at.ensures.fold (subst (λ l. c.first-at.result < length l) same there) ∙ c.group_fold.ensures);
    }

some_is : (o : Option ℕ) → is_some o ≡ true → (m : ℕ) × (o ≡ Some m)
some_is None h = absurd (cc)
some_is (Some m) h = (m, refl)

pub returns-then-is_some : goal.returns-then-is_some
returns-then-is_some g c =
    let a = c.args in
    let s = a.seen.now in
    let at = c.loop-at.at in
    let dp = g.M.DpModel.meaning (g.M.DpModel.numbers a.model.now) in
    let runs = c.runs-runs.result.now in
    let grouped = subst (λ l. AreGrouped s.entries.now l) (sym c.runs-runs.ensures) c.requires.grouped in
    let some = some_is c.least_in_run-least.result (sym c.is_some.ensures ∙ c.if-is_some.true) in
    let within = grouped.within at c.loop-at-test.true in
    some.1 ∙ sym (settled_all dp a.sought.now.depth a.sought.now.row.now a.sought.now.value s.words s.entries.now s.cells.now _ some.0 within (c.requires.rising c.if-seen.true)
    (sym c.least_in_run-least.ensures ∙ some.1))

pub loop-at-preserved : goal.loop-at-preserved
loop-at-preserved g c =
    let a = c.args in
    let s = a.seen.now in
    let at = c.loop-at.at in
    let dp = g.M.DpModel.meaning (g.M.DpModel.numbers a.model.now) in
    let runs = c.runs-runs.result.now in
    let same = c.runs-runs.ensures in
    let less : at < length runs = c.loop-at-test.true in
    let linked : at < length a.groups.now.runs = subst (λ l. at < length l) same less in
    let grouped = subst (λ l. AreGrouped s.entries.now l) (sym same) c.requires.grouped in
    let here = c.loop-at.invariant.fold less in
    let so-far = c.loop-at.invariant.least.0 less in
    let own = here ∙ ap (group_fold a.sought.now.depth) c.requires.bucket in
    let value : ℕ → Option ℕ = λ k. dominator dp (take k (with_rows s.words s.entries.now s.cells.now)) a.sought.now.depth a.sought.now.row.now a.sought.now.value in
    let end = start_is runs at in
    let now : c.if-run-sought.least ≡ value (start_at runs (at + 1)) =
    elim c.if-run-sought.branch [
      | then-run-sought+then-run-sought-2+else-seen w ↦ w.least-is ∙ (w.least_in_run-least.ensures ∙ sym (ap value end))
      | else-run-sought w ↦ w.least-is ∙ (so-far ∙ sym (skipped_run dp a.sought.now.depth a.sought.now.row.now a.sought.now.value s.words s.entries.now s.cells.now runs at grouped less
          (λ d b. elim w.else-run-sought.branch [
            | else-run-sought-via-then-run-sought+else-run-sought-2 v ↦ v.if-run-sought-2.false (b ∙ sym c.requires.bucket)
            | else-run-sought-via-else-run-sought v ↦ v.if-run-sought.false d
          ])))
    ] in
    record {
      least = jumped dp a.sought.now.depth a.sought.now.row.now a.sought.now.value s.words s.entries.now s.cells.now runs (at + 1) c.next-at.result c.if-run-sought.least (omega (arith, c.next-at.ensures.later)) (omega arith) grouped
          (λ j from to there fold. c.next-at.ensures.between j (omega (arith, from)) to (subst (λ l. j < length l) same there) (sym (ap (λ l. fold_at l j) same) ∙ (fold ∙ (sym own ∙ ap (λ l. fold_at l at) same)))) now;
      fold = λ there. ap (λ l. fold_at l c.next-at.result) same ∙ (c.next-at.ensures.fold (subst (λ l. c.next-at.result < length l) same there) ∙ (sym (ap (λ l. fold_at l at) same) ∙ here));
    }
