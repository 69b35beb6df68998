use Rattle.std.proofs.Common.{◌≡◌, ◌+◌, true, nat_le, sym, ap, ap₂, ◌∙◌, arith}
use Rattle.std.specs.Prelude.{is_some}
use Rattle.std.proofs.lemmas.List.{get_or_read}
use Rattle.node_sets.specs.Sets.{words_for}
use Rattle.pending_rows.specs.Pending.{Pending, is_open}
use Rattle.tsp_windows.specs.Instance.{closing}
use Rattle.tsp_windows.proofs.Late.{too_late-gives}
use Rattle.pending_rows.proofs.Tests.{read_count}
use Rattle.tsp_windows.specs.States.{TourState, moved, shown}
use Rattle.tsp_windows.specs.Laws.Program.{state_row-gives}
use Rattle.tsp_windows.specs.Shown.{instance_in}
use Rattle.tsp_windows.proofs.Following.{in_time_is, left_after}
use Rattle.tsp_windows.proofs.StateLemmas.{visit_no, visit_late, visit_some, open_elsewhere}
use Rattle.tsp_windows.proofs.instance.TspWindows.visited.Goals as goal

pub returns-then-time-index-clause-allowed : goal.returns-then-time-index-clause-allowed
returns-then-time-index-clause-allowed c =
    sym (visit_late (instance_in c.args.self.now) (shown (words_for c.args.self.now.nodes) c.args.s.now) c.args.to c.time_of-time.result _ c.time_of-time.ensures.value
    (get_or_read c.args.self.now.too_late.items c.args.to _ (omega (arith, c.args.self.now.all_too_late, c.requires.inside)) c.index.ensures 0 ∙ too_late-gives (instance_in c.args.self.now) c.args.self.now.too_late.items c.args.self.now.late c.args.to c.requires.inside) c.if-time-index.true)

pub returns-in_err-left-clause-allowed : goal.returns-in_err-left-clause-allowed
returns-in_err-left-clause-allowed c =
    ap is_some c.from_residual.ensures
    ∙ sym (visit_no (instance_in c.args.self.now) (shown (words_for c.args.self.now.nodes) c.args.s.now) c.args.to
    (ap (λ (p : Pending). is_open p c.args.to) (sym c.pending_of.ensures.shown) ∙ sym c.left_after.ensures.open ∙ ap is_some c.in_err-left.was))

pub returns-clause-allowed : goal.returns-clause-allowed
returns-clause-allowed c =
    let there : is_open (shown (words_for c.args.self.now.nodes) c.args.s.now).pending c.args.to ≡ true =
    ap (λ (p : Pending). is_open p c.args.to) (sym c.pending_of.ensures.shown) ∙ sym c.left_after.ensures.open ∙ ap is_some c.in_ok-left.was in
    sym (ap is_some c.in_ok-arrival.was)
    ∙ in_time_is _ _ c.in_time.ensures
    ∙ ap (λ at. nat_le at (closing (instance_in c.args.self.now) c.args.to)) (ap₂ ◌+◌ c.time_of-time.ensures.value c.from.ensures)
    ∙ visit_some (instance_in c.args.self.now) (shown (words_for c.args.self.now.nodes) c.args.s.now) c.args.to c.in_ok-way.way
    (open_elsewhere c.args.self.now.nodes (shown (words_for c.args.self.now.nodes) c.args.s.now) c.args.to (state_row-gives c.args.self.now.nodes c.args.s.now c.requires.state).sound there)
    there (sym c.leg.ensures ∙ c.in_ok-way.was)

pub returns-clause-left : goal.returns-clause-left
returns-clause-left c =
    let i = instance_in c.args.self.now in
    let state : TourState = shown (words_for c.args.self.now.nodes) c.args.s.now in
    read_count c.in_ok-left.left c.args.self.now.nodes (moved i state c.args.to).pending.must (left_after i state _ c.args.to _ c.pending_of.ensures.shown c.in_ok-left.ensures.left) (omega (arith, c.args.self.now.few))
