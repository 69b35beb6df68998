use Rattle.std.proofs.Common.{rules, ◌≡◌, ◌<◌, pos, ◌-ℤ◌, max, arith, sym, subst, ap, ap₂, ◌∙◌, to_z, of_z, w64}
use Rattle.std.specs.Prelude.{IsTrue}
use Rattle.std.proofs.lemmas.List.{get_or_read}
use Rattle.node_sets.specs.Sums.{count_below}
use Rattle.node_sets.specs.Sets.{words_for}
use Rattle.tsp_windows.specs.Instance.{Instance, Window, no_window}
use Rattle.tsp_windows.specs.Shown.{instance_in}
use Rattle.tsp_windows.specs.States.{TourState, departure, shown, row_for, moved, is_state_row}
use Rattle.tsp_windows.specs.Laws.Program.{state_row-gives}
use Rattle.tsp_windows.specs.Laws.States.{shown-row_for}
use Rattle.tsp_windows.specs.Laws.Moves.{moved-bounded}
use Rattle.pending_rows.proofs.Tests.{read_count}
use Rattle.tsp_windows.proofs.Following.{gain_is}
use Rattle.tsp_windows.proofs.model.TspWindowsDpModel.extend.Goals as goal

pub returns-clause-extended : goal.returns-clause-extended
returns-clause-extended c =
    let m = c.args.self.now in
    let i = instance_in m in
    let state : TourState = shown (words_for m.nodes) c.args.s.now in
    let following : TourState = moved i state c.args.d in
    let inside : c.args.d < m.nodes = subst (λ (j : Instance). c.args.d < j.nodes) m.spelled c.requires.decision in
    let leaves : c.max-departure.result ≡ departure i state c.args.d =
    c.max-departure.ensures ∙ ap₂ max c.in_ok-reached.ensures.arrival (ap (λ (w : Window). w.opening) (get_or_read m.windows.items c.args.d _ (omega (arith, m.each_window, inside)) c.index.ensures no_window)) in
    let bounded = moved-bounded i state c.args.d inside (state_row-gives m.nodes c.args.s.now (subst (λ (j : Instance). IsTrue (is_state_row j.nodes c.args.s.now)) m.spelled c.requires.state)).bounded in
    let shows : shown (words_for m.nodes) (row_for (words_for m.nodes) following) ≡ following = shown-row_for m.nodes following bounded in (
      subst (λ (j : Instance). to_z w64 (of_z w64 (to_z w64 c.time_of.result -ℤ to_z w64 c.max-departure.result)) ≡ pos (shown (words_for j.nodes) c.args.s.now).pending.time -ℤ pos (departure j (shown (words_for j.nodes) c.args.s.now) c.args.d)) (sym m.spelled)
          (gain_is state.pending.time (departure i state c.args.d) c.time_of.ensures.value c.time_of.ensures.early leaves (search rules)),
      subst (λ (j : Instance). to_z w64 (of_z w64 c.in_ok-reached.reached.left) ≡ pos (count_below j.nodes (shown (words_for j.nodes) (row_for (words_for j.nodes) (moved j (shown (words_for j.nodes) c.args.s.now) c.args.d))).pending.must)) (sym m.spelled)
          (read_count c.in_ok-reached.reached.left m.nodes following.pending.must c.in_ok-reached.ensures.left (omega (arith, m.few)) ∙ ap (λ (t : TourState). pos (count_below m.nodes t.pending.must)) (sym shows)),
    )
