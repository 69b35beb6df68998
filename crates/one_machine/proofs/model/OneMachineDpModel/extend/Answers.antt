use Rattle.std.proofs.Common.{rules, ◌≡◌, pos, neg_ℤ, List, length, sym, subst, ap, ◌∙◌, arith, FitsSigned, to_z, of_z, w64}
use Rattle.std.specs.Prelude.{IsTrue}
use Rattle.std.proofs.lemmas.Int.{to_z-of_z}
use Rattle.node_sets.specs.Sums.{count_below}
use Rattle.node_sets.specs.Sets.{words_for}
use Rattle.pending_rows.specs.Pending.{Pending, shown, row_for, without, done}
use Rattle.pending_rows.proofs.Tests.{read_count}
use Rattle.one_machine.specs.Instance.{Job}
use Rattle.one_machine.specs.OwnWords.{penalty}
use Rattle.one_machine.specs.Program.{taken, is_state_row}
use Rattle.one_machine.specs.Laws.Program.{state-gives}
use Rattle.one_machine.specs.Laws.Runs.{shown-taken}
use Rattle.one_machine.proofs.model.OneMachineDpModel.extend.Goals as goal

pub returns-clause-extended : goal.returns-clause-extended
unfolding done
returns-clause-extended c =
    let m = c.args.self.now in
    let n = length m.jobs.items in
    let s = c.args.s.now in
    let state : Pending = shown (words_for n) s in
    let bounded = (state-gives n c.args.k s (subst (λ (l : List Job). IsTrue (is_state_row (length l) c.args.k s)) m.spelled c.requires.state)).bounded in
    let fits : FitsSigned w64 c.gain_of-gain.result = search rules in (
      subst (λ (l : List Job). to_z w64 (of_z w64 c.gain_of-gain.result) ≡ neg_ℤ (pos (penalty l (shown (words_for (length l)) s).time c.args.d))) (sym m.spelled)
          (to_z-of_z w64 c.gain_of-gain.result fits ∙ c.gain_of-gain.ensures),
      subst (λ (l : List Job). to_z w64 (of_z w64 c.in_ok-rank.rank) ≡ pos (count_below (length l) (shown (words_for (length l)) (row_for (words_for (length l)) (taken l (shown (words_for (length l)) s) c.args.d))).must)) (sym m.spelled)
          (read_count c.in_ok-rank.rank n (without state.must c.args.d) c.in_ok-rank.ensures.left (let few = m.few in omega (arith, few)) ∙ ap (λ (t : Pending). pos (count_below n t.must)) (sym (shown-taken m.jobs.items state c.args.d bounded))),
    )
