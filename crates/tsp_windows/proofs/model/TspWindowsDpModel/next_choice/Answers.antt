use Rattle.std.proofs.Common.{◌≡◌, false, sym, subst, arith}
use Rattle.node_sets.specs.Sets.{words_for}
use Rattle.tsp_windows.specs.Instance.{Instance}
use Rattle.tsp_windows.specs.States.{shown, may_go}
use Rattle.tsp_windows.proofs.model.TspWindowsDpModel.next_choice.Goals as goal

pub returns-clause-skipped : goal.returns-clause-skipped
returns-clause-skipped c d low high =
    subst (λ (i : Instance). may_go i c.args.k (shown (words_for i.nodes) c.args.s.now) d ≡ false) (sym c.args.self.now.spelled)
    (c.next_node.ensures.skipped d (omega arith) (omega arith))
