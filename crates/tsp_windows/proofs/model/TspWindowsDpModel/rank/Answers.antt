use Rattle.std.proofs.Common.{◌≡◌, pos, sym, subst, arith, to_z, of_z, w64}
use Rattle.node_sets.specs.Sums.{count_below}
use Rattle.node_sets.specs.Sets.{words_for}
use Rattle.tsp_windows.specs.Instance.{Instance}
use Rattle.tsp_windows.specs.States.{shown}
use Rattle.pending_rows.proofs.Tests.{read_count}
use Rattle.tsp_windows.proofs.model.TspWindowsDpModel.rank.Goals as goal

pub returns : goal.returns
returns c =
    subst (λ (i : Instance). to_z w64 (of_z w64 c.left.result) ≡ pos (count_below i.nodes (shown (words_for i.nodes) c.args.s.now).pending.must)) (sym c.args.self.now.spelled)
    (read_count c.left.result c.args.self.now.nodes (shown (words_for c.args.self.now.nodes) c.args.s.now).pending.must c.left.ensures (omega (arith, c.args.self.now.few)))
