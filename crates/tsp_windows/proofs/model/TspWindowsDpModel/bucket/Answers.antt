use Rattle.std.proofs.Common.{◌≡◌, sym, subst}
use Rattle.std.specs.Prelude.{unwrap_or}
use Rattle.node_sets.specs.Sums.{least_amount}
use Rattle.node_sets.specs.Sets.{words_for}
use Rattle.tsp_windows.specs.Instance.{Instance}
use Rattle.tsp_windows.specs.States.{shown}
use Rattle.tsp_windows.proofs.StateLemmas.{least_position, no_position}
use Rattle.tsp_windows.proofs.model.TspWindowsDpModel.bucket.Goals as goal

pub returns-in-Some : goal.returns-in-Some
returns-in-Some c =
    subst (λ (i : Instance). c.in-Some.position ≡ unwrap_or (least_amount i.nodes (shown (words_for i.nodes) c.args.s.now).positions (λ p. p)) 0) (sym c.args.self.now.spelled)
    (least_position c.args.self.now.nodes (words_for c.args.self.now.nodes) c.args.s.now _ c.in-Some.position c.positions_of.ensures.row c.positions_of.ensures.set c.in-Some.ensures.next)

pub returns-in-None : goal.returns-in-None
returns-in-None c =
    subst (λ (i : Instance). 0 ≡ unwrap_or (least_amount i.nodes (shown (words_for i.nodes) c.args.s.now).positions (λ p. p)) 0) (sym c.args.self.now.spelled)
    (no_position c.args.self.now.nodes (words_for c.args.self.now.nodes) c.args.s.now _ c.positions_of.ensures.row c.in-None.ensures.none)
