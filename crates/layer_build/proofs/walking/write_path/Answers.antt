use Rattle.layer_nodes.specs.Nodes.{NodeView}
use Rattle.layer_build.proofs.Reading.{read-at}
use Rattle.layer_build.proofs.Walked.{walked-more}
use Rattle.layer_build.proofs.walking.write_path.Goals as goal

pub steps-preserved : goal.steps-preserved
steps-preserved c =
    walked-more c.args.stack.now c.args.prefix.now c.steps.out c.args.depth c.args.node c.steps.k c.steps.at c.steps.invariant c.steps-test.true
    c.decision-decision.result (read-at (λ (n : NodeView). n.decision) c.steps.at c.layer_at.ensures c.decision-decision.ensures) c.parent_or_first-at.result c.parent_or_first-at.ensures
