use Rattle.std.proofs.Common.{rules, ◌∙◌}
use Rattle.layer_nodes.specs.Ending.{at_end_in}
use Rattle.layer_nodes.proofs.Ended.{last-more, mapped-all}
use Rattle.layer_nodes.proofs.ending.end_last.Goals as goal

pub nodes-preserved : goal.nodes-preserved
nodes-preserved c = last-more c.args.nodes.now c.nodes.nodes c.nodes.i c.index-nodes-i.result c.without_arcs.result c.nodes-test.true c.nodes.invariant c.without_arcs.ensures

pub returns : goal.returns
returns c = c.nodes.invariant ∙ mapped-all at_end_in c.nodes.i c.args.nodes.now (search rules)
