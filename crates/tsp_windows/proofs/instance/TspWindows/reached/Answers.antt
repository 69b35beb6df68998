use Rattle.node_sets.specs.Sets.{words_for}
use Rattle.tsp_windows.specs.Shown.{instance_in}
use Rattle.tsp_windows.specs.States.{shown}
use Rattle.tsp_windows.proofs.Following.{none_following}
use Rattle.tsp_windows.proofs.instance.TspWindows.reached.Goals as goal

pub returns-clause-left : goal.returns-clause-left
returns-clause-left c = none_following (instance_in c.args.self.now) (shown (words_for c.args.self.now.nodes) c.args.s.now) c.args.to c.in_ok-arrival.ensures.allowed
