-- What contracts see of a problem in memory.
use Rattle.std.specs.Prelude.{List}
use Rattle.dp_model.specs.Dp.{Dp}
use Rattle.one_machine.specs.declared.instance.OneMachine.{OneMachine}
use Rattle.one_machine.specs.Instance.{Job}
use Rattle.one_machine.specs.Program.{program_of}

abbrev pub instance_in : OneMachine → List Job
instance_in m = m.jobs.items

abbrev pub program_in : OneMachine → Dp
program_in m = program_of (instance_in m)
