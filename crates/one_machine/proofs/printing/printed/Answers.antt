use Rattle.std.proofs.Common.{ap, ◌∙◌}
use Rattle.std.specs.List.{list_all}
use Rattle.one_machine.specs.Instance.{is_small_job}
use Rattle.one_machine.specs.Laws.Limits.{is_small-is}
use Rattle.one_machine.proofs.printing.printed.Goals as goal

pub push_jobs-requires : goal.push_jobs-requires
push_jobs-requires c = ap (list_all is_small_job) c.deref.ensures.value ∙ (is_small-is c.args.model.now.jobs.items c.args.model.now.small).all
