use Rattle.std.proofs.Common.{rules}
use Rattle.search_workers.proofs.Calls.{leaves_of}
use Rattle.search_workers.proofs.workers.fanning.at_one.Goals as goal

pub returns : goal.returns
returns g c = leaves_of g.F.Fn c.args.f.now _ _ _ _ (search rules)
