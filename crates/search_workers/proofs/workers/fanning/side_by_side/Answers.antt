use Rattle.search_workers.proofs.Calls.{may_of, left_of}
use Rattle.search_workers.proofs.workers.fanning.side_by_side.Goals as goal

pub fan-requires-after_bounds : goal.fan-requires-after_bounds
fan-requires-after_bounds g c κs within = may_of g.F.Fn c.args.f.now _ _ c.requires

pub returns : goal.returns
returns g c = left_of g.F.Fn c.args.f.now _ _ _ _ c.fan.ensures
