use Rattle.std.proofs.Common.{subst, sym}
use Rattle.layer_nodes.specs.Holding.{places_of}
use Rattle.layer_build.specs.Stacked.{places_above}
use Rattle.layer_build.specs.UnderWay.{IsUnderWay}
use Rattle.layer_build.proofs.Dropping.{dropped-space, dropped-seen, dropped-under-way}
use Rattle.layer_build.proofs.Places.{live-left}
use Rattle.layer_build.proofs.Standing.{has-all-depths}
use Rattle.layer_build.proofs.workspace.Workspace.drop_above.Goals as goal

pub drop_above-requires-clause-stored : goal.drop_above-requires-clause-stored
drop_above-requires-clause-stored c = has-all-depths c.self.inside c.self.invariant

pub drop_above-requires-clause-first : goal.drop_above-requires-clause-first
drop_above-requires-clause-first c = c.self.invariant.rows.begun

pub drop_above-requires-clause-live : goal.drop_above-requires-clause-live
drop_above-requires-clause-live c =
    let i = c.self.inside in
    live-left i.stack.region (places_above i.held i.stack) (places_of i.stack.newest.nodes) c.self.invariant.rows.live

pub invariant_of-self : goal.invariant_of-self
invariant_of-self c = dropped-space c.self.inside c.self.invariant c.drop_above.new.stack c.drop_above.ensures.same c.drop_above.ensures.exchanged

pub returns-clause-seen : goal.returns-clause-seen
returns-clause-seen c = dropped-seen c.self.inside c.self.invariant c.drop_above.new.stack c.drop_above.ensures.same c.args.self.now c.self.view_is

pub returns-clause-under_way : goal.returns-clause-under_way
returns-clause-under_way c dp u =
    subst (IsUnderWay dp) (sym (dropped-seen c.self.inside c.self.invariant c.drop_above.new.stack c.drop_above.ensures.same c.args.self.now c.self.view_is)) (dropped-under-way dp c.args.self.now _ u)
