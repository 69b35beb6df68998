use Rattle.std.proofs.Common.{◌∙◌, ap}
use Rattle.bound_cover.specs.Stored.{spans}
use Rattle.bound_cover.specs.Building.{BuilderView, with_arc}
use Rattle.bound_cover.proofs.Building.{arc-built, arc-kept}
use Rattle.bound_cover.proofs.storing.building.CoverBuilder.push_arc.Goals as goal

pub invariant_of-self-2 : goal.invariant_of-self-2
invariant_of-self-2 c = (rw (c.push_reserved.ensures.items, c.reserve.ensures.items) (arc-kept c.self.inside.starts.items (spans c.self.inside.heads.items) c.self.inside.words.items c.self.inside.arcs.items c.self.inside.words_from c.self.inside.arcs_from c.self.invariant.0 c.args.arc), c.self.invariant.1)

pub returns-clause-ok : goal.returns-clause-ok
returns-clause-ok c = rw (c.push_reserved.ensures.items, c.reserve.ensures.items) (arc-built c.self.inside.starts.items (spans c.self.inside.heads.items) c.self.inside.words.items c.self.inside.arcs.items c.self.inside.words_from c.self.inside.arcs_from c.self.invariant.0 c.args.arc ∙ ap (λ (b : BuilderView). with_arc b c.args.arc) c.self.view_is)
