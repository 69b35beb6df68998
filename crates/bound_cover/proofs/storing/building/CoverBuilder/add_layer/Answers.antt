use Rattle.std.proofs.Common.{◌∙◌, ap}
use Rattle.bound_cover.specs.Stored.{spans}
use Rattle.bound_cover.specs.Building.{with_layer}
use Rattle.bound_cover.proofs.Building.{layer-built, layer-kept}
use Rattle.bound_cover.proofs.Spans.{length-spans}
use Rattle.bound_cover.proofs.storing.building.CoverBuilder.add_layer.Goals as goal

pub invariant_of-self-2 : goal.invariant_of-self-2
invariant_of-self-2 c = (rw (c.push_reserved.ensures.items, c.reserve.ensures.items, c.len.ensures, c.self.inside.heads.ok.0, ← length-spans 0 0 c.self.inside.heads.items) (layer-kept c.self.inside.starts.items (spans c.self.inside.heads.items) c.self.inside.words.items c.self.inside.arcs.items c.self.inside.words_from c.self.inside.arcs_from c.self.invariant.0), c.self.invariant.1)

pub returns-clause-ok : goal.returns-clause-ok
returns-clause-ok c = rw (c.push_reserved.ensures.items, c.reserve.ensures.items, c.len.ensures, c.self.inside.heads.ok.0, ← length-spans 0 0 c.self.inside.heads.items) (layer-built c.self.inside.starts.items (spans c.self.inside.heads.items) c.self.inside.words.items c.self.inside.arcs.items c.self.inside.words_from c.self.inside.arcs_from c.self.invariant.0 ∙ ap with_layer c.self.view_is)
