use Rattle.std.proofs.Common.{◌∙◌, ap, length}
use Rattle.bound_cover.specs.Stored.{spans}
use Rattle.bound_cover.specs.Building.{BuilderView}
use Rattle.bound_cover.proofs.Building.{layers-built}
use Rattle.bound_cover.proofs.storing.building.CoverBuilder.layers.Goals as goal

pub returns : goal.returns
returns c = c.len.ensures ∙ (c.self.inside.starts.ok.0 ∙ (layers-built c.self.inside.starts.items (spans c.self.inside.heads.items) c.self.inside.words.items c.self.inside.arcs.items c.self.inside.words_from c.self.inside.arcs_from c.self.invariant.0 ∙ ap (λ (b : BuilderView). length b.cover) c.self.view_is))
