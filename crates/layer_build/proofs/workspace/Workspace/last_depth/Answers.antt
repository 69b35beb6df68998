use Rattle.std.proofs.Common.{sym, ap, ◌∙◌}
use Rattle.layer_build.specs.Layers.{last_depth}
use Rattle.layer_build.proofs.Going.{deep}
use Rattle.layer_build.proofs.workspace.Workspace.last_depth.Goals as goal

pub returns : goal.returns
returns c = sym (sym (ap last_depth c.self.view_is) ∙ deep c.self.inside c.self.invariant)
