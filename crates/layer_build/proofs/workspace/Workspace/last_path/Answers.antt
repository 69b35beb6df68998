use Rattle.std.proofs.Common.{ℕ, List, take, sym, ap, ap₂, ◌∙◌}
use Rattle.layer_build.specs.Layers.{SpaceView, last_depth}
use Rattle.layer_build.proofs.Going.{deep}
use Rattle.layer_build.proofs.workspace.Workspace.last_path.Goals as goal

pub returns : goal.returns
returns c =
    ap₂ (λ (k : ℕ) (l : List ℕ). take k l) (sym (deep c.self.inside c.self.invariant) ∙ ap last_depth c.self.view_is) (c.as_slice.ensures.value ∙ ap (λ (s : SpaceView). s.path) c.self.view_is)
