-- The layers of a diagram, one after another.
use Rattle.std.specs.Prelude.{◌≡◌, ℕ, ◌+◌, ◌-◌, ◌<◌, ◌≤◌, cond, ℤ, List, [], ◌∷◌, length, Option, None}
use Rattle.dp_model.specs.Dp.{Dp}
use Rattle.dp_model.specs.Prefixes.{IsPrefix}
use Rattle.dp_model.specs.Reached.{reached}
use Rattle.dp_laws.specs.Diagrams.Nodes.{DdNode}
use Rattle.dp_laws.specs.Rules.Compiling.{expand, prune, is_wide, built, compiled, first_reduced_below, start_layer, relaxed}
use Rattle.layer_build.specs.Layers.{SpaceView, IsPreparedFor, diagram_of, last_depth, last_layer, expand_last, reduced_first}
use Rattle.layer_build.specs.UnderWay.{IsUnderWay}

-- the least depth that was reduced, once the next layer is built
abbrev pub with_next : Dp → Option ℤ → SpaceView → Option ℕ
with_next dp t s = cond (is_wide dp (length s.prefix) s.width (last_depth s + 1) (prune dp (last_depth s + 1) t (expand dp (last_depth s) (last_layer s.layers))).next)
    (reduced_first s.first_reduced (last_depth s + 1)) s.first_reduced

-- the next layer is built
pub record HasBuilt (dp : Dp) (t : Option ℤ) (old new : SpaceView) : Type 0 where
  pub space : new ≡ record old { layers = expand_last (built dp (length old.prefix) old.width t (last_depth old)) old.layers; told = new.told; first_reduced = with_next dp t old }
  pub under_way : IsUnderWay dp new

-- the layers are those of a prefix, before one is built
pub record IsStarted (dp : Dp) (s : SpaceView) : Type 0 where
  pub prefix : IsPrefix dp s.prefix
  pub shorter : length s.prefix < dp.vars
  pub layers : s.layers ≡ start_layer (reached dp s.prefix) ∷ []
  pub first_reduced : s.first_reduced ≡ None
  pub positive : 1 ≤ s.width

-- all layers below the prefix are built
abbrev pub compiled_from : Dp → Option ℤ → SpaceView → List (List DdNode)
compiled_from dp t s = compiled dp (length s.prefix) s.width t (length s.prefix) (dp.vars - length s.prefix) (start_layer (reached dp s.prefix))

-- the workspace has the layers of the rules
pub record HasCompiled (dp : Dp) (t : Option ℤ) (old new : SpaceView) : Type 0 where
  pub space : new ≡ record old {
    layers = compiled_from dp t old;
    told = new.told;
    first_reduced = first_reduced_below dp (length old.prefix) old.width t (length old.prefix) (dp.vars - length old.prefix) (start_layer (reached dp old.prefix));
  }
  pub under_way : IsUnderWay dp new

-- the diagram of the prefix is made
pub record IsMade (dp : Dp) (p : List ℕ) (t : Option ℤ) (old new : SpaceView) : Type 0 where
  pub layers : diagram_of new ≡ relaxed dp (reached dp p) old.width t
  pub width : new.width ≡ old.width
  pub held : new.held ≡ length new.prefix
  pub prepared : IsPreparedFor dp new
