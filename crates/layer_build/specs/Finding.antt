-- What is found in a workspace, and what becomes of it when that is let go.
use Rattle.std.specs.Prelude.{◌≡◌, ℕ, ℤ, List, Option, Some, None, ⊤}
use Rattle.std.specs.Borrow.{follows_so, MutBor, Fml}
use mathlib.Core.Option.{none}
use Rattle.dp_model.specs.Solution.{Solution}
use Rattle.dp_model.specs.declared.found.Found.{Found}
use Rattle.layer_build.specs.Layers.{SpaceView}
use Rattle.layer_build.specs.contracts.workspace.Workspace.{the_row}

-- the node is found with its value and its decisions, and none exactly where there is none
abbrev pub IsFound : Option Solution → Option Found → Type 0
IsFound None None = Unit {0}
IsFound None (Some f) = ⊥
IsFound (Some x) None = ⊥
IsFound (Some x) (Some f) = (f.value ≡ x.value) × (f.decisions.now ≡ x.decisions)

-- the same, with its value and its decisions apart
abbrev pub IsFoundAs : Option Solution → Option ℤ → List ℕ → Type 0
IsFoundAs None None decisions = Unit {0}
IsFoundAs None (Some value) decisions = ⊥
IsFoundAs (Some x) None decisions = ⊥
IsFoundAs (Some x) (Some value) decisions = (value ≡ x.value) × (decisions ≡ x.decisions)

-- nothing changes but the buffer of decisions
abbrev pub StaysButPath : SpaceView → SpaceView → Type 0
StaysButPath old new = new ≡ record old { path = new.path }

-- once the borrow is over, the workspace is as it was but for a path
abbrev pub StaysSeen : MutBor SpaceView → Fml
StaysSeen s = follows_so the_row the_row s.ghost_name none (λ _ _. ⊤) (λ n. StaysButPath s.now n)
