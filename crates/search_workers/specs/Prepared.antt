-- What a desk keeps between rounds.
use Rattle.std.specs.Prelude.{◌≡◌, ℕ, ◌≤◌, [], length, Result, Ok, Err}
use Rattle.dp_model.specs.Dp.{Dp}
use Rattle.dp_model.specs.declared.cut_kind.CutKind.{CutKind}
use Rattle.dp_model.specs.Subproblem.{SubView}
use Rattle.layer_build.specs.Layers.{IsWidth, IsPreparedFor}
use Rattle.layer_build.specs.declared.workspace.PrepareError.{PrepareError}
use Rattle.layer_build.specs.declared.workspace.PrepareError.TheVariants.{Width, OutOfMemory}
use Rattle.relaxed_dd.specs.Cut.{HasCutRoom}
use Rattle.exact_cutset.specs.Prepared as cutsets
use Rattle.exact_cutset.specs.Seen.{ChildrenView}
use Rattle.search_workers.specs.Collected.{MayBeBook}
use Rattle.search_workers.specs.declared.desk.Desk.{Desk}

-- the list has room for the children of the kind of diagrams of the width
abbrev pub HoldsChildren : Dp → ℕ → CutKind → ChildrenView → Type 0
HoldsChildren dp w kind c = cutsets.IsListPreparedFor dp w kind c

-- the subproblem has room for the decisions of all variables, and a row of the right size
pub record CanHold (dp : Dp) (h : SubView) : Type 0 where
  pub decisions : dp.vars ≤ h.room
  pub cells : length h.subproblem.row ≡ dp.words

-- the desk has room for a subproblem of the instance, and for diagrams of the width, their children of its kind and the rows of their last
-- exact layer
pub record HasDeskRoom (dp : Dp) (w : ℕ) (desk : Desk) : Type 0 where
  pub taken : CanHold dp desk.taken
  pub space : IsPreparedFor dp desk.space
  pub width : desk.space.width ≡ w
  pub cutset : HoldsChildren dp w desk.kind desk.cutset
  pub cut : HasCutRoom dp w desk.cut

-- a desk with room for the rounds on an instance, nothing of an earlier round on it, and in its book diagrams of the instance alone
pub record IsPreparedDesk (dp : Dp) (w : ℕ) (desk : Desk) : Type 0 where
  pub room : HasDeskRoom dp w desk
  pub no_fates : desk.fates.items ≡ []
  pub book : MayBeBook dp desk.book

-- a desk for the width; a refused width exactly where it is not positive or does not fit
abbrev pub AreDesks : Dp → ℕ → Result Desk PrepareError → Type 0
AreDesks dp w (Ok desk) = IsPreparedDesk dp w desk
AreDesks dp w (Err Width) = IsWidth dp w → ⊥
AreDesks dp w (Err OutOfMemory) = IsWidth dp w
