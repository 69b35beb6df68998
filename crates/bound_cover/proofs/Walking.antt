-- How far a walk over the decisions of a row has come.
use Rattle.std.specs.Prelude.{◌≡◌, ℕ, ◌<◌, ◌≤◌, List, length, take, slice_get, Option, Some, None}
use Rattle.dp_model.specs.Dp.{Dp}
use Rattle.dp_model.specs.Lists.{Each, OneOf}
use Rattle.bound_cover.specs.declared.cover.CoverArc.{CoverArc}
use Rattle.bound_cover.specs.declared.cover.Why.{Why}
use Rattle.bound_cover.specs.declared.cover.Why.TheVariants.{Target}
use Rattle.bound_cover.specs.Covers.{CoverRow}
use Rattle.bound_cover.specs.Tests.{tested, decision_fault}
use Rattle.bound_cover.specs.Walking.{least_after}

-- the decision is less than the other, where there is one
abbrev pub IsBefore : ℕ → Option ℕ → Type 0
IsBefore d None = Unit {0}
IsBefore d (Some e) = d < e

-- the failure at what is listed after all decisions
abbrev pub rest_fault : ℕ → ℕ → Option ℕ → Option Why
rest_fault k i None = None
rest_fault k i (Some d) = Some (Target k i d)

abbrev pub IsUpTo : ℕ → Option ℕ → Type 0
IsUpTo d None = Unit {0}
IsUpTo d (Some e) = d ≤ e

-- a walk has come to the decision d, with the arc at the place at hand: arcs before it have smaller decisions, those from it on
-- no smaller one, and no tested decision below d fails
pub record IsWalked (dp : Dp) (k i : ℕ) (next : List CoverRow) (row : CoverRow) (arcs : List CoverArc) (place d : ℕ) : Type 0 where
  pub inside : place ≤ length arcs
  pub before : Each (λ (a : CoverArc). a.decision < d) (take place arcs)
  pub at : (arc : CoverArc) → slice_get arcs place ≡ Some arc → d ≤ arc.decision
  pub following : IsUpTo d (least_after 0 arcs)
  pub fine : (e : ℕ) → OneOf (λ x. x ≡ e) (tested dp k row.words arcs) → e < d → decision_fault dp k i next row arcs e ≡ None
