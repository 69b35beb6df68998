use Rattle.std.proofs.Common.{◌≡◌, ◌-◌, ◌^◌, ℤ, Option}
use Rattle.dp_model.specs.Dp.{Dp}
use Rattle.layer_build.specs.Layers.{SpaceView, IsPreparedFor}
use Rattle.cover_book.specs.declared.exploration.Exploration.{Exploration}
use Rattle.cover_book.specs.UnderWay.{IsUnderWay}
use Rattle.cover_book.proofs.whole.put_all.Given as goal

-- some diagrams are put in, and the workspace is ready for the next one
pub record IsBetweenDiagrams (dp : Dp) (claim : Option ℤ) (space : SpaceView) (e : Exploration) : Type 0 where
  pub prepared : IsPreparedFor dp space
  pub under_way : IsUnderWay dp e
  pub claim_is : e.claim ≡ claim

abbrev pub invariant-diagrams : goal.invariant-diagrams
invariant-diagrams g l = IsBetweenDiagrams (g.M.DpModel.meaning (g.M.DpModel.numbers l.model)) l.initial.exploration.claim l.space l.exploration

-- what 64 bits leave to count: each diagram is for a row of its own
abbrev pub decreases-diagrams : goal.decreases-diagrams
decreases-diagrams g l = 2 ^ 64 - l.exploration.next
