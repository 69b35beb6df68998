-- What is written last through the value of a guard is the guard's value.
use Rattle.std.specs.Prelude.{[]}
use denote.RattleType.{RattleType}
use mir.Syntax.{named}
use Rattle.std.specs.Borrow.{Lends, MutBor, Fml}
use Rattle.turn.specs.contracts.turn.Guard.{the_row}
use Rattle.turn.specs.declared.turned.Turned.{Ghosts}
use Rattle.turn.specs.declared.turn.Guard.{Guard}

-- a guard with another value
abbrev pub with_value : {V T : Type 0} → Guard V T → V → Guard V T
with_value g value = record g { value = value }

-- what is written through r is the guard's value
abbrev pub LendsValue : (R S : RattleType) → Ghosts R.Denot S.Denot → MutBor (Guard R.Denot S.Denot) → MutBor R.Denot → Fml
LendsValue R S turned g r = Lends (the_row (record { mir = named 1; lft = [] }) R S turned) R g r (with_value g.now)
