-- What a push answers, and the open ones after it.
use Rattle.std.specs.Prelude.{cond, int_le, List, Option, Some, None}
use Rattle.fringe.specs.Tickets.{Ticketed, by_ticket, without}
use Rattle.fringe.specs.declared.fate.FringeFate.{FringeFate}
use Rattle.fringe.specs.declared.fate.FringeFate.TheVariants.{Kept, Replaced, Entered}
use Rattle.fringe.specs.Fringe.{same_open}

-- what a push answers, beside an open one of its state or none
abbrev pub push_beside : Ticketed → Option Ticketed → FringeFate
push_beside o None = Entered
push_beside o (Some other) = cond (int_le o.subproblem.value other.subproblem.value) (Kept other.ticket) (Replaced other.ticket)

-- of one depth and state the greater value stays, and the one that was there where they are equal
abbrev pub push_gives : Ticketed → List Ticketed → FringeFate
push_gives o os = push_beside o (same_open o.subproblem os)

-- the open ones after that push
abbrev pub pushed_beside : Ticketed → List Ticketed → Option Ticketed → List Ticketed
pushed_beside o os None = by_ticket o os
pushed_beside o os (Some other) = cond (int_le o.subproblem.value other.subproblem.value) os (by_ticket o (without other.ticket os))

-- the open ones after the push
abbrev pub after_push : Ticketed → List Ticketed → List Ticketed
after_push o os = pushed_beside o os (same_open o.subproblem os)
