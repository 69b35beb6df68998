-- What stays after a pop.
use Rattle.std.specs.Prelude.{List, Option, Some, None}
use Rattle.fringe.specs.Firsts.{first_taken}
use Rattle.fringe.specs.Tickets.{Ticketed, without}

-- the open ones without the one that is taken
abbrev pub taken_out : Option Ticketed → List Ticketed → List Ticketed
taken_out None os = os
taken_out (Some o) os = without o.ticket os

-- the others, after it was taken out
abbrev pub after_pop : List Ticketed → List Ticketed
after_pop os = taken_out (first_taken os) os
