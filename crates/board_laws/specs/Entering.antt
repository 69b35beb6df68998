-- What the fates of children change: who is open and what the table has.
use Rattle.std.specs.Prelude.{ℕ, Bool, false, not, ◌||◌, cond, List, [], ◌∷◌, ◌++◌, length, filter, nat_eq}
use Rattle.dp_model.specs.Dp.{Dp}
use Rattle.dp_model.specs.Subproblem.{Subproblem}
use Rattle.fringe.specs.Tickets.{Ticketed}
use Rattle.dominance_table.specs.Dominator.{entry_of_state}
use Rattle.dominance_table.specs.Entries.{TableEntry}
use Rattle.board_laws.specs.declared.fate.Fate.{Fate}
use Rattle.board_laws.specs.declared.fate.Fate.TheVariants.{Below, Kept, Dominated, Replaced, Entered}

-- the open ones after a child with this fate
abbrev pub let_in : Subproblem → Fate → List Ticketed → List Ticketed
let_in c Below os = os
let_in c (Kept by) os = os
let_in c (Dominated by) os = os
let_in c (Replaced ticket old) os = record { ticket = ticket; subproblem = c } ∷ os
let_in c (Entered ticket) os = record { ticket = ticket; subproblem = c } ∷ os

-- the children that enter, in order
abbrev pub entering : List Subproblem → List Fate → List Ticketed
entering [] fs = []
entering (c ∷ cs) [] = []
entering (c ∷ cs) (f ∷ fs) = let_in c f (entering cs fs)

-- the tickets of those that children replace
abbrev pub put_out : Fate → List ℕ → List ℕ
put_out Below ts = ts
put_out (Kept by) ts = ts
put_out (Dominated by) ts = ts
put_out (Replaced ticket old) ts = old ∷ ts
put_out (Entered ticket) ts = ts

-- the tickets of the open subproblems that are replaced
abbrev pub replaced : List Fate → List ℕ
replaced [] = []
replaced (f ∷ fs) = put_out f (replaced fs)

-- whether the ticket is in the list
abbrev pub is_among : ℕ → List ℕ → Bool
is_among t [] = false
is_among t (s ∷ ts) = nat_eq t s || is_among t ts

-- the open subproblems without those of these tickets
abbrev pub without_all : List ℕ → List Ticketed → List Ticketed
without_all ts os = filter (λ o. not (is_among o.ticket ts)) os

-- the entry that a child leaves in the table
abbrev pub entry_of : Dp → Ticketed → TableEntry
entry_of dp o = entry_of_state dp (length o.subproblem.decisions) o.subproblem.row o.subproblem.value o.ticket

-- the entries with more of them, each unless the table has its limit
abbrev pub put_all : ℕ → List TableEntry → List TableEntry → List TableEntry
put_all limit es [] = es
put_all limit es (e ∷ new) = put_all limit (cond (nat_eq (length es) limit) es (es ++ e ∷ [])) new
