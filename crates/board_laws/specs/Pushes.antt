-- Children that are pushed and put one after another, by fates that were decided before.
use Rattle.std.specs.Prelude.{◌≡◌, ℕ, ◌+◌, ◌<◌, ℤ, List, [], ◌∷◌, ◌++◌, map, Option, Some, None}
use Rattle.dp_model.specs.Dp.{Dp}
use Rattle.dp_model.specs.Lists.{Each}
use Rattle.dp_model.specs.Subproblem.{Subproblem}
use Rattle.dp_laws.specs.Pairs.{EachTwo}
use Rattle.fringe.specs.Pushing.{after_push}
use Rattle.fringe.specs.Tickets.{Ticketed, IsEarlier}
use Rattle.dominance_table.specs.Entries.{TableEntry, TableView, after_put}
use Rattle.board_laws.specs.declared.fate.Fate.{Fate}
use Rattle.board_laws.specs.declared.fate.Fate.TheVariants.{Below, Kept, Dominated, Replaced, Entered}
use Rattle.dp_laws.specs.Children.{DifferInPlace}
use Rattle.board_laws.specs.Entering.{let_in, entering, replaced, without_all, entry_of, put_all}
use Rattle.board_laws.specs.Fates.{fate_of, fates_by}

-- the open subproblems after a push by the fringe's rule, where the fate is to enter
abbrev pub push_one : Subproblem → Fate → List Ticketed → List Ticketed
push_one c Below os = os
push_one c (Kept by) os = os
push_one c (Dominated by) os = os
push_one c (Replaced ticket old) os = after_push (record { ticket = ticket; subproblem = c }) os
push_one c (Entered ticket) os = after_push (record { ticket = ticket; subproblem = c }) os

-- the children pushed one after another
abbrev pub push_by : List Subproblem → List Fate → List Ticketed → List Ticketed
push_by [] fs os = os
push_by (c ∷ cs) [] os = os
push_by (c ∷ cs) (f ∷ fs) os = push_by cs fs (push_one c f os)

-- the table after puts one after another
abbrev pub put_each : TableView → List TableEntry → TableView
put_each t [] = t
put_each t (e ∷ new) = put_each (after_put t e) new

-- the entries that a child leaves by its fate
abbrev pub noted_by : Dp → Subproblem → Fate → List TableEntry
noted_by dp c f = map (entry_of dp) (let_in c f [])

-- the ticket of a child that enters
abbrev pub own_of : Fate → Option ℕ
own_of Below = None
own_of (Kept by) = None
own_of (Dominated by) = None
own_of (Replaced own old) = Some own
own_of (Entered own) = Some own

-- each child that enters has the next ticket
abbrev pub AreThreaded : ℕ → List Fate → Type 0
AreThreaded next [] = Unit {0}
AreThreaded next (Below ∷ fs) = AreThreaded next fs
AreThreaded next (Kept by ∷ fs) = AreThreaded next fs
AreThreaded next (Dominated by ∷ fs) = AreThreaded next fs
AreThreaded next (Replaced own old ∷ fs) = (own ≡ next) × AreThreaded (next + 1) fs
AreThreaded next (Entered own ∷ fs) = (own ≡ next) × AreThreaded (next + 1) fs

-- children that differ in place, pushed one after another by fates that were decided before, leave open those that stay and those
-- that enter
abbrev pub PushesAreFates : Dp → Type 0
PushesAreFates dp = (reach : Option ℤ) (os : List Ticketed) (es : List TableEntry) (ticket : ℕ) (cs : List Subproblem) → EachTwo IsEarlier os → Each (λ o. o.ticket < ticket) os → EachTwo DifferInPlace cs
    → push_by cs (fates_by (fate_of dp reach os es) ticket cs) os
    ≡ without_all (replaced (fates_by (fate_of dp reach os es) ticket cs)) os ++ entering cs (fates_by (fate_of dp reach os es) ticket cs)

-- puts one after another give the entries with more of them
abbrev pub PutsAreEntries : Type 0
PutsAreEntries = (t : TableView) (new : List TableEntry) → (put_each t new).entries ≡ put_all t.limit t.entries new
