-- The children that enter, as a record has them.
use Rattle.std.proofs.Common.{◌≡◌, ◌≢◌, ℕ, ◌+◌, ℤ, nat_eq, Bool, true, false, ◌||◌, List, [], ◌∷◌, length, Option, Some, None, refl, sym, ap₂, subst, arith}
use Rattle.std.proofs.lemmas.Bool.Decides.{nat_tests}
use Rattle.dp_model.specs.Dp.{Dp}
use Rattle.dp_model.specs.Lists.{Each}
use Rattle.dp_model.specs.Prefixes.{state_of}
use Rattle.dp_model.specs.Subproblem.{Subproblem, IsOwn}
use Rattle.dp_model.proofs.Members.{Has}
use Rattle.fringe.specs.Fringe.{is_same}
use Rattle.fringe.specs.Tickets.{Ticketed}
use Rattle.dominance_table.specs.Entries.{TableEntry}
use Rattle.board_laws.specs.Entering.{entering, replaced, is_among}
use Rattle.board_laws.specs.declared.fate.Fate.{Fate}
use Rattle.board_laws.specs.declared.fate.Fate.TheVariants.{Below, Kept, Dominated, Replaced, Entered}
use Rattle.board_laws.proofs.Fates.{FatesHold, Replaces, found-one}
use Rattle.journal_replay.specs.Replay.{child_of}
use Rattle.journal_replay.specs.Following.{child_recorded, recorded_children}
use Rattle.journal_replay.proofs.Added.{kids_listed}

-- a child of its own is what its record says
own-recorded : (dp : Dp) (replaced : Option ℕ) (c : Subproblem) → IsOwn dp c → child_of dp (child_recorded replaced c) ≡ c
own-recorded dp replaced c own = ap₂ (λ row worth. record { decisions = c.decisions; row = row; value = worth; bound = c.bound }) (sym own.row) (sym own.value)

abbrev under : ℕ → Subproblem → Ticketed
under ticket c = record { ticket = ticket; subproblem = c }

kid-recorded : (dp : Dp) (replaced : Option ℕ) (own ticket : ℕ) (c : Subproblem) → own ≡ ticket → IsOwn dp c → under own c ≡ under ticket (child_of dp (child_recorded replaced c))
kid-recorded dp replaced own ticket c is at = ap₂ under is (sym (own-recorded dp replaced c at))

-- the children that enter are those of the record
pub entering-listed : (dp : Dp) (reach : Option ℤ) (os : List Ticketed) (es : List TableEntry) (ticket : ℕ) (cs : List Subproblem) (fs : List Fate) → FatesHold dp reach os es ticket cs fs
    → Each (IsOwn dp) cs → entering cs fs ≡ kids_listed dp ticket (recorded_children cs fs)
entering-listed dp reach os es ticket [] fs h own = refl
entering-listed dp reach os es ticket (c ∷ cs) [] h own = absurd h
entering-listed dp reach os es ticket (c ∷ cs) (Below ∷ fs) h own = entering-listed dp reach os es ticket cs fs h.1 own.1
entering-listed dp reach os es ticket (c ∷ cs) (Kept by ∷ fs) h own = entering-listed dp reach os es ticket cs fs h.1 own.1
entering-listed dp reach os es ticket (c ∷ cs) (Dominated by ∷ fs) h own = entering-listed dp reach os es ticket cs fs h.1 own.1
entering-listed dp reach os es ticket (c ∷ cs) (Replaced given old ∷ fs) h own =
    ap₂ (λ (k : Ticketed) (ks : List Ticketed). k ∷ ks) (kid-recorded dp (Some old) given ticket c h.0.own_is own.0) (entering-listed dp reach os es (ticket + 1) cs fs h.1 own.1)
entering-listed dp reach os es ticket (c ∷ cs) (Entered given ∷ fs) h own =
    ap₂ (λ (k : Ticketed) (ks : List Ticketed). k ∷ ks) (kid-recorded dp None given ticket c h.0.own_is own.0) (entering-listed dp reach os es (ticket + 1) cs fs h.1 own.1)

-- what a child replaced is one of the open ones, of its depth and state
pub record IsOpenLike (dp : Dp) (os : List Ticketed) (decisions : List ℕ) (old : ℕ) : Type 0 where
  pub other : Ticketed
  pub in_list : Has other os
  pub ticket_is : old ≡ other.ticket
  pub same : is_same (length decisions) (state_of dp decisions) other ≡ true

abbrev pub ReplacesOpen : Dp → List Ticketed → List ℕ → Option ℕ → Type 0
ReplacesOpen dp os decisions None = Unit {0}
ReplacesOpen dp os decisions (Some old) = IsOpenLike dp os decisions old

replaces-open : (dp : Dp) (reach : Option ℤ) (os : List Ticketed) (ticket : ℕ) (c : Subproblem) (given old : ℕ) → Replaces reach os ticket c given old → IsOwn dp c → IsOpenLike dp os c.decisions old
replaces-open dp reach os ticket c given old r own =
    let one = found-one (length c.decisions) c.row os r.other r.found in
    record { other = r.other; in_list = one.0; ticket_is = r.old_is; same = subst (λ row. is_same (length c.decisions) row r.other ≡ true) own.row one.1 }

pub recorded-replace : (dp : Dp) (reach : Option ℤ) (os : List Ticketed) (es : List TableEntry) (ticket : ℕ) (cs : List Subproblem) (fs : List Fate) → FatesHold dp reach os es ticket cs fs
    → Each (IsOwn dp) cs → Each (λ r. ReplacesOpen dp os r.decisions r.replaced) (recorded_children cs fs)
recorded-replace dp reach os es ticket [] fs h own = tt
recorded-replace dp reach os es ticket (c ∷ cs) [] h own = absurd h
recorded-replace dp reach os es ticket (c ∷ cs) (Below ∷ fs) h own = recorded-replace dp reach os es ticket cs fs h.1 own.1
recorded-replace dp reach os es ticket (c ∷ cs) (Kept by ∷ fs) h own = recorded-replace dp reach os es ticket cs fs h.1 own.1
recorded-replace dp reach os es ticket (c ∷ cs) (Dominated by ∷ fs) h own = recorded-replace dp reach os es ticket cs fs h.1 own.1
recorded-replace dp reach os es ticket (c ∷ cs) (Replaced given old ∷ fs) h own = (replaces-open dp reach os ticket c given old h.0 own.0, recorded-replace dp reach os es (ticket + 1) cs fs h.1 own.1)
recorded-replace dp reach os es ticket (c ∷ cs) (Entered given ∷ fs) h own = (tt, recorded-replace dp reach os es (ticket + 1) cs fs h.1 own.1)

or-parts : (x y : Bool) → (x || y) ≡ false → (x ≡ false) × (y ≡ false)
or-parts true y h = absurd (cc)
or-parts false y h = (refl, h)

-- a child that does not replace this ticket
abbrev pub Spares : ℕ → Option ℕ → Type 0
Spares t None = Unit {0}
Spares t (Some old) = t ≢ old

pub recorded-spare : (t : ℕ) (cs : List Subproblem) (fs : List Fate) → is_among t (replaced fs) ≡ false → Each (λ r. Spares t r.replaced) (recorded_children cs fs)
recorded-spare t [] fs h = tt
recorded-spare t (c ∷ cs) [] h = tt
recorded-spare t (c ∷ cs) (Below ∷ fs) h = recorded-spare t cs fs h
recorded-spare t (c ∷ cs) (Kept by ∷ fs) h = recorded-spare t cs fs h
recorded-spare t (c ∷ cs) (Dominated by ∷ fs) h = recorded-spare t cs fs h
recorded-spare t (c ∷ cs) (Replaced given old ∷ fs) h =
    let parts = or-parts (nat_eq t old) (is_among t (replaced fs)) h in
    let differ : t ≢ old = let no = parts.0 in grind (arith, nat_tests) in (differ, recorded-spare t cs fs parts.1)
recorded-spare t (c ∷ cs) (Entered given ∷ fs) h = (tt, recorded-spare t cs fs h)
