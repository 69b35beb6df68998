-- The tests of a row.
use Rattle.std.specs.Prelude.{ℕ, ◌+◌, nat_eq, nat_lt, ℤ, pos, ◌+ℤ◌, int_le, Bool, true, false, not, cond, ◌&&◌, ◌||◌, List, [], ◌∷◌, length, filter, slice_get, Option, Some, None}
use Rattle.dp_model.specs.Dp.{Dp}
use Rattle.dp_model.specs.Decisions.{below}
use Rattle.dp_model.specs.Numbers.{add_some}
use Rattle.bound_cover.specs.declared.cover.CoverArc.{CoverArc}
use Rattle.bound_cover.specs.declared.cover.Why.{Why}
use Rattle.bound_cover.specs.declared.cover.Why.TheVariants.{Row, Arc, Target, Terminal, Rough}
use Rattle.bound_cover.specs.Covers.{CoverRow}

-- whether the first is at most the second; none is less than every number
abbrev pub is_at_most : Option ℤ → Option ℤ → Bool
is_at_most None b = true
is_at_most (Some a) None = false
is_at_most (Some a) (Some b) = int_le a b

-- no failure where the test holds
abbrev pub unless : Bool → Why → Option Why
unless test why = cond test None (Some why)

-- the first failure of two
abbrev pub first_of : Option Why → Option Why → Option Why
first_of None other = other
first_of (Some why) other = Some why

-- whether the words are a state of the layer
abbrev pub is_state_row : Dp → ℕ → List ℤ → Bool
is_state_row dp k words = nat_eq (length words) dp.words && dp.is_state k words

-- whether all rows are states of the layer
abbrev pub are_states : Dp → ℕ → List CoverRow → Bool
are_states dp k [] = true
are_states dp k (row ∷ rows) = is_state_row dp k row.words && are_states dp k rows

-- whether an arc stands for the decision
abbrev pub lists : ℕ → List CoverArc → Bool
lists d [] = false
lists d (arc ∷ arcs) = nat_eq arc.decision d || lists d arcs

-- the arc of a decision, where it is listed once and after smaller ones alone
abbrev pub arc_for : ℕ → List CoverArc → Option CoverArc
arc_for d [] = None
arc_for d (arc ∷ arcs) = cond (nat_lt arc.decision d) (arc_for d arcs) (cond (nat_eq arc.decision d && not (lists d arcs)) (Some arc) None)

-- a decision among others, the least first, each once
abbrev pub put_in : ℕ → List ℕ → List ℕ
put_in d [] = d ∷ []
put_in d (e ∷ es) = cond (nat_lt d e) (d ∷ e ∷ es) (cond (nat_eq d e) (e ∷ es) (e ∷ put_in d es))

-- the decisions that are allowed or listed, the least first
abbrev pub with_listed : List ℕ → List CoverArc → List ℕ
with_listed allowed [] = allowed
with_listed allowed (arc ∷ arcs) = put_in arc.decision (with_listed allowed arcs)

-- the decisions that are tested: those that are allowed and those that are listed
abbrev pub tested : Dp → ℕ → List ℤ → List CoverArc → List ℕ
tested dp k words arcs = with_listed (filter (dp.allowed k words) (below (dp.choices k))) arcs

-- the next row's bound, lifted by the gain and the gap, is within the row's bound
abbrev pub gap_fault : ℕ → ℕ → ℕ → Option ℤ → ℤ → Option ℤ → Option ℤ → Option Why
gap_fault k i d bound gain None next_bound = Some (Target k i d)
gap_fault k i d bound gain (Some gap) next_bound = unless (is_at_most (add_some (gain +ℤ gap) next_bound) bound) (Arc k i d)

-- an arc to a row: it is there, is a state, and covers the next state within the bounds
abbrev pub row_arc_fault : Dp → ℕ → ℕ → CoverRow → ℕ → Option CoverRow → Option Why
row_arc_fault dp k i row d None = Some (Target k i d)
row_arc_fault dp k i row d (Some next) =
    cond (is_state_row dp (k + 1) next.words)
    (gap_fault k i d row.bound (dp.gain k row.words d) (dp.gap (k + 1) next.words (dp.step k row.words d)) next.bound)
    (Some (Target k i d))

-- an arc of an allowed decision: to a row of the next layer, or by the rough bound of the next state
abbrev pub arc_fault : Dp → ℕ → ℕ → List CoverRow → CoverRow → ℕ → Option ℕ → Option Why
arc_fault dp k i next row d None = unless (is_at_most (add_some (dp.gain k row.words d) (dp.rough (k + 1) (dp.step k row.words d))) row.bound) (Arc k i d)
arc_fault dp k i next row d (Some place) = row_arc_fault dp k i row d (slice_get next place)

-- a decision that is allowed has an arc, which passes
abbrev pub listed_fault : Dp → ℕ → ℕ → List CoverRow → CoverRow → ℕ → Option CoverArc → Option Why
listed_fault dp k i next row d None = Some (Target k i d)
listed_fault dp k i next row d (Some arc) = arc_fault dp k i next row d arc.target

-- a decision that is allowed or listed: it has to be allowed, and listed in increasing order
abbrev pub decision_fault : Dp → ℕ → ℕ → List CoverRow → CoverRow → List CoverArc → ℕ → Option Why
decision_fault dp k i next row arcs d =
    cond (nat_lt d (dp.choices k) && dp.allowed k row.words d) (listed_fault dp k i next row d (arc_for d arcs)) (Some (Target k i d))

-- the first failure of decisions
abbrev pub decisions_fault : Dp → ℕ → ℕ → List CoverRow → CoverRow → List CoverArc → List ℕ → Option Why
decisions_fault dp k i next row arcs [] = None
decisions_fault dp k i next row arcs (d ∷ ds) = first_of (decision_fault dp k i next row arcs d) (decisions_fault dp k i next row arcs ds)

-- a row below the last layer: its rough bound is within its bound, or each decision passes
abbrev pub inner_fault : Dp → ℕ → ℕ → List CoverRow → CoverRow → Option (List CoverArc) → Option Why
inner_fault dp k i next row None = unless (is_at_most (dp.rough k row.words) row.bound) (Rough k i)
inner_fault dp k i next row (Some arcs) = decisions_fault dp k i next row arcs (tested dp k row.words arcs)

-- a row of the last layer: it has no arc part, and a bound of at least 0
abbrev pub last_fault : ℕ → CoverRow → Option (List CoverArc) → Option Why
last_fault i row None = unless (is_at_most (Some (pos 0)) row.bound) (Terminal i)
last_fault i row (Some arcs) = Some (Terminal i)

-- the first failure of a row, whose words are tested first
abbrev pub row_fault : Dp → ℕ → ℕ → List CoverRow → CoverRow → Option Why
row_fault dp k i next row =
    cond (is_state_row dp k row.words)
    (cond (nat_lt k dp.vars) (inner_fault dp k i next row row.arcs) (last_fault i row row.arcs))
    (Some (Row k i))
