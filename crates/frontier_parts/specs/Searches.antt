-- What searches from start prefixes tell, and the parts of a frontier.
use Rattle.std.specs.Prelude.{◌≡◌, ℕ, ℤ, pos, List, Option}
use Rattle.dp_model.specs.Best.{best}
use Rattle.dp_model.specs.Dp.{Dp}
use Rattle.dp_model.specs.Lists.{Each}
use Rattle.dp_model.specs.Numbers.{AtMost}
use Rattle.dp_model.specs.Prefixes.{IsSolution, value_of}
use Rattle.dp_model.proofs.Members.{Has}
use Rattle.board_laws.specs.Board.{BoardState, frontier, incumbent_value, reach_of}
use Rattle.board_laws.specs.Starts.{BeginsWithOne}
use Rattle.frontier_parts.specs.Settled.{Settled, IsShown, IsSettled, IsSettledWithin, joined, prefixes, values}

-- no feasible solution that begins with a start prefix exceeds the number
abbrev pub HoldsFrom : Dp → List (List ℕ) → Option ℤ → Type 0
HoldsFrom dp starts most = (x : List ℕ) → IsSolution dp x → BeginsWithOne starts x → AtMost (value_of dp x) most

-- the value is shown, and each start prefix is settled with it, beside whatever incumbent
pub record AreSettledBy (dp : Dp) (starts : List (List ℕ)) (within : ℤ) (found : Option ℤ) : Type 0 where
  pub shown : IsShown dp found
  pub nearly : (before : Option ℤ) → Each (λ p. IsSettledWithin dp within before (record { prefix = p; best = found })) starts
  pub exactly : within ≡ pos 0 → (before : Option ℤ) → Each (λ p. IsSettled dp before (record { prefix = p; best = found })) starts

-- the board's incumbent as what is known of a start prefix
abbrev pub settled_by : BoardState → List ℕ → Settled
settled_by b p = record { prefix = p; best = incumbent_value b }

-- a board that is good from start prefixes, with nothing open or out, settles each of them, within the distance of its settings
pub record BoardsSettle (dp : Dp) (starts : List (List ℕ)) (b : BoardState) : Type 0 where
  pub within : (before : Option ℤ) (p : List ℕ) → Has p starts → IsSettledWithin dp b.settings.within before (settled_by b p)
  pub exactly : b.settings.within ≡ pos 0 → (before : Option ℤ) (p : List ℕ) → Has p starts → IsSettled dp before (settled_by b p)

-- each prefix of the frontier is one of the parts
abbrev pub AreAllOf : BoardState → List Settled → Type 0
AreAllOf b parts = Each (λ o. Has o.subproblem.decisions (prefixes parts)) (frontier b)

-- where the whole frontier of a good board is settled, the joined value is the best one, or within the distance of its settings
pub record FrontierJoins (dp : Dp) (b : BoardState) (parts : List Settled) : Type 0 where
  pub best : b.settings.within ≡ pos 0 → Each (IsSettled dp (incumbent_value b)) parts → joined (incumbent_value b) (values parts) ≡ best dp
  pub within : Each (IsSettledWithin dp b.settings.within (incumbent_value b)) parts → (x : List ℕ) → IsSolution dp x
      → AtMost (value_of dp x) (reach_of b.settings.within (joined (incumbent_value b) (values parts)))
