-- A board beside its records, the record of a step, and the snapshot of a board.
use Rattle.std.specs.Prelude.{◌≡◌, ℕ, cond, List, [], ◌∷◌, map, Option, Some, None, option_map}
use Rattle.dp_model.specs.Dp.{Dp}
use Rattle.dp_model.specs.Lists.{Each}
use Rattle.dp_model.specs.Numbers.{is_above}
use Rattle.dp_model.specs.Prefixes.{value_of}
use Rattle.dp_model.specs.Solution.{Solution}
use Rattle.dp_model.specs.Subproblem.{Subproblem}
use Rattle.fringe.specs.Tickets.{Ticketed}
use Rattle.board_laws.specs.Board.{BoardState, incumbent_value, frontier, slot_at}
use Rattle.board_laws.specs.Fates.{fates_on}
use Rattle.board_laws.specs.Runs.Step.{Take, Improve as StepImprove, Finish as StepFinish, GiveBack, Halt}
use Rattle.board_laws.specs.Runs.{Step}
use Rattle.board_laws.specs.declared.fate.Fate.{Fate}
use Rattle.board_laws.specs.declared.fate.Fate.TheVariants.{Below, Kept, Dominated, Replaced, Entered}
use Rattle.board.specs.Frontier.{frontier_of}
use Rattle.journal_bytes.specs.Bodies.{ChildView, IncumbentView, ListedView, RecordView, Improve, Finish, Snapshot}
use Rattle.journal_replay.specs.Accepting.{MayFollow}
use Rattle.journal_replay.specs.Replay.{Replayed, listed_at, best_of, listed_of, MayRestoreFrom, after_record}

-- the same incumbent and next ticket, all that is out or open is listed, and a search may be restored from the list
pub record IsReplayOf (dp : Dp) (s : Replayed) (b : BoardState) : Type 0 where
  pub incumbent : b.incumbent ≡ s.incumbent
  pub next_ticket : b.next_ticket ≡ s.next_ticket
  pub listed : Each (λ o. listed_at o.ticket s.listed ≡ Some o) (frontier b)
  pub restores : MayRestoreFrom dp s

-- a child that replaced this ticket, or none, as a record has it
abbrev pub child_recorded : Option ℕ → Subproblem → ChildView
child_recorded replaced c = record { replaced = replaced; bound = c.bound; decisions = c.decisions }

-- a child in front of the others of a record, where its fate is to enter
abbrev pub recorded_beside : Subproblem → Fate → List ChildView → List ChildView
recorded_beside c Below others = others
recorded_beside c (Kept by) others = others
recorded_beside c (Dominated by) others = others
recorded_beside c (Replaced ticket old) others = child_recorded (Some old) c ∷ others
recorded_beside c (Entered ticket) others = child_recorded None c ∷ others

-- the children that enter by these fates, in order
abbrev pub recorded_children : List Subproblem → List Fate → List ChildView
recorded_children [] fs = []
recorded_children (c ∷ cs) [] = []
recorded_children (c ∷ cs) (f ∷ fs) = recorded_beside c f (recorded_children cs fs)

-- the record of a better solution
abbrev pub improve_record : Dp → BoardState → List ℕ → Option RecordView
improve_record dp b x = cond (is_above (incumbent_value b) (value_of dp x)) (Some (Improve (value_of dp x) x)) None

-- the record of a finished subproblem
abbrev pub finish_record : Dp → BoardState → ℕ → List Subproblem → Option RecordView
finish_record dp b who cs = option_map (λ o. Finish o.ticket (recorded_children cs (fates_on dp b cs))) (slot_at b who)

-- the record of a step, where it has one: a better solution, or a finished subproblem
abbrev pub record_of_step : Dp → BoardState → Step → Option RecordView
record_of_step dp b (Take who) = None
record_of_step dp b (StepImprove x) = improve_record dp b x
record_of_step dp b (StepFinish who threshold cs) = finish_record dp b who cs
record_of_step dp b (GiveBack who) = None
record_of_step dp b (Halt cause) = None

-- what was made of the search, after a record or none
abbrev pub after_recorded : Dp → Replayed → Option RecordView → Replayed
after_recorded dp s None = s
after_recorded dp s (Some r) = after_record dp s r

-- a best solution as a snapshot has it
abbrev pub incumbent_recorded : Solution → IncumbentView
incumbent_recorded x = record { value = x.value; decisions = x.decisions }

-- a subproblem as a snapshot has it
abbrev pub listed_recorded : Ticketed → ListedView
listed_recorded o = record { ticket = o.ticket; bound = o.subproblem.bound; decisions = o.subproblem.decisions }

-- the snapshot of a board: the incumbent, the next ticket, and all that is out or open, in order of ticket
abbrev pub snapshot_record : BoardState → RecordView
snapshot_record b = Snapshot (option_map incumbent_recorded b.incumbent) b.next_ticket (map listed_recorded (frontier_of b))

-- what a snapshot says is so in what was made of the search: the incumbent, the next ticket, and each that it lists
pub record IsToldOf (dp : Dp) (s : Replayed) (best : Option IncumbentView) (next : ℕ) (os : List ListedView) : Type 0 where
  pub incumbent : option_map best_of best ≡ s.incumbent
  pub next_ticket : next ≡ s.next_ticket
  pub listed : Each (λ o. listed_at o.ticket s.listed ≡ Some (listed_of dp o)) os

-- so of the snapshots that a search adds itself
abbrev pub TellsState : Dp → Replayed → RecordView → Type 0
TellsState dp s (Improve value ds) = Unit {0}
TellsState dp s (Finish ticket cs) = Unit {0}
TellsState dp s (Snapshot best next os) = IsToldOf dp s best next os

-- the records are those that a search adds itself: each may follow where it stands, and a snapshot tells what is there
abbrev pub MayGoOnAll : Dp → Replayed → List RecordView → Type 0
MayGoOnAll dp s [] = Unit {0}
MayGoOnAll dp s (r ∷ rs) = (MayFollow dp s r × TellsState dp s r) × MayGoOnAll dp (after_record dp s r) rs
