-- A board some rounds after the one that a search goes on from, from which no round can follow.
use Rattle.std.proofs.Common.{◌≡◌, ℕ, ℤ, ◌≤◌, [], ◌++◌, List, Option, is_some, Result, IfOk, Vec, Global, sym, ap, subst, ◌∙◌}
use Rattle.std.specs.declared.alloc.AllocError.{AllocError}
use Rattle.disk.specs.declared.disk.Disk.{Ghosts}
use Rattle.dp_model.specs.Counts.{tree}
use Rattle.dp_model.specs.Dp.{Dp}
use Rattle.board_laws.specs.Board.{BoardState, full_slots}
use Rattle.board_laws.specs.GoodBoard.{IsGood}
use Rattle.board_laws.specs.declared.settings.Settings.{Settings}
use Rattle.board_laws.proofs.Running.{run-follows, run-then}
use Rattle.search_workers.specs.Later.{IsLater, NoRoundFollows, IsComplete}
use Rattle.search_workers.specs.declared.desk.Desk.{Desk}
use Rattle.kept_board.specs.View.{KeptView}
use Rattle.board.specs.View.{BoardView}
use Rattle.board.specs.declared.tag.BoardTag.{BoardTag}
use Rattle.answers.specs.Outcomes.{HasSearched, IsConcluded}
use Rattle.answers.specs.Over.{IsOver}
use Rattle.answers.specs.declared.concluding.Conclusion.{Conclusion}
use Rattle.solver_words.specs.declared.job.JobSettings.{JobSettings}
use Rattle.commands.specs.Searches.{HasExplored, IsKeptOn}
use Rattle.commands.specs.Starts.{AreAsked, IsReadyFor}
use Rattle.commands.proofs.Told.{if-told}

-- a run from the first board to the one that a search goes on from, and then some rounds
is_over : (dp : Dp) (search : JobSettings) (first start b : BoardState) → AreAsked dp search start.settings → full_slots start.slots ≡ [] → b.settings ≡ start.settings → IsLater dp first start → IsLater dp start b → NoRoundFollows b → (IsGood dp first → IsComplete dp b)
    → IsOver dp search first b
is_over dp search first start b asked idle same before later ended complete =
    let asked_first = subst (AreAsked dp search) (run-follows dp first before.steps start before.run).settings asked in
    let budget : b.settings.budget ≡ search.budget = ap (λ (s : Settings). s.budget) same ∙ asked.budget in
    record {
      steps = before.steps ++ later.steps;
      run = run-then dp first start b before.steps later.steps before.run later.run;
      wide = asked_first.wide;
      crew = asked_first.crew;
      budget = asked_first.budget;
      distance = asked_first.distance;
      idle = ap full_slots later.slots ∙ idle;
      ended = ended;
      complete = λ good few. complete good (subst (λ n. tree dp ≤ n) (sym budget) few);
    }

module _ {D : Type 0} (on : Ghosts D) (dp : Dp) (search : JobSettings) (first : KeptView D) (now : D) (b : BoardView) (e : HasExplored on dp first now b) where
  same-first : b.first ≡ first.board.first
  same-first = ap (λ (t : BoardTag). t.first) e.tag

  pub over : (desks : Vec Desk Global) → IsReadyFor dp search first.board desks → IsOver dp search b.first b.board
  over desks ready =
      subst (λ (f : BoardState). IsOver dp search f b.board) (sym same-first)
      (is_over dp search first.board.first first.board.board b.board ready.prepared.asked ready.idle (ap (λ (t : BoardTag). t.settings) e.tag) ready.later e.later e.ended e.complete)

  -- what is told of it is told of a search
  pub searched : (own : List ℕ → Option ℤ) → IsOver dp search b.first b.board → (ended : Result Conclusion AllocError) → IfOk ended (λ told. IsConcluded dp own search b.first b.board told.outcome told.counts)
      → IfOk ended (λ told. HasSearched dp own (λ settings. first.board.first) (IsGood dp first.board.first) search (IsKeptOn on dp (is_some first.tail) first.made now) told.outcome told.counts)
  searched own over ended h = if-told (λ told. IsConcluded dp own search b.first b.board told.outcome told.counts)
      (λ told. HasSearched dp own (λ settings. first.board.first) (IsGood dp first.board.first) search (IsKeptOn on dp (is_some first.tail) first.made now) told.outcome told.counts)
      (λ told concluded. record {
        settings = b.board.settings;
        board = b.board;
        over = subst (λ (f : BoardState). IsOver dp search f b.board) same-first over;
        concluded = subst (λ (f : BoardState). IsConcluded dp own search f b.board told.outcome told.counts) same-first concluded;
        trusted = λ good. good;
        keeps = e.keeps;
      }) ended h
