-- What a search needs beside the disk.
use Rattle.std.proofs.Common.{◌≡◌, ℕ, ◌≤◌, List, [], None, Result, Ok, Err, IfErr, Vec, Global, refl, sym, ap, subst, ◌∙◌}
use Rattle.std.specs.Result.{IsErrAnd}
use Rattle.dp_model.specs.Dp.{Dp}
use Rattle.dp_model.specs.Laws.{IsLawful}
use Rattle.board_laws.specs.Board.{AreSettings, BoardState, full_slots}
use Rattle.board_laws.specs.GoodBoard.{IsGood}
use Rattle.board_laws.specs.Steps.{first_board}
use Rattle.board_laws.specs.declared.settings.Settings.{Settings}
use Rattle.board_laws.proofs.Fresh.{full-none}
use Rattle.journal_bytes.specs.Bodies.{RecordsView}
use Rattle.journal_replay.specs.Accepting.{AreAccepted}
use Rattle.journal_replay.specs.Replay.{replay_of, restored_from}
use Rattle.layer_build.specs.declared.workspace.PrepareError.{PrepareError}
use Rattle.layer_build.specs.declared.workspace.PrepareError.TheVariants as preparing
use Rattle.board.specs.View.{BoardView}
use Rattle.solver_words.specs.Possible.{MaySearch}
use Rattle.answers.specs.Widths.{IsAskedWidth}
use Rattle.solver_words.specs.declared.job.JobSettings.{JobSettings}
use Rattle.solver_report.specs.declared.answer.Answer.{Answer}
use Rattle.solver_report.specs.declared.answer.Answer.TheVariants as answers
use Rattle.part_reports.specs.Reports.{ReportView}
use Rattle.search_workers.specs.declared.desk.Desk.{Desk}
use Rattle.commands.specs.Desks.{AreAllDesks, AreCrew}
use Rattle.commands.specs.Starts.{AreAsked, ArePrepared, DoesNotGoOn, DoesNotTake, GoesOnFrom, HasBegun, IsFreshFor, IsUnready, settings_for, unprepared}
use Rattle.dp_model.specs.Distances.{IsDistance}
use Rattle.commands.proofs.Widths.{refused}

-- settings as a search may ask for them are settings of a board
pub are-settings : (dp : Dp) (search : JobSettings) (settings : Settings) → MaySearch search → AreAsked dp search settings → AreSettings settings
are-settings dp search settings may asked = record {
  some_workers = subst (λ n. 1 ≤ n) (sym asked.crew) may.some_workers;
  few_workers = subst (λ n. n ≤ 16) (sym asked.crew) may.few_workers;
  some_width = asked.wide.fits.positive;
  distance = subst IsDistance (sym asked.distance) (may.distance);
}

module _ (dp : Dp) (search : JobSettings) where
  -- ---- settings and desks

  module _ (w : ℕ) (asked : IsAskedWidth dp search.width w) where
    pub all-prepared : (desks : Vec Desk Global) → AreCrew dp w search desks → (settings : Settings) → settings ≡ settings_for search w → ArePrepared dp search settings desks
    all-prepared desks crew settings named =
        subst (λ (s : Settings). ArePrepared dp search s desks) (sym named)
        (record { asked = record { crew = refl; budget = refl; distance = refl; wide = record { asked = asked; fits = crew.fits } }; count = crew.count; each = crew.prepared; kinds = crew.kinds; books = crew.books; parts = crew.parts })

    -- without desks
    pub unready : IsLawful dp → (e : PrepareError) → AreAllDesks dp w search (Err e) → IsUnready dp search (unprepared e)
    unready laws preparing.Width never = refused dp laws search.width w asked never
    unready laws preparing.OutOfMemory none = tt

  -- ---- with a board

  module _ (settings : Settings) (desks : Vec Desk Global) (prepared : ArePrepared dp search settings desks) (b : BoardView) (first : b.first ≡ b.board) where
    fresh : b.board.settings ≡ settings → full_slots b.board.slots ≡ [] → b.board.cause ≡ None → IsFreshFor dp search b desks
    fresh same idle going = record {
      ready = record {
        later = record { steps = []; run = first; slots = ap (λ (x : BoardState). x.slots) (sym first) };
        prepared = subst (λ (s : Settings). ArePrepared dp search s desks) (sym same) prepared;
        idle = idle;
      };
      first = first;
      going = going;
    }

    -- at the start
    pub begun : b.board ≡ first_board dp settings → IsGood dp b.first → HasBegun dp search b desks
    begun is good =
        let same : b.board.settings ≡ settings = ap (λ (x : BoardState). x.settings) is in
        record {
          fresh = fresh same (ap (λ (x : BoardState). full_slots x.slots) is ∙ full-none settings.workers) (ap (λ (x : BoardState). x.cause) is);
          board = is ∙ ap (first_board dp) (sym same);
          good = good;
        }

    -- from records
    pub goes-on : (records : RecordsView) → AreAccepted dp records.records → b.board ≡ restored_from settings (replay_of dp records.records) → GoesOnFrom dp search records b desks
    goes-on records accepted is =
        let same : b.board.settings ≡ settings = ap (λ (x : BoardState). x.settings) is in
        record {
          fresh = fresh same (ap (λ (x : BoardState). full_slots x.slots) is ∙ full-none settings.workers) (ap (λ (x : BoardState). x.cause) is);
          accepted = accepted;
          board = is ∙ ap (λ (s : Settings). restored_from s (replay_of dp records.records)) (sym same);
        }

  -- a search that is not ready does not go on
  does-not-go-on : (records : RecordsView) (answer : Answer) → IsUnready dp search answer → DoesNotGoOn dp search records answer
  does-not-go-on records (answers.Journal e) h = absurd h
  does-not-go-on records answer h = h

  -- and its answer is passed on
  pub passed-on : {T : Type 0} (records : RecordsView) (answer : Answer) → IsUnready dp search answer → (r : Result T Answer) → IsErrAnd r (λ e. e ≡ answer) → IfErr r (DoesNotGoOn dp search records)
  passed-on records answer h (Ok x) same = tt
  passed-on records answer h (Err e) same = subst (DoesNotGoOn dp search records) (sym same) (does-not-go-on records answer h)

  -- a search that does not go on takes nothing
  does-not-take : (records : RecordsView) (offers : List ReportView) (answer : Answer) → DoesNotGoOn dp search records answer → DoesNotTake dp search records offers answer
  does-not-take records offers (answers.ReportsRefused e) h = absurd h
  does-not-take records offers answer h = h

  pub passed-on-offered : {T : Type 0} (records : RecordsView) (offers : List ReportView) (answer : Answer) → DoesNotGoOn dp search records answer → (r : Result T Answer) → IsErrAnd r (λ e. e ≡ answer) → IfErr r (DoesNotTake dp search records offers)
  passed-on-offered records offers answer h (Ok x) same = tt
  passed-on-offered records offers answer h (Err e) same = subst (DoesNotTake dp search records offers) (sym same) (does-not-take records offers answer h)
