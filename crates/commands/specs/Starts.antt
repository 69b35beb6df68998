-- What a search needs beside the disk.
use Rattle.std.specs.Prelude.{◌≡◌, ℕ, List, [], None, vec_len, Vec}
use Rattle.std.specs.List.{All}
use Rattle.std.specs.declared.alloc.Global.{Global}
use Rattle.dp_model.specs.Dp.{Dp}
use Rattle.board_laws.specs.Board.{full_slots}
use Rattle.board_laws.specs.GoodBoard.{IsGood}
use Rattle.board_laws.specs.Steps.{first_board}
use Rattle.board_laws.specs.declared.settings.Settings.{Settings}
use Rattle.journal_bytes.specs.Bodies.{RecordsView}
use Rattle.journal_replay.specs.Accepting.{AreAccepted, AreRefused}
use Rattle.journal_replay.specs.Replay.{replay_of, restored_from}
use Rattle.layer_build.specs.declared.workspace.PrepareError.{PrepareError}
use Rattle.layer_build.specs.declared.workspace.PrepareError.TheVariants as preparing
use Rattle.board.specs.View.{BoardView}
use Rattle.answers.specs.Widths.{IsRefusedWidth, IsSearchWidth}
use Rattle.solver_words.specs.declared.job.JobSettings.{JobSettings}
use Rattle.solver_report.specs.declared.answer.Answer.{Answer}
use Rattle.solver_report.specs.declared.answer.Answer.TheVariants as answers
use Rattle.part_reports.specs.Reports.{ReportView}
use Rattle.answers.specs.Offers.{RefusesOffer}
use Rattle.search_workers.specs.Later.{IsLater}
use Rattle.search_workers.specs.Prepared.{IsPreparedDesk}
use Rattle.search_workers.specs.declared.desk.Desk.{Desk}
use Rattle.commands.specs.Desks.{book_for}

-- the settings of a search with diagrams of this width: a table of at most 4096 entries
abbrev pub settings_for : JobSettings → ℕ → Settings
settings_for search width = record { workers = search.workers; budget = search.budget; table_limit = 4096; width = width; within = search.within }

-- settings as the search asks for them, with a width that is positive and fits
pub record AreAsked (dp : Dp) (search : JobSettings) (settings : Settings) : Type 0 where
  pub crew : settings.workers ≡ search.workers
  pub budget : settings.budget ≡ search.budget
  pub distance : settings.within ≡ search.within
  pub wide : IsSearchWidth dp search.width settings.width

-- such settings, and a desk for each worker, with the children, the book and the parts of layers that are asked for
pub record ArePrepared (dp : Dp) (search : JobSettings) (settings : Settings) (desks : Vec Desk Global) : Type 0 where
  pub asked : AreAsked dp search settings
  pub count : vec_len desks ≡ search.workers
  pub each : All (IsPreparedDesk dp settings.width) desks.items
  pub kinds : All (λ (desk : Desk). desk.kind ≡ search.cutset) desks.items
  pub books : All (λ (desk : Desk). desk.book ≡ book_for dp search) desks.items
  pub parts : All (λ (desk : Desk). desk.parts ≡ search.parts) desks.items

-- a board of which nothing is out, as it was made or after a run, for which settings and desks are prepared
pub record IsReadyFor (dp : Dp) (search : JobSettings) (b : BoardView) (desks : Vec Desk Global) : Type 0 where
  pub later : IsLater dp b.first b.board
  pub prepared : ArePrepared dp search b.board.settings desks
  pub idle : full_slots b.board.slots ≡ []

-- and it is as it was made, and no cause halts it
pub record IsFreshFor (dp : Dp) (search : JobSettings) (b : BoardView) (desks : Vec Desk Global) : Type 0 where
  pub ready : IsReadyFor dp search b desks
  pub first : b.first ≡ b.board
  pub going : b.board.cause ≡ None

-- and it is the board at the start of a search, which is good
pub record HasBegun (dp : Dp) (search : JobSettings) (b : BoardView) (desks : Vec Desk Global) : Type 0 where
  pub fresh : IsFreshFor dp search b desks
  pub board : b.board ≡ first_board dp b.board.settings
  pub good : IsGood dp b.first

-- or it is the board that goes on from records, which are accepted
pub record GoesOnFrom (dp : Dp) (search : JobSettings) (records : RecordsView) (b : BoardView) (desks : Vec Desk Global) : Type 0 where
  pub fresh : IsFreshFor dp search b desks
  pub accepted : AreAccepted dp records.records
  pub board : b.board ≡ restored_from b.board.settings (replay_of dp records.records)

-- the answer where no desks are prepared
abbrev pub unprepared : PrepareError → Answer
unprepared preparing.Width = answers.Width
unprepared preparing.OutOfMemory = answers.OutOfMemory

-- the answer to a search that does not begin: the width is refused, or memory ran out
abbrev pub IsUnready : Dp → JobSettings → Answer → Type 0
IsUnready dp search answers.Width = IsRefusedWidth dp search.width
IsUnready dp search answers.OutOfMemory = Unit {0}
IsUnready dp search _ = ⊥

-- the answer to a search that does not go on from records: so too, or one of these is refused
abbrev pub DoesNotGoOn : Dp → JobSettings → RecordsView → Answer → Type 0
DoesNotGoOn dp search records (answers.Journal e) = AreRefused dp records.first records.records e
DoesNotGoOn dp search records answer = IsUnready dp search answer

-- the same where solutions are offered to it: so too, or the records are accepted and an offer is refused
abbrev pub DoesNotTake : Dp → JobSettings → RecordsView → List ReportView → Answer → Type 0
DoesNotTake dp search records offers (answers.ReportsRefused e) = AreAccepted dp records.records × RefusesOffer dp offers e
DoesNotTake dp search records offers answer = DoesNotGoOn dp search records answer
