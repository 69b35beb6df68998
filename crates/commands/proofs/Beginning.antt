-- A search that begins a journal.
use Rattle.std.proofs.Common.{◌≡◌, ℕ, ℤ, List, [], true, Option, IsSome, Result, Ok, Err, IfOk, subst, sym}
use Rattle.std.specs.declared.alloc.AllocError.{AllocError}
use Rattle.disk.specs.declared.disk.Disk.{Ghosts}
use Rattle.disk.specs.Disk.{FirstSync}
use Rattle.dp_model.specs.Distances.{IsDistance}
use Rattle.dp_model.specs.Dp.{Dp}
use Rattle.board_laws.specs.Board.{BoardState}
use Rattle.board_laws.specs.GoodBoard.{IsGood}
use Rattle.board_laws.specs.Steps.{first_board}
use Rattle.board_laws.specs.declared.settings.Settings.{Settings}
use Rattle.journal_bytes.specs.Journal.{HeadView}
use Rattle.journal_bytes.specs.declared.tail.Tail.{Tail}
use Rattle.solver_report.specs.declared.answer.Answer.{Answer}
use Rattle.solver_report.specs.declared.answer.Answer.TheVariants as answers
use Rattle.solver_report.specs.declared.answer.Counts.{Counts}
use Rattle.solver_report.specs.declared.answer.Outcome.{Outcome}
use Rattle.answers.specs.Answers.{Ends, HasSearchedFromStart}
use Rattle.answers.specs.Journals.{HasKept, HasLeftBegun, LeavesBegun, MightBegin, StaysAttached}
use Rattle.answers.specs.Kept.{SolvesKept}
use Rattle.answers.specs.Outcomes.{HasSearched}
use Rattle.answers.specs.Over.{IsOver}
use Rattle.answers.specs.declared.concluding.Conclusion.{Conclusion}
use Rattle.solver_words.specs.declared.job.JobSettings.{JobSettings}
use Rattle.answers.proofs.Journaled.{ends-begun, left-begun, same-start, stays-attached, still-begins}
use Rattle.commands.specs.Journals.{EndsKept, HasBegunOn}
use Rattle.commands.specs.Searches.{IsAnswerTo, IsKeptOn, KeepsSome}
use Rattle.commands.proofs.Told.{if-told, told-ends}
use Rattle.commands.proofs.Searched.{in-words}

module _ {D : Type 0} (on : Ghosts D) (dp : Dp) (own : List ℕ → Option ℤ) (head : HeadView) (search : JobSettings) where
  -- ---- the answers

  -- what is told of a search that has begun
  abbrev HasBegunFrom : D → Outcome → Option Counts → Type 0
  HasBegunFrom now outcome counts = IsSome (on.start now) × MightBegin on now × HasSearchedFromStart dp own search (HasKept on dp head [] (LeavesBegun on head) now) outcome counts

  -- an answer that tells how a search ended does not refuse its width
  not-width : (now : D) (ended : Result Conclusion AllocError) (answer : Answer) → IsAnswerTo search ended answer → Ends dp search (HasBegunFrom now) answer → EndsKept on dp own head search now answer
  not-width now (Ok told) answers.Width said h = absurd said
  not-width now (Err e) answers.Width said h = absurd (cc)
  not-width now ended answer said h = h

  -- what is answered to a search that has begun is what may be answered to the whole of it
  pub begun-solves : (before now : D) (answer : Answer) → EndsKept on dp own head search now answer → SolvesKept on dp own head search before now answer
  begun-solves before now (answers.Journal e) h = absurd h
  begun-solves before now answers.Width h = absurd h
  begun-solves before now answer h = h

  -- ---- the disk

  module _ (near : IsDistance head.within) (made : D) (tail : Tail) (ready : HasBegunOn on head made tail) where
    -- the first sync stays along the search
    pub same-begun : (now : D) (b : BoardState) → IsKeptOn on dp true made now b → on.start now ≡ on.start made
    same-begun now b k = same-start on dp b made now k.tail k.same k.kept ready.synced

    pub same-attached : (now : D) (b : BoardState) → IsKeptOn on dp true made now b → StaysAttached on made now
    same-attached now b k = stays-attached on dp b made now k.tail k.same k.kept ready.synced

    might-begin : (now : D) (b : BoardState) → IsKeptOn on dp true made now b → MightBegin on now
    might-begin now b k = still-begins on dp b made now k.tail k.same k.kept ready.synced ready.begins

    pub kept-begun : (now : D) (f b : BoardState) → IsOver dp search f b → IsKeptOn on dp true made now b → HasKept on dp head [] (LeavesBegun on head) now b
    kept-begun now f b over k = ends-begun on dp b made now k.tail k.same k.kept ready.synced ready.counted head over.idle (λ tells. (ready.is_open tells).1) ready.since

    pub left : (now : D) (settings : Settings) → KeepsSome on dp true made now settings → HasLeftBegun on dp head now
    left now settings k =
        left-begun on dp k.board made now k.keeps.tail k.keeps.same k.keeps.kept ready.synced ready.counted head near (λ tells. (ready.is_open tells).1) ready.begins ready.since

    pub ends : (now : D) (f : BoardState) → f ≡ first_board dp f.settings → IsGood dp f → (ended : Result Conclusion AllocError) (answer : Answer) → IsAnswerTo search ended answer
        → IfOk ended (λ told. HasSearched dp own (λ settings. f) (IsGood dp f) search (IsKeptOn on dp true made now) told.outcome told.counts) → EndsKept on dp own head search now answer
    ends now f is good ended answer said h =
        let Keeps = HasKept on dp head [] (LeavesBegun on head) now in
        not-width now ended answer said
        (told-ends dp search (HasBegunFrom now) ended answer said
        (if-told (λ told. HasSearched dp own (λ settings. f) (IsGood dp f) search (IsKeptOn on dp true made now) told.outcome told.counts) (λ told. HasBegunFrom now told.outcome told.counts)
        (λ told has. (
          subst (λ (o : Option FirstSync). IsSome o) (sym (same-begun now has.board has.keeps)) ready.synced,
          might-begin now has.board has.keeps,
          in-words dp own search f (first_board dp) (Unit {0}) (IsKeptOn on dp true made now) Keeps is (λ _. good) (λ b over k. kept-begun now f b over k) told.outcome told.counts has,
        )) ended h))
