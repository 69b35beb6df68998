-- What is answered to a search, from how it ended.
use Rattle.std.proofs.Common.{◌≡◌, ℕ, ℤ, List, Bool, false, Option, is_some, Result, Ok, Err, IfOk, Vec, Global, sym, subst, ap, ◌∙◌}
use Rattle.std.specs.List.{All}
use Rattle.std.specs.declared.alloc.AllocError.{AllocError}
use Rattle.disk.specs.declared.disk.Disk.{Ghosts}
use Rattle.dp_model.specs.Dp.{Dp}
use Rattle.board_laws.specs.Board.{BoardState}
use Rattle.board_laws.specs.GoodBoard.{IsGood}
use Rattle.board_laws.specs.Steps.{first_board}
use Rattle.kept_board.specs.View.{KeptView}
use Rattle.board.specs.View.{BoardView}
use Rattle.solver_report.specs.declared.answer.Answer.{Answer}
use Rattle.solver_report.specs.declared.answer.Counts.{Counts}
use Rattle.solver_report.specs.declared.answer.Outcome.{Outcome}
use Rattle.answers.specs.Answers.{Ends, HasSearchedFromStart, KeepsNone, Solves}
use Rattle.answers.specs.Outcomes.{HasSearched, IsTrueOf}
use Rattle.answers.specs.Over.{IsOver}
use Rattle.answers.specs.declared.concluding.Conclusion.{Conclusion}
use Rattle.solver_words.specs.declared.job.JobSettings.{JobSettings}
use Rattle.answers.proofs.Ending.{report-ends}
use Rattle.answers.proofs.Journaled.{has-none}
use Rattle.search_workers.specs.Prepared.{IsPreparedDesk}
use Rattle.search_workers.specs.declared.desk.Desk.{Desk}
use Rattle.commands.specs.Desks.{HaveBooksOf}
use Rattle.commands.specs.Searches.{IsAnswerTo, IsKeptOn, KeepsSome}
use Rattle.commands.specs.Starts.{HasBegun}
use Rattle.commands.proofs.Searched.{in-words}

pub if-told : (P Q : Conclusion → Type 0) → ((told : Conclusion) → P told → Q told) → (ended : Result Conclusion AllocError) → IfOk ended P → IfOk ended Q
if-told P Q f (Ok told) p = f told p
if-told P Q f (Err e) p = tt

-- desks that are prepared have books of the same program
pub books-held : (dp : Dp) (w : ℕ) (desks : List Desk) → All (IsPreparedDesk dp w) desks → HaveBooksOf dp desks
books-held dp w desks all k d less = (all k d less).book

-- a board that is kept is good where it was
pub good-kept : (meaning : List ℤ → Dp) (ns here : List ℤ) → ns ≡ here → (kept board : BoardView) → kept ≡ board → IsGood (meaning here) board.first → IsGood (meaning ns) kept.first
good-kept meaning ns here at kept board shown good = subst (λ (b : BoardView). IsGood (meaning ns) b.first) (sym shown) (subst (λ n. IsGood (meaning n) board.first) (sym at) good)

-- what is answered to it
pub told-ends : (dp : Dp) (search : JobSettings) (Has : Outcome → Option Counts → Type 0) (ended : Result Conclusion AllocError) (answer : Answer) → IsAnswerTo search ended answer → IfOk ended (λ told. Has told.outcome told.counts) → Ends dp search Has answer
told-ends dp search Has (Ok told) answer said has = report-ends dp search Has told.outcome told.counts answer said has
told-ends dp search Has (Err e) answer said has = subst (Ends dp search Has) (sym said) tt

module _ (dp : Dp) (own : List ℕ → Option ℤ) (search : JobSettings) (f : BoardState) (Keeps : BoardState → Type 0) where
  -- a search from a good board on tells what is true, and counts of 64 bits
  pub told-true : IsGood dp f → (ended : Result Conclusion AllocError) → IfOk ended (λ told. HasSearched dp own (λ settings. f) (IsGood dp f) search Keeps told.outcome told.counts) → IfOk ended (λ told. IsTrueOf dp own search.budget told.outcome)
  told-true good (Ok told) h = h.concluded.ends good
  told-true good (Err e) h = tt

  -- a search from the start on
  pub from-start : (Other : BoardState → Type 0) → f ≡ first_board dp f.settings → IsGood dp f → ((b : BoardState) → IsOver dp search f b → Keeps b → Other b)
      → (ended : Result Conclusion AllocError) → IfOk ended (λ told. HasSearched dp own (λ settings. f) (IsGood dp f) search Keeps told.outcome told.counts) → IfOk ended (λ told. HasSearchedFromStart dp own search Other told.outcome told.counts)
  from-start Other is good other (Ok told) h = in-words dp own search f (first_board dp) (Unit {0}) Keeps Other is (λ _. good) other told.outcome told.counts h
  from-start Other is good other (Err e) h = tt

-- the first board of a search from the start
pub first-is : (dp : Dp) (search : JobSettings) (board : BoardView) (desks : Vec Desk Global) → HasBegun dp search board desks → board.first ≡ first_board dp board.first.settings
first-is dp search board desks begun = begun.fresh.first ∙ (begun.board ∙ ap (λ (x : BoardState). first_board dp x.settings) (sym begun.fresh.first))

module _ {D : Type 0} (on : Ghosts D) where
  -- with no journal the disk is as it was
  pub none-kept : (dp : Dp) (made now : D) (b : BoardState) → IsKeptOn on dp false made now b → KeepsNone b × (now ≡ made)
  none-kept dp made now b k = has-none on dp b made now k.tail k.same k.kept

  -- a search by the numbers of an instance, from a kept board
  abbrev pub SearchedBy : (List ℤ → Dp) → (List ℤ → List ℕ → Option ℤ) → JobSettings → List ℤ → BoardState → Bool → D → D → Result Conclusion AllocError → Type 0
  SearchedBy meaning own search ns f has made now ended = IfOk ended (λ told. HasSearched (meaning ns) (own ns) (λ settings. f) (IsGood (meaning ns) f) search (IsKeptOn on (meaning ns) has made now) told.outcome told.counts)

  module _ (meaning : List ℤ → Dp) (ns here : List ℤ) (at : ns ≡ here) (kept : KeptView D) (board : BoardView) (disk : D) (has : Bool) (shown : kept.board ≡ board) (made : kept.made ≡ disk) (same : is_some kept.tail ≡ has) (now : D) where
    -- what it gives, by what the board was made of
    pub searched-here : (own : List ℤ → List ℕ → Option ℤ) (search : JobSettings) (ended : Result Conclusion AllocError) → SearchedBy meaning own search ns kept.board.first (is_some kept.tail) kept.made now ended → SearchedBy meaning own search here board.first has disk now ended
    searched-here own search ended h =
        subst (λ n. SearchedBy meaning own search n board.first has disk now ended) at
        (subst (λ (b : BoardView). SearchedBy meaning own search ns b.first has disk now ended) shown
        (subst (λ d. SearchedBy meaning own search ns kept.board.first has d now ended) made (subst (λ x. SearchedBy meaning own search ns kept.board.first x kept.made now ended) same h)))

    pub keeps-here : KeepsSome on (meaning ns) (is_some kept.tail) kept.made now kept.board.board.settings → KeepsSome on (meaning here) has disk now board.board.settings
    keeps-here k =
        subst (λ n. KeepsSome on (meaning n) has disk now board.board.settings) at
        (subst (λ (b : BoardView). KeepsSome on (meaning ns) has disk now b.board.settings) shown
        (subst (λ d. KeepsSome on (meaning ns) has d now kept.board.board.settings) made (subst (λ x. KeepsSome on (meaning ns) x kept.made now kept.board.board.settings) same k)))

  -- with no journal
  pub none-solves : (dp : Dp) (own : List ℕ → Option ℤ) (search : JobSettings) (board : BoardView) (desks : Vec Desk Global) (disk now : D) → HasBegun dp search board desks → (ended : Result Conclusion AllocError) (answer : Answer) → IsAnswerTo search ended answer
      → IfOk ended (λ told. HasSearched dp own (λ settings. board.first) (IsGood dp board.first) search (IsKeptOn on dp false disk now) told.outcome told.counts) → Solves dp own search answer
  none-solves dp own search board desks disk now begun ended answer said h =
      told-ends dp search (HasSearchedFromStart dp own search KeepsNone) ended answer said
      (from-start dp own search board.first (IsKeptOn on dp false disk now) KeepsNone (first-is dp search board desks begun) begun.good (λ b over k. (none-kept dp disk now b k).0) ended h)
