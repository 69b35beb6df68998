-- A kept board after offers, and what they are worth.
use Rattle.std.proofs.Common.{◌≡◌, ◌≢◌, ◌⊎◌, inl, inr, ⊎_elim, ℕ, ◌≤◌, ◌<◌, ℤ, List, [], ◌∷◌, ◌++◌, Bool, Option, Some, IsSome, is_some, Result, IfOk, Vec, Global, refl, sym, ap, subst, ◌∙◌, arith, drop, length, map}
use Rattle.std.specs.Prelude.{get_or}
use Rattle.std.specs.declared.alloc.AllocError.{AllocError}
use Rattle.disk.specs.declared.disk.Disk.{Ghosts}
use Rattle.disk.specs.Counts.{Rose}
use Rattle.dp_model.specs.Dp.{Dp}
use Rattle.dp_model.specs.Numbers.{OptionAtMost}
use Rattle.dp_model.specs.Prefixes.{value_of}
use Rattle.dp_model.specs.Solution.{IsSolutionWith}
use Rattle.board_laws.specs.Board.{BoardState, full_slots, incumbent_value}
use Rattle.board_laws.specs.GoodBoard.{IsGood}
use Rattle.board_laws.specs.Improving.{ImproveGives, after_offer}
use Rattle.board_laws.specs.Runs.Step.{Halt}
use Rattle.board_laws.specs.Steps.{halted}
use Rattle.board_laws.specs.declared.cause.Cause.TheVariants.{Journal}
use Rattle.board_laws.specs.declared.settings.Settings.{Settings}
use Rattle.board_laws.specs.declared.improved.Improved.{Improved}
use Rattle.board_laws.specs.declared.improved.Improved.TheVariants.{Yes, NotBetter, NoSolution}
use Rattle.board_laws.proofs.Carrying.{option-self}
use Rattle.board_laws.proofs.Running.{offer-runs, option-then, run-follows, run-then}
use Rattle.kept_board.specs.Kept.{IsKept}
use Rattle.kept_board.specs.Moves.{IsMove}
use Rattle.kept_board.specs.View.{KeptView, tag_of}
use Rattle.kept_board.specs.declared.error.KeptError.{KeptError}
use Rattle.kept_board.specs.declared.error.KeptError.TheVariants as errors
use Rattle.kept_board.specs.declared.tag.KeptTag.{KeptTag}
use Rattle.part_reports.specs.Reports.{AreTested, ReportView, report_view, value_told}
use Rattle.part_reports.specs.declared.report.PartReport.{PartReport}
use Rattle.search_workers.specs.Later.{IsLater}
use Rattle.search_workers.specs.declared.desk.Desk.{Desk}
use Rattle.solver_words.specs.declared.job.JobSettings.{JobSettings}
use Rattle.answers.specs.Offers.{AreWorthAtMost, told_value}
use Rattle.answers.specs.Outcomes.{HasSearched}
use Rattle.answers.specs.declared.concluding.Conclusion.{Conclusion}
use Rattle.commands.specs.Offers.{IsAfterOffers}
use Rattle.commands.specs.Searches.{IsKeptOn, KeepsSome}
use Rattle.commands.specs.Starts.{ArePrepared, IsReadyFor}
use Rattle.commands.proofs.Told.{if-told}

-- ---- boards

pub later-self : (dp : Dp) (b later : BoardState) → later ≡ b → IsLater dp b later
later-self dp b later same = record { steps = []; run = sym same; slots = ap (λ (x : BoardState). x.slots) same }

later-then : (dp : Dp) (a b c : BoardState) → IsLater dp a b → IsLater dp b c → IsLater dp a c
later-then dp a b c h k = record { steps = h.steps ++ k.steps; run = run-then dp a b c h.steps k.steps h.run k.run; slots = k.slots ∙ h.slots }

-- an offer changes no slot and no cause
slots-offer : (dp : Dp) (b : BoardState) (x : List ℕ) (answer : Improved) → (after_offer dp answer b x).slots ≡ b.slots
slots-offer dp b x Yes = refl
slots-offer dp b x NotBetter = refl
slots-offer dp b x NoSolution = refl

module _ (dp : Dp) (b later : BoardState) where
  -- a run by an offer
  pub offered : (x : List ℕ) (answer : Improved) → ImproveGives dp b x answer → later ≡ after_offer dp answer b x → IsLater dp b later
  offered x answer gives is =
      let runs = offer-runs dp b later x answer gives is in
      record { steps = runs.steps; run = runs.run; slots = ap (λ (s : BoardState). s.slots) is ∙ slots-offer dp b x answer }

  -- and by a failed journal
  pub failed : later ≡ halted b Journal → IsLater dp b later
  failed is = record { steps = Halt Journal ∷ []; run = (tt, sym is); slots = ap (λ (s : BoardState). s.slots) is }

  -- a feasible solution that was offered is worth at most the incumbent
  pub worth : (x : List ℕ) (v : ℤ) (answer : Improved) → IsSolutionWith dp x v → ImproveGives dp b x answer → later ≡ after_offer dp answer b x → OptionAtMost (Some v) (incumbent_value later)
  worth x v Yes tested gives is = subst (OptionAtMost (Some v)) (sym (ap incumbent_value is)) (subst (λ z. OptionAtMost (Some z) (Some (value_of dp x))) (sym tested.value) (option-self (Some (value_of dp x))))
  worth x v NotBetter tested gives is = subst (OptionAtMost (Some v)) (sym (ap incumbent_value is)) (subst (λ z. OptionAtMost (Some z) (incumbent_value b)) (sym tested.value) gives.1)
  worth x v NoSolution tested gives is = absurd (gives tested.solution)

-- what is worth at most an incumbent is worth at most one that is no worse
pub worth-then : (offers : List ReportView) (a b : Option ℤ) → AreWorthAtMost offers a → OptionAtMost a b → AreWorthAtMost offers b
worth-then [] a b h k = tt
worth-then (r ∷ rs) a b h k = (option-then (value_told r) a b h.0 k, worth-then rs a b h.1 k)

-- ---- offers one after another

pub tested-next : {others : List PartReport} (dp : Dp) (rest : List PartReport) → others ≡ drop 1 rest → AreTested dp (map report_view rest) → AreTested dp (map report_view others)
tested-next dp [] is h = subst (λ (rs : List PartReport). AreTested dp (map report_view rs)) (sym is) tt
tested-next dp (q ∷ qs) is h = subst (λ (rs : List PartReport). AreTested dp (map report_view rs)) (sym is) h.1

pub worth-next : {others : List PartReport} (rest : List PartReport) (r : PartReport) (value : Option ℤ) → others ≡ drop 1 rest → 1 ≤ length rest → r ≡ get_or rest 0 r → OptionAtMost (value_told (report_view r)) value → AreWorthAtMost (map report_view others) value
    → AreWorthAtMost (map report_view rest) value
worth-next [] r value is some at first more = absurd (omega (arith, some))
worth-next (q ∷ qs) r value is some at first more = (subst (λ (x : PartReport). OptionAtMost (value_told (report_view x)) value) at first, subst (λ (rs : List PartReport). AreWorthAtMost (map report_view rs) value) is more)

pub worth-none : (rest : List PartReport) (value : Option ℤ) → length rest < 1 → AreWorthAtMost (map report_view rest) value
worth-none [] value few = tt
worth-none (q ∷ qs) value few = absurd (omega (arith, few))

-- ---- kept boards

module _ {D : Type 0} (dp : Dp) where
  -- after one offer
  pub after-offer : (on : Ghosts D) (meaning : List ℤ → Dp) (who : ℕ) (before now : KeptView D) → IsLater dp before.board.board now.board.board → tag_of now ≡ tag_of before → IsMove on meaning before now who → IsAfterOffers dp before now
  after-offer on meaning who before now later tag move = record { later = later; tag = tag; made = move.made; has = move.has }

  -- or one that was not taken
  pub not-offered : (before now : KeptView D) (error : KeptError) → (error ≡ errors.Journal → now.board.board ≡ halted before.board.board Journal) → (error ≡ errors.OutOfMemory → now ≡ before) → IsLater dp before.board.board now.board.board
  not-offered before now errors.Journal halts same = failed dp before.board.board now.board.board (halts refl)
  not-offered before now errors.OutOfMemory halts same = later-self dp before.board.board now.board.board (ap (λ (k : KeptView D). k.board.board) (same refl))

  -- a journal that was going still is
  pub still-going : (before now : KeptView D) → IsAfterOffers dp before now → now.board.board.cause ≡ before.board.board.cause → (IsSome before.tail → before.board.board.cause ≢ Some Journal) → IsSome now.tail → now.board.board.cause ≢ Some Journal
  still-going before now after same going some = λ stopped. going (sym after.has ∙ some) (sym same ∙ stopped)

  pub offers-then : (a b c : KeptView D) → IsAfterOffers dp a b → IsAfterOffers dp b c → IsAfterOffers dp a c
  offers-then a b c h k = record {
    later = later-then dp a.board.board b.board.board c.board.board h.later k.later;
    tag = k.tag ∙ h.tag;
    made = k.made ∙ h.made;
    has = k.has ∙ h.has;
  }

-- offers after others, by the numbers of the first board
pub more-offers : {D : Type 0} (meaning : List ℤ → Dp) (a b c : KeptView D) → IsAfterOffers (meaning a.board.numbers) a b → IsAfterOffers (meaning b.board.numbers) b c → IsAfterOffers (meaning a.board.numbers) a c
more-offers {D} meaning a b c h k = offers-then (meaning a.board.numbers) a b c h (subst (λ n. IsAfterOffers (meaning n) b c) (ap (λ (t : KeptTag D). t.board.numbers) h.tag) k)

-- the incumbent after offers is no worse
pub better-after : {D : Type 0} (dp : Dp) (before now : KeptView D) → IsAfterOffers dp before now → OptionAtMost (incumbent_value before.board.board) (incumbent_value now.board.board)
better-after dp before now after = (run-follows dp before.board.board after.later.steps now.board.board after.later.run).better

module _ {D : Type 0} (meaning : List ℤ → Dp) (ns : List ℤ) (before now : KeptView D) (at : before.board.numbers ≡ ns) (after : IsAfterOffers (meaning before.board.numbers) before now) where
  later : IsLater (meaning ns) before.board.board now.board.board
  later = subst (λ n. IsLater (meaning n) before.board.board now.board.board) at after.later

  pub same-numbers : now.board.numbers ≡ ns
  same-numbers = ap (λ (t : KeptTag D). t.board.numbers) after.tag ∙ at

  same-first : now.board.first ≡ before.board.first
  same-first = ap (λ (t : KeptTag D). t.board.first) after.tag

  same-settings : now.board.board.settings ≡ before.board.board.settings
  same-settings = ap (λ (t : KeptTag D). t.board.settings) after.tag

  -- a search may go on from it
  pub still-ready : (search : JobSettings) (desks : Vec Desk Global) → IsReadyFor (meaning ns) search before.board desks → IsReadyFor (meaning ns) search now.board desks
  still-ready search desks ready = record {
    later = subst (λ (f : BoardState). IsLater (meaning ns) f now.board.board) (sym same-first) (later-then (meaning ns) before.board.first before.board.board now.board.board ready.later later);
    prepared = subst (λ (s : Settings). ArePrepared (meaning ns) search s desks) (sym same-settings) ready.prepared;
    idle = ap full_slots later.slots ∙ ready.idle;
  }

  module _ (on : Ghosts D) (last : D) where
    -- and what is told and kept of that is told and kept of the search before the offers
    pub searched-after : (own : List ℕ → Option ℤ) (search : JobSettings) (ended : Result Conclusion AllocError)
        → IfOk ended (λ told. HasSearched (meaning ns) own (λ settings. now.board.first) (IsGood (meaning ns) now.board.first) search (IsKeptOn on (meaning ns) (is_some now.tail) now.made last) told.outcome told.counts)
        → IfOk ended (λ told. HasSearched (meaning ns) own (λ settings. before.board.first) (IsGood (meaning ns) before.board.first) search (IsKeptOn on (meaning ns) (is_some before.tail) before.made last) told.outcome told.counts)
    searched-after own search ended h =
        let Searched = λ (f : BoardState) (has : Bool) (made : D). IfOk ended (λ told. HasSearched (meaning ns) own (λ settings. f) (IsGood (meaning ns) f) search (IsKeptOn on (meaning ns) has made last) told.outcome told.counts) in
        subst (λ f. Searched f (is_some before.tail) before.made) same-first
        (subst (λ has. Searched now.board.first has before.made) after.has
        (subst (λ made. Searched now.board.first (is_some now.tail) made) after.made h))

    pub keeps-after : KeepsSome on (meaning ns) (is_some now.tail) now.made last now.board.board.settings → KeepsSome on (meaning ns) (is_some before.tail) before.made last before.board.board.settings
    keeps-after k =
        subst (λ s. KeepsSome on (meaning ns) (is_some before.tail) before.made last s) same-settings
        (subst (λ has. KeepsSome on (meaning ns) has before.made last now.board.board.settings) after.has
        (subst (λ made. KeepsSome on (meaning ns) (is_some now.tail) made last now.board.board.settings) after.made k))

    -- where no search goes on for want of memory
    pub keeps-alone : IsKept on (meaning now.board.numbers) now.board.board now.made now.disk now.tail → now.disk ≡ last → KeepsSome on (meaning ns) (is_some before.tail) before.made last before.board.board.settings
    keeps-alone kept same = keeps-after (subst (λ d. KeepsSome on (meaning ns) (is_some now.tail) now.made d now.board.board.settings) same (record {
      board = now.board.board;
      same = refl;
      keeps = record { tail = now.tail; same = refl; kept = subst (λ n. IsKept on (meaning n) now.board.board now.made now.disk now.tail) same-numbers kept };
    }))

    pub taken-after : (offers : List ReportView) → AreWorthAtMost offers (incumbent_value now.board.board) ⊎ (now.board.board.cause ≡ Some Journal) → (now.board.board.cause ≡ Some Journal → Rose (on.faults now.made) (on.faults last)) → (ended : Result Conclusion AllocError)
        → IfOk ended (λ told. OptionAtMost (incumbent_value now.board.board) (told_value told.outcome)) → IfOk ended (λ told. AreWorthAtMost offers (told_value told.outcome) ⊎ Rose (on.faults before.made) (on.faults last))
    taken-after offers taken rose ended rises = if-told (λ told. OptionAtMost (incumbent_value now.board.board) (told_value told.outcome)) (λ told. AreWorthAtMost offers (told_value told.outcome) ⊎ Rose (on.faults before.made) (on.faults last))
        (λ told up. ⊎_elim (λ most. inl (worth-then offers (incumbent_value now.board.board) (told_value told.outcome) most up)) (λ stopped. inr (subst (λ made. Rose (on.faults made) (on.faults last)) after.made (rose stopped))) taken) ended rises
