-- What is told of the search of a part is true.
use Rattle.std.proofs.Common.{◌≡◌, ◌≤◌, ℕ, ℤ, List, Option, Some, None, refl, sym, subst}
use Rattle.dp_model.specs.Distances.{IsDistance}
use Rattle.dp_model.specs.Dp.{Dp}
use Rattle.dp_model.specs.Laws.{IsLawful}
use Rattle.dp_model.specs.Numbers.{AtMost}
use Rattle.dp_model.specs.Solution.{IsSolutionWith, Solution, SolutionGives}
use Rattle.problem_theory.specs.Theory.{Agrees}
use Rattle.board_laws.specs.Board.{AreSettings, BoardState, reach, reach_of, value_held}
use Rattle.board_laws.specs.Bound.{board_bound}
use Rattle.board_laws.specs.GoodBoard.{IsBoard, IsGoodFrom}
use Rattle.board_laws.specs.declared.settings.Settings.{Settings}
use Rattle.board_laws.proofs.Reading.{explored-settles}
use Rattle.board_laws.proofs.Restoring.{restored-boards-keep}
use Rattle.board_laws.proofs.Running.{runs-keep}
use Rattle.frontier_parts.specs.Searches.{HoldsFrom}
use Rattle.frontier_parts.specs.Settled.{IsShown}
use Rattle.frontier_parts.proofs.Searching.{boards_bound, held_shown, values_settle}
use Rattle.journal_bytes.specs.Bodies.{RecordView}
use Rattle.journal_replay.specs.Accepting.{AreAccepted}
use Rattle.journal_replay.specs.Replay.{replay_of, restored_from}
use Rattle.journal_replay.specs.Sound.{AreSoundOf}
use Rattle.journal_replay.proofs.Joined.{sound-restore-good}
use Rattle.journal_replay.proofs.Restored.{accepted-restore}
use Rattle.solver_report.specs.declared.answer.Counts.{Counts}
use Rattle.solver_report.specs.declared.answer.Outcome.{Outcome}
use Rattle.solver_report.specs.declared.answer.Outcome.TheVariants.{Infeasible, Proved, Stopped}
use Rattle.solver_words.specs.declared.job.JobSettings.{JobSettings}
use Rattle.solver_words.specs.Possible.{MaySearch}
use Rattle.answers.specs.Outcomes.{HasSearched, IsExploredWith, IsTold}
use Rattle.answers.specs.Over.{IsOver}
use Rattle.answers.specs.PartSearches.{AreSettledWithin, HasSearchedPart, IsPartTold, IsTrueFrom, NoneExceedsFrom, part_outcome}
use Rattle.answers.proofs.Conclusions.{over_distance}

module _ (dp : Dp) (own : List ℕ → Option ℤ) (agrees : Agrees dp own) (starts : List (List ℕ)) where
  -- what holds of the solutions holds in the problem's own words
  pub in_own_words : (most : Option ℤ) → HoldsFrom dp starts most → NoneExceedsFrom dp own starts most
  in_own_words most h = record {
    holds = h;
    own_holds = λ x worth is begun.
        let found : IsSolutionWith dp x worth = subst (SolutionGives dp x) is (agrees x) in
        subst (λ z. AtMost z most) (sym found.value) (h x found.solution begun);
  }

  -- nothing is open or out: the incumbent settles the start prefixes
  explored_settled : (b : BoardState) (best : Option Solution) (within : ℤ) → IsBoard dp b → IsGoodFrom dp starts b → IsExploredWith dp own b best → within ≡ b.settings.within → AreSettledWithin dp own starts within best
  explored_settled b best within kept good told near =
      let most : HoldsFrom dp starts (reach b) = explored-settles dp starts b good told.explored in
      let here : HoldsFrom dp starts (reach_of b.settings.within (value_held best)) = subst (λ (o : Option Solution). HoldsFrom dp starts (reach_of b.settings.within (value_held o))) told.held most in
      let settled = values_settle dp starts b.settings.within (value_held best) (subst (λ (o : Option Solution). IsShown dp (value_held o)) told.held (held_shown dp b.incumbent kept.incumbent)) here in
      subst (λ (w : ℤ). AreSettledWithin dp own starts w best) (sym near)
      (record { distance = kept.settings.distance; none_further = in_own_words (reach_of b.settings.within (value_held best)) here; settled = settled })

  -- something is open: no solution exceeds the bound
  stopped_bounded : (b : BoardState) (bound : ℤ) → IsGoodFrom dp starts b → board_bound b ≡ Some bound → NoneExceedsFrom dp own starts (Some bound)
  stopped_bounded b bound good is = in_own_words (Some bound) (subst (HoldsFrom dp starts) is (boards_bound dp starts b good))

  -- what is told of a whole search is told of a part
  pub part_told : (b : BoardState) (within : ℤ) → within ≡ b.settings.within → (outcome : Outcome) → IsTold dp own b outcome → IsPartTold dp own b (part_outcome within outcome)
  part_told b within near (Proved best given) h = h
  part_told b within near Infeasible h = (h, near)
  part_told b within near (Stopped stop best bound) h = h

  -- and it is true of it
  pub part_true : (b : BoardState) (within : ℤ) → within ≡ b.settings.within → IsBoard dp b → IsGoodFrom dp starts b → (outcome : Outcome) → IsTold dp own b outcome → IsTrueFrom dp own starts (part_outcome within outcome)
  part_true b within near kept good (Proved best given) h = explored_settled b (Some best) given kept good h.0 h.1
  part_true b within near kept good Infeasible h = explored_settled b None within kept good h near
  part_true b within near kept good (Stopped stop best bound) h = stopped_bounded b bound good h.bound_is

  -- a search from a first board that is one tells of a part what is true
  module _ (laws : IsLawful dp) (search : JobSettings) (first : Settings → BoardState) (Trusted Sound : Type 0) (Keeps : BoardState → Type 0) where
    pub part_searched : (outcome : Outcome) (counts : Option Counts) → (h : HasSearched dp own first Trusted search Keeps outcome counts) → IsBoard dp (first h.settings) → (Sound → IsGoodFrom dp starts (first h.settings))
        → HasSearchedPart dp own starts first Sound search Keeps (part_outcome search.within outcome) counts
    part_searched outcome counts h board sound =
        let f = first h.settings in
        let run = runs-keep dp laws f h.over.steps h.board h.over.run in
        let near : search.within ≡ h.board.settings.within = sym (over_distance dp search f h.board h.over) in
        record {
          settings = h.settings;
          board = h.board;
          over = h.over;
          concluded = record {
            kept = h.concluded.kept;
            told = part_told h.board search.within near outcome h.concluded.told;
            counted = h.concluded.counted;
            good = λ g. run.keeps.good board g;
            ends = λ g. part_true h.board search.within near h.concluded.kept (run.keeps.good board g) outcome h.concluded.told;
          };
          trusted = sound;
          keeps = h.keeps;
        }

-- settings with which a search is over are settings of a board
over_settings : (dp : Dp) (search : JobSettings) (settings : Settings) (first b : BoardState) → first.settings ≡ settings → MaySearch search → IsOver dp search first b → AreSettings settings
over_settings dp search settings first b same may over = subst AreSettings same (record {
  some_workers = subst (λ n. 1 ≤ n) (sym over.crew) may.some_workers;
  few_workers = subst (λ n. n ≤ 16) (sym over.crew) may.few_workers;
  some_width = over.wide.fits.positive;
  distance = subst IsDistance (sym over.distance) may.distance;
})

-- a search that goes on from accepted records, as that of a part
module _ (dp : Dp) (laws : IsLawful dp) (own : List ℕ → Option ℤ) (agrees : Agrees dp own) (search : JobSettings) (may : MaySearch search) (records : List RecordView) (accepted : AreAccepted dp records) (starts : List (List ℕ)) (Trusted : Type 0) (Keeps : BoardState → Type 0) where
  pub records_searched : (outcome : Outcome) (counts : Option Counts) → HasSearched dp own (λ settings. restored_from settings (replay_of dp records)) Trusted search Keeps outcome counts
      → HasSearchedPart dp own starts (λ settings. restored_from settings (replay_of dp records)) (AreSoundOf dp starts search.within records) search Keeps (part_outcome search.within outcome) counts
  records_searched outcome counts h =
      let s = replay_of dp records in
      let are = over_settings dp search h.settings (restored_from h.settings s) h.board refl may h.over in
      let board = (restored-boards-keep dp laws h.settings s.incumbent s.listed s.next_ticket are (accepted-restore dp laws records accepted)).board in
      part_searched dp own agrees starts laws search (λ settings. restored_from settings s) Trusted (AreSoundOf dp starts search.within records) Keeps outcome counts h board
      (λ sound. sound-restore-good dp laws {starts = starts} h.settings records are accepted (subst (λ (w : ℤ). AreSoundOf dp starts w records) (sym h.over.distance) sound))
