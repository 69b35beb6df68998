-- What offers keep.
use Rattle.std.proofs.Common.{◌≡◌, ℕ, ℤ, List, [], ◌++◌, Option, Some, None, refl, sym, ◌∙◌, subst}
use Rattle.dp_model.specs.Dp.{Dp}
use Rattle.dp_model.specs.Numbers.{AtMost, OptionAtMost}
use Rattle.dp_model.specs.Prefixes.{IsSolution, value_of}
use Rattle.dp_model.specs.declared.found.Found.{Found}
use Rattle.dp_laws.specs.Children.{found_value}
use Rattle.dp_laws.proofs.Reaches.{at-most-raised}
use Rattle.board_laws.specs.Board.{BoardState, incumbent_value, reach, reach_of}
use Rattle.board_laws.specs.Improving.{ImproveGives, after_offer}
use Rattle.board_laws.specs.declared.improved.Improved.{Improved}
use Rattle.board_laws.specs.declared.improved.Improved.TheVariants.{Yes, NotBetter, NoSolution}
use Rattle.board_laws.specs.GoodBoard.{IncumbentHolds}
use Rattle.board_laws.specs.declared.settings.Settings.{Settings}
use Rattle.board_laws.proofs.Running.{run-then, run-follows, offer-runs}
use Rattle.search_workers.specs.Offered.{IsOffered, found_solution}
use Rattle.search_workers.proofs.FinishLater.{reach-later}

pub IsOffered-refl : (dp : Dp) (b : BoardState) → IsOffered dp b b
IsOffered-refl dp b = record { steps = []; run = refl; slots = refl; taken = refl; finished = refl; next_ticket = refl; cause = refl }

pub IsOffered-trans : (dp : Dp) (a b c : BoardState) → IsOffered dp a b → IsOffered dp b c → IsOffered dp a c
IsOffered-trans dp a b c f g = record {
  steps = f.steps ++ g.steps;
  run = run-then dp a b c f.steps g.steps f.run g.run;
  slots = g.slots ∙ f.slots;
  taken = g.taken ∙ f.taken;
  finished = g.finished ∙ f.finished;
  next_ticket = g.next_ticket ∙ f.next_ticket;
  cause = g.cause ∙ f.cause;
}

-- what an offer leaves as it is
record IsLike (b later : BoardState) : Type 0 where
  pub slots : later.slots ≡ b.slots
  pub taken : later.taken ≡ b.taken
  pub finished : later.finished ≡ b.finished
  pub next_ticket : later.next_ticket ≡ b.next_ticket
  pub cause : later.cause ≡ b.cause

offer-like : (dp : Dp) (b : BoardState) (x : List ℕ) (answer : Improved) → IsLike b (after_offer dp answer b x)
offer-like dp b x Yes = record { slots = refl; taken = refl; finished = refl; next_ticket = refl; cause = refl }
offer-like dp b x NotBetter = record { slots = refl; taken = refl; finished = refl; next_ticket = refl; cause = refl }
offer-like dp b x NoSolution = record { slots = refl; taken = refl; finished = refl; next_ticket = refl; cause = refl }

-- an offer changes no more than the incumbent and what is open
pub offered_by : (dp : Dp) (b later : BoardState) (answer : Improved) (x : List ℕ) → ImproveGives dp b x answer → later ≡ after_offer dp answer b x → IsOffered dp b later
offered_by dp b later answer x gives step =
    let run = offer-runs dp b later x answer gives step in
    let like = subst (IsLike b) (sym step) (offer-like dp b x answer) in
    record { steps = run.steps; run = run.run; slots = like.slots; taken = like.taken; finished = like.finished; next_ticket = like.next_ticket; cause = like.cause }

-- offers do not lower the reach
pub reach-offered : (dp : Dp) (b later : BoardState) → IsOffered dp b later → OptionAtMost (reach b) (reach later)
reach-offered dp b later h =
    let follows = run-follows dp b h.steps later h.run in
    subst (λ (s : Settings). OptionAtMost (reach b) (reach_of s.within (incumbent_value later))) (sym follows.settings) (reach-later b.settings.within (incumbent_value b) (incumbent_value later) follows.better)

-- what was found and offered is at most the reach
pub found-reaches : (dp : Dp) (found : Option Found) (f : Found) (seen reach : Option ℤ) → found ≡ Some f → IncumbentHolds dp (found_solution found)
    → (IsSolution dp f.decisions.now → AtMost (value_of dp f.decisions.now) seen) → OptionAtMost seen reach → OptionAtMost (found_value (found_solution found)) reach
found-reaches dp None f seen reach is held better above = tt
found-reaches dp (Some x) f seen reach is held better above =
    let same : f ≡ x = cc in
    let here = subst (λ (y : Found). IsSolution dp y.decisions.now → AtMost (value_of dp y.decisions.now) seen) same better in
    at-most-raised x.value seen reach above (subst (λ v. AtMost v seen) (sym held.value) (here held.solution))
