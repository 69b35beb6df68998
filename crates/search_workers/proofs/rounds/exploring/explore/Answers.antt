use Rattle.std.proofs.Common.{◌≡◌, ℕ, ◌+◌, ◌-◌, ◌<◌, ◌≤◌, [], length, None, sym, ◌∙◌, ap, subst, refl, arith}
use Rattle.dp_model.specs.Counts.{tree}
use Rattle.board_laws.specs.Board.{full_slots}
use Rattle.board_laws.specs.GoodBoard.{IsGood}
use Rattle.turn.proofs.History.{not_moved}
use Rattle.kept_board.specs.Moves.{IsMove}
use Rattle.kept_board.specs.declared.tag.KeptTag.{KeptTag}
use Rattle.board.specs.View.{BoardView}
use Rattle.search_workers.specs.Later.{NoRoundFollows}
use Rattle.search_workers.specs.Prepared.{IsPreparedDesk}
use Rattle.search_workers.proofs.Moves.{moved_then}
use Rattle.search_workers.proofs.LaterBoards.{later_refl, later_trans, complete}
use Rattle.search_workers.proofs.rounds.exploring.explore.Goals as goal

pub rounds-init : goal.rounds-init
rounds-init g c = record { tag = refl; moved = not_moved (IsMove g.D.Disk g.M.DpModel.meaning) c.args.kept.now; later = later_refl _ _; prepared = c.requires.prepared }

pub round-requires-clause-numbers : goal.round-requires-clause-numbers
round-requires-clause-numbers g c κs within = ap (λ (t : KeptTag g.row.D.Denot). t.board.numbers) c.rounds.invariant.tag ∙ c.requires.numbers

pub round-requires-clause-some : goal.round-requires-clause-some
round-requires-clause-some g c κs within = subst (λ s. 1 ≤ length s) (sym c.rounds.invariant.later.slots) c.requires.some

pub round-requires-clause-idle : goal.round-requires-clause-idle
round-requires-clause-idle g c κs within = ap full_slots c.rounds.invariant.later.slots ∙ c.requires.idle

pub round-requires-clause-prepared : goal.round-requires-clause-prepared
round-requires-clause-prepared g c κs within =
    subst (λ w. IsPreparedDesk (g.M.DpModel.meaning (g.M.DpModel.numbers c.args.model.now)) w c.rounds.desk) (sym (ap (λ (t : KeptTag g.row.D.Denot). t.board.settings.width) c.rounds.invariant.tag)) c.rounds.invariant.prepared

falls : (before : ℕ) {after budget same : ℕ} → same ≡ budget → before + 1 ≤ after → after ≤ same → same - after < budget - before
falls n e a b = omega arith

pub rounds-smaller : goal.rounds-smaller
rounds-smaller g c = falls _ (ap (λ (t : KeptTag g.row.D.Denot). t.board.settings.budget) c.round.ensures.tag) (c.round.ensures.taken c.rounds-test.true) (c.round.ensures.budget c.rounds-test.true)

pub rounds-preserved : goal.rounds-preserved
rounds-preserved g c = record {
  tag = c.round.ensures.tag ∙ c.rounds.invariant.tag;
  moved = moved_then (IsMove g.D.Disk g.M.DpModel.meaning) _ _ _ c.rounds.invariant.moved c.round.ensures.moved;
  later = later_trans _ _ _ _ c.rounds.invariant.later c.round.ensures.later;
  prepared = subst (λ w. IsPreparedDesk (g.M.DpModel.meaning (g.M.DpModel.numbers c.args.model.now)) w c.round.new.desk) (ap (λ (t : KeptTag g.row.D.Denot). t.board.settings.width) c.rounds.invariant.tag) c.round.ensures.prepared;
}

pub returns-clause-tag : goal.returns-clause-tag
returns-clause-tag g c = c.round.ensures.tag ∙ c.rounds.invariant.tag

pub returns-clause-moved : goal.returns-clause-moved
returns-clause-moved g c = moved_then (IsMove g.D.Disk g.M.DpModel.meaning) _ _ _ c.rounds.invariant.moved c.round.ensures.moved

pub returns-clause-later : goal.returns-clause-later
returns-clause-later g c = later_trans _ _ _ _ c.rounds.invariant.later c.round.ensures.later

pub returns-clause-complete : goal.returns-clause-complete
returns-clause-complete g c = λ first.
    let meaning = g.M.DpModel.meaning in
    let dp = meaning (g.M.DpModel.numbers c.args.model.now) in
    let last = c.round.new.kept.board in
    let later = later_trans _ _ _ _ c.rounds.invariant.later c.round.ensures.later in
    let idle : full_slots last.board.slots ≡ [] = ap full_slots later.slots ∙ c.requires.idle in
    let tag = c.round.ensures.tag ∙ c.rounds.invariant.tag in
    let numbers = ap (λ (t : KeptTag g.row.D.Denot). t.board.numbers) tag ∙ c.requires.numbers in
    let firsts = ap (λ (t : KeptTag g.row.D.Denot). t.board.first) tag in
    let begun : IsGood (meaning last.numbers) last.first =
    subst (λ ns. IsGood (meaning ns) last.first) (sym numbers) (subst (IsGood dp) (sym firsts) first) in
    let goods = subst (λ (v : BoardView). IsGood (meaning v.numbers) v.first → IsGood (meaning v.numbers) v.board) c.board-2.ensures.board c.facts.ensures.good in
    let good = subst (λ ns. IsGood (meaning ns) last.board) numbers (goods begun) in
    let ended : NoRoundFollows last.board = c.round.ensures.ended c.rounds-test.false in
    let count = c.taken.result in
    let taken = c.taken.ensures.taken ∙ ap (λ (v : BoardView). v.board.taken) c.board.ensures.board in
    let less = subst (λ (v : BoardView). IsGood (meaning v.numbers) v.first → v.board.cause ≡ None → (v.board.open_ones ≡ [] → ⊥) → count < tree (meaning v.numbers)) c.board.ensures.board c.taken.ensures.fewer in
    let fewer : last.board.cause ≡ None → (last.board.open_ones ≡ [] → ⊥) → last.board.taken < tree dp =
    λ none some. subst (λ ns. last.board.taken < tree (meaning ns)) numbers (subst (λ t. t < tree (meaning last.numbers)) taken (less begun none some)) in
    complete dp last.board good ended idle fewer
