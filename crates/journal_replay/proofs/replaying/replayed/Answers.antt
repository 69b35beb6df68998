use Rattle.std.proofs.Common.{sym, ◌∙◌, ap, ap₂}
use Rattle.journal_bytes.specs.Base.{from_base}
use Rattle.journal_replay.specs.Replay.{after_records, replay_start}
use Rattle.journal_replay.proofs.Based.{state-from}
use Rattle.journal_replay.proofs.replaying.replayed.Goals as goal

pub returns-clause-state : goal.returns-clause-state
returns-clause-state g c =
    let dp = g.M.DpModel.meaning (g.M.DpModel.numbers c.args.model.now) in
    let base = c.in-Some.ensures.records ∙ ap from_base c.as_slice.ensures in
    c.in_ok-follow_all.ensures.after ∙ (ap₂ (after_records dp) c.in_ok-state.ensures base ∙ sym (state-from dp (replay_start dp) c.args.records.now.records))
