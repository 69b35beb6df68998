use Rattle.std.proofs.Common.{Err, ap}
use Rattle.kept_board.specs.declared.error.KeptError.{KeptError}
use Rattle.commands.proofs.AfterOffers.{after-offer, not-offered, offered}
use Rattle.commands.proofs.offering.offer.Goals as goal

pub returns-in-Ok-clause-after : goal.returns-in-Ok-clause-after
returns-in-Ok-clause-after g c =
    let before = c.args.kept.now in
    let now = c.improve.new.self in
    let dp = g.M.DpModel.meaning before.board.numbers in
    after-offer dp g.D.Disk g.M.DpModel.meaning 0 before now (offered dp before.board.board now.board.board c.as_slice.result.now c.in-Ok.field-0 c.in-Ok.ensures.answer c.in-Ok.ensures.step) c.improve.ensures.tag (c.improve.ensures.moves 0)

pub returns-in-Err-clause-after : goal.returns-in-Err-clause-after
returns-in-Err-clause-after g c =
    let before = c.args.kept.now in
    let now = c.improve.new.self in
    let dp = g.M.DpModel.meaning before.board.numbers in
    after-offer dp g.D.Disk g.M.DpModel.meaning 0 before now (not-offered dp before now c.in-Err.error (λ is. (c.in-Err.ensures.journal (ap (λ (e : KeptError). Err e) is)).1) (λ is. c.in-Err.ensures.memory (ap (λ (e : KeptError). Err e) is))) c.improve.ensures.tag
    (c.improve.ensures.moves 0)
