use Rattle.std.proofs.Common.{rules}
use Rattle.std.proofs.lemmas.List.Sorted.{answers_always}
use Rattle.journal_replay.proofs.Places.{found-at, found-none}
use Rattle.journal_replay.proofs.state.place_with.Goals as goal

pub returns-in-Ok : goal.returns-in-Ok
returns-in-Ok c =
    let facts = c.in-Ok.ensures in
    found-at c.args.ticket c.args.places.now c.requires.rise c.in-Ok.at facts.bound (facts.position (λ place. place.ticket) (answers_always _ _ _ (λ f a r g called. search rules)))

pub returns-in-Err : goal.returns-in-Err
returns-in-Err c =
    let facts = c.in-Err.ensures in
    found-none c.args.ticket c.args.places.now c.requires.rise c.in-Err.field-0 facts.bound (facts.position (λ place. place.ticket) (answers_always _ _ _ (λ f a r g called. search rules)))
