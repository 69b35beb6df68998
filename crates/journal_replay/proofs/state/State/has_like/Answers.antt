use Rattle.std.proofs.Common.{◌≡◌, length, refl, None, false, sym, ◌∙◌, ap, subst}
use Rattle.std.proofs.lemmas.List.{get_or_read_under}
use Rattle.std.specs.Prelude.{option_map}
use Rattle.journal_replay.specs.Accepting.{is_like}
use Rattle.journal_replay.specs.Places.{IsPlaceOf, PlaceIs, no_place}
use Rattle.journal_replay.specs.Replay.{Replayed, listed_at}
use Rattle.journal_replay.proofs.Places.{under, at-none, at-some}
use Rattle.journal_replay.proofs.state.State.has_like.Goals as goal

pub returns-in-Some-sub : goal.returns-in-Some-sub
returns-in-Some-sub c =
    let t = c.args.ticket in
    let at = c.in-Some.at in
    let places = c.self.inside.places.items in
    let place = subst (λ ps. IsPlaceOf t ps at) c.as_slice.ensures.value c.in-Some.ensures in
    let read = get_or_read_under places at (length places) c.index.result.now no_place c.index.ensures place.there refl in
    let found = ap (option_map (under t)) (sym c.in-Some-sub.is) ∙ at-some t c.self.inside.next_ticket at places c.index.result.now c.self.invariant place read in
    subst (λ (s : Replayed). c.is_same.result ≡ is_like c.args.sub.now.subproblem (listed_at t s.listed)) c.self.view_is (c.is_same.ensures ∙ ap (is_like c.args.sub.now.subproblem) found)

pub returns-in-None-sub : goal.returns-in-None-sub
returns-in-None-sub c =
    let t = c.args.ticket in
    let at = c.in-Some.at in
    let places = c.self.inside.places.items in
    let place = subst (λ ps. IsPlaceOf t ps at) c.as_slice.ensures.value c.in-Some.ensures in
    let read = get_or_read_under places at (length places) c.index.result.now no_place c.index.ensures place.there refl in
    let found = ap (option_map (under t)) (sym c.in-None-sub.is) ∙ at-some t c.self.inside.next_ticket at places c.index.result.now c.self.invariant place read in
    subst (λ (s : Replayed). false ≡ is_like c.args.sub.now.subproblem (listed_at t s.listed)) c.self.view_is (ap (is_like c.args.sub.now.subproblem) found)

pub returns-in-None : goal.returns-in-None
returns-in-None c =
    let t = c.args.ticket in
    let places = c.self.inside.places.items in
    let none = subst (λ ps. PlaceIs t ps None) c.as_slice.ensures.value c.in-None.ensures in
    subst (λ (s : Replayed). false ≡ is_like c.args.sub.now.subproblem (listed_at t s.listed)) c.self.view_is (ap (is_like c.args.sub.now.subproblem) (at-none t places none))
