use Rattle.std.proofs.Common.{◌≡◌, length, refl, None, ◌∙◌, ap, subst}
use Rattle.std.proofs.lemmas.List.{get_or_read_under}
use Rattle.std.specs.Prelude.{option_map}
use Rattle.journal_replay.specs.Places.{IsPlaceOf, PlaceIs, no_place}
use Rattle.journal_replay.specs.Replay.{Replayed, listed_at, taken_off}
use Rattle.journal_replay.proofs.Places.{under, at-none, at-some, none-state, off-state, order-at, set-at}
use Rattle.journal_replay.proofs.state.State.take_out.Goals as goal

pub invariant_of-self : goal.invariant_of-self
invariant_of-self c =
    let t = c.args.ticket in
    let at = c.in-Some.at in
    let places = c.self.inside.places.items in
    let place = subst (λ ps. IsPlaceOf t ps at) c.as_slice.ensures.value c.in-Some.ensures in
    let read = get_or_read_under places at (length places) c.index_mut.result.now no_place c.index_mut.ensures.value place.there refl in
    order-at t c.self.inside.next_ticket at places c.index_mut.result.now c.take.new.self c.self.invariant place read

pub returns-in-Some-clause-one : goal.returns-in-Some-clause-one
returns-in-Some-clause-one c =
    let t = c.args.ticket in
    let at = c.in-Some.at in
    let places = c.self.inside.places.items in
    let place = subst (λ ps. IsPlaceOf t ps at) c.as_slice.ensures.value c.in-Some.ensures in
    let read = get_or_read_under places at (length places) c.index_mut.result.now no_place c.index_mut.ensures.value place.there refl in
    subst (λ (s : Replayed). option_map (under t) c.take.result ≡ listed_at t s.listed) c.self.view_is
    (ap (option_map (under t)) c.take.ensures.value ∙ at-some t c.self.inside.next_ticket at places c.index_mut.result.now c.self.invariant place read)

pub returns-in-Some-clause-left : goal.returns-in-Some-clause-left
returns-in-Some-clause-left c =
    let t = c.args.ticket in
    let at = c.in-Some.at in
    let places = c.self.inside.places.items in
    let place = subst (λ ps. IsPlaceOf t ps at) c.as_slice.ensures.value c.in-Some.ensures in
    let read = get_or_read_under places at (length places) c.index_mut.result.now no_place c.index_mut.ensures.value place.there refl in
    rw (← c.self.view_is) (off-state t c.self.inside.next_ticket at c.self.inside.best places _ c.self.invariant place (set-at t at places c.index_mut.result.now c.take.new.self place read c.take.ensures.after))

pub returns-in-None-clause-one : goal.returns-in-None-clause-one
returns-in-None-clause-one c =
    let t = c.args.ticket in
    let none = subst (λ ps. PlaceIs t ps None) c.as_slice.ensures.value c.in-None.ensures in
    subst (λ (s : Replayed). None ≡ listed_at t s.listed) c.self.view_is (at-none t c.self.inside.places.items none)

pub returns-in-None-clause-left : goal.returns-in-None-clause-left
returns-in-None-clause-left c =
    let t = c.args.ticket in
    let none = subst (λ ps. PlaceIs t ps None) c.as_slice.ensures.value c.in-None.ensures in
    subst (λ (s : Replayed). s ≡ taken_off t s) c.self.view_is (none-state t c.self.inside.next_ticket c.self.inside.best c.self.inside.places.items none)
