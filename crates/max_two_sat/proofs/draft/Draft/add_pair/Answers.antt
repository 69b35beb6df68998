use Rattle.std.proofs.Common.{arith, ap, refl, length, get_or, to_z, of_z, w64, subst, sym, ◌≤ℤ◌, ◌<◌, ◌≡◌, ◌∙◌}
use Rattle.std.proofs.lemmas.Int.{ints}
use Rattle.std.proofs.lemmas.List.{get_or_default}
use Rattle.max_two_sat.specs.declared.weights.PairWeights.{PairWeights}
use Rattle.pair_rows.specs.Pairs.{pair_count, entries_before}
use Rattle.pair_problem.specs.Adding.{place_of}
use Rattle.max_two_sat.specs.Clauses.{heavier_pair}
use Rattle.max_two_sat.specs.Drafted.{instance_gathered}
use Rattle.max_two_sat.specs.Instance.{no_pair, pair_total, pairs_total}
use Rattle.max_two_sat.specs.Limits.{PairIsPositive}
use Rattle.max_two_sat.proofs.Entries.{pair-at, pair_total-at}
use Rattle.max_two_sat.proofs.Gathering.{room-leaves}
use Rattle.max_two_sat.proofs.draft.Draft.add_pair.Goals as goal

pub pair_with-requires-clause-positive : goal.pair_with-requires-clause-positive
pair_with-requires-clause-positive c =
    let long : c.len.result ≡ length c.args.self.now.units.items = omega arith in
    let count = ap pair_count long in
    let inside : c.place_of_pair-place.result < length c.args.self.now.pairs.items = omega (arith, c.place_of_pair-place.ensures.inside, c.requires.room.whole) in
    subst (λ (p : PairWeights). PairIsPositive p) (sym c.index.ensures)
    (pair-at c.args.self.now.pairs.items c.place_of_pair-place.result c.index.result.now inside c.requires.room.pairs)

pub pair_with-requires-clause-room : goal.pair_with-requires-clause-room
pair_with-requires-clause-room c =
    let long : c.len.result ≡ length c.args.self.now.units.items = omega arith in
    let count = ap pair_count long in
    let inside : c.place_of_pair-place.result < length c.args.self.now.pairs.items = omega (arith, c.place_of_pair-place.ensures.inside, c.requires.room.whole) in
    let most : pair_total c.index.result.now ≤ℤ pairs_total c.args.self.now.pairs.items =
    subst (λ (p : PairWeights). pair_total p ≤ℤ pairs_total c.args.self.now.pairs.items) (sym c.index.ensures)
    (pair_total-at c.args.self.now.pairs.items c.place_of_pair-place.result c.index.result.now inside c.requires.room.pairs) in
    omega (arith, ints, (room-leaves (instance_gathered c.args.self.now) c.args.weight c.requires.room).pairs)

pub returns-clause-instance : goal.returns-clause-instance
returns-clause-instance c =
    let long : c.len.result ≡ length c.args.self.now.units.items = omega arith in
    let count = ap pair_count long in
    let inside : c.place_of_pair-place.result < length c.args.self.now.pairs.items = omega (arith, c.place_of_pair-place.ensures.inside, c.requires.room.whole) in
    let leaves = room-leaves (instance_gathered c.args.self.now) c.args.weight c.requires.room in
    let old : c.index.result.now ≡ get_or c.args.self.now.pairs.items c.place_of_pair-place.result no_pair =
    c.index.ensures ∙ get_or_default c.args.self.now.pairs.items c.place_of_pair-place.result c.index.result.now no_pair inside in
    let read : to_z w64 (of_z w64 c.args.weight) ≡ c.args.weight = omega (arith, ints, leaves.low, leaves.high) in
    let value : c.pair_with.result ≡ heavier_pair (get_or c.args.self.now.pairs.items c.place_of_pair-place.result no_pair) c.args.a.positive c.args.b.positive c.args.weight =
    c.pair_with.ensures ∙ (rw (old, read) refl) in
    let start = ap (λ n. entries_before n c.args.a.variable) long in
    let place : c.place_of_pair-place.result ≡ place_of (length c.args.self.now.units.items) c.args.a.variable c.args.b.variable = omega (arith, c.place_of_pair-place.ensures.place, c.requires.lesser) in
    rw (value, place) refl
