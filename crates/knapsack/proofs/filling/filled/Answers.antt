use Rattle.std.proofs.Common.{◌≡◌, ◌-◌, arith, ap, sym, ◌∙◌, subst}
use Rattle.std.specs.List.Sorted.{IsNonDecreasing}
use Rattle.knapsack.specs.Order.{fill}
use Rattle.knapsack.proofs.RunLemmas.{last_begun, last_run, weights-rise}
use Rattle.knapsack.proofs.filling.filled.Goals as goal

pub count_within-place-requires : goal.count_within-place-requires
count_within-place-requires c = subst IsNonDecreasing (sym (c.deref.ensures.value ∙ c.requires.are.weights)) (weights-rise 0 c.requires.items)

pub overflow_sub-place : goal.overflow_sub-place
overflow_sub-place c =
    (last_begun c.requires.items c.args.runs.now c.args.room c.count_within-place.result c.deref.result.now c.requires.small c.requires.are c.deref.ensures.value c.count_within-place.ensures.within c.count_within-place.ensures.point).some

pub index-begun-requires : goal.index-begun-requires
index-begun-requires c =
    let last = last_begun c.requires.items c.args.runs.now c.args.room c.count_within-place.result c.deref.result.now c.requires.small c.requires.are c.deref.ensures.value c.count_within-place.ensures.within c.count_within-place.ensures.point in
    let within = last.begun in
    omega arith

pub index-requires : goal.index-requires
index-requires c =
    let last = last_begun c.requires.items c.args.runs.now c.args.room c.count_within-place.result c.deref.result.now c.requires.small c.requires.are c.deref.ensures.value c.count_within-place.ensures.within c.count_within-place.ensures.point in
    let within = last.weight in
    omega arith

pub overflow_sub-room : goal.overflow_sub-room
overflow_sub-room c =
    let last = last_begun c.requires.items c.args.runs.now c.args.room c.count_within-place.result c.deref.result.now c.requires.small c.requires.are c.deref.ensures.value c.count_within-place.ensures.within c.count_within-place.ensures.point in
    (last_run c.requires.items c.args.runs.now c.args.room c.count_within-place.result c.index.result.now c.index-begun.result.now last c.index.ensures c.index-begun.ensures).begins

pub part-requires : goal.part-requires
part-requires c =
    let last = last_begun c.requires.items c.args.runs.now c.args.room c.count_within-place.result c.deref.result.now c.requires.small c.requires.are c.deref.ensures.value c.count_within-place.ensures.within c.count_within-place.ensures.point in
    (last_run c.requires.items c.args.runs.now c.args.room c.count_within-place.result c.index.result.now c.index-begun.result.now last c.index.ensures c.index-begun.ensures).part

pub overflow_add-result : goal.overflow_add-result
overflow_add-result c =
    let last = last_begun c.requires.items c.args.runs.now c.args.room c.count_within-place.result c.deref.result.now c.requires.small c.requires.are c.deref.ensures.value c.count_within-place.ensures.within c.count_within-place.ensures.point in
    let before = (last_run c.requires.items c.args.runs.now c.args.room c.count_within-place.result c.index.result.now c.index-begun.result.now last c.index.ensures c.index-begun.ensures).before in
    omega (arith, c.requires.small.count, c.part.ensures.small)

pub returns : goal.returns
returns c items small are =
    let last = last_begun items c.args.runs.now c.args.room c.count_within-place.result c.deref.result.now small are c.deref.ensures.value c.count_within-place.ensures.within c.count_within-place.ensures.point in
    let value = (last_run items c.args.runs.now c.args.room c.count_within-place.result c.index.result.now c.index-begun.result.now last c.index.ensures c.index-begun.ensures).value in
    let part = c.part.ensures.value in
    let room : c.args.room - 0 ≡ c.args.room = omega arith in
    omega (arith, ap (fill items) room)
