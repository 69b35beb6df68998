use Rattle.std.proofs.Common.{vec_capacity, ◌<◌, length, Some, nat_eq, subst, sym, ◌∙◌, ap, arith}
use Rattle.indexmap.specs.IndexMap.{get}
use Rattle.dominance_table.specs.Groups.{GroupsView, AreChained, HasRunHeadRoom, IsAppended, ends_after}
use Rattle.dominance_table.proofs.Chains.{chained_longer, chained_more}
use Rattle.dominance_table.proofs.groups.Groups.enter.Goals as goal

pub invariant_of-self : goal.invariant_of-self
invariant_of-self c =
    let longer = c.lengthen.ensures.longer c.if-lengthen.true in
    let room = c.self.invariant.1 in
    let len = longer.len in
    let capacity = c.lengthen.ensures.capacity in (
      chained_longer _ _ _ _ _ _ c.self.invariant.0 longer,
      record { placed = omega (arith, room.placed); runs_room = omega (arith, room.runs_room); heads_room = omega (arith, room.heads_room) },
    )

pub invariant_of-self-2 : goal.invariant_of-self-2
invariant_of-self-2 c =
    let heads = c.self.inside.heads in
    let fold = c.group_fold-fold.result in
    let same = c.lengthen.ensures.kept c.if-lengthen.false in
    let runs = c.lengthen.new.runs in
    let chained = subst (λ v. AreChained heads v.items) (sym same) c.self.invariant.0 in
    let room = subst (λ v. HasRunHeadRoom heads v.items c.self.inside.room (vec_capacity v)) (sym same) c.self.invariant.1 in
    let appended = subst (λ o. IsAppended runs.items c.append.new.runs.items o fold) c.set_last-last.ensures.was c.append.ensures.appended in
    let place = c.len.ensures ∙ runs.ok.0 in
    let ends = c.set_last-last.ensures.ends ∙ ap (λ n. Some (ends_after (get nat_eq heads fold) n)) place in
    let len = appended.entered.len in
    let left = c.set_last-last.ensures.room in
    let capacity = c.append.ensures.capacity in
    let more = subst (λ (g : GroupsView). length g.runs < g.room) (sym c.self.view_is) c.requires in
    let free = subst (λ v. length v.items < c.self.inside.room) (sym same) more in (
      chained_more heads c.set_last-last.new.heads runs.items c.append.new.runs.items fold chained appended ends c.set_last-last.ensures.others,
      record { placed = omega (arith, free); runs_room = omega (arith, room.runs_room, free); heads_room = omega (arith, room.heads_room, free) },
    )
