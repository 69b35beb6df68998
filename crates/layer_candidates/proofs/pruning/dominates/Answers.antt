use Rattle.std.proofs.Common.{◌≡◌, ◌-ℤ◌, None, is_some, w64, sym, ap, ap₂, ◌∙◌}
use Rattle.std.proofs.lemmas.Int.{to_z-of_z}
use Rattle.dp_model.specs.Gaps.{within}
use Rattle.layer_candidates.specs.HeldRows.{held_row}
use Rattle.layer_candidates.proofs.Pruned.{covered}
use Rattle.layer_candidates.proofs.pruning.dominates.Goals as goal

pub returns : goal.returns
returns g c =
    let dp = g.M.DpModel.meaning (g.M.DpModel.numbers c.args.model.now) in
    let a = c.args in
    let gap = dp.gap a.k (held_row a.region.now a.leader.row) (held_row a.region.now a.key.row) in
    let is : c.covers_within.result ≡ within (a.leader.value -ℤ a.key.value) gap =
    c.covers_within.ensures ∙ ap₂ within (to_z-of_z w64 c.room-most.result (record { sfits = c.room-most.type_inv }) ∙ c.room-most.ensures) (ap₂ (dp.gap a.k) c.row_of-a.ensures.row c.row_of-s.ensures.row) in
    c.is_some.ensures ∙ (ap is_some is ∙ covered gap a.leader.value a.key.value)

pub returns-then-not-may_cover : goal.returns-then-not-may_cover
returns-then-not-may_cover g c =
    let dp = g.M.DpModel.meaning (g.M.DpModel.numbers c.args.model.now) in
    let a = c.args in
    let gap = dp.gap a.k (held_row a.region.now a.leader.row) (held_row a.region.now a.key.row) in
    let refused = c.may_cover.ensures c.if-not-may_cover.true in
    let is : within (a.leader.value -ℤ a.key.value) gap ≡ None =
    sym (ap₂ within (to_z-of_z w64 c.room-most.result (record { sfits = c.room-most.type_inv }) ∙ c.room-most.ensures) (ap₂ (dp.gap a.k) c.row_of-a.ensures.row c.row_of-s.ensures.row)) ∙ refused in
    sym (ap is_some is) ∙ covered gap a.leader.value a.key.value
