use Rattle.std.proofs.Common.{◌≢◌, ◌<◌, length, sym, ap, subst, arith}
use Rattle.std.proofs.lemmas.List.Sorted.{length_permutation}
use Rattle.dp_model.specs.Laws.{IsLawful}
use Rattle.dp_model.specs.Lists.{Each}
use Rattle.dp_laws.specs.Pairs.{EachTwo}
use Rattle.layer_candidates.specs.declared.key.Key.{Key}
use Rattle.layer_candidates.specs.HeldRows.{AreLive}
use Rattle.layer_candidates.specs.KeyOrder.{key_rows}
use Rattle.layer_nodes.specs.Expanding.{HaveParents}
use Rattle.layer_nodes.specs.Reducing.{IsKeyNode}
use Rattle.layer_nodes.proofs.Listed.{listed-live, listed-zeros, listed-within, listed-nodes, listed-moved}
use Rattle.layer_nodes.proofs.numbering.Arrangement.merge.Given as given
use Rattle.layer_nodes.proofs.numbering.Arrangement.merge.Goals as goal

laws_of : (g : given.Over) (m : g.row.M.Denot) → IsLawful (g.M.DpModel.meaning (g.M.DpModel.numbers m))
laws_of g m = (g.met.M.DpModel g.world.𝓛 g.world.𝓜 g.world.𝓡 ((λ s x. x), (λ x. x), (λ x. x), λ x. x)).lawful m

pub sort_first-requires-clause-held : goal.sort_first-requires-clause-held
sort_first-requires-clause-held g c =
    let dp = g.M.DpModel.meaning (g.M.DpModel.numbers c.args.model.now) in
    let a = c.args in
    listed-live dp a.k a.region.now a.self.now.found.table.ways.items a.self.now.keys.items c.requires.listed

pub sort_first-requires-clause-zeros : goal.sort_first-requires-clause-zeros
sort_first-requires-clause-zeros g c =
    let dp = g.M.DpModel.meaning (g.M.DpModel.numbers c.args.model.now) in
    let a = c.args in
    listed-zeros dp a.k a.region.now a.self.now.found.table.ways.items a.self.now.keys.items c.requires.listed c.first_live.result c.first_live.ensures.zeros

pub merge_keys-requires-clause-some : goal.merge_keys-requires-clause-some
merge_keys-requires-clause-some g c =
    let long = length_permutation c.args.self.now.keys.items c.sort_first.new.keys.items c.sort_first.ensures.all in
    let size = ap length c.as_slice-keys.ensures.value in
    let some = c.requires.some in
    omega arith

pub merge_keys-requires-clause-keys : goal.merge_keys-requires-clause-keys
merge_keys-requires-clause-keys g c κs within =
    let dp = g.M.DpModel.meaning (g.M.DpModel.numbers c.args.model.now) in
    let a = c.args in
    let ways = a.self.now.found.table.ways.items in
    let keys = c.sort_first.new.keys.items in
    let h = listed-moved dp a.k a.region.now ways a.self.now.keys.items c.requires.listed keys c.sort_first.ensures.all in
    subst (Each (IsKeyNode dp a.k a.region.now)) (sym c.as_slice-keys.ensures.value) (listed-nodes dp a.k a.region.now ways keys h (laws_of g a.model.now) c.requires.words)

pub merge_keys-requires-clause-live : goal.merge_keys-requires-clause-live
merge_keys-requires-clause-live g c κs within =
    let dp = g.M.DpModel.meaning (g.M.DpModel.numbers c.args.model.now) in
    let a = c.args in
    let ways = a.self.now.found.table.ways.items in
    let keys = c.sort_first.new.keys.items in
    let h = listed-moved dp a.k a.region.now ways a.self.now.keys.items c.requires.listed keys c.sort_first.ensures.all in
    subst (λ l. AreLive a.region.now (key_rows l)) (sym c.as_slice-keys.ensures.value) h.live

pub merge_keys-requires-clause-ways : goal.merge_keys-requires-clause-ways
merge_keys-requires-clause-ways g c κs within =
    let dp = g.M.DpModel.meaning (g.M.DpModel.numbers c.args.model.now) in
    let a = c.args in
    let ways = a.self.now.found.table.ways.items in
    let keys = c.sort_first.new.keys.items in
    let h = listed-moved dp a.k a.region.now ways a.self.now.keys.items c.requires.listed keys c.sort_first.ensures.all in
    let size = ap length c.as_slice-ways.ensures.value in
    subst (Each (λ (key : Key). key.place < length c.as_slice-ways.result.now)) (sym c.as_slice-keys.ensures.value)
    (listed-within dp a.k a.region.now ways keys h (length c.as_slice-ways.result.now) (omega arith))

pub merge_keys-requires-clause-parents : goal.merge_keys-requires-clause-parents
merge_keys-requires-clause-parents g c κs within = subst HaveParents (sym c.as_slice-ways.ensures.value) c.requires.parents

pub merge_keys-requires-clause-marks : goal.merge_keys-requires-clause-marks
merge_keys-requires-clause-marks g c κs within =
    let dp = g.M.DpModel.meaning (g.M.DpModel.numbers c.args.model.now) in
    let a = c.args in
    let ways = a.self.now.found.table.ways.items in
    let keys = c.sort_first.new.keys.items in
    let h = listed-moved dp a.k a.region.now ways a.self.now.keys.items c.requires.listed keys c.sort_first.ensures.all in
    let size = ap length c.as_slice-marks.ensures.value in
    let room = c.requires.marks_room in
    subst (Each (λ (key : Key). key.place < length c.as_slice-marks.result.now)) (sym c.as_slice-keys.ensures.value)
    (listed-within dp a.k a.region.now ways keys h (length c.as_slice-marks.result.now) (omega arith))

pub merge_keys-requires-clause-apart : goal.merge_keys-requires-clause-apart
merge_keys-requires-clause-apart g c κs within =
    let dp = g.M.DpModel.meaning (g.M.DpModel.numbers c.args.model.now) in
    let a = c.args in
    let ways = a.self.now.found.table.ways.items in
    let keys = c.sort_first.new.keys.items in
    let h = listed-moved dp a.k a.region.now ways a.self.now.keys.items c.requires.listed keys c.sort_first.ensures.all in
    subst (EachTwo (λ (a b : Key). a.place ≢ b.place)) (sym c.as_slice-keys.ensures.value) h.apart

pub merge_keys-requires-clause-small : goal.merge_keys-requires-clause-small
merge_keys-requires-clause-small g c =
    let long = length_permutation c.args.self.now.keys.items c.sort_first.new.keys.items c.sort_first.ensures.all in
    let size = ap length c.as_slice-keys.ensures.value in
    let few = c.requires.listed.few in
    let small = c.requires.small in
    omega arith

pub merge_keys-requires-clause-nodes_room : goal.merge_keys-requires-clause-nodes_room
merge_keys-requires-clause-nodes_room g c =
    let long = length_permutation c.args.self.now.keys.items c.sort_first.new.keys.items c.sort_first.ensures.all in
    let size = ap length c.as_slice-keys.ensures.value in
    let few = c.requires.listed.few in
    let room = c.requires.nodes_room in
    omega arith
