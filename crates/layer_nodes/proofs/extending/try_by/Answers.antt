use Rattle.std.proofs.Common.{rules, ◌≡◌, ℕ, ◌<◌, Bool, List, [], ◌∷◌, ◌++◌, length, take, drop, refl, sym, ap, ap₂, subst, ◌∙◌, arith}
use Rattle.std.proofs.lemmas.List.{length-set, map-append, with_items_is}
use Rattle.layer_candidates.specs.Ways.{way_row}
use Rattle.layer_nodes.specs.declared.routing.StoredArc.{StoredArc}
use Rattle.layer_nodes.specs.Routing.{to_way, to_ways}
use Rattle.layer_nodes.specs.Expanding.{trial, arc_to, marked, AreTried}
use Rattle.layer_nodes.proofs.Tried.{trials-one, placed-low, tried-more, tried-none}
use Rattle.layer_nodes.proofs.extending.try_by.Goals as goal

pub returns-clause-tried : goal.returns-clause-tried
returns-clause-tried g c = λ ts h.
    let dp = g.M.DpModel.meaning (g.M.DpModel.numbers c.args.model.now) in
    let a = c.args in
    let e = c.extend_by in
    let row = way_row a.region.now a.found.now.table.ways.items in
    let row2 = way_row e.new.region e.new.table.ways.items in
    let taken = c.in-Some.taken in
    let told = c.in-Some.ensures in
    let t = trial a.attempt.parent.state.now a.attempt.exact a.attempt.decision in
    let size : c.len-count.result ≡ length a.found.now.table.ways.items = search rules in
    let low = placed-low dp a.k row2 (length a.found.now.table.ways.items) (length e.new.table.ways.items) t taken.place told.place in
    let stored : StoredArc = record { decision = a.attempt.decision; way = taken.place; gain = dp.gain a.k t.state t.decision } in
    let pushed : c.push_reserved.new.self.items ≡ a.arcs.now.items ++ stored ∷ [] = search rules in
    let arc : to_ways c.push_reserved.new.self.items ≡ to_ways a.arcs.now.items ++ arc_to dp a.k t taken.place ∷ [] =
    ap to_ways pushed ∙ map-append to_way a.arcs.now.items (stored ∷ []) in
    let room : taken.place < length a.found.now.marks.items = (let wide = c.requires.marks_room in omega arith) in
    let old = a.found.now.marks in
    let all = take old.len (c.mark.new.marks ++ drop (length c.mark.new.marks) old.items) in
    let is : c.mark.new.marks ≡ marked old.items (length a.found.now.table.ways.items) taken.place a.attempt.exact =
    c.mark.ensures ∙ ap₂ (λ (m : List Bool) (n : ℕ). marked m n taken.place a.attempt.exact) c.as_mut_slice.ensures.value size in
    let whole : length c.mark.new.marks ≡ old.len = ap length is ∙ (length-set old.items taken.place _ ∙ search rules) in
    let marks : all ≡ marked old.items (length a.found.now.table.ways.items) taken.place a.attempt.exact = with_items_is old c.mark.new.marks whole ∙ is in
    subst (λ us. AreTried dp a.k row2 (length e.new.table.ways.items) (ts ++ us) all (to_ways c.push_reserved.new.self.items)) (sym (trials-one dp a.k a.attempt.parent.state.now a.attempt.exact a.attempt.decision (sym told.allowed)))
    (subst (λ l. AreTried dp a.k row2 (length e.new.table.ways.items) (ts ++ t ∷ []) all l) (sym arc)
    (subst (λ m. AreTried dp a.k row2 (length e.new.table.ways.items) (ts ++ t ∷ []) m (to_ways a.arcs.now.items ++ arc_to dp a.k t taken.place ∷ [])) (sym marks)
    (tried-more dp a.k row row2 (length a.found.now.table.ways.items) (length e.new.table.ways.items) ts t taken.place a.found.now.marks.items (to_ways a.arcs.now.items)
    told.place told.before told.extended.joined.apart room h _ refl)))

pub returns-clause-marks : goal.returns-clause-marks
returns-clause-marks g c =
    let a = c.args in
    let old = a.found.now.marks in
    let place = c.in-Some.taken.place in
    let same : length c.mark.new.marks ≡ length old.items = ap length c.mark.ensures ∙ (length-set c.as_mut_slice.result.now place _ ∙ ap length c.as_mut_slice.ensures.value) in
    let whole : length c.mark.new.marks ≡ old.len = same ∙ search rules in
    ap length (with_items_is old c.mark.new.marks whole) ∙ same

pub returns-in_default-clause-tried : goal.returns-in_default-clause-tried
returns-in_default-clause-tried g c = λ ts h.
    let dp = g.M.DpModel.meaning (g.M.DpModel.numbers c.args.model.now) in
    let a = c.args in
    let e = c.extend_by in
    let told = c.in_default.ensures in
    tried-none dp a.k a.attempt.parent.step a.attempt.parent.state.now a.attempt.parent.value a.attempt.exact a.found.now.table.live a.attempt.decision (way_row a.region.now a.found.now.table.ways.items) (way_row e.new.region e.new.table.ways.items) a.found.now.table.ways.items e.new.table.ways.items e.new.table.hashes.items e.new.table.heads.items e.new.table.next.items
    ts a.found.now.marks.items (to_ways a.arcs.now.items) (sym told.allowed) told.extended told.before h
