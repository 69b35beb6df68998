use Rattle.std.proofs.Common.{rules, ◌≡◌, ℕ, ◌+◌, ◌<◌, ◌+ℤ◌, ◌∷◌, ◌⊎◌, inl, inr, arith, length, refl, sym, ap, ap₂, subst, ◌∙◌}
use Rattle.dp_model.specs.Dp.{IsAllowed}
use Rattle.dp_model.specs.Laws.{IsLawful}
use Rattle.dp_model.specs.Lists.{Each}
use Rattle.dp_laws.specs.Restricted.Extensions.{joined}
use Rattle.layer_candidates.specs.HeldRows.{held_row}
use Rattle.layer_candidates.specs.Rows.{HasZeros}
use Rattle.layer_candidates.specs.Ways.{rows_of, way_row, IsWay, AreJoined}
use Rattle.layer_candidates.proofs.HeldRows.{exchange-then}
use Rattle.layer_candidates.proofs.Joined.{hashed-same, joined-same, reached-same}
use Rattle.layer_candidates.proofs.Extended.{written, rows-zeros, have-hash, is-way, way-reaches, extended-one, spotted}
use Rattle.layer_candidates.proofs.extending.extend_by.Given as given
use Rattle.layer_candidates.proofs.extending.extend_by.Goals as goal
use Rattle.row_region.specs.Region.{IsLive}

laws_of : (g : given.Over) (m : g.row.M.Denot) → IsLawful (g.M.DpModel.meaning (g.M.DpModel.numbers m))
laws_of g m = (g.met.M.DpModel g.world.𝓛 g.world.𝓜 g.world.𝓡 ((λ s x. x), (λ x. x), (λ x. x), λ x. x)).lawful m

placed : {n m place : ℕ} → ((place < n) × (m ≡ n)) ⊎ ((place ≡ n) × (m ≡ n + 1)) → place < m
placed (inl h) = let e = h.1 in let less = h.0 in omega arith
placed (inr h) = let e = h.1 in let same = h.0 in omega arith

pub take_in-place-requires-clause-table : goal.take_in-place-requires-clause-table
take_in-place-requires-clause-table g c = c.requires.joined.table

pub row_of-next-requires : goal.row_of-next-requires
row_of-next-requires g c =
    let dp = g.M.DpModel.meaning (g.M.DpModel.numbers c.args.model.now) in
    let a = c.args in
    let e = c.in_ok-gained.ensures in
    let allowed : IsAllowed dp a.k a.parent.state.now a.decision = record { layer = c.requires.layer; choice = c.requires.choice; test = sym e.allowed } in
    let w = written dp (laws_of g a.model.now) a.k a.parent.state.now a.decision a.region.now c.write_state.new.region a.spot.now.place a.table.now.ways.items c.requires.state allowed c.requires.held (e.written refl) in
    w.exchanged.live.live.0

pub next_hash-hash-requires : goal.next_hash-hash-requires
next_hash-hash-requires g c =
    let dp = g.M.DpModel.meaning (g.M.DpModel.numbers c.args.model.now) in
    let a = c.args in
    let e = c.in_ok-gained.ensures in
    let allowed : IsAllowed dp a.k a.parent.state.now a.decision = record { layer = c.requires.layer; choice = c.requires.choice; test = sym e.allowed } in
    let w = written dp (laws_of g a.model.now) a.k a.parent.state.now a.decision a.region.now c.write_state.new.region a.spot.now.place a.table.now.ways.items c.requires.state allowed c.requires.held (e.written refl) in
    record { state = c.requires.state; hash = c.requires.hash; allowed = allowed; next = c.row_of-next.ensures.row ∙ w.row }

pub take_in-place-requires-clause-hash : goal.take_in-place-requires-clause-hash
take_in-place-requires-clause-hash g c =
    let dp = g.M.DpModel.meaning (g.M.DpModel.numbers c.args.model.now) in
    let a = c.args in
    let e = c.in_ok-gained.ensures in
    let allowed : IsAllowed dp a.k a.parent.state.now a.decision = record { layer = c.requires.layer; choice = c.requires.choice; test = sym e.allowed } in
    let w = written dp (laws_of g a.model.now) a.k a.parent.state.now a.decision a.region.now c.write_state.new.region a.spot.now.place a.table.now.ways.items c.requires.state allowed c.requires.held (e.written refl) in
    let ways = a.table.now.ways.items in
    let mid = c.write_state.new.region in
    let row = ap (held_row mid) c.way_of-way.ensures.row ∙ w.row in
    let zeros : (i : ℕ) → i < length ways → HasZeros a.table.now.live (way_row mid ways i) = λ i less. subst (HasZeros a.table.now.live) (sym (w.rows i less)) (rows-zeros dp (a.k + 1) a.table.now.live (way_row a.region.now ways) ways c.requires.zeros c.requires.joined.good i less) in
    have-hash dp (a.k + 1) a.table.now.live (way_row mid ways) ways a.table.now.hashes.items (held_row mid c.way_of-way.result.row) c.way_of-way.result.hash
    (hashed-same (way_row a.region.now ways) (way_row mid ways) ways w.rows dp (a.k + 1) a.table.now.hashes.items c.requires.joined.hashed) zeros
    (subst (HasZeros a.table.now.live) (sym row) (c.requires.zeros (dp.step a.k a.parent.state.now a.decision) w.state))
    (c.way_of-way.ensures.hash ∙ (c.next_hash-hash.ensures ∙ ap (dp.hash (a.k + 1)) (c.row_of-next.ensures.row ∙ (w.row ∙ sym row))))

pub take_in-place-requires-clause-held : goal.take_in-place-requires-clause-held
take_in-place-requires-clause-held g c =
    let dp = g.M.DpModel.meaning (g.M.DpModel.numbers c.args.model.now) in
    let a = c.args in
    let e = c.in_ok-gained.ensures in
    let allowed : IsAllowed dp a.k a.parent.state.now a.decision = record { layer = c.requires.layer; choice = c.requires.choice; test = sym e.allowed } in
    let w = written dp (laws_of g a.model.now) a.k a.parent.state.now a.decision a.region.now c.write_state.new.region a.spot.now.place a.table.now.ways.items c.requires.state allowed c.requires.held (e.written refl) in
    subst (λ (p : ℕ). Each (IsLive c.write_state.new.region) (p ∷ rows_of a.table.now.ways.items)) (sym c.way_of-way.ensures.row) w.exchanged.live.live

pub take_in-place-requires-clause-zeros : goal.take_in-place-requires-clause-zeros
take_in-place-requires-clause-zeros g c =
    let dp = g.M.DpModel.meaning (g.M.DpModel.numbers c.args.model.now) in
    let a = c.args in
    let e = c.in_ok-gained.ensures in
    let allowed : IsAllowed dp a.k a.parent.state.now a.decision = record { layer = c.requires.layer; choice = c.requires.choice; test = sym e.allowed } in
    let w = written dp (laws_of g a.model.now) a.k a.parent.state.now a.decision a.region.now c.write_state.new.region a.spot.now.place a.table.now.ways.items c.requires.state allowed c.requires.held (e.written refl) in
    λ i less. subst (HasZeros a.table.now.live) (sym (w.rows i less)) (rows-zeros dp (a.k + 1) a.table.now.live (way_row a.region.now a.table.now.ways.items) a.table.now.ways.items c.requires.zeros c.requires.joined.good i less)

pub take_in-place-requires-clause-new_zeros : goal.take_in-place-requires-clause-new_zeros
take_in-place-requires-clause-new_zeros g c =
    let dp = g.M.DpModel.meaning (g.M.DpModel.numbers c.args.model.now) in
    let a = c.args in
    let e = c.in_ok-gained.ensures in
    let allowed : IsAllowed dp a.k a.parent.state.now a.decision = record { layer = c.requires.layer; choice = c.requires.choice; test = sym e.allowed } in
    let w = written dp (laws_of g a.model.now) a.k a.parent.state.now a.decision a.region.now c.write_state.new.region a.spot.now.place a.table.now.ways.items c.requires.state allowed c.requires.held (e.written refl) in
    subst (HasZeros a.table.now.live) (sym (ap (held_row c.write_state.new.region) c.way_of-way.ensures.row ∙ w.row)) (c.requires.zeros (dp.step a.k a.parent.state.now a.decision) w.state)

pub returns-clause-extended : goal.returns-clause-extended
returns-clause-extended g c =
    let dp = g.M.DpModel.meaning (g.M.DpModel.numbers c.args.model.now) in
    let a = c.args in
    let laws = laws_of g a.model.now in
    let ways = a.table.now.ways.items in
    let ways2 = c.take_in-place.new.self.ways.items in
    let mid = c.write_state.new.region in
    let new = c.next_spot.new.region in
    let e = c.in_ok-gained.ensures in
    let t = c.take_in-place.ensures in
    let h = c.way_of-way.ensures in
    let allowed : IsAllowed dp a.k a.parent.state.now a.decision = record { layer = c.requires.layer; choice = c.requires.choice; test = sym e.allowed } in
    let w = written dp laws a.k a.parent.state.now a.decision a.region.now mid a.spot.now.place ways c.requires.state allowed c.requires.held (e.written refl) in
    let value = h.value ∙ ap (λ z. a.parent.value +ℤ z) e.extended.0 in
    let way = is-way dp laws a.k a.parent.state.now a.decision c.way_of-way.result a.parent.value w.here allowed c.requires.value value (h.rank ∙ e.extended.1) (h.hash ∙ (c.next_hash-hash.ensures ∙ ap (dp.hash (a.k + 1)) (c.row_of-next.ensures.row ∙ w.row))) in
    let row = ap (held_row mid) h.row ∙ w.row in
    let was = joined-same (way_row a.region.now ways) (way_row mid ways) ways w.rows dp (a.k + 1) a.table.now.live a.table.now.hashes.items a.table.now.heads.items a.table.now.next.items c.requires.joined in
    let size : c.len-count.result ≡ length ways = search rules in
    let next = spotted mid new a.spot.now.place c.next_spot.new.spot.place c.way_of-way.result.row ways ways2 c.take_in-place.result c.len-count.result w.exchanged.live h.row size t.place.grown t.new t.old c.next_spot.ensures.kept c.next_spot.ensures.left in
    extended-one dp a.k a.parent.step a.parent.state.now a.parent.value a.table.now.live a.decision (way_row a.region.now ways) (way_row new ways2) ways ways2 c.take_in-place.new.self.hashes.items c.take_in-place.new.self.heads.items c.take_in-place.new.self.next.items
    (sym e.allowed)
    (joined-same (way_row mid ways2) (way_row new ways2) ways2 next.rows dp (a.k + 1) a.table.now.live c.take_in-place.new.self.hashes.items c.take_in-place.new.self.heads.items c.take_in-place.new.self.next.items
    (subst (λ v. AreJoined dp (a.k + 1) (way_row mid ways2) v ways2 c.take_in-place.new.self.hashes.items c.take_in-place.new.self.heads.items c.take_in-place.new.self.next.items) t.live
    (t.joined dp (a.k + 1) was (subst (λ r. IsWay dp (a.k + 1) r c.way_of-way.result) (sym row) way))))
    (λ paths. reached-same (way_row mid ways2) (way_row new ways2) ways2 next.rows paths ∙ (t.list paths was.apart
    ∙ ap₂ joined (reached-same (way_row a.region.now ways) (way_row mid ways) ways w.rows paths) (way-reaches dp a.k paths _ a.parent.state.now a.decision a.parent.step c.way_of-way.result a.parent.value row value h.parent h.decision)))
    t.few

pub returns-clause-exchanged : goal.returns-clause-exchanged
returns-clause-exchanged g c =
    let dp = g.M.DpModel.meaning (g.M.DpModel.numbers c.args.model.now) in
    let a = c.args in
    let ways = a.table.now.ways.items in
    let ways2 = c.take_in-place.new.self.ways.items in
    let mid = c.write_state.new.region in
    let new = c.next_spot.new.region in
    let e = c.in_ok-gained.ensures in
    let t = c.take_in-place.ensures in
    let h = c.way_of-way.ensures in
    let allowed : IsAllowed dp a.k a.parent.state.now a.decision = record { layer = c.requires.layer; choice = c.requires.choice; test = sym e.allowed } in
    let w = written dp (laws_of g a.model.now) a.k a.parent.state.now a.decision a.region.now mid a.spot.now.place ways c.requires.state allowed c.requires.held (e.written refl) in
    let size : c.len-count.result ≡ length ways = search rules in
    let next = spotted mid new a.spot.now.place c.next_spot.new.spot.place c.way_of-way.result.row ways ways2 c.take_in-place.result c.len-count.result w.exchanged.live h.row size t.place.grown t.new t.old c.next_spot.ensures.kept c.next_spot.ensures.left in
    exchange-then a.region.now mid new (a.spot.now.place ∷ rows_of ways) (a.spot.now.place ∷ rows_of ways) (c.next_spot.new.spot.place ∷ rows_of ways2) w.exchanged next.exchanged

pub returns-clause-before : goal.returns-clause-before
returns-clause-before g c =
    let dp = g.M.DpModel.meaning (g.M.DpModel.numbers c.args.model.now) in
    let a = c.args in
    let ways = a.table.now.ways.items in
    let ways2 = c.take_in-place.new.self.ways.items in
    let mid = c.write_state.new.region in
    let new = c.next_spot.new.region in
    let e = c.in_ok-gained.ensures in
    let t = c.take_in-place.ensures in
    let h = c.way_of-way.ensures in
    let allowed : IsAllowed dp a.k a.parent.state.now a.decision = record { layer = c.requires.layer; choice = c.requires.choice; test = sym e.allowed } in
    let w = written dp (laws_of g a.model.now) a.k a.parent.state.now a.decision a.region.now mid a.spot.now.place ways c.requires.state allowed c.requires.held (e.written refl) in
    let size : c.len-count.result ≡ length ways = search rules in
    let next = spotted mid new a.spot.now.place c.next_spot.new.spot.place c.way_of-way.result.row ways ways2 c.take_in-place.result c.len-count.result w.exchanged.live h.row size t.place.grown t.new t.old c.next_spot.ensures.kept c.next_spot.ensures.left in
    λ i less. next.before i less ∙ w.rows i less

pub returns-clause-place : goal.returns-clause-place
returns-clause-place g c =
    let dp = g.M.DpModel.meaning (g.M.DpModel.numbers c.args.model.now) in
    let a = c.args in
    let ways = a.table.now.ways.items in
    let ways2 = c.take_in-place.new.self.ways.items in
    let mid = c.write_state.new.region in
    let new = c.next_spot.new.region in
    let e = c.in_ok-gained.ensures in
    let t = c.take_in-place.ensures in
    let h = c.way_of-way.ensures in
    let allowed : IsAllowed dp a.k a.parent.state.now a.decision = record { layer = c.requires.layer; choice = c.requires.choice; test = sym e.allowed } in
    let w = written dp (laws_of g a.model.now) a.k a.parent.state.now a.decision a.region.now mid a.spot.now.place ways c.requires.state allowed c.requires.held (e.written refl) in
    let size : c.len-count.result ≡ length ways = search rules in
    let next = spotted mid new a.spot.now.place c.next_spot.new.spot.place c.way_of-way.result.row ways ways2 c.take_in-place.result c.len-count.result w.exchanged.live h.row size t.place.grown t.new t.old c.next_spot.ensures.kept c.next_spot.ensures.left in
    record { same = next.rows c.take_in-place.result (placed t.place.grown) ∙ (t.place.same ∙ (ap (held_row mid) h.row ∙ w.row)); grown = t.place.grown }
