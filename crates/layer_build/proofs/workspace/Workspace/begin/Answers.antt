use Rattle.std.proofs.Common.{◌≡◌, ℕ, ◌<◌, ◌≤◌, ℤ, List, [], ◌∷◌, None, map, length, vec_capacity, to_z, of_z, w64, FitsSigned, rules, sym, ap, ap₂, ◌∙◌, subst, arith}
use Rattle.std.proofs.lemmas.Int.{to_z-of_z}
use Rattle.dp_model.specs.Gaps.{IsStateOf}
use Rattle.dp_model.specs.Laws.{IsLawful}
use Rattle.dp_model.specs.Prefixes.{state_of, value_of}
use Rattle.dp_model.specs.Reached.{reached}
use Rattle.dp_model.specs.Subproblem.{SubView}
use Rattle.dp_model.proofs.Paths.{state_of-state, IsPrefix-length}
use Rattle.dp_laws.specs.Diagrams.Nodes.{DdNode}
use Rattle.dp_laws.specs.Rules.Compiling.{start_layer}
use Rattle.layer_nodes.specs.Holding.{HasStarted}
use Rattle.layer_nodes.specs.Nodes.{Told, told_by, told_of}
use Rattle.row_region.specs.Region.{RegionView}
use Rattle.layer_build.specs.Layers.{SpaceView}
use Rattle.layer_build.specs.Stacked.{HasSpace, shown_stack}
use Rattle.layer_build.specs.UnderWay.{IsUnderWay}
use Rattle.layer_build.specs.contracts.workspace.Workspace.{the_view}
use Rattle.layer_build.proofs.Held.{rows-cleared}
use Rattle.layer_build.proofs.Kept.{start-under-way}
use Rattle.layer_build.proofs.Starting.{started, started-layers, started-space}
use Rattle.layer_build.proofs.workspace.Workspace.begin.Given as given
use Rattle.layer_build.proofs.workspace.Workspace.begin.Goals as goal

laws_of : (g : given.Over) (m : g.row.M.Denot) → IsLawful (g.M.DpModel.meaning (g.M.DpModel.numbers m))
laws_of g m = (g.met.M.DpModel g.world.𝓛 g.world.𝓜 g.world.𝓡 ((λ s x. x), (λ x. x), (λ x. x), λ x. x)).lawful m

pub rank-rank-requires : goal.rank-rank-requires
rank-rank-requires g c =
    let dp = g.M.DpModel.meaning (g.M.DpModel.numbers c.args.model.now) in
    let p = c.args.sub.now.subproblem.decisions in
    let low = IsPrefix-length dp p c.requires.prefix in
    let decisions : c.sub.inside.decisions.items ≡ p = ap (λ (s : SubView). s.subproblem.decisions) c.sub.view_is in
    let size : c.len-first.result ≡ length c.sub.inside.decisions.items = search rules in
    let first : c.len-first.result ≡ length p = size ∙ ap (λ (l : List ℕ). length l) decisions in
    let laws = laws_of g c.args.model.now in
    let row : c.as_slice.result.now ≡ state_of dp p = c.as_slice.ensures.value ∙ (ap (λ (s : SubView). s.subproblem.row) c.sub.view_is ∙ c.requires.row) in
    subst (λ (k : ℕ). IsStateOf dp k c.as_slice.result.now) (sym first) (subst (IsStateOf dp (length p)) (sym row) (state_of-state dp laws.states p c.requires.prefix))

pub hash-hash-requires : goal.hash-hash-requires
hash-hash-requires g c =
    let dp = g.M.DpModel.meaning (g.M.DpModel.numbers c.args.model.now) in
    let p = c.args.sub.now.subproblem.decisions in
    let low = IsPrefix-length dp p c.requires.prefix in
    let decisions : c.sub.inside.decisions.items ≡ p = ap (λ (s : SubView). s.subproblem.decisions) c.sub.view_is in
    let size : c.len-first.result ≡ length c.sub.inside.decisions.items = search rules in
    let first : c.len-first.result ≡ length p = size ∙ ap (λ (l : List ℕ). length l) decisions in
    let laws = laws_of g c.args.model.now in
    let row : c.as_slice-2.result.now ≡ state_of dp p = c.as_slice-2.ensures.value ∙ (ap (λ (s : SubView). s.subproblem.row) c.sub.view_is ∙ c.requires.row) in
    subst (λ (k : ℕ). IsStateOf dp k c.as_slice-2.result.now) (sym first) (subst (IsStateOf dp (length p)) (sym row) (state_of-state dp laws.states p c.requires.prefix))

pub write_all-requires : goal.write_all-requires
write_all-requires g c =
    let dp = g.M.DpModel.meaning (g.M.DpModel.numbers c.args.model.now) in
    let p = c.args.sub.now.subproblem.decisions in
    let low = IsPrefix-length dp p c.requires.prefix in
    let decisions : c.sub.inside.decisions.items ≡ p = ap (λ (s : SubView). s.subproblem.decisions) c.sub.view_is in
    let size : c.len-first.result ≡ length c.sub.inside.decisions.items = search rules in
    let first : c.len-first.result ≡ length p = size ∙ ap (λ (l : List ℕ). length l) decisions in
    let i = c.self.inside in let h = c.self.invariant in
    let vars : i.stack.vars ≡ dp.vars = ap (λ (s : SpaceView). s.vars) c.self.view_is ∙ c.requires.prepared.vars in
    let same = ap (λ (l : List ℕ). length l) c.as_slice-3.ensures.value in
    let long = ap (λ (l : List ℕ). length l) decisions in
    let fits = h.prefix_fits in
    omega arith

pub start-requires-clause-room : goal.start-requires-clause-room
start-requires-clause-room g c =
    let some = c.requires.prepared.enough.some in
    let room = ap (λ (s : SpaceView). s.room) c.self.view_is in
    omega arith

pub start-requires-clause-cells : goal.start-requires-clause-cells
start-requires-clause-cells g c =
    let dp = g.M.DpModel.meaning (g.M.DpModel.numbers c.args.model.now) in
    let p = c.args.sub.now.subproblem.decisions in
    let low = IsPrefix-length dp p c.requires.prefix in
    let decisions : c.sub.inside.decisions.items ≡ p = ap (λ (s : SubView). s.subproblem.decisions) c.sub.view_is in
    let size : c.len-first.result ≡ length c.sub.inside.decisions.items = search rules in
    let first : c.len-first.result ≡ length p = size ∙ ap (λ (l : List ℕ). length l) decisions in
    let i = c.self.inside in let h = c.self.invariant in
    let vars : i.stack.vars ≡ dp.vars = ap (λ (s : SpaceView). s.vars) c.self.view_is ∙ c.requires.prepared.vars in
    let laws = laws_of g c.args.model.now in
    let row : c.as_slice-4.result.now ≡ state_of dp p = c.as_slice-4.ensures.value ∙ (ap (λ (s : SubView). s.subproblem.row) c.sub.view_is ∙ c.requires.row) in
    ap (λ (l : List ℤ). length l) row ∙ (laws.sizes.cells (length p) (state_of dp p) (state_of-state dp laws.states p c.requires.prefix)
    ∙ (sym (ap (λ (s : SpaceView). s.words) c.self.view_is ∙ c.requires.prepared.words) ∙ sym h.stack.newest_words))

pub start-requires-clause-words : goal.start-requires-clause-words
start-requires-clause-words g c = ap (λ (r : RegionView). r.words) c.clear.ensures ∙ (c.self.invariant.rows.words_are ∙ sym c.self.invariant.stack.newest_words)

pub start-requires-clause-spare : goal.start-requires-clause-spare
start-requires-clause-spare g c =
    let i = c.self.inside in
    subst (λ (n : ℕ). 0 < n) (sym (ap (λ (r : RegionView). r.spare) c.clear.ensures)) (rows-cleared i.words i.width i.held i.stack c.self.invariant.rows)

pub invariant_of-self : goal.invariant_of-self
invariant_of-self g c =
    let dp = g.M.DpModel.meaning (g.M.DpModel.numbers c.args.model.now) in
    let p = c.args.sub.now.subproblem.decisions in
    let low = IsPrefix-length dp p c.requires.prefix in
    let decisions : c.sub.inside.decisions.items ≡ p = ap (λ (s : SubView). s.subproblem.decisions) c.sub.view_is in
    let size : c.len-first.result ≡ length c.sub.inside.decisions.items = search rules in
    let first : c.len-first.result ≡ length p = size ∙ ap (λ (l : List ℕ). length l) decisions in
    let i = c.self.inside in let h = c.self.invariant in
    let vars : i.stack.vars ≡ dp.vars = ap (λ (s : SpaceView). s.vars) c.self.view_is ∙ c.requires.prepared.vars in
    let n = c.start.new.self in
    let row : c.as_slice-4.result.now ≡ state_of dp p = c.as_slice-4.ensures.value ∙ (ap (λ (s : SubView). s.subproblem.row) c.sub.view_is ∙ c.requires.row) in
    let fits-value : FitsSigned w64 c.sub.inside.value = search rules in
    let value : to_z w64 (of_z w64 c.sub.inside.value) ≡ value_of dp p = to_z-of_z w64 c.sub.inside.value fits-value ∙ (ap (λ (s : SubView). s.subproblem.value) c.sub.view_is ∙ c.requires.value) in
    let written : c.write_all.new.to.items ≡ p = c.write_all.ensures.items ∙ (c.as_slice-3.ensures.value ∙ decisions) in
    let seen = started-layers dp i p c.len-first.result n c.start.new.region c.as_slice-4.result.now (to_z w64 (of_z w64 c.sub.inside.value)) (to_z w64 (of_z w64 c.rank-rank.result)) c.hash-hash.result _ c.start.ensures.node row value in
    let room = c.write_all.ensures.room in
    let laws = laws_of g c.args.model.now in
    let long : length c.as_slice-4.result.now ≡ i.words = ap (λ (l : List ℤ). length l) row
    ∙ (laws.sizes.cells (length p) (state_of dp p) (state_of-state dp laws.states p c.requires.prefix) ∙ sym (ap (λ (s : SpaceView). s.words) c.self.view_is ∙ c.requires.prepared.words)) in
    let some : 1 ≤ i.stack.newest.nodes_room = (let most = c.requires.prepared.enough.some in let same = ap (λ (s : SpaceView). s.room) c.self.view_is in omega arith) in
    let fits = h.prefix_fits in
    subst (λ (q : List ℕ). HasSpace i.words i.width c.len-first.result i.choices.items q (vec_capacity c.write_all.new.to) (started i c.len-first.result n c.start.new.region) i.expansion i.redirects i.path.items i.beam) (sym written)
    (started-space dp i h p (vec_capacity c.write_all.new.to) c.len-first.result n c.start.new.region (omega arith) first (omega arith) c.start.ensures.rooms some
    c.as_slice-4.result.now (to_z w64 (of_z w64 c.sub.inside.value)) (to_z w64 (of_z w64 c.rank-rank.result)) c.hash-hash.result long (subst (λ (before : RegionView). HasStarted c.as_slice-4.result.now (to_z w64 (of_z w64 c.sub.inside.value)) (to_z w64 (of_z w64 c.rank-rank.result)) c.hash-hash.result before c.start.new.region n.nodes) c.clear.ensures c.start.ensures.node) seen)

pub returns-clause-layers : goal.returns-clause-layers
returns-clause-layers g c =
    let dp = g.M.DpModel.meaning (g.M.DpModel.numbers c.args.model.now) in
    let p = c.args.sub.now.subproblem.decisions in
    let low = IsPrefix-length dp p c.requires.prefix in
    let decisions : c.sub.inside.decisions.items ≡ p = ap (λ (s : SubView). s.subproblem.decisions) c.sub.view_is in
    let size : c.len-first.result ≡ length c.sub.inside.decisions.items = search rules in
    let first : c.len-first.result ≡ length p = size ∙ ap (λ (l : List ℕ). length l) decisions in
    let i = c.self.inside in let h = c.self.invariant in
    let vars : i.stack.vars ≡ dp.vars = ap (λ (s : SpaceView). s.vars) c.self.view_is ∙ c.requires.prepared.vars in
    let n = c.start.new.self in
    let row : c.as_slice-4.result.now ≡ state_of dp p = c.as_slice-4.ensures.value ∙ (ap (λ (s : SubView). s.subproblem.row) c.sub.view_is ∙ c.requires.row) in
    let fits-value : FitsSigned w64 c.sub.inside.value = search rules in
    let value : to_z w64 (of_z w64 c.sub.inside.value) ≡ value_of dp p = to_z-of_z w64 c.sub.inside.value fits-value ∙ (ap (λ (s : SubView). s.subproblem.value) c.sub.view_is ∙ c.requires.value) in
    let written : c.write_all.new.to.items ≡ p = c.write_all.ensures.items ∙ (c.as_slice-3.ensures.value ∙ decisions) in
    let seen = started-layers dp i p c.len-first.result n c.start.new.region c.as_slice-4.result.now (to_z w64 (of_z w64 c.sub.inside.value)) (to_z w64 (of_z w64 c.rank-rank.result)) c.hash-hash.result _ c.start.ensures.node row value in
    let here : the_view (record i { prefix = c.write_all.new.to; stack = started i c.len-first.result n c.start.new.region; first_reduced = None; held = c.len-first.result })
    ≡ record c.args.self.now { prefix = p; layers = start_layer (reached dp p) ∷ []; told = map told_by n.nodes; first_reduced = None; held = length p } =
    ap (λ (q : List ℕ). record (the_view i) { room = n.nodes_room; prefix = q; layers = shown_stack q (started i c.len-first.result n c.start.new.region); told = map told_by n.nodes; first_reduced = None; held = c.len-first.result }) written
    ∙ (ap (λ (k : ℕ). record (the_view i) { room = n.nodes_room; prefix = p; layers = shown_stack p (started i c.len-first.result n c.start.new.region); told = map told_by n.nodes; first_reduced = None; held = k }) first
    ∙ (ap₂ (λ (r : ℕ) (l : List (List DdNode)). record (the_view i) { room = r; prefix = p; layers = l; told = map told_by n.nodes; first_reduced = None; held = length p }) c.start.ensures.rooms.nodes_room seen
    ∙ ap (λ (s : SpaceView). record s { prefix = p; layers = start_layer (reached dp p) ∷ []; told = map told_by n.nodes; first_reduced = None; held = length p }) c.self.view_is)) in
    here

pub returns-clause-under_way : goal.returns-clause-under_way
returns-clause-under_way g c =
    let dp = g.M.DpModel.meaning (g.M.DpModel.numbers c.args.model.now) in
    let p = c.args.sub.now.subproblem.decisions in
    let low = IsPrefix-length dp p c.requires.prefix in
    let decisions : c.sub.inside.decisions.items ≡ p = ap (λ (s : SubView). s.subproblem.decisions) c.sub.view_is in
    let size : c.len-first.result ≡ length c.sub.inside.decisions.items = search rules in
    let first : c.len-first.result ≡ length p = size ∙ ap (λ (l : List ℕ). length l) decisions in
    let i = c.self.inside in let h = c.self.invariant in
    let vars : i.stack.vars ≡ dp.vars = ap (λ (s : SpaceView). s.vars) c.self.view_is ∙ c.requires.prepared.vars in
    let n = c.start.new.self in
    let row : c.as_slice-4.result.now ≡ state_of dp p = c.as_slice-4.ensures.value ∙ (ap (λ (s : SubView). s.subproblem.row) c.sub.view_is ∙ c.requires.row) in
    let fits-value : FitsSigned w64 c.sub.inside.value = search rules in
    let value : to_z w64 (of_z w64 c.sub.inside.value) ≡ value_of dp p = to_z-of_z w64 c.sub.inside.value fits-value ∙ (ap (λ (s : SubView). s.subproblem.value) c.sub.view_is ∙ c.requires.value) in
    let written : c.write_all.new.to.items ≡ p = c.write_all.ensures.items ∙ (c.as_slice-3.ensures.value ∙ decisions) in
    let seen = started-layers dp i p c.len-first.result n c.start.new.region c.as_slice-4.result.now (to_z w64 (of_z w64 c.sub.inside.value)) (to_z w64 (of_z w64 c.rank-rank.result)) c.hash-hash.result _ c.start.ensures.node row value in
    let here : the_view (record i { prefix = c.write_all.new.to; stack = started i c.len-first.result n c.start.new.region; first_reduced = None; held = c.len-first.result })
    ≡ record c.args.self.now { prefix = p; layers = start_layer (reached dp p) ∷ []; told = map told_by n.nodes; first_reduced = None; held = length p } =
    ap (λ (q : List ℕ). record (the_view i) { room = n.nodes_room; prefix = q; layers = shown_stack q (started i c.len-first.result n c.start.new.region); told = map told_by n.nodes; first_reduced = None; held = c.len-first.result }) written
    ∙ (ap (λ (k : ℕ). record (the_view i) { room = n.nodes_room; prefix = p; layers = shown_stack p (started i c.len-first.result n c.start.new.region); told = map told_by n.nodes; first_reduced = None; held = k }) first
    ∙ (ap₂ (λ (r : ℕ) (l : List (List DdNode)). record (the_view i) { room = r; prefix = p; layers = l; told = map told_by n.nodes; first_reduced = None; held = length p }) c.start.ensures.rooms.nodes_room seen
    ∙ ap (λ (s : SpaceView). record s { prefix = p; layers = start_layer (reached dp p) ∷ []; told = map told_by n.nodes; first_reduced = None; held = length p }) c.self.view_is)) in
    let laws = laws_of g c.args.model.now in
    let rank : c.rank-rank.result ≡ dp.rank (length p) (state_of dp p) = c.rank-rank.ensures ∙ (ap (λ (k : ℕ). dp.rank k c.as_slice.result.now) first
    ∙ ap (dp.rank (length p)) (c.as_slice.ensures.value ∙ (ap (λ (s : SubView). s.subproblem.row) c.sub.view_is ∙ c.requires.row))) in
    let fits-rank : FitsSigned w64 c.rank-rank.result = search rules in
    let hash : c.hash-hash.result ≡ dp.hash (length p) (state_of dp p) = c.hash-hash.ensures ∙ (ap (λ (k : ℕ). dp.hash k c.as_slice-2.result.now) first
    ∙ ap (dp.hash (length p)) (c.as_slice-2.ensures.value ∙ (ap (λ (s : SubView). s.subproblem.row) c.sub.view_is ∙ c.requires.row))) in
    let told : map told_by n.nodes ≡ told_of dp (length p) (state_of dp p) ∷ [] = ap (map told_by) c.start.ensures.node.nodes_are ∙ ap₂ (λ (r : ℤ) (h : ℕ). (let t : Told = record { rank = r; hash = h } in t) ∷ []) (to_z-of_z w64 c.rank-rank.result fits-rank ∙ rank) hash in
    subst (IsUnderWay dp) (sym here) (start-under-way dp laws c.args.self.now p (map told_by n.nodes) (length p) c.requires.prepared c.requires.prefix told)
