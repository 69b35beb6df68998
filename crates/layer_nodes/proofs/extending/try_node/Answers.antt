use Rattle.std.proofs.Common.{◌≡◌, ◌+◌, ◌≤◌, ◌++◌, [], ◌∷◌, length, map, append_assoc, IsTrue, refl, sym, ap, subst, ◌∙◌, arith}
use Rattle.std.proofs.lemmas.List.{append-nil}
use Rattle.dp_model.specs.Decisions.{below}
use Rattle.dp_laws.proofs.Diagrams.Places.{length-below}
use Rattle.layer_candidates.specs.Ways.{way_row, IsNear, AllHaveZeros, AreJoined}
use Rattle.layer_candidates.proofs.Extended.{allowed-skipped, extending-first, extending-more, extending-spare, extending-few, extending-all}
use Rattle.layer_candidates.proofs.WayTables.{room-kept, keeps-self, keeps-then, took-in-as}
use Rattle.layer_nodes.specs.Expanding.{trial, trials_by, AreTried}
use Rattle.layer_nodes.specs.Routing.{to_ways}
use Rattle.layer_nodes.proofs.Tried.{trials-next}
use Rattle.layer_nodes.proofs.extending.try_node.Goals as goal

pub try_by-requires-clause-room : goal.try_by-requires-clause-room
try_by-requires-clause-room g c κs within =
    let dp = g.M.DpModel.meaning (g.M.DpModel.numbers c.args.model.now) in
    let a = c.args in let l = c.decisions in
    let less = c.decisions-test.true in
    let choices = c.choices-choices.ensures in
    let few = extending-few dp a.k a.node.member.step a.node.state.now a.node.member.value a.found.now.table.live a.region.now a.spot.now.place a.found.now.table.ways.items l.decision l.region l.spot.place l.found.table.ways.items l.found.table.hashes.items l.found.table.heads.items l.found.table.next.items l.invariant.extending (omega arith) in
    room-kept (length l.found.table.ways.items + 1) (length a.found.now.table.ways.items + dp.choices a.k) a.found.now.table l.found.table l.invariant.room few c.requires.room

pub try_by-requires-clause-joined : goal.try_by-requires-clause-joined
try_by-requires-clause-joined g c κs within =
    let dp = g.M.DpModel.meaning (g.M.DpModel.numbers c.args.model.now) in
    let a = c.args in let l = c.decisions in let t = l.found.table in
    subst (λ v. AreJoined dp (a.k + 1) (way_row l.region t.ways.items) v t.ways.items t.hashes.items t.heads.items t.next.items) (sym l.invariant.live) l.invariant.extending.extended.joined

pub try_by-requires-clause-state : goal.try_by-requires-clause-state
try_by-requires-clause-state g c κs within =
    let dp = g.M.DpModel.meaning (g.M.DpModel.numbers c.args.model.now) in
    subst (λ r. IsTrue (dp.is_state c.args.k r)) (sym c.of-from.ensures.state) c.requires.state

pub try_by-requires-clause-value : goal.try_by-requires-clause-value
try_by-requires-clause-value g c κs within = subst IsNear (sym c.of-from.ensures.value) c.requires.value

pub try_by-requires-clause-rank : goal.try_by-requires-clause-rank
try_by-requires-clause-rank g c κs within =
    let dp = g.M.DpModel.meaning (g.M.DpModel.numbers c.args.model.now) in
    c.of-from.ensures.rank ∙ (c.requires.rank ∙ ap (dp.rank c.args.k) (sym c.of-from.ensures.state))

pub try_by-requires-clause-hash : goal.try_by-requires-clause-hash
try_by-requires-clause-hash g c κs within =
    let dp = g.M.DpModel.meaning (g.M.DpModel.numbers c.args.model.now) in
    c.of-from.ensures.hash ∙ (c.requires.hash ∙ ap (dp.hash c.args.k) (sym c.of-from.ensures.state))

pub try_by-requires-clause-live : goal.try_by-requires-clause-live
try_by-requires-clause-live g c κs within =
    let dp = g.M.DpModel.meaning (g.M.DpModel.numbers c.args.model.now) in
    subst (λ v. v ≤ dp.words) (sym c.decisions.invariant.live) c.requires.live

pub try_by-requires-clause-zeros : goal.try_by-requires-clause-zeros
try_by-requires-clause-zeros g c κs within =
    let dp = g.M.DpModel.meaning (g.M.DpModel.numbers c.args.model.now) in
    subst (AllHaveZeros dp (c.args.k + 1)) (sym c.decisions.invariant.live) c.requires.zeros

pub try_by-requires-clause-words : goal.try_by-requires-clause-words
try_by-requires-clause-words g c κs within = c.decisions.invariant.extending.exchanged.words ∙ c.requires.words

pub try_by-requires-clause-held : goal.try_by-requires-clause-held
try_by-requires-clause-held g c κs within = c.decisions.invariant.extending.exchanged.live

pub try_by-requires-clause-spare : goal.try_by-requires-clause-spare
try_by-requires-clause-spare g c κs within =
    let dp = g.M.DpModel.meaning (g.M.DpModel.numbers c.args.model.now) in
    let a = c.args in let l = c.decisions in
    let less = c.decisions-test.true in
    let choices = c.choices-choices.ensures in
    extending-spare dp a.k a.node.member.step a.node.state.now a.node.member.value a.found.now.table.live a.region.now a.spot.now.place a.found.now.table.ways.items l.decision l.region l.spot.place l.found.table.ways.items l.found.table.hashes.items l.found.table.heads.items l.found.table.next.items l.invariant.extending (omega arith) c.requires.spare

pub try_by-requires-clause-marks_room : goal.try_by-requires-clause-marks_room
try_by-requires-clause-marks_room g c κs within =
    let less = c.decisions-test.true in
    let choices = c.choices-choices.ensures in
    let few = c.decisions.invariant.extending.extended.few in
    let count = length-below c.decisions.decision in
    let same = c.decisions.invariant.marks in
    let room = c.requires.marks_room in
    omega arith

pub try_by-requires-clause-arcs_room : goal.try_by-requires-clause-arcs_room
try_by-requires-clause-arcs_room g c κs within =
    let less = c.decisions-test.true in
    let choices = c.choices-choices.ensures in
    let few = c.decisions.invariant.arcs_few in
    let same = c.decisions.invariant.arcs_capacity in
    let room = c.requires.arcs_room in
    omega arith

pub decisions-init : goal.decisions-init
decisions-init g c =
    let dp = g.M.DpModel.meaning (g.M.DpModel.numbers c.args.model.now) in
    let a = c.args in let first = c.next_choice-decision in
    let row = way_row a.region.now a.found.now.table.ways.items in
    let within = first.ensures.within in
    let choices = c.choices-choices.ensures in
    record {
      extending = extending-first dp a.k a.node.member.step a.node.state.now a.node.member.value a.found.now.table.live a.region.now a.spot.now.place a.found.now.table.ways.items first.result a.found.now.table.hashes.items a.found.now.table.heads.items a.found.now.table.next.items first.ensures.on first.ensures.skipped c.requires.held c.requires.joined;
      tried = λ ts was. subst (λ us. AreTried dp a.k row (length a.found.now.table.ways.items) us a.found.now.marks.items (to_ways a.arcs.now.items))
          (sym (append-nil ts) ∙ ap (λ ds. ts ++ map (trial a.node.state.now a.node.exact) ds) (sym (allowed-skipped dp a.k a.node.state.now 0 first.result first.ensures.on first.ensures.skipped))) was;
      within = omega arith;
      live = refl;
      room = keeps-self a.found.now.table;
      marks = refl;
      arcs_few = omega arith;
      arcs_capacity = refl;
    }

pub decisions-preserved : goal.decisions-preserved
decisions-preserved g c =
    let dp = g.M.DpModel.meaning (g.M.DpModel.numbers c.args.model.now) in
    let a = c.args in let l = c.decisions in let e = c.try_by in let after = c.next_choice-decision-in-decisions in
    let n = l.decision in
    let p = c.of-from.result in let h = c.of-from.ensures in
    let row = way_row a.region.now a.found.now.table.ways.items in
    let row2 = way_row l.region l.found.table.ways.items in
    let row3 = way_row e.new.region e.new.found.table.ways.items in
    let inv = l.invariant in
    let more = e.ensures.arcs_few in
    let on = after.ensures.on in
    let within = after.ensures.within in
    let choices = c.choices-choices.ensures in
    let few = inv.arcs_few in
    record {
      extending = extending-more dp a.k a.node.member.step a.node.state.now a.node.member.value a.found.now.table.live a.region.now a.spot.now.place a.found.now.table.ways.items l.decision l.region l.spot.place l.found.table.ways.items l.found.table.hashes.items l.found.table.heads.items l.found.table.next.items l.invariant.extending
          after.result e.new.region e.new.spot.place e.new.found.table.ways.items e.new.found.table.hashes.items e.new.found.table.heads.items e.new.found.table.next.items after.ensures.on after.ensures.skipped
          (took-in-as dp a.k p.step a.node.member.step p.state.now a.node.state.now p.value a.node.member.value (n ∷ []) l.region l.found.table e.new.region e.new.found.table a.found.now.table.live h.step h.state h.value inv.live e.ensures.extended) e.ensures.exchanged;
      tried = λ ts was. subst (λ us. AreTried dp a.k row3 (length e.new.found.table.ways.items) us e.new.found.marks.items (to_ways e.new.arcs.items))
          (append_assoc ts (trials_by dp a.k a.node.state.now a.node.exact (below n)) (trials_by dp a.k a.node.state.now a.node.exact (n ∷ []))
          ∙ (ap (λ us. ts ++ us) (sym (trials-next dp a.k a.node.state.now a.node.exact n))
          ∙ ap (λ ds. ts ++ map (trial a.node.state.now a.node.exact) ds) (sym (allowed-skipped dp a.k a.node.state.now (n + 1) after.result after.ensures.on after.ensures.skipped))))
          (subst (λ r. AreTried dp a.k row3 (length e.new.found.table.ways.items) ((ts ++ trials_by dp a.k a.node.state.now a.node.exact (below n)) ++ trials_by dp a.k r a.node.exact (n ∷ [])) e.new.found.marks.items (to_ways e.new.arcs.items)) h.state
          (e.ensures.tried (ts ++ trials_by dp a.k a.node.state.now a.node.exact (below n)) (inv.tried ts was)));
      within = omega arith;
      live = e.ensures.live ∙ inv.live;
      room = keeps-then a.found.now.table l.found.table e.new.found.table inv.room e.ensures.room;
      marks = e.ensures.marks ∙ inv.marks;
      arcs_few = omega arith;
      arcs_capacity = e.ensures.arcs_capacity ∙ inv.arcs_capacity;
    }

pub returns-clause-extended : goal.returns-clause-extended
returns-clause-extended g c =
    let dp = g.M.DpModel.meaning (g.M.DpModel.numbers c.args.model.now) in
    let a = c.args in let l = c.decisions in
    let past = c.decisions-test.false in
    let within = l.invariant.within in
    let choices = c.choices-choices.ensures in
    extending-all dp a.k a.node.member.step a.node.state.now a.node.member.value a.found.now.table.live a.region.now a.spot.now.place a.found.now.table.ways.items l.decision l.region l.spot.place l.found.table.ways.items l.found.table.hashes.items l.found.table.heads.items l.found.table.next.items l.invariant.extending (omega arith) (λ less. omega arith)

pub returns-clause-exchanged : goal.returns-clause-exchanged
returns-clause-exchanged g c = c.decisions.invariant.extending.exchanged

pub returns-clause-tried : goal.returns-clause-tried
returns-clause-tried g c ts was =
    let dp = g.M.DpModel.meaning (g.M.DpModel.numbers c.args.model.now) in
    let a = c.args in let l = c.decisions in
    let past = c.decisions-test.false in
    let within = l.invariant.within in
    let choices = c.choices-choices.ensures in
    let all : l.decision ≡ dp.choices a.k = omega arith in
    subst (λ n. AreTried dp a.k (way_row l.region l.found.table.ways.items) (length l.found.table.ways.items) (ts ++ trials_by dp a.k a.node.state.now a.node.exact (below n)) l.found.marks.items (to_ways l.arcs.items)) all (l.invariant.tried ts was)

pub returns-clause-live : goal.returns-clause-live
returns-clause-live g c = c.decisions.invariant.live

pub returns-clause-room : goal.returns-clause-room
returns-clause-room g c = c.decisions.invariant.room

pub returns-clause-marks : goal.returns-clause-marks
returns-clause-marks g c = c.decisions.invariant.marks
