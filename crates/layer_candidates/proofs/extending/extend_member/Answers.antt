use Rattle.std.proofs.Common.{refl, sym, ap, subst, IsTrue, ◌+◌, ◌≤◌, ◌∷◌, [], length, ◌∙◌, arith}
use Rattle.layer_candidates.specs.Ways.{way_row, IsNear, AllHaveZeros, AreJoined}
use Rattle.layer_candidates.proofs.Extended.{extending-first, extending-more, extending-spare, extending-few, extending-all}
use Rattle.layer_candidates.proofs.WayTables.{room-kept, keeps-self, keeps-then, took-in-as}
use Rattle.layer_candidates.proofs.extending.extend_member.Goals as goal

pub decisions-init : goal.decisions-init
decisions-init g c =
    let dp = g.M.DpModel.meaning (g.M.DpModel.numbers c.args.model.now) in
    let a = c.args in let first = c.next_choice-decision in
    let within = first.ensures.within in
    let choices = c.choices-choices.ensures in
    record {
      extending = extending-first dp a.k a.member.step a.s.now a.member.value a.table.now.live a.region.now a.spot.now.place a.table.now.ways.items first.result a.table.now.hashes.items a.table.now.heads.items a.table.now.next.items first.ensures.on first.ensures.skipped c.requires.held c.requires.joined;
      within = omega arith;
      live = refl;
      room = keeps-self a.table.now;
    }

pub extend_by-requires-clause-joined : goal.extend_by-requires-clause-joined
extend_by-requires-clause-joined g c κs within =
    let dp = g.M.DpModel.meaning (g.M.DpModel.numbers c.args.model.now) in
    let a = c.args in let l = c.decisions in
    subst (λ v. AreJoined dp (a.k + 1) (way_row l.region l.table.ways.items) v l.table.ways.items l.table.hashes.items l.table.heads.items l.table.next.items) (sym l.invariant.live) l.invariant.extending.extended.joined

pub extend_by-requires-clause-state : goal.extend_by-requires-clause-state
extend_by-requires-clause-state g c κs within =
    let dp = g.M.DpModel.meaning (g.M.DpModel.numbers c.args.model.now) in
    subst (λ r. IsTrue (dp.is_state c.args.k r)) (sym c.of-parent.ensures.state) c.requires.state

pub extend_by-requires-clause-value : goal.extend_by-requires-clause-value
extend_by-requires-clause-value g c κs within = subst IsNear (sym c.of-parent.ensures.value) c.requires.value

pub extend_by-requires-clause-rank : goal.extend_by-requires-clause-rank
extend_by-requires-clause-rank g c κs within =
    let dp = g.M.DpModel.meaning (g.M.DpModel.numbers c.args.model.now) in
    c.of-parent.ensures.rank ∙ (c.requires.rank ∙ ap (dp.rank c.args.k) (sym c.of-parent.ensures.state))

pub extend_by-requires-clause-hash : goal.extend_by-requires-clause-hash
extend_by-requires-clause-hash g c κs within =
    let dp = g.M.DpModel.meaning (g.M.DpModel.numbers c.args.model.now) in
    c.of-parent.ensures.hash ∙ (c.requires.hash ∙ ap (dp.hash c.args.k) (sym c.of-parent.ensures.state))

pub extend_by-requires-clause-live : goal.extend_by-requires-clause-live
extend_by-requires-clause-live g c κs within =
    let dp = g.M.DpModel.meaning (g.M.DpModel.numbers c.args.model.now) in
    subst (λ v. v ≤ dp.words) (sym c.decisions.invariant.live) c.requires.live

pub extend_by-requires-clause-zeros : goal.extend_by-requires-clause-zeros
extend_by-requires-clause-zeros g c κs within =
    let dp = g.M.DpModel.meaning (g.M.DpModel.numbers c.args.model.now) in
    subst (AllHaveZeros dp (c.args.k + 1)) (sym c.decisions.invariant.live) c.requires.zeros

pub extend_by-requires-clause-words : goal.extend_by-requires-clause-words
extend_by-requires-clause-words g c κs within = c.decisions.invariant.extending.exchanged.words ∙ c.requires.words

pub extend_by-requires-clause-held : goal.extend_by-requires-clause-held
extend_by-requires-clause-held g c κs within = c.decisions.invariant.extending.exchanged.live

pub extend_by-requires-clause-room : goal.extend_by-requires-clause-room
extend_by-requires-clause-room g c κs within =
    let dp = g.M.DpModel.meaning (g.M.DpModel.numbers c.args.model.now) in
    let a = c.args in let l = c.decisions in
    let less = c.decisions-test.true in
    let choices = c.choices-choices.ensures in
    let few = extending-few dp a.k a.member.step a.s.now a.member.value a.table.now.live a.region.now a.spot.now.place a.table.now.ways.items l.decision l.region l.spot.place l.table.ways.items l.table.hashes.items l.table.heads.items l.table.next.items l.invariant.extending (omega arith) in
    room-kept (length l.table.ways.items + 1) (length a.table.now.ways.items + dp.choices a.k) a.table.now l.table l.invariant.room few c.requires.room

pub extend_by-requires-clause-spare : goal.extend_by-requires-clause-spare
extend_by-requires-clause-spare g c κs within =
    let dp = g.M.DpModel.meaning (g.M.DpModel.numbers c.args.model.now) in
    let a = c.args in let l = c.decisions in
    let less = c.decisions-test.true in
    let choices = c.choices-choices.ensures in
    extending-spare dp a.k a.member.step a.s.now a.member.value a.table.now.live a.region.now a.spot.now.place a.table.now.ways.items l.decision l.region l.spot.place l.table.ways.items l.table.hashes.items l.table.heads.items l.table.next.items l.invariant.extending (omega arith) c.requires.spare

pub decisions-preserved : goal.decisions-preserved
decisions-preserved g c =
    let dp = g.M.DpModel.meaning (g.M.DpModel.numbers c.args.model.now) in
    let a = c.args in let l = c.decisions in let e = c.extend_by in let after = c.next_choice-decision-in-decisions in
    let p = c.of-parent.result in let h = c.of-parent.ensures in
    let within = after.ensures.within in
    let choices = c.choices-choices.ensures in
    record {
      extending = extending-more dp a.k a.member.step a.s.now a.member.value a.table.now.live a.region.now a.spot.now.place a.table.now.ways.items l.decision l.region l.spot.place l.table.ways.items l.table.hashes.items l.table.heads.items l.table.next.items l.invariant.extending
          after.result e.new.region e.new.spot.place e.new.table.ways.items e.new.table.hashes.items e.new.table.heads.items e.new.table.next.items after.ensures.on after.ensures.skipped
          (took-in-as dp a.k p.step a.member.step p.state.now a.s.now p.value a.member.value (l.decision ∷ []) l.region l.table e.new.region e.new.table a.table.now.live h.step h.state h.value l.invariant.live e.ensures.extended) e.ensures.exchanged;
      within = omega arith;
      live = e.ensures.live ∙ l.invariant.live;
      room = keeps-then a.table.now l.table e.new.table l.invariant.room e.ensures.room;
    }

pub returns-clause-extended : goal.returns-clause-extended
returns-clause-extended g c =
    let dp = g.M.DpModel.meaning (g.M.DpModel.numbers c.args.model.now) in
    let a = c.args in let l = c.decisions in
    let past = c.decisions-test.false in
    let within = l.invariant.within in
    let choices = c.choices-choices.ensures in
    extending-all dp a.k a.member.step a.s.now a.member.value a.table.now.live a.region.now a.spot.now.place a.table.now.ways.items l.decision l.region l.spot.place l.table.ways.items l.table.hashes.items l.table.heads.items l.table.next.items l.invariant.extending (omega arith) (λ less. omega arith)

pub returns-clause-exchanged : goal.returns-clause-exchanged
returns-clause-exchanged g c = c.decisions.invariant.extending.exchanged

pub returns-clause-live : goal.returns-clause-live
returns-clause-live g c = c.decisions.invariant.live

pub returns-clause-room : goal.returns-clause-room
returns-clause-room g c = c.decisions.invariant.room
