use Rattle.std.proofs.Common.{◌≡◌, ◌≢◌, inr, refl, sym, ap, subst, Some, IsSome, IsTrue, Err}
use Rattle.board_laws.specs.declared.cause.Cause.TheVariants.{Journal}
use Rattle.journal_replay.specs.Following.{snapshot_record}
use Rattle.kept_board.proofs.Keeping.{snapshot-grows, snap-kept, fail-kept}
use Rattle.kept_board.proofs.Moving.{snap-moves, fail-moves}
use Rattle.kept_board.proofs.Spelled.{snapshot-spelled, due-has}
use Rattle.kept_board.specs.Adding.{Acknowledges, LeavesAtMost}
use Rattle.kept_board.specs.Due.{is_due}
use Rattle.kept_board.specs.Moves.{IsMove}
use Rattle.kept_board.specs.View.{KeptView}
use Rattle.kept_board.proofs.kept.Kept.snapshot.Goals as goal

pub record_snapshot-requires-clause-spelling : goal.record_snapshot-requires-clause-spelling
record_snapshot-requires-clause-spelling g c κs within =
    let old = c.self.inside.board in
    let due = subst (λ (k : KeptView g.row.D.Denot). IsTrue (is_due k)) (sym c.self.view_is) c.requires.due in
    let few = (due-has (record { board = old; disk = c.self.inside.disk; tail = c.self.inside.tail; made = c.self.inside.made.value; every = c.self.inside.every }) due).few in
    snapshot-spelled (g.M.DpModel.meaning old.numbers) c.facts.ensures.lawful old.board c.facts.ensures.kept few

pub invariant_of-self : goal.invariant_of-self
invariant_of-self g c =
    let old = c.self.inside.board in
    let going = subst (λ (k : KeptView g.row.D.Denot). k.board.board.cause ≢ Some Journal) (sym c.self.view_is) c.requires.going in
    let wrote = c.record_snapshot.ensures in
    snap-kept g.D.Disk g.M.DpModel.meaning old old refl c.self.inside.made.value c.self.inside.disk c.record_snapshot.new.disk c.self.inside.tail c.record_snapshot.new.tail refl
    c.self.invariant (λ some. going) wrote.tail wrote.keeps wrote.faults wrote.start c.in-Ok.ensures.ready wrote.none c.in-Ok.ensures.acknowledged wrote.any_moment

pub invariant_of-self-in-Err-Journal : goal.invariant_of-self-in-Err-Journal
invariant_of-self-in-Err-Journal g c =
    let meaning = g.M.DpModel.meaning in
    let old = c.self.inside.board in
    let due = subst (λ (k : KeptView g.row.D.Denot). IsTrue (is_due k)) (sym c.self.view_is) c.requires.due in
    let has : IsSome c.self.inside.tail = (due-has (record { board = old; disk = c.self.inside.disk; tail = c.self.inside.tail; made = c.self.inside.made.value; every = c.self.inside.every }) due).has in
    let going = subst (λ (k : KeptView g.row.D.Denot). k.board.board.cause ≢ Some Journal) (sym c.self.view_is) c.requires.going in
    let wrote = c.record_snapshot.ensures in
    let failed = c.in-Err-Journal.ensures.journal (ap Err c.in-Err-Journal.field-0-is) in
    fail-kept g.D.Disk meaning old c.halt.new.self c.halt.ensures.tag (λ t m disk. g.met.D.Disk.counts_now disk t m) old.board (snapshot_record old.board) (λ laws. snapshot-grows (meaning old.numbers) old.board)
    c.self.inside.made.value c.self.inside.disk c.record_snapshot.new.disk c.self.inside.tail c.record_snapshot.new.tail c.halt.ensures.step
    c.self.invariant (λ some. going) c.in-Err-Journal.ensures.tail_err has failed wrote.keeps wrote.faults wrote.start wrote.any_moment

pub returns-in-Ok-clause-moves : goal.returns-in-Ok-clause-moves
returns-in-Ok-clause-moves g c who =
    let meaning = g.M.DpModel.meaning in
    let old = c.self.inside.board in
    let due = subst (λ (k : KeptView g.row.D.Denot). IsTrue (is_due k)) (sym c.self.view_is) c.requires.due in
    let has : IsSome c.self.inside.tail = (due-has (record { board = old; disk = c.self.inside.disk; tail = c.self.inside.tail; made = c.self.inside.made.value; every = c.self.inside.every }) due).has in
    let going = subst (λ (k : KeptView g.row.D.Denot). k.board.board.cause ≢ Some Journal) (sym c.self.view_is) c.requires.going in
    let wrote = c.record_snapshot.ensures in
    subst (λ (k : KeptView g.row.D.Denot). IsMove g.D.Disk meaning k (record { board = old; disk = c.record_snapshot.new.disk; tail = c.record_snapshot.new.tail; made = c.self.inside.made.value; every = c.self.inside.every }) who) c.self.view_is
    (snap-moves g.D.Disk meaning old old refl c.self.inside.made.value c.self.inside.every who c.self.inside.disk c.record_snapshot.new.disk c.self.inside.tail c.record_snapshot.new.tail due has refl
    (λ some. going) wrote.tail wrote.keeps c.in-Ok.ensures.ready wrote.none c.in-Ok.ensures.acknowledged wrote.any_moment)

pub returns-in-Err-Journal-clause-moves : goal.returns-in-Err-Journal-clause-moves
returns-in-Err-Journal-clause-moves g c who =
    let meaning = g.M.DpModel.meaning in
    let old = c.self.inside.board in
    let due = subst (λ (k : KeptView g.row.D.Denot). IsTrue (is_due k)) (sym c.self.view_is) c.requires.due in
    let has : IsSome c.self.inside.tail = (due-has (record { board = old; disk = c.self.inside.disk; tail = c.self.inside.tail; made = c.self.inside.made.value; every = c.self.inside.every }) due).has in
    let going = subst (λ (k : KeptView g.row.D.Denot). k.board.board.cause ≢ Some Journal) (sym c.self.view_is) c.requires.going in
    let wrote = c.record_snapshot.ensures in
    let failed = c.in-Err-Journal.ensures.journal (ap Err c.in-Err-Journal.field-0-is) in
    subst (λ (k : KeptView g.row.D.Denot). IsMove g.D.Disk meaning k (record { board = c.halt.new.self; disk = c.record_snapshot.new.disk; tail = c.record_snapshot.new.tail; made = c.self.inside.made.value; every = c.self.inside.every }) who) c.self.view_is
    (fail-moves g.D.Disk meaning old c.halt.new.self c.halt.ensures.tag c.self.inside.made.value c.self.inside.every who (snapshot_record old.board) c.self.inside.disk c.record_snapshot.new.disk c.self.inside.tail c.record_snapshot.new.tail (inr (due, refl)) c.halt.ensures.step
    (λ some. going) wrote.tail has failed wrote.keeps wrote.any_moment)

pub returns-in-Ok-clause-acknowledged : goal.returns-in-Ok-clause-acknowledged
returns-in-Ok-clause-acknowledged g c =
    let meaning = g.M.DpModel.meaning in
    let old = c.self.inside.board in
    let due = subst (λ (k : KeptView g.row.D.Denot). IsTrue (is_due k)) (sym c.self.view_is) c.requires.due in
    let has : IsSome c.self.inside.tail = (due-has (record { board = old; disk = c.self.inside.disk; tail = c.self.inside.tail; made = c.self.inside.made.value; every = c.self.inside.every }) due).has in
    subst (λ (k : KeptView g.row.D.Denot). Acknowledges g.D.Disk k.disk c.record_snapshot.new.disk (snapshot_record k.board.board)) c.self.view_is (c.in-Ok.ensures.acknowledged has)

pub returns-in-Ok-clause-any_moment : goal.returns-in-Ok-clause-any_moment
returns-in-Ok-clause-any_moment g c =
    let meaning = g.M.DpModel.meaning in
    let old = c.self.inside.board in
    let due = subst (λ (k : KeptView g.row.D.Denot). IsTrue (is_due k)) (sym c.self.view_is) c.requires.due in
    let has : IsSome c.self.inside.tail = (due-has (record { board = old; disk = c.self.inside.disk; tail = c.self.inside.tail; made = c.self.inside.made.value; every = c.self.inside.every }) due).has in
    subst (λ (k : KeptView g.row.D.Denot). LeavesAtMost g.D.Disk k.disk c.record_snapshot.new.disk (snapshot_record k.board.board)) c.self.view_is (c.record_snapshot.ensures.any_moment has)

pub returns-in-Err-Journal-clause-any_moment : goal.returns-in-Err-Journal-clause-any_moment
returns-in-Err-Journal-clause-any_moment g c =
    let meaning = g.M.DpModel.meaning in
    let old = c.self.inside.board in
    let due = subst (λ (k : KeptView g.row.D.Denot). IsTrue (is_due k)) (sym c.self.view_is) c.requires.due in
    let has : IsSome c.self.inside.tail = (due-has (record { board = old; disk = c.self.inside.disk; tail = c.self.inside.tail; made = c.self.inside.made.value; every = c.self.inside.every }) due).has in
    subst (λ (k : KeptView g.row.D.Denot). LeavesAtMost g.D.Disk k.disk c.record_snapshot.new.disk (snapshot_record k.board.board)) c.self.view_is (c.record_snapshot.ensures.any_moment has)
