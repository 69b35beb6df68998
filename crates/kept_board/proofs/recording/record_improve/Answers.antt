use Rattle.std.proofs.Common.{◌≡◌, subst, to_z, of_z, w64}
use Rattle.std.proofs.lemmas.Int.{to_z-of_z}
use Rattle.journal_bytes.specs.Bodies.{Improve}
use Rattle.kept_board.specs.Adding.{LeavesAtMost, Acknowledges}
use Rattle.kept_board.proofs.recording.record_improve.Goals as goal

pub returns-in_err-append-clause-any_moment : goal.returns-in_err-append-clause-any_moment
returns-in_err-append-clause-any_moment g c some =
    let is : Improve (to_z w64 (of_z w64 c.args.value)) c.in_ok-decisions.decisions.items ≡ Improve c.args.value c.args.decisions.now = λ i. Improve (to_z-of_z w64 c.args.value c.ranges.value i) (c.in_ok-decisions.ensures.items i) in
    subst (LeavesAtMost g.D.Disk c.args.disk.now c.append.new.disk) is c.append.ensures.any_moment

pub returns-clause-acknowledged : goal.returns-clause-acknowledged
returns-clause-acknowledged g c some =
    let is : Improve (to_z w64 (of_z w64 c.args.value)) c.in_ok-decisions.decisions.items ≡ Improve c.args.value c.args.decisions.now = λ i. Improve (to_z-of_z w64 c.args.value c.ranges.value i) (c.in_ok-decisions.ensures.items i) in
    subst (Acknowledges g.D.Disk c.args.disk.now c.append.new.disk) is c.in_ok-append.ensures.acknowledged

pub returns-clause-any_moment : goal.returns-clause-any_moment
returns-clause-any_moment g c some =
    let is : Improve (to_z w64 (of_z w64 c.args.value)) c.in_ok-decisions.decisions.items ≡ Improve c.args.value c.args.decisions.now = λ i. Improve (to_z-of_z w64 c.args.value c.ranges.value i) (c.in_ok-decisions.ensures.items i) in
    subst (LeavesAtMost g.D.Disk c.args.disk.now c.append.new.disk) is c.append.ensures.any_moment
