use Rattle.std.proofs.Common.{◌∙◌, arith, refl, subst, sym}
use Rattle.std.specs.Prelude.{IsTrue}
use Rattle.journal_bytes.specs.Frames.{Frame, Fits}
use Rattle.journal_file.proofs.Appending as appending
use Rattle.journal_file.proofs.adding.append_frame.Goals as goal

pub returns-then-tail-size-clause-any_moment : goal.returns-then-tail-size-clause-any_moment
returns-then-tail-size-clause-any_moment g c tells =
    let f : Frame = record { kind = c.args.kind; body = c.args.body.now } in
    let fits : Fits f = record { kind = omega arith; length_fits = c.requires.length } in
    appending.nothing_written g.D.Disk.seen g.D.Disk.may_leave g.D.Disk.moment g.D.Disk.left_since c.args.disk.now c.args.tail.now f fits (c.requires.settled tells) (g.met.D.Disk.only_now c.args.disk.now)

pub returns-in_err-bytes-clause-any_moment : goal.returns-in_err-bytes-clause-any_moment
returns-in_err-bytes-clause-any_moment g c tells =
    let f : Frame = record { kind = c.args.kind; body = c.args.body.now } in
    let fits : Fits f = record { kind = omega arith; length_fits = c.requires.length } in
    appending.nothing_written g.D.Disk.seen g.D.Disk.may_leave g.D.Disk.moment g.D.Disk.left_since c.args.disk.now c.args.tail.now f fits (c.requires.settled tells) (g.met.D.Disk.only_now c.args.disk.now)

pub returns-in_err-write_synced-clause-any_moment : goal.returns-in_err-write_synced-clause-any_moment
returns-in_err-write_synced-clause-any_moment g c tells =
    let f : Frame = record { kind = c.args.kind; body = c.args.body.now } in
    let fits : Fits f = record { kind = omega arith; length_fits = c.requires.length } in
    appending.following g.D.Disk.seen g.D.Disk.may_leave g.D.Disk.moment g.D.Disk.left_since c.args.disk.now c.args.tail.now f fits (c.requires.settled tells) c.write_synced.new.disk _ (c.write_synced.ensures.any_moment tells)

pub returns-in_err-write_synced-2-clause-any_moment : goal.returns-in_err-write_synced-2-clause-any_moment
returns-in_err-write_synced-2-clause-any_moment g c tells =
    let f : Frame = record { kind = c.args.kind; body = c.args.body.now } in
    let fits : Fits f = record { kind = omega arith; length_fits = c.requires.length } in
    let still = subst IsTrue (sym c.write_synced.ensures.keeps.still_tells) tells in
    appending.opened g.D.Disk.seen g.D.Disk.may_leave g.D.Disk.moment g.D.Disk.left_since c.args.disk.now c.args.tail.now f fits (c.requires.settled tells) c.write_synced.new.disk c.write_synced-2.new.disk c.deref.result.now (c.deref.ensures.value ∙ c.in_ok-bytes.ensures.bytes) (c.in_ok-write_synced.ensures.written tells) (c.write_synced.ensures.any_moment tells) (c.write_synced-2.ensures.any_moment still)

pub returns-clause-acknowledged : goal.returns-clause-acknowledged
returns-clause-acknowledged g c tells =
    let f : Frame = record { kind = c.args.kind; body = c.args.body.now } in
    let fits : Fits f = record { kind = omega arith; length_fits = c.requires.length } in
    let still = subst IsTrue (sym c.write_synced.ensures.keeps.still_tells) tells in
    appending.acknowledged g.D.Disk.seen g.D.Disk.may_leave g.D.Disk.moment g.D.Disk.left_since c.args.disk.now c.args.tail.now f fits (c.requires.settled tells) c.write_synced.new.disk c.write_synced-2.new.disk c.deref.result.now (c.deref.ensures.value ∙ c.in_ok-bytes.ensures.bytes) (c.in_ok-write_synced.ensures.written tells) _ refl c.in_ok-bytes.ensures.digest (c.in_ok-write_synced-2.ensures.written still) (c.in_ok-write_synced-2.ensures.durable still)

pub returns-clause-any_moment : goal.returns-clause-any_moment
returns-clause-any_moment g c tells =
    let f : Frame = record { kind = c.args.kind; body = c.args.body.now } in
    let fits : Fits f = record { kind = omega arith; length_fits = c.requires.length } in
    let still = subst IsTrue (sym c.write_synced.ensures.keeps.still_tells) tells in
    appending.opened g.D.Disk.seen g.D.Disk.may_leave g.D.Disk.moment g.D.Disk.left_since c.args.disk.now c.args.tail.now f fits (c.requires.settled tells) c.write_synced.new.disk c.write_synced-2.new.disk c.deref.result.now (c.deref.ensures.value ∙ c.in_ok-bytes.ensures.bytes) (c.in_ok-write_synced.ensures.written tells) (c.write_synced.ensures.any_moment tells) (c.write_synced-2.ensures.any_moment still)
