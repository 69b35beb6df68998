use Rattle.std.proofs.Common.{inl, ◌≡◌, refl, sym, ◌∙◌, ap, subst, arith}
use Rattle.std.specs.Prelude.{IsTrue}
use Rattle.journal_bytes.specs.Frames.{Frame, frames_of, no_digest}
use Rattle.journal_bytes.specs.Journal.{new_head, journal_of}
use Rattle.journal_bytes.specs.Spelling.{head_frame}
use Rattle.journal_file.specs.Beginning.{IsBegun}
use Rattle.disk.proofs.Runs.{started}
use Rattle.journal_file.proofs.Begun as begun
use Rattle.journal_file.proofs.Begun.{IsNew}
use Rattle.journal_file.proofs.beginning.add_head.Goals as goal

pub returns-in_err-body-clause-any_moment : goal.returns-in_err-body-clause-any_moment
returns-in_err-body-clause-any_moment g c tells =
    let disk = c.args.disk.now in
    started g.D.Disk.moment g.D.Disk.left_since disk (IsBegun (new_head c.args.head.now))
    (λ x left. inl (ap journal_of (c.requires.durable tells x (g.met.D.Disk.only_now disk x left)) ∙ begun.probed_not_begun c.args.has_gate (g.D.Disk.seen disk) (c.requires.probed tells)))

pub returns-in_err-close_first-clause-any_moment : goal.returns-in_err-close_first-clause-any_moment
returns-in_err-close_first-clause-any_moment g c tells =
    begun.closes g.D.Disk.moment g.D.Disk.left_since (new_head c.args.head.now) c.args.disk.now c.close_first.new.disk (c.close_first.ensures.any_moment tells)

pub append_frame-requires-clause-settled : goal.append_frame-requires-clause-settled
append_frame-requires-clause-settled g c tells =
    let between = c.close_first.new.disk in
    let at_first = subst IsTrue c.close_first.ensures.keeps.still_tells tells in
    let closed = c.in_ok-close_first.ensures.closed at_first in
    (begun.closed_settled (g.D.Disk.seen between) (g.D.Disk.may_leave between) (record { end = 0; digest = no_digest; version = 2; since = 0 }) closed.0 closed.1 refl refl (c.in_ok-close_first.ensures.durable at_first)).0

pub returns-in_err-append_frame-clause-any_moment : goal.returns-in_err-append_frame-clause-any_moment
returns-in_err-append_frame-clause-any_moment g c tells =
    let h = new_head c.args.head.now in
    let fits : IsNew h = record { newest = refl; short = omega (arith, c.requires.text); near = c.requires.within; mark = c.in_ok-body.ensures.fits } in
    let between = c.close_first.new.disk in
    let still = subst IsTrue (sym c.close_first.ensures.keeps.still_tells) tells in
    let closed = c.in_ok-close_first.ensures.closed tells in
    let f : Frame = record { kind = 1; body = c.deref.result.now } in
    let same : f ≡ head_frame h = λ i. record { kind = 1; body = (c.deref.ensures.value ∙ c.in_ok-body.ensures.bytes) i } in
    let none = (begun.closed_settled (g.D.Disk.seen between) (g.D.Disk.may_leave between) (record { end = 0; digest = no_digest; version = 2; since = 0 }) closed.0 closed.1 refl refl (c.in_ok-close_first.ensures.durable tells)).1 in
    begun.runs g.D.Disk.moment g.D.Disk.left_since h c.args.disk.now between c.append_frame.new.disk f (frames_of (g.D.Disk.seen between)) fits same none (c.close_first.ensures.any_moment tells) (c.append_frame.ensures.any_moment still)

pub returns-clause-any_moment : goal.returns-clause-any_moment
returns-clause-any_moment g c tells =
    let h = new_head c.args.head.now in
    let fits : IsNew h = record { newest = refl; short = omega (arith, c.requires.text); near = c.requires.within; mark = c.in_ok-body.ensures.fits } in
    let between = c.close_first.new.disk in
    let still = subst IsTrue (sym c.close_first.ensures.keeps.still_tells) tells in
    let closed = c.in_ok-close_first.ensures.closed tells in
    let f : Frame = record { kind = 1; body = c.deref.result.now } in
    let same : f ≡ head_frame h = λ i. record { kind = 1; body = (c.deref.ensures.value ∙ c.in_ok-body.ensures.bytes) i } in
    let none = (begun.closed_settled (g.D.Disk.seen between) (g.D.Disk.may_leave between) (record { end = 0; digest = no_digest; version = 2; since = 0 }) closed.0 closed.1 refl refl (c.in_ok-close_first.ensures.durable tells)).1 in
    begun.runs g.D.Disk.moment g.D.Disk.left_since h c.args.disk.now between c.append_frame.new.disk f (frames_of (g.D.Disk.seen between)) fits same none (c.close_first.ensures.any_moment tells) (c.append_frame.ensures.any_moment still)

pub returns-clause-ready : goal.returns-clause-ready
returns-clause-ready g c tells =
    let h = new_head c.args.head.now in
    let fits : IsNew h = record { newest = refl; short = omega (arith, c.requires.text); near = c.requires.within; mark = c.in_ok-body.ensures.fits } in
    let between = c.close_first.new.disk in
    let new = c.append_frame.new.disk in
    let still = subst IsTrue (sym c.close_first.ensures.keeps.still_tells) tells in
    let closed = c.in_ok-close_first.ensures.closed tells in
    let f : Frame = record { kind = 1; body = c.deref.result.now } in
    let same : f ≡ head_frame h = λ i. record { kind = 1; body = (c.deref.ensures.value ∙ c.in_ok-body.ensures.bytes) i } in
    let none = (begun.closed_settled (g.D.Disk.seen between) (g.D.Disk.may_leave between) (record { end = 0; digest = no_digest; version = 2; since = 0 }) closed.0 closed.1 refl refl (c.in_ok-close_first.ensures.durable tells)).1 in
    begun.head_open (g.D.Disk.seen new) (g.D.Disk.may_leave new) c.append_frame.new.tail h f (frames_of (g.D.Disk.seen between)) fits c.in_ok-append_frame.ensures.counts same none (c.in_ok-append_frame.ensures.acknowledged still)
