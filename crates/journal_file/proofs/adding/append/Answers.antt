use Rattle.std.proofs.Common.{◌≡◌, ◌∙◌, ◌++◌, ◌∷◌, [], List, Some}
use Rattle.std.specs.Prelude.{IsTrue}
use Rattle.journal_bytes.specs.Bodies.{RecordView, record_of}
use Rattle.journal_bytes.specs.Frames.{Frame, frames_of}
use Rattle.journal_bytes.specs.Journal.{HeadView, HasRecords}
use Rattle.journal_bytes.specs.Views.{record_view}
use Rattle.journal_file.specs.Settled.{IsSettled, IsOpen}
use Rattle.journal_file.proofs.Recording.{on_ok, on_both, any_moment, has_more, open_more, nothing}
use Rattle.journal_file.proofs.adding.append.Goals as goal

pub returns-in_err-body-clause-any_moment : goal.returns-in_err-body-clause-any_moment
returns-in_err-body-clause-any_moment g c tells head records has =
    let disk = c.args.disk.now in
    nothing g.D.Disk.moment g.D.Disk.left_since disk (g.D.Disk.seen disk) (g.D.Disk.may_leave disk) head records (record_view c.args.entry.now) (g.met.D.Disk.only_now disk) (c.requires.ready tells).settled.durable has

pub returns-clause-ready : goal.returns-clause-ready
returns-clause-ready g c =
    let old = c.args.disk.now in
    let new = c.append_frame.new.disk in
    let file = g.D.Disk.seen old in
    let f : Frame = record { kind = c.kind.result; body = c.deref.result.now } in
    let r = record_view c.args.entry.now in
    let version = c.args.tail.now.version in
    let reads : record_of version f ≡ Some r = (λ i. record_of version (record { kind = c.kind.ensures i; body = c.deref.ensures.value i })) ∙ c.in_ok-body.ensures.reads version c.requires.version in
    on_both c.append_frame.result
    (IsTrue (g.D.Disk.tells old) → IsSettled (g.D.Disk.seen new) (g.D.Disk.may_leave new) c.append_frame.new.tail (frames_of (g.D.Disk.seen new)) × (frames_of (g.D.Disk.seen new) ≡ frames_of file ++ f ∷ []))
    ((c.append_frame.new.tail.version ≡ version) × (c.append_frame.new.tail.since ≡ c.since_after-since.result))
    (IsTrue (g.D.Disk.tells old) → IsOpen (g.D.Disk.seen new) (g.D.Disk.may_leave new) c.append_frame.new.tail) c.append_frame.ensures.acknowledged c.append_frame.ensures.counts
    (λ done counts tells. open_more file (g.D.Disk.may_leave old) c.args.tail.now f r reads (c.requires.ready tells) (g.D.Disk.seen new) (g.D.Disk.may_leave new) c.append_frame.new.tail (counts.0, counts.1 ∙ c.since_after-since.ensures) (done tells))

pub returns-clause-acknowledged : goal.returns-clause-acknowledged
returns-clause-acknowledged g c =
    let old = c.args.disk.now in
    let new = c.append_frame.new.disk in
    let file = g.D.Disk.seen old in
    let f : Frame = record { kind = c.kind.result; body = c.deref.result.now } in
    let r = record_view c.args.entry.now in
    let version = c.args.tail.now.version in
    let reads : record_of version f ≡ Some r = (λ i. record_of version (record { kind = c.kind.ensures i; body = c.deref.ensures.value i })) ∙ c.in_ok-body.ensures.reads version c.requires.version in
    on_ok c.append_frame.result
    (IsTrue (g.D.Disk.tells old) → IsSettled (g.D.Disk.seen new) (g.D.Disk.may_leave new) c.append_frame.new.tail (frames_of (g.D.Disk.seen new)) × (frames_of (g.D.Disk.seen new) ≡ frames_of file ++ f ∷ []))
    (IsTrue (g.D.Disk.tells old) → (head : HeadView) (records : List RecordView) → HasRecords head records file → HasRecords head (records ++ r ∷ []) (g.D.Disk.seen new)) c.append_frame.ensures.acknowledged
    (λ done tells head records has. has_more file (g.D.Disk.may_leave old) c.args.tail.now f r reads (c.requires.ready tells) (g.D.Disk.seen new) (g.D.Disk.may_leave new) c.append_frame.new.tail head records has (done tells))

pub returns-clause-any_moment : goal.returns-clause-any_moment
returns-clause-any_moment g c tells head records has =
    let old = c.args.disk.now in
    let new = c.append_frame.new.disk in
    let f : Frame = record { kind = c.kind.result; body = c.deref.result.now } in
    let r = record_view c.args.entry.now in
    let version = c.args.tail.now.version in
    let reads : record_of version f ≡ Some r = (λ i. record_of version (record { kind = c.kind.ensures i; body = c.deref.ensures.value i })) ∙ c.in_ok-body.ensures.reads version c.requires.version in
    any_moment (g.D.Disk.seen old) (g.D.Disk.may_leave old) c.args.tail.now f r reads (c.requires.ready tells) g.D.Disk.moment g.D.Disk.left_since old new head records has (c.append_frame.ensures.any_moment tells)
