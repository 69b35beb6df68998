use Rattle.std.proofs.Common.{rules, ◌≡◌}
use Rattle.std.specs.Prelude.{IfOk, OnOk}
use Rattle.journal_bytes.specs.Spelling.{record_bytes, RecordFits}
use Rattle.journal_bytes.specs.Views.{record_view}
use Rattle.journal_bytes.proofs.Again.{written}
use Rattle.journal_bytes.proofs.Sizes.{sized}
use Rattle.journal_bytes.proofs.writing.record_body.Goals as goal

pub returns-in-Improve-clause-reads : goal.returns-in-Improve-clause-reads
returns-in-Improve-clause-reads c =
    let r = record_view c.args.entry.now in
    let bytes : IfOk c.improve_body.result (λ v. v.items ≡ record_bytes r) = search rules in
    let fits : OnOk c.improve_body.result (RecordFits r) = search rules in
    written c.improve_body.result r bytes fits

pub returns-in-Improve-clause-size : goal.returns-in-Improve-clause-size
returns-in-Improve-clause-size c =
    let r = record_view c.args.entry.now in
    let bytes : IfOk c.improve_body.result (λ v. v.items ≡ record_bytes r) = search rules in
    sized c.improve_body.result r bytes

pub returns-in-Finish-clause-reads : goal.returns-in-Finish-clause-reads
returns-in-Finish-clause-reads c =
    let r = record_view c.args.entry.now in
    let bytes : IfOk c.finish_body.result (λ v. v.items ≡ record_bytes r) = search rules in
    let fits : OnOk c.finish_body.result (RecordFits r) = search rules in
    written c.finish_body.result r bytes fits

pub returns-in-Finish-clause-size : goal.returns-in-Finish-clause-size
returns-in-Finish-clause-size c =
    let r = record_view c.args.entry.now in
    let bytes : IfOk c.finish_body.result (λ v. v.items ≡ record_bytes r) = search rules in
    sized c.finish_body.result r bytes

pub returns-in-Snapshot-clause-reads : goal.returns-in-Snapshot-clause-reads
returns-in-Snapshot-clause-reads c =
    let r = record_view c.args.entry.now in
    let bytes : IfOk c.snapshot_body.result (λ v. v.items ≡ record_bytes r) = search rules in
    let fits : OnOk c.snapshot_body.result (RecordFits r) = search rules in
    written c.snapshot_body.result r bytes fits

pub returns-in-Snapshot-clause-size : goal.returns-in-Snapshot-clause-size
returns-in-Snapshot-clause-size c =
    let r = record_view c.args.entry.now in
    let bytes : IfOk c.snapshot_body.result (λ v. v.items ≡ record_bytes r) = search rules in
    sized c.snapshot_body.result r bytes
