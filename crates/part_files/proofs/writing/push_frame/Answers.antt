use Rattle.std.proofs.Common.{◌∙◌, ◌++◌, [], ◌∷◌, append_assoc, sym}
use Rattle.journal_bytes.specs.Frames.{Frame, sealed}
use Rattle.part_files.proofs.Written.{gate_off}
use Rattle.part_files.proofs.writing.push_frame.Goals as goal

pub returns-clause-bytes : goal.returns-clause-bytes
returns-clause-bytes c =
    let f : Frame = record { kind = c.args.kind; body = c.args.body.now } in
    let whole = c.in_ok-bytes.bytes in
    let kept = gate_off (sealed c.args.before.now f) whole.items c.pop-gate.new.self.items whole.len c.in_ok-bytes.ensures.bytes (sym whole.ok.0) c.pop-gate.ensures.rest in
    c.in_ok-extend_from_slice.ensures.items ∙ (λ i. c.in_ok-push.ensures.items i ++ (c.deref.ensures.value ∙ kept) i) ∙ append_assoc c.args.file.now.items (1 ∷ []) (sealed c.args.before.now f)
