use Rattle.std.proofs.Common.{◌≡◌, ◌∙◌, ◌<◌, ◌^◌, ◌++◌, ◌∷◌, ℕ, List, ap, arith, length, refl, subst, sym}
use Rattle.journal_bytes.specs.Frames.{digest_of, no_digest, sealed}
use Rattle.journal_bytes.specs.Journal.{new_head}
use Rattle.journal_bytes.specs.Spelling.{head_bytes, head_frame}
use Rattle.journal_bytes.specs.Views.{record_view}
use Rattle.part_files.proofs.Written.{IsWritten, frame_of, has_one, head_short, of_newest, record_short, two_frames}
use Rattle.part_files.proofs.writing.journal_of_one.Goals as goal

pub returns : goal.returns
returns c =
    let h = new_head c.args.head.now in
    let r = record_view c.args.entry.now in
    let body = c.in_ok-body.body.items in
    let f = frame_of r body in
    let g = head_frame h in
    let bytes : c.deref.result.now ≡ head_bytes h = c.deref.ensures.value ∙ c.in_ok-start.ensures.bytes in
    let written : IsWritten h = record {
      newest = refl;
      text = omega (arith, head_short h r c.requires.short);
      near = c.requires.within;
      mark = c.in_ok-start.ensures.fits;
      short = subst (λ (n : ℕ). n < 2 ^ 32) (sym c.in_ok-start.ensures.size ∙ ap length c.in_ok-start.ensures.bytes) (head_short h r c.requires.short);
    } in
    let short : length body < 2 ^ 32 = subst (λ (n : ℕ). n < 2 ^ 32) (sym c.in_ok-body.ensures.size) (record_short h r c.requires.short) in
    let first : c.push_frame.new.file.items ≡ 1 ∷ sealed no_digest g = c.in_ok-digest.ensures.bytes ∙ (λ i. c.new-file.ensures.items i ++ 1 ∷ sealed no_digest (record { kind = 1; body = bytes i })) in
    let digest : c.in_ok-digest.digest ≡ digest_of no_digest g = c.in_ok-digest.ensures.digest ∙ ap (λ (b : List ℕ). digest_of no_digest (record { kind = 1; body = b })) bytes in
    let second : c.push_frame-2.new.file.items ≡ c.push_frame.new.file.items ++ 1 ∷ sealed c.in_ok-digest.digest f =
    c.in_ok-_last.ensures.bytes ∙ (λ i. c.push_frame.new.file.items ++ 1 ∷ sealed c.in_ok-digest.digest (record { kind = c.kind.ensures i; body = c.deref-2.ensures.value i })) in
    has_one h r body c.push.new.self.items written short (c.in_ok-body.ensures.reads 2 (of_newest r))
    (two_frames g f c.in_ok-digest.digest c.push_frame.new.file.items c.push_frame-2.new.file.items c.push.new.self.items first digest second c.in_ok-push.ensures.items)
