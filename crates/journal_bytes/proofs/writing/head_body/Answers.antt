use Rattle.std.proofs.Common.{rules, ◌≡◌, ◌∙◌, ap, length, refl}
use Rattle.journal_bytes.specs.Journal.{new_head}
use Rattle.journal_bytes.specs.Spelling.{head_bytes}
use Rattle.journal_bytes.proofs.Again.{head_written}
use Rattle.journal_bytes.proofs.Sizes.{length-head}
use Rattle.journal_bytes.proofs.writing.head_body.Goals as goal

pub returns-clause-reads : goal.returns-clause-reads
unfolding head_bytes
returns-clause-reads c =
    let h = new_head c.args.head.now in
    let bytes : c.extend_from_slice-4.new.self.items ≡ head_bytes h = search rules in
    head_written c.extend_from_slice-4.new.self.items h bytes refl c.requires.text c.requires.within c.in_ok-push_mark.ensures.fits

pub returns-clause-size : goal.returns-clause-size
unfolding head_bytes
returns-clause-size c =
    let h = new_head c.args.head.now in
    let bytes : c.extend_from_slice-4.new.self.items ≡ head_bytes h = search rules in
    ap length bytes ∙ length-head h c.in_ok-push_mark.ensures.fits
