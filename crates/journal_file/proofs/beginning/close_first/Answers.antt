use Rattle.std.proofs.Common.{◌≡◌, ap, ◌∙◌, subst, Err}
use Rattle.journal_bytes.specs.declared.refusal.Refusal.TheVariants.{NotBegun}
use Rattle.disk.specs.Disk.{Torn}
use Rattle.journal_bytes.specs.Journal.{journal_of}
use Rattle.journal_file.specs.Beginning.{IsProbed}
use Rattle.disk.proofs.Runs.{started, weaker}
use Rattle.journal_file.proofs.Begun.{probed_not_begun, torn_first}
use Rattle.journal_file.proofs.beginning.close_first.Goals as goal

pub returns-then-has_gate-clause-any_moment : goal.returns-then-has_gate-clause-any_moment
returns-then-has_gate-clause-any_moment g c tells =
    let disk = c.args.disk.now in
    started g.D.Disk.moment g.D.Disk.left_since disk (λ x. journal_of x ≡ Err NotBegun) (λ x left. ap journal_of (c.requires.durable tells x (g.met.D.Disk.only_now disk x left)) ∙ probed_not_begun c.args.has_gate (g.D.Disk.seen disk) (c.requires.probed tells))

pub returns-clause-any_moment : goal.returns-clause-any_moment
returns-clause-any_moment g c tells =
    let disk = c.args.disk.now in
    let short = subst (λ b. IsProbed b (g.D.Disk.seen disk)) c.if-has_gate.false (c.requires.probed tells) in
    weaker g.D.Disk.moment g.D.Disk.left_since disk c.write_synced.new.disk (Torn 0 1 (g.D.Disk.seen disk)) (λ x. journal_of x ≡ Err NotBegun) (c.write_synced.ensures.any_moment tells) (λ x torn. torn_first (g.D.Disk.seen disk) x short torn)
