use Rattle.std.proofs.Common.{sym, ◌∙◌, ap, subst, arith}
use Rattle.journal_bytes.specs.Found.{found}
use Rattle.journal_bytes.specs.Journal.{journal_in, journal_view, Gives}
use Rattle.journal_bytes.proofs.Ended.{ends_if, short_file, long_file}
use Rattle.journal_bytes.proofs.journal.read_journal.Goals as goal

pub returns-then-file-le1-clause-exact : goal.returns-then-file-le1-clause-exact
returns-then-file-le1-clause-exact c = short_file c.args.file.now (omega arith)

pub returns-clause-exact : goal.returns-clause-exact
returns-clause-exact c =
    subst (λ j. Gives journal_view c.journal_from.result j) (ap journal_in c.in_ok-read.ensures.read ∙ sym (long_file c.args.file.now (omega arith))) c.journal_from.ensures.exact

pub returns-clause-ends : goal.returns-clause-ends
returns-clause-ends c = ends_if c.journal_from.result c.args.file.now (found c.in_ok-read.read) c.in_ok-read.ensures.read c.read_frames.ensures.bytes (omega arith) c.journal_from.ensures.tail
