use Rattle.std.proofs.Common.{◌∙◌, ap, arith, length, List, ℕ}
use Rattle.tokens.specs.Text.{text_start}
use Rattle.tokens.specs.declared.comment.Comment.TheVariants.{LetterC}
use Rattle.max_two_sat.specs.Shown.{instance_in}
use Rattle.max_two_sat.specs.Texts.{instance_at}
use Rattle.max_two_sat.proofs.ReadsBack.{reads_back}
use Rattle.max_two_sat.proofs.TextLengths.{text_short}
use Rattle.max_two_sat.proofs.printing.print.Goals as goal

pub returns-clause-short : goal.returns-clause-short
returns-clause-short c = omega (arith, ap length c.in_ok-text.ensures, text_short (instance_in c.args.model.now) c.args.model.now.kept)

pub returns-clause-reads_back : goal.returns-clause-reads_back
returns-clause-reads_back c =
    ap (λ (bytes : List ℕ). instance_at (text_start LetterC bytes)) c.in_ok-text.ensures ∙ reads_back (instance_in c.args.model.now) c.args.model.now.kept
