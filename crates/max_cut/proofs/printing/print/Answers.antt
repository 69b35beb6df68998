use Rattle.std.proofs.Common.{ap, ◌∙◌}
use Rattle.tokens.specs.declared.comment.Comment.TheVariants.{Never}
use Rattle.max_cut.specs.Edges.{instance_text}
use Rattle.max_cut.specs.Shown.{instance_in}
use Rattle.max_cut.proofs.Rereading.{reads_back}
use Rattle.max_cut.proofs.TextLengths.{text_short}
use Rattle.max_cut.proofs.printing.print.Goals as goal

pub returns-clause-short : goal.returns-clause-short
returns-clause-short c = rw c.in_ok-text.ensures (text_short (instance_in c.args.model.now) c.args.model.now.graph)

pub returns-clause-reads_back : goal.returns-clause-reads_back
returns-clause-reads_back c = ap instance_text c.in_ok-text.ensures ∙ reads_back (instance_in c.args.model.now) c.args.model.now.graph Never
