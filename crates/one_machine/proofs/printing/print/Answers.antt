use Rattle.std.proofs.Common.{ap, ◌∙◌}
use Rattle.one_machine.specs.Texts.{instance_text}
use Rattle.one_machine.specs.Shown.{instance_in}
use Rattle.one_machine.proofs.Texts.{reads_back, text_short}
use Rattle.one_machine.proofs.printing.print.Goals as goal

pub returns-clause-short : goal.returns-clause-short
returns-clause-short c = rw c.in_ok-text.ensures (text_short (instance_in c.args.model.now) c.args.model.now.small)

pub returns-clause-reads_back : goal.returns-clause-reads_back
returns-clause-reads_back c = ap instance_text c.in_ok-text.ensures ∙ reads_back (instance_in c.args.model.now) c.args.model.now.small
