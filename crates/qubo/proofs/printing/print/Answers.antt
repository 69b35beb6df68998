use Rattle.std.proofs.Common.{ap, ◌∙◌}
use Rattle.qubo.specs.Reading.{instance_text}
use Rattle.qubo.specs.Shown.{instance_in}
use Rattle.qubo.proofs.RoundTrip.{reads_back}
use Rattle.qubo.proofs.TextLengths.{text_short}
use Rattle.qubo.proofs.printing.print.Goals as goal

pub returns-clause-short : goal.returns-clause-short
returns-clause-short c = rw c.in_ok-text.ensures (text_short (instance_in c.args.model.now) c.args.model.now.kept)

pub returns-clause-reads_back : goal.returns-clause-reads_back
returns-clause-reads_back c = ap instance_text c.in_ok-text.ensures ∙ reads_back (instance_in c.args.model.now) c.args.model.now.kept
