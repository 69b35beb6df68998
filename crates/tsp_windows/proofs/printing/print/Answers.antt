use Rattle.tsp_windows.specs.Shown.{instance_in}
use Rattle.tsp_windows.specs.Laws.Limits.{is_small-gives}
use Rattle.tsp_windows.proofs.Printings.{printed_reads_back}
use Rattle.tsp_windows.proofs.TextLengths.{printed_is_short}
use Rattle.tsp_windows.proofs.printing.print.Goals as goal

pub returns-clause-short : goal.returns-clause-short
returns-clause-short c =
    let i = instance_in c.args.model.now in
    printed_is_short i c.in_ok-text.text.items (is_small-gives i c.args.model.now.small) c.in_ok-text.ensures

pub returns-clause-reads_back : goal.returns-clause-reads_back
returns-clause-reads_back c =
    let i = instance_in c.args.model.now in
    printed_reads_back i c.in_ok-text.text.items (is_small-gives i c.args.model.now.small) c.in_ok-text.ensures
