use Rattle.std.proofs.Common.{ap, ◌∙◌}
use Rattle.node_sets.specs.Sets.{words_for}
use Rattle.pending_rows.specs.Pending.{is_pending_row}
use Rattle.tsp_windows.proofs.StateLemmas.{pending-row, pending-shown, rest_of}
use Rattle.tsp_windows.proofs.parts.pending_of.Goals as goal

pub returns-clause-row : goal.returns-clause-row
returns-clause-row c = rest_of (words_for c.args.nodes) c.words_for.result c.args.s.now c.words_for.ensures

pub returns-clause-pending : goal.returns-clause-pending
returns-clause-pending c =
    ap (is_pending_row c.args.nodes) (rest_of (words_for c.args.nodes) c.words_for.result c.args.s.now c.words_for.ensures) ∙ pending-row c.args.nodes c.args.s.now c.requires.state

pub returns-clause-shown : goal.returns-clause-shown
returns-clause-shown c = pending-shown (words_for c.args.nodes) c.args.s.now _ (rest_of (words_for c.args.nodes) c.words_for.result c.args.s.now c.words_for.ensures)
