use Rattle.std.proofs.Common.{ap, arith}
use Rattle.std.proofs.lemmas.List.{get_or_read}
use Rattle.node_sets.specs.Sets.{words_for}
use Rattle.tsp_windows.specs.Instance.{Window, no_window}
use Rattle.pending_rows.specs.Pending as rows
use Rattle.pending_rows.specs.Pending.{done}
use Rattle.tsp_windows.specs.States.{start}
use Rattle.tsp_windows.specs.Shown.{instance_in}
use Rattle.pending_rows.proofs.Written.{time_cell}
use Rattle.tsp_windows.proofs.Assembled.{assembled}
use Rattle.tsp_windows.proofs.model.write_root.Goals as goal

pub returns : goal.returns
unfolding start rows.start done
returns c =
    let at = ap (λ (w : Window). w.opening) (get_or_read c.args.model.now.windows.items 0 _ (omega (arith, c.args.model.now.each_window, c.args.model.now.some)) c.index.ensures no_window) in
    let opens = c.args.model.now.opens 0 in
    let closes = c.args.model.now.closes 0 in
    assembled (words_for c.args.model.now.nodes) (start (instance_in c.args.model.now)) _ _ _ _ _ _ _ _
    c.write_one.ensures (omega (arith, c.split_at_mut-positions.ensures.front_len, c.words_for-words.ensures))
    c.write_others.ensures (omega (arith, c.split_at_mut-must.ensures.front_len, c.words_for-words.ensures))
    c.clear.ensures.row (omega (arith, c.split_at_mut-may.ensures.front_len, c.words_for-words.ensures))
    (omega (arith, c.split_at_mut-positions.ensures.back_len, c.split_at_mut-must.ensures.back_len, c.split_at_mut-may.ensures.back_len, c.words_for-words.ensures, c.requires))
    (time_cell _ _ at (omega (arith, at, opens, closes)))
