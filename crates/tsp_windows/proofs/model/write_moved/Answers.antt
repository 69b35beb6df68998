use Rattle.std.proofs.Common.{ℤ, List, ◌&&◌, not, nat_eq, length, sym, ap, ◌∙◌, arith}
use Rattle.node_sets.specs.Sets.{words_for, row_of, has}
use Rattle.pending_rows.specs.Pending as rows
use Rattle.pending_rows.specs.Pending.{done}
use Rattle.tsp_windows.specs.States.{shown, moved}
use Rattle.tsp_windows.specs.Shown.{instance_in}
use Rattle.pending_rows.proofs.Written.{time_cell}
use Rattle.tsp_windows.proofs.Assembled.{assembled}
use Rattle.tsp_windows.proofs.model.write_moved.Goals as goal

pub split_at_mut-positions-requires : goal.split_at_mut-positions-requires
split_at_mut-positions-requires c = omega (arith, c.min-words.ensures, c.words_for.ensures, c.requires.cells)

pub split_at_mut-must-requires : goal.split_at_mut-must-requires
split_at_mut-must-requires c = omega (arith, c.split_at_mut-positions.ensures.back_len, c.min-words.ensures, c.words_for.ensures, c.requires.cells)

pub split_at_mut-may-requires : goal.split_at_mut-may-requires
split_at_mut-may-requires c = omega (arith, c.split_at_mut-positions.ensures.back_len, c.split_at_mut-must.ensures.back_len, c.min-words.ensures, c.words_for.ensures, c.requires.cells)

pub bounds-time-0 : goal.bounds-time-0
bounds-time-0 c = omega (arith, c.split_at_mut-positions.ensures.back_len, c.split_at_mut-must.ensures.back_len, c.split_at_mut-may.ensures.back_len, c.min-words.ensures, c.words_for.ensures, c.requires.cells)

pub write_split-requires-clause-must_cells : goal.write_split-requires-clause-must_cells
write_split-requires-clause-must_cells c = c.parts_of-state.ensures.must_set.cells

pub write_split-requires-clause-may_cells : goal.write_split-requires-clause-may_cells
write_split-requires-clause-may_cells c = c.parts_of-state.ensures.may_set.cells

pub write_split-requires-clause-must_same : goal.write_split-requires-clause-must_same
write_split-requires-clause-must_same c = c.split_at_mut-positions.ensures.front_len ∙ sym c.split_at_mut-must.ensures.front_len

pub write_split-requires-clause-may_same : goal.write_split-requires-clause-may_same
write_split-requires-clause-may_same c = c.split_at_mut-positions.ensures.front_len ∙ sym c.split_at_mut-may.ensures.front_len

pub returns : goal.returns
unfolding moved done shown rows.shown
returns c =
    assembled (words_for c.args.model.now.nodes) (moved (instance_in c.args.model.now) (shown (words_for c.args.model.now.nodes) c.args.s.now) c.args.to) _ _ _ _ _ _ _ _
    c.write_split.ensures.one (omega (arith, c.split_at_mut-positions.ensures.front_len, c.min-words.ensures, c.words_for.ensures, c.args.model.now.few))
    (c.write_split.ensures.must ∙ ap (λ (r : List ℤ). row_of (length c.split_at_mut-must.result.0.now) (λ v. has r v && not (nat_eq v c.args.to))) (c.parts_of-state.ensures.must ∙ ap (rows.must_of (words_for c.args.model.now.nodes)) c.pending_of.ensures.row)) (omega (arith, c.split_at_mut-must.ensures.front_len, c.min-words.ensures, c.words_for.ensures, c.args.model.now.few))
    (c.write_split.ensures.may ∙ ap (λ (r : List ℤ). row_of (length c.split_at_mut-may.result.0.now) (λ v. has r v && not (nat_eq v c.args.to))) (c.parts_of-state.ensures.may ∙ ap (rows.may_of (words_for c.args.model.now.nodes)) c.pending_of.ensures.row)) (omega (arith, c.split_at_mut-may.ensures.front_len, c.min-words.ensures, c.words_for.ensures, c.args.model.now.few))
    (omega (arith, c.split_at_mut-positions.ensures.back_len, c.split_at_mut-must.ensures.back_len, c.split_at_mut-may.ensures.back_len, c.min-words.ensures, c.words_for.ensures, c.args.model.now.few, c.requires.cells))
    (time_cell _ _ c.requires.departure c.requires.small)
