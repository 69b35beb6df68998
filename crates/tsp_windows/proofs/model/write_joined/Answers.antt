use Rattle.std.proofs.Common.{ℤ, List, ◌++◌, ◌||◌, drop, take, length, sym, ap, ap₂, ◌∙◌, subst, arith}
use Rattle.node_sets.specs.Sets.{AreWords, words_for, row_of, has}
use Rattle.pending_rows.specs.Pending as rows
use Rattle.pending_rows.specs.Pending.{Pending, is_pending_row}
use Rattle.pending_rows.proofs.Written.{row_same}
use Rattle.tsp_windows.specs.States.{joined, shown}
use Rattle.tsp_windows.specs.Laws.Program.{state_row-gives}
use Rattle.tsp_windows.proofs.StateLemmas.{pending-row, pending-shown}
use Rattle.tsp_windows.proofs.model.write_joined.Goals as goal

pub split_at_mut-positions-requires : goal.split_at_mut-positions-requires
split_at_mut-positions-requires c = omega (arith, c.words_for-words.ensures, (state_row-gives c.args.nodes c.args.acc.now c.requires.kept).cells)

pub union_with-requires-clause-cells : goal.union_with-requires-clause-cells
union_with-requires-clause-cells c =
    subst AreWords (sym (c.split_at_mut-positions.ensures.front ∙ ap (λ w. take w c.args.acc.now) c.words_for-words.ensures)) (state_row-gives c.args.nodes c.args.acc.now c.requires.kept).positions.cells

pub union_with-requires-clause-other_cells : goal.union_with-requires-clause-other_cells
union_with-requires-clause-other_cells c = c.positions_of.ensures.set.cells

pub union_with-requires-clause-same : goal.union_with-requires-clause-same
union_with-requires-clause-same c = c.split_at_mut-positions.ensures.front_len ∙ (c.words_for-words.ensures ∙ sym c.positions_of.ensures.set.words)

pub write_joined-requires-clause-kept : goal.write_joined-requires-clause-kept
write_joined-requires-clause-kept c =
    ap (is_pending_row c.args.nodes) (c.split_at_mut-positions.ensures.back ∙ ap (λ w. drop w c.args.acc.now) c.words_for-words.ensures) ∙ pending-row c.args.nodes c.args.acc.now c.requires.kept

pub returns : goal.returns
unfolding joined shown
returns c =
    let front = c.split_at_mut-positions.ensures.front ∙ ap (λ w. take w c.args.acc.now) c.words_for-words.ensures in
    let back = c.split_at_mut-positions.ensures.back ∙ ap (λ w. drop w c.args.acc.now) c.words_for-words.ensures in
    ap₂ ◌++◌
    (row_same (words_for c.args.nodes) _ _ (λ v. (shown (words_for c.args.nodes) c.args.acc.now).positions v || (shown (words_for c.args.nodes) c.args.s.now).positions v)
    (c.union_with.ensures.row ∙ ap₂ (λ (r q : List ℤ). row_of (length c.split_at_mut-positions.result.0.now) (λ v. has r v || has q v)) front c.positions_of.ensures.row)
    (omega (arith, c.split_at_mut-positions.ensures.front_len, c.words_for-words.ensures)))
    (c.write_joined.ensures
    ∙ ap₂ (λ (a b : Pending). rows.row_for (words_for c.args.nodes) (rows.joined a b)) (pending-shown (words_for c.args.nodes) c.args.acc.now _ back) c.pending_of.ensures.shown)
