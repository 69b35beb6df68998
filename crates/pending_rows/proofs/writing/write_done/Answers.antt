use Rattle.std.proofs.Common.{ℤ, List, ◌&&◌, not, nat_eq, length, take, drop, refl, sym, ap, ◌∙◌, subst, arith}
use Rattle.node_sets.specs.Sets.{AreWords, words_for, row_of, has}
use Rattle.pending_rows.specs.Pending.{done, shown}
use Rattle.pending_rows.proofs.RowStates.{row-gives}
use Rattle.pending_rows.proofs.Written.{assembled, time_cell, split_may}
use Rattle.pending_rows.proofs.writing.write_done.Goals as goal

pub copy_from_slice-requires : goal.copy_from_slice-requires
copy_from_slice-requires c = c.requires.cells ∙ sym (row-gives c.args.n c.args.s.now c.requires.state).cells

pub remove-requires-clause-cells : goal.remove-requires-clause-cells
remove-requires-clause-cells c =
    subst AreWords (sym (c.split_at_mut-must.ensures.front ∙ ap (take c.words_for-words.result) c.copy_from_slice.ensures.after ∙ ap (λ w. take w c.args.s.now) c.words_for-words.ensures))
    (row-gives c.args.n c.args.s.now c.requires.state).must.cells

pub remove-requires-2-clause-cells : goal.remove-requires-2-clause-cells
remove-requires-2-clause-cells c =
    subst AreWords (sym (split_may (words_for c.args.n) c.words_for-words.result c.args.s.now c.split_at_mut-must.result.1.now c.split_at_mut-may.result.0.now c.words_for-words.ensures
    (c.split_at_mut-must.ensures.back ∙ ap (drop c.words_for-words.result) c.copy_from_slice.ensures.after) c.split_at_mut-may.ensures.front))
    (row-gives c.args.n c.args.s.now c.requires.state).may.cells

pub returns : goal.returns
unfolding done shown
returns c =
    let must = c.split_at_mut-must.ensures.front ∙ ap (take c.words_for-words.result) c.copy_from_slice.ensures.after ∙ ap (λ w. take w c.args.s.now) c.words_for-words.ensures in
    let may = split_may (words_for c.args.n) c.words_for-words.result c.args.s.now c.split_at_mut-must.result.1.now c.split_at_mut-may.result.0.now c.words_for-words.ensures
    (c.split_at_mut-must.ensures.back ∙ ap (drop c.words_for-words.result) c.copy_from_slice.ensures.after) c.split_at_mut-may.ensures.front in
    assembled (words_for c.args.n) (done (shown (words_for c.args.n) c.args.s.now) c.args.number c.args.time) _ _ _ _ _ _
    (c.remove.ensures ∙ ap (λ (r : List ℤ). row_of (length c.split_at_mut-must.result.0.now) (λ v. has r v && not (nat_eq v c.args.number))) must)
    (omega (arith, c.split_at_mut-must.ensures.front_len, c.words_for-words.ensures))
    (c.remove-2.ensures ∙ ap (λ (r : List ℤ). row_of (length c.split_at_mut-may.result.0.now) (λ v. has r v && not (nat_eq v c.args.number))) may)
    (omega (arith, c.split_at_mut-may.ensures.front_len, c.words_for-words.ensures))
    (omega (arith, c.split_at_mut-must.ensures.back_len, c.split_at_mut-may.ensures.back_len, c.words_for-words.ensures, (row-gives c.args.n c.args.s.now c.requires.state).cells))
    (time_cell _ _ refl (omega (arith, c.requires.early)))
