use Rattle.std.proofs.Common.{ℤ, List, ◌&&◌, ◌||◌, not, length, take, min, ap, ap₂, ◌∙◌, arith}
use Rattle.node_sets.specs.Sets.{words_for, row_of, has}
use Rattle.pending_rows.specs.Pending.{joined, shown}
use Rattle.pending_rows.proofs.RowStates.{row-gives}
use Rattle.pending_rows.proofs.Written.{assembled, time_cell, split_may}
use Rattle.pending_rows.proofs.writing.write_joined.Goals as goal

pub returns : goal.returns
unfolding joined shown
returns c =
    let m = c.split_at_mut-must.ensures.front ∙ ap (λ w. take w c.args.acc.now) c.words_for-words.ensures in
    let y = split_may (words_for c.args.n) c.words_for-words.result c.args.acc.now c.split_at_mut-must.result.1.now c.split_at_mut-may.result.0.now c.words_for-words.ensures c.split_at_mut-must.ensures.back c.split_at_mut-may.ensures.front in
    assembled (words_for c.args.n) (joined (shown (words_for c.args.n) c.args.acc.now) (shown (words_for c.args.n) c.args.s.now)) _ _ _ _ _ _
    (c.join.ensures.must ∙ ap₂ (λ (r q : List ℤ). row_of (length c.split_at_mut-must.result.0.now) (λ v. has r v && has q v)) m c.parts_of-state.ensures.must)
    (omega (arith, c.split_at_mut-must.ensures.front_len, c.words_for-words.ensures))
    (c.join.ensures.may
    ∙ ap₂ (λ (r q : List ℤ). row_of (length c.split_at_mut-must.result.0.now) (λ v. ((has r v || has q v) || (has c.parts_of-state.result.must.now v || has c.parts_of-state.result.may.now v)) && not (has r v && has c.parts_of-state.result.must.now v))) m y
    ∙ ap₂ (λ (r q : List ℤ). row_of (length c.split_at_mut-must.result.0.now) (λ v. (((shown (words_for c.args.n) c.args.acc.now).must v || (shown (words_for c.args.n) c.args.acc.now).may v) || (has r v || has q v)) && not ((shown (words_for c.args.n) c.args.acc.now).must v && has r v))) c.parts_of-state.ensures.must c.parts_of-state.ensures.may)
    (omega (arith, c.split_at_mut-must.ensures.front_len, c.words_for-words.ensures))
    (omega (arith, c.split_at_mut-must.ensures.back_len, c.split_at_mut-may.ensures.back_len, c.words_for-words.ensures, (row-gives c.args.n c.args.acc.now c.requires.kept).cells))
    (time_cell _ _ (c.min-earlier.ensures ∙ ap₂ min c.parts_of.ensures.time c.parts_of-state.ensures.time) (omega (arith, c.min-earlier.ensures, c.parts_of-state.ensures.early)))
