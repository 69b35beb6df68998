use Rattle.std.proofs.Common.{◌*◌, pos, get_or, ap, sym, subst, ◌∙◌}
use Rattle.node_sets.specs.Sets.{IsSet, words_for}
use Rattle.pending_rows.proofs.RowStates.{row-gives}
use Rattle.pending_rows.proofs.Written.{time_read, may_part}
use Rattle.pending_rows.proofs.parts.parts_of.Goals as goal

pub returns-clause-time : goal.returns-clause-time
returns-clause-time c =
    let row = row-gives c.args.n c.args.s.now c.requires.state in
    time_read _ _ (ap (λ w. get_or c.args.s.now (2 * w) (pos 0)) c.words_for-words.ensures ∙ row.time) row.early

pub returns-clause-must_set : goal.returns-clause-must_set
returns-clause-must_set c = rw c.words_for-words.ensures (row-gives c.args.n c.args.s.now c.requires.state).must

pub returns-clause-may_set : goal.returns-clause-may_set
returns-clause-may_set c =
    subst (IsSet c.args.n) (sym (may_part (words_for c.args.n) c.words_for-words.result c.args.s.now c.words_for-words.ensures)) (row-gives c.args.n c.args.s.now c.requires.state).may
