use Rattle.std.proofs.Common.{refl, arith}
use Rattle.node_sets.specs.Sets.{words_for}
use Rattle.pending_rows.specs.Pending.{start}
use Rattle.pending_rows.proofs.Written.{assembled}
use Rattle.pending_rows.proofs.writing.write_start.Goals as goal

pub returns : goal.returns
unfolding start
returns c =
    assembled (words_for c.args.n) (start c.args.n) _ _ _ _ _ _
    c.write_below.ensures (omega (arith, c.split_at_mut-must.ensures.front_len, c.words_for-words.ensures))
    c.clear.ensures.row (omega (arith, c.split_at_mut-may.ensures.front_len, c.words_for-words.ensures))
    (omega (arith, c.split_at_mut-must.ensures.back_len, c.split_at_mut-may.ensures.back_len, c.words_for-words.ensures, c.requires.cells)) refl
