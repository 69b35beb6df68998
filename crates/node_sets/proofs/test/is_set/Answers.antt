use Rattle.std.proofs.Common.{sym, ◌∙◌}
use Rattle.node_sets.proofs.Counts.{are_words-gives, set_last}
use Rattle.node_sets.proofs.test.is_set.Goals as goal

pub is_below-requires-clause-cells : goal.is_below-requires-clause-cells
is_below-requires-clause-cells c = are_words-gives _ (sym c.are_words.ensures ∙ c.if-not-are_words.false)

pub returns : goal.returns
returns c =
    set_last c.args.n _ _ (c.if-row-words_for.false ∙ c.words_for.ensures) (sym c.are_words.ensures ∙ c.if-not-are_words.false)
    c.is_below.ensures.0 c.is_below.ensures.1
