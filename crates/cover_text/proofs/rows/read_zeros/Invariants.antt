use Rattle.std.proofs.Common.{◌≡◌, ◌-◌, ◌*◌}
use Rattle.cover_text.specs.Grammar.{until}
use Rattle.cover_text.specs.RowLines.{ends_words, state_word_at}
use Rattle.cover_text.proofs.rows.read_zeros.Given as goal

-- the rows before and the arcs stay
abbrev pub invariant-eights : goal.invariant-eights
invariant-eights l = record {
  reads : until ends_words state_word_at (l.most - 8 * l.block) l.rows.words l.tokens ≡ until ends_words state_word_at l.most l.initial.rows.words l.initial.tokens;
  cover : l.rows.cover ≡ l.initial.rows.cover;
  arcs : l.rows.arcs ≡ l.initial.rows.arcs;
}
