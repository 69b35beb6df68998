use Rattle.std.proofs.Common.{◌≡◌, ◌-◌}
use Rattle.tokens.specs.Text.{ends_line}
use Rattle.cover_text.specs.Grammar.{until}
use Rattle.cover_text.specs.RowLines.{arc_at}
use Rattle.cover_text.proofs.rows.read_arc_list.Given as goal

-- the rows before and the words stay
abbrev pub invariant-loop : goal.invariant-loop
invariant-loop l = record {
  reads : until ends_line arc_at (l.most - l.counter) l.rows.arcs l.tokens ≡ until ends_line arc_at l.most l.initial.rows.arcs l.initial.tokens;
  cover : l.rows.cover ≡ l.initial.rows.cover;
  words : l.rows.words ≡ l.initial.rows.words;
}
