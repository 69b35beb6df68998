use Rattle.std.proofs.Common.{◌≡◌, ◌++◌, replicate, pos}
use Rattle.cover_text.proofs.rows.add_zeros.Given as goal

-- this many zeros stand after the words
abbrev pub invariant-loop : goal.invariant-loop
invariant-loop l = record {
  words : l.rows.words ≡ l.initial.rows.words ++ replicate l.counter (pos 0);
  cover : l.rows.cover ≡ l.initial.rows.cover;
  arcs : l.rows.arcs ≡ l.initial.rows.arcs;
}
