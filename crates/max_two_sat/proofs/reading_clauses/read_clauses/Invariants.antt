use Rattle.std.proofs.Common.{◌≡◌, ◌-◌}
use Rattle.tokens.specs.Grammar.{times}
use Rattle.max_two_sat.specs.Drafted.{gathered_in}
use Rattle.max_two_sat.specs.Room.{IsGathering}
use Rattle.max_two_sat.specs.Texts.{clause_at}
use Rattle.max_two_sat.proofs.reading_clauses.read_clauses.Given as goal

-- reading goes on with what was gathered so far
abbrev pub invariant-loop : goal.invariant-loop
invariant-loop l = record {
  reads : times (clause_at l.header) (l.header.clauses - l.counter) (gathered_in l.draft) l.tokens ≡ times (clause_at l.header) l.header.clauses (gathered_in l.initial.draft) l.initial.tokens;
  under_way : IsGathering l.header (gathered_in l.draft);
  count : l.draft.clauses ≡ l.counter;
}
