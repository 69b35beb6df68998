use Rattle.std.proofs.Common.{arith, sym, ◌∙◌}
use Rattle.tokens.proofs.Chains.{times_more, times_done, times_steps}
use Rattle.max_two_sat.specs.Drafted.{gathered_in}
use Rattle.max_two_sat.specs.Texts.{clause_at}
use Rattle.max_two_sat.proofs.reading_clauses.read_clauses.Goals as goal

pub loop-preserved : goal.loop-preserved
loop-preserved c = record {
  reads =
      sym (times_more (clause_at c.args.header) c.args.header.clauses c.loop.counter (gathered_in c.loop.draft) (gathered_in c.read_clause.new.draft) c.loop.tokens c.read_clause.new.tokens c.loop-test.true c.in_ok-read_clause.ensures.read)
      ∙ c.loop.invariant.reads;
  under_way = c.in_ok-read_clause.ensures.under_way;
  count = omega (arith, c.in_ok-read_clause.ensures.count);
}

pub returns-clause-read : goal.returns-clause-read
returns-clause-read c = sym c.loop.invariant.reads ∙ times_done (clause_at c.args.header) c.args.header.clauses c.loop.counter (gathered_in c.loop.draft) c.loop.tokens c.loop-test.false

pub returns-in_err-read_clause-clause-read : goal.returns-in_err-read_clause-clause-read
returns-in_err-read_clause-clause-read c = grind (arith, times_steps, c.loop.invariant, c.loop-test.true)
