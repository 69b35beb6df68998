use Rattle.std.proofs.Common.{rules}
use Rattle.fringe.proofs.Bests.{best_of, ranked_others, ranked_stale}
use Rattle.fringe.proofs.popping.first_slot.Goals as goal

pub returns-then-has_rank-clause-best : goal.returns-then-has_rank-clause-best
returns-then-has_rank-clause-best c = best_of _ _ _ (search rules) c.loop-rank.invariant.ranked c.in-Some.ensures.greatest

pub returns-then-has_rank-clause-ranked : goal.returns-then-has_rank-clause-ranked
returns-then-has_rank-clause-ranked c = ranked_others _ _ _ _ c.loop-rank.invariant.ranked c.in-Some.ensures.rest

pub loop-rank-preserved : goal.loop-rank-preserved
loop-rank-preserved c = record {
  ranked = ranked_stale _ _ _ _ c.loop-rank.invariant.ranked c.in-Some.ensures.rest (search rules);
  room = search rules;
  len = search rules;
}
