use Rattle.std.proofs.Common.{leb, rules}
use Rattle.std.proofs.lemmas.List.Sorted.{IsPartitionPoint-from_clause, IsPartitionedBy-leb}
use Rattle.knapsack.proofs.filling.count_within.Goals as goal

pub returns-clause-point : goal.returns-clause-point
returns-clause-point c =
    IsPartitionPoint-from_clause (λ w. leb w c.args.room) c.args.weights.now c.partition_point.result c.partition_point.ensures.partitioned
    (IsPartitionedBy-leb (λ w. w) c.args.weights.now c.args.room c.requires)
    (λ a r f k. search rules)
