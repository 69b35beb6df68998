use Rattle.std.proofs.Common.{arith}
use Rattle.dp_model.specs.declared.cut_kind.CutKind.TheVariants.{Frontier}
use Rattle.search_workers.proofs.Sizing.{last_prepared}
use Rattle.search_workers.proofs.rounds.compiling.take_frontier.Goals as goal

pub children-requires-then-size-ge-BODY_LIMIT-clause-prepared : goal.children-requires-then-size-ge-BODY_LIMIT-clause-prepared
children-requires-then-size-ge-BODY_LIMIT-clause-prepared g c κs within =
    last_prepared _ _ _ (let short = c.requires.diagram.shorter in omega arith) (c.children.ensures.prepared Frontier c.requires.prepared)

pub returns-then-size-ge-BODY_LIMIT-clause-prepared : goal.returns-then-size-ge-BODY_LIMIT-clause-prepared
returns-then-size-ge-BODY_LIMIT-clause-prepared g c = c.children-then-size-ge-BODY_LIMIT.ensures.prepared Frontier (c.children.ensures.prepared Frontier c.requires.prepared)

pub returns-else-size-ge-BODY_LIMIT-clause-prepared : goal.returns-else-size-ge-BODY_LIMIT-clause-prepared
returns-else-size-ge-BODY_LIMIT-clause-prepared g c = c.children.ensures.prepared Frontier c.requires.prepared
