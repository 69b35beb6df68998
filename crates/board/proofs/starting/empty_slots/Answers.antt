use Rattle.std.proofs.Common.{◌∷◌, ◌++◌, [], None, ◌∙◌, ap, arith}
use Rattle.board_laws.proofs.Fresh.{slots-more}
use Rattle.board.proofs.starting.empty_slots.Goals as goal

pub loop-made-preserved : goal.loop-made-preserved
loop-made-preserved c = record {
  slots = c.push_reserved.ensures.items ∙ (ap (λ l. l ++ None ∷ []) c.loop-made.invariant.slots ∙ slots-more c.loop-made._made);
  many = (let more = c.push_reserved.ensures.len in let many = c.loop-made.invariant.many in omega arith);
  capacity = c.push_reserved.ensures.capacity ∙ c.loop-made.invariant.capacity;
}
