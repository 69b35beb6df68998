use Rattle.std.proofs.Common.{◌≡◌, ◌&&◌, not, nat_eq, nat_lt, ap, ◌∙◌, arith}
use Rattle.node_sets.proofs.Made.{row_is}
use Rattle.node_sets.proofs.Written.{others_none, others_more}
use Rattle.node_sets.proofs.write.write_others.Goals as goal

pub numbers-init : goal.numbers-init
numbers-init c = (c.clear.ensures.cells, others_none c.clear.new.row c.clear.ensures.members)

pub numbers-preserved : goal.numbers-preserved
numbers-preserved c =
    (c.insert.ensures.cells, others_more c.numbers.row c.insert.new.row c.numbers.v (omega arith) c.numbers.invariant.1 c.insert.ensures.members)

pub returns : goal.returns
returns c =
    let all : c.numbers.v ≡ c.args.n = omega arith in
    row_is _ _ _ c.numbers.invariant.0 (omega arith) (λ u. c.numbers.invariant.1 u ∙ ap (λ n. nat_lt u n && not (nat_eq u 0)) all)
