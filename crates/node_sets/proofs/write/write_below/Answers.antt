use Rattle.std.proofs.Common.{◌≡◌, nat_lt, sym, ap, ◌∙◌, arith}
use Rattle.std.proofs.lemmas.Bool.{le-ltb}
use Rattle.node_sets.proofs.Made.{row_is}
use Rattle.node_sets.proofs.Written.{below_one_more}
use Rattle.node_sets.proofs.write.write_below.Goals as goal

pub numbers-init : goal.numbers-init
numbers-init c = (c.clear.ensures.cells, λ u. c.clear.ensures.members u ∙ sym (le-ltb u 0 (omega arith)))

pub numbers-preserved : goal.numbers-preserved
numbers-preserved c =
    (c.insert.ensures.cells, below_one_more c.numbers.row c.insert.new.row c.numbers.v c.numbers.invariant.1 c.insert.ensures.members)

pub returns : goal.returns
returns c =
    let all : c.numbers.v ≡ c.args.n = omega arith in
    row_is _ _ _ c.numbers.invariant.0 (omega arith) (λ u. c.numbers.invariant.1 u ∙ ap (λ n. nat_lt u n) all)
