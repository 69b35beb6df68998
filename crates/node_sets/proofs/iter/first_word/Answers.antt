use Rattle.std.proofs.Common.{◌≡◌, length, sym, arith}
use Rattle.std.proofs.lemmas.Bool.Decides.{nat_tests}
use Rattle.node_sets.proofs.Words.{row_word-past}
use Rattle.node_sets.proofs.iter.first_word.Goals as goal

pub returns-then-is_empty : goal.returns-then-is_empty
returns-then-is_empty c =
    let none : length c.args.row.now ≡ 0 = grind (arith, nat_tests, c.if-is_empty.ensures) in
    sym (row_word-past c.args.row.now 0 (omega arith))
