use Rattle.std.proofs.Common.{Some, sym, ◌∙◌, ap, FitsSigned, w64, rules}
use Rattle.board_laws.specs.Board.{reach_of}
use Rattle.board.proofs.Sums.{far-sum}
use Rattle.board.proofs.restoring.reach_of.Goals as goal

pub overflow_add-result : goal.overflow_add-result
overflow_add-result c =
    let value : FitsSigned w64 c.in-Some.value = search rules in
    let within : FitsSigned w64 c.args.within = search rules in
    (far-sum c.in-Some.value c.args.within value within (c.requires c.in-Some.value c.in-Some.is)).fits

pub returns-in-Some : goal.returns-in-Some
returns-in-Some c =
    let value : FitsSigned w64 c.in-Some.value = search rules in
    let within : FitsSigned w64 c.args.within = search rules in
    let sum = far-sum c.in-Some.value c.args.within value within (c.requires c.in-Some.value c.in-Some.is) in
    ap (λ z. Some z) sum.is ∙ ap (reach_of c.args.within) (sym c.in-Some.is)
