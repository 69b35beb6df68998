use Rattle.std.proofs.Common.{sym, subst}
use Rattle.kept_board.specs.Kept.{IsKept}
use Rattle.kept_board.proofs.Keeping.{first-kept}
use Rattle.kept_board.proofs.kept.Kept.new.Goals as goal

pub invariant_of-result : goal.invariant_of-result
invariant_of-result g c =
    let dp = g.M.DpModel.meaning c.args.board.numbers in
    let known = c.facts.ensures in
    subst (λ made. IsKept g.D.Disk dp c.args.board.board made c.args.disk c.args.tail) (sym c.of-made.ensures)
    (record { lawful = known.lawful; journal = first-kept g.D.Disk dp known.lawful c.args.board.board c.args.disk c.args.tail (g.met.D.Disk.only_now c.args.disk) c.requires.idle.0 known.kept c.requires.made })
