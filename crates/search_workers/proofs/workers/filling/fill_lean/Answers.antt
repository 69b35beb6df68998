use Rattle.std.proofs.Common.{sym, subst}
use Rattle.dp_model.specs.declared.cut_kind.CutKind.TheVariants.{LastExactLayer}
use Rattle.search_workers.specs.Prepared.{HoldsChildren}
use Rattle.search_workers.proofs.workers.filling.fill_lean.Goals as goal

pub returns-clause-cutset : goal.returns-clause-cutset
returns-clause-cutset g c =
    let dp = g.M.DpModel.meaning (g.M.DpModel.numbers c.args.model.now) in
    let width = c.compile_lean.ensures.width in
    let before = subst (λ w. HoldsChildren dp w LastExactLayer c.args.cutset.now) (sym width) c.requires.cutset in
    subst (λ w. HoldsChildren dp w LastExactLayer c.cut_children.new.out) width (c.cut_children.ensures.prepared LastExactLayer before)
