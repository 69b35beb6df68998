use Rattle.std.proofs.Common.{List, ℤ, Option, [], unwrap_or, sym, ap}
use Rattle.wide_layers.proofs.Lasts.{row-is-state}
use Rattle.wide_layers.proofs.making.parent_at.Goals as goal

pub rank-requires : goal.rank-requires
rank-requires g c =
    let dp = g.M.DpModel.meaning (g.M.DpModel.numbers c.args.model.now) in
    row-is-state dp c.args.space.now c.last_depth-k.result c.args.i c.last_row-state.result.now c.last_depth-k.ensures c.requires.under_way.within.states c.requires.within (ap (λ (o : Option (List ℤ)). unwrap_or o []) c.last_row-state.ensures)

pub returns-clause-state : goal.returns-clause-state
returns-clause-state g c = sym (ap (λ (o : Option (List ℤ)). unwrap_or o []) c.last_row-state.ensures)
