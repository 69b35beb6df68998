use Rattle.std.proofs.Common.{◌≡◌, ◌^◌, pos, ◌≤ℤ◌, get_or, ◌∙◌, sym, subst}
use Rattle.std.proofs.lemmas.List.{get_or_default}
use Rattle.pair_rows.specs.declared.values.UnitValues.{UnitValues}
use Rattle.pair_rows.specs.Instance.{no_unit}
use Rattle.pair_rows.specs.Shown.{instance_of}
use Rattle.pair_problem.proofs.Sums.{unit-small}
use Rattle.pair_problem.proofs.adding.add_unit.Goals as goal

pub unit_sum-sum-requires-clause-first_small : goal.unit_sum-sum-requires-clause-first_small
unit_sum-sum-requires-clause-first_small c =
    let old : c.index.result.now ≡ get_or c.args.list.now.units.items c.args.a no_unit =
    c.index.ensures ∙ get_or_default c.args.list.now.units.items c.args.a c.index.result.now no_unit c.requires.variable in
    subst (λ (u : UnitValues). u.most ≤ℤ pos (2 ^ 48)) (sym old) (unit-small (instance_of c.args.list.now) c.args.a c.requires.kept c.requires.variable)
