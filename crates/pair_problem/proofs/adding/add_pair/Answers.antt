use Rattle.std.proofs.Common.{◌≡◌, ◌^◌, ◌<◌, pos, ◌≤ℤ◌, length, get_or, arith, ap, ◌∙◌, sym, subst}
use Rattle.std.proofs.lemmas.List.{get_or_default}
use Rattle.pair_rows.specs.declared.values.PairValues.{PairValues}
use Rattle.pair_rows.specs.Pairs.{pair_count}
use Rattle.pair_rows.specs.Instance.{no_pair}
use Rattle.pair_rows.specs.Limits.{PairFits}
use Rattle.pair_rows.specs.Shown.{instance_of}
use Rattle.pair_rows.proofs.Cells.{pair-at}
use Rattle.pair_problem.proofs.Sums.{pair-small}
use Rattle.pair_problem.proofs.adding.add_pair.Goals as goal

pub pair_sum-sum-requires-clause-first : goal.pair_sum-sum-requires-clause-first
pair_sum-sum-requires-clause-first c =
    let count : pair_count c.len.result ≡ pair_count (length c.args.list.now.units.items) = ap pair_count (c.len.ensures ∙ c.args.list.now.units.ok.0) in
    let inside : c.place_of_pair-at.result < length c.args.list.now.pairs.items = omega (arith, c.place_of_pair-at.ensures.inside, c.requires.kept.whole) in
    subst (λ (p : PairValues). PairFits p) (sym c.index.ensures)
    (pair-at c.args.list.now.pairs.items c.place_of_pair-at.result c.index.result.now inside c.requires.kept.pairs)

pub pair_sum-sum-requires-clause-first_small : goal.pair_sum-sum-requires-clause-first_small
pair_sum-sum-requires-clause-first_small c =
    let count : pair_count c.len.result ≡ pair_count (length c.args.list.now.units.items) = ap pair_count (c.len.ensures ∙ c.args.list.now.units.ok.0) in
    let inside : c.place_of_pair-at.result < length c.args.list.now.pairs.items = omega (arith, c.place_of_pair-at.ensures.inside, c.requires.kept.whole) in
    let old : c.index.result.now ≡ get_or c.args.list.now.pairs.items c.place_of_pair-at.result no_pair =
    c.index.ensures ∙ get_or_default c.args.list.now.pairs.items c.place_of_pair-at.result c.index.result.now no_pair inside in
    subst (λ (p : PairValues). p.most ≤ℤ pos (2 ^ 48)) (sym old) (pair-small (instance_of c.args.list.now) c.place_of_pair-at.result c.requires.kept inside)
