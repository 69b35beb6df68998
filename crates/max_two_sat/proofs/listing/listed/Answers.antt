use Rattle.max_two_sat.specs.Instance.{Instance}
use Rattle.max_two_sat.specs.Laws.Totals.{PartsAreSmall, parts-small}
use Rattle.max_two_sat.proofs.Entries.{each-unit, each-pair}
use Rattle.max_two_sat.proofs.listing.listed.Goals as goal

pub values_of-requires : goal.values_of-requires
values_of-requires c =
    let i : Instance = record { tautologies = c.args.tautologies; units = c.args.units.now; pairs = c.args.pairs.now } in
    let small : PartsAreSmall i = parts-small i c.requires in
    each-unit c.args.units.now c.requires.units small.units

pub values_of-requires-2 : goal.values_of-requires-2
values_of-requires-2 c =
    let i : Instance = record { tautologies = c.args.tautologies; units = c.args.units.now; pairs = c.args.pairs.now } in
    let small : PartsAreSmall i = parts-small i c.requires in
    each-pair c.args.pairs.now c.requires.pairs small.pairs
