use Rattle.std.proofs.Common.{◌≡◌, ◌^◌, ◌≤◌, arith, to_z, of_z, w64}
use Rattle.std.proofs.lemmas.Int.{ints}
use Rattle.max_two_sat.specs.declared.draft.Draft.{Draft}
use Rattle.max_two_sat.specs.Drafted.{gathered_in, instance_gathered}
use Rattle.max_two_sat.specs.Limits.{IsWithinLimits}
use Rattle.max_two_sat.specs.Room.{IsGathered}
use Rattle.max_two_sat.specs.Laws.Totals.{parts-small}
use Rattle.max_two_sat.proofs.instance.MaxTwoSat.of_draft.Goals as goal

within : (d : Draft) → IsGathered (gathered_in d) → d.clauses ≤ 2 ^ 20 → IsWithinLimits (instance_gathered d)
within d gathered few = record {
  variables = gathered.variables;
  whole = gathered.whole;
  tautologies = gathered.tautologies;
  units = gathered.units;
  pairs = gathered.pairs;
  total = omega (arith, ints, gathered.weight, gathered.total);
  lines = omega (arith, gathered.lines);
  some = gathered.some;
}

-- the weight of the tautologies is read as it is
read : (d : Draft) → IsGathered (gathered_in d) → d.clauses ≤ 2 ^ 20 → to_z w64 (of_z w64 d.tautologies) ≡ d.tautologies
read d gathered few = omega (arith, ints, gathered.tautologies, (parts-small (instance_gathered d) (within d gathered few)).tautologies)

pub invariant_of-result : goal.invariant_of-result
invariant_of-result c = record { kept = rw (read c.args.draft c.requires.gathered c.requires.few) (within c.args.draft c.requires.gathered c.requires.few) }
