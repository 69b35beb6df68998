-- What a draft in memory holds.
use Rattle.max_two_sat.specs.declared.draft.Draft.{Draft}
use Rattle.max_two_sat.specs.Instance.{Instance}
use Rattle.max_two_sat.specs.Clauses.{Gathered}

abbrev pub instance_gathered : Draft → Instance
instance_gathered d = record { tautologies = d.tautologies; units = d.units.items; pairs = d.pairs.items }

abbrev pub gathered_in : Draft → Gathered
gathered_in d = record { instance = instance_gathered d; total = d.total; clauses = d.clauses }
