use Rattle.node_sets.specs.declared.pairing.Pairing.TheVariants.{Intersection}
use Rattle.node_sets.proofs.Combined.{IsRewritten, combined, joined_may}
use Rattle.node_sets.proofs.combine.join.Given as goal

abbrev pub invariant-words : goal.invariant-words
invariant-words l = record {
  must : IsRewritten (combined Intersection l.initial.must l.other_must) l.initial.must l.must l.i;
  may : IsRewritten (joined_may l.initial.must l.initial.may l.other_must l.other_may) l.initial.may l.may l.i;
}
