use Rattle.node_sets.proofs.Combined.{IsRewritten, combined}
use Rattle.node_sets.specs.declared.pairing.Pairing.TheVariants.{Union}
use Rattle.node_sets.proofs.combine.union_with.Given as goal

abbrev pub invariant-loop-i : goal.invariant-loop-i
invariant-loop-i l = IsRewritten (combined Union l.initial.row l.other) l.initial.row l.row l.i
