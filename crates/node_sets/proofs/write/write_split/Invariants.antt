use Rattle.std.proofs.Common.{◌&&◌, not, nat_eq, length}
use Rattle.node_sets.specs.Sets.{row_of, has}
use Rattle.node_sets.proofs.Written.{IsWritten}
use Rattle.node_sets.proofs.write.write_split.Given as goal

abbrev pub invariant-words : goal.invariant-words
invariant-words l = record {
  one : IsWritten (row_of (length l.initial.one) (λ u. nat_eq u l.v)) l.one l.i;
  must : IsWritten (row_of (length l.initial.must) (λ u. has l.from_must u && not (nat_eq u l.v))) l.must l.i;
  may : IsWritten (row_of (length l.initial.may) (λ u. has l.from_may u && not (nat_eq u l.v))) l.may l.i;
}
