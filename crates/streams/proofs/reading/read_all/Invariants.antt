use Rattle.std.proofs.Common.{◌≡◌, ◌-◌, ◌<◌, ◌≤◌, vec_len}
use Rattle.std.specs.Io.KnownBytes.{prepend_known}
use Rattle.streams.proofs.reading.read_all.Given as goal

abbrev pub invariant-loop-bytes : goal.invariant-loop-bytes
invariant-loop-bytes g l = record {
  nonempty : 0 < vec_len l.piece;
  short : vec_len l.bytes ≤ l.limit;
  bytes : g.S.Source.left l.initial.source ≡ prepend_known l.bytes.items (g.S.Source.left l.source);
  no_fault : g.S.Source.faults l.source ≡ g.S.Source.faults l.initial.source;
}

abbrev pub decreases-loop-bytes : goal.decreases-loop-bytes
decreases-loop-bytes g l = l.limit - vec_len l.bytes
