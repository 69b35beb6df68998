use Rattle.std.proofs.Common.{ℕ, List, drop}
use Rattle.disk.specs.Content.{Reaches}
use Rattle.disk.proofs.content.Content.image.Given as goal

abbrev pub invariant-loop-write : goal.invariant-loop-write
invariant-loop-write l = (c : List ℕ) → Reaches l.image.items (drop l.write-index l.write-items) c → Reaches l.initial.image.items l.write-items c
