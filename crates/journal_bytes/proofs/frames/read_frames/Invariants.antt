use Rattle.std.proofs.Common.{◌≡◌, ◌-◌, ◌≤◌, length, map, drop}
use Rattle.journal_bytes.specs.Found.{frame}
use Rattle.journal_bytes.specs.Frames.{reading, no_digest}
use Rattle.journal_bytes.proofs.Found.{with_fronts}
use Rattle.journal_bytes.proofs.frames.read_frames.Given as goal

abbrev pub invariant-loop-turn : goal.invariant-loop-turn
invariant-loop-turn l = record { read : with_fronts (map frame l.frames.items) (reading (length l.file - l._turn) l.digest l.at (drop l.at l.file)) ≡ reading (length l.file) no_digest 0 l.file; within : l.at ≤ length l.file }
