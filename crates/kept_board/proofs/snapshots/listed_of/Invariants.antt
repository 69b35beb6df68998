use Rattle.std.proofs.Common.{◌≡◌, map, take}
use Rattle.fringe.specs.Listing.{referred}
use Rattle.journal_bytes.specs.Views.{listed_view}
use Rattle.journal_replay.specs.Following.{listed_recorded}
use Rattle.kept_board.proofs.snapshots.listed_of.Given as goal

abbrev pub invariant-loop-ticket : goal.invariant-loop-ticket
invariant-loop-ticket l = map listed_view l.all.items ≡ map listed_recorded (map referred (take l.ticket-index l.frontier))
