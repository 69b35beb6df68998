-- The first sync that a disk in memory has noted.
use Rattle.std.specs.Prelude.{Option, Some, None}
use Rattle.disk.specs.declared.first_sync.Noted.{Noted}
use Rattle.disk.specs.Disk.{FirstSync}

abbrev pub noted : Option Noted → Option FirstSync
noted None = None
noted (Some first) = Some (record { moment = first.moment; content = first.content.value.items; faults = first.faults })
