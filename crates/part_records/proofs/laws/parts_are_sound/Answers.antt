use Rattle.frontier_parts.specs.Dealing.{is_dealt}
use Rattle.journal_replay.specs.Following.{snapshot_record}
use Rattle.journal_replay.proofs.Parted.{parts-recorded}
use Rattle.part_records.specs.Parts.{bounds_in, listed_by}
use Rattle.part_records.proofs.laws.parts_are_sound.Goals as goal

pub returns : goal.returns
returns c = λ dp laws b of index g. parts-recorded dp laws b (is_dealt (bounds_in (listed_by (snapshot_record b))) of index) g
