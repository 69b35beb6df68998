-- Bodies that a journal can hold.
use Rattle.std.specs.Prelude.{◌^◌, nat_lt, Bool, ◌&&◌}
use Rattle.journal_bytes.specs.Bodies.{RecordView}
use Rattle.journal_bytes.specs.Journal.{HeadView}
use Rattle.journal_bytes.specs.Sizes.{head_size}
use Rattle.journal_bytes.specs.Spelling.{record_size}

-- the bodies of a head and of a record have lengths of 32 bits
abbrev pub are_short : HeadView → RecordView → Bool
are_short h r = nat_lt (head_size h) (2 ^ 32) && nat_lt (record_size r) (2 ^ 32)
