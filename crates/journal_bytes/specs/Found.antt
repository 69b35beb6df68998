-- What a reading has found, without where it lies in memory.
use Rattle.std.specs.Prelude.{map}
use Rattle.journal_bytes.specs.declared.frames.Frame.{Frame as Kept}
use Rattle.journal_bytes.specs.declared.frames.Found.{Found}
use Rattle.journal_bytes.specs.Frames.{Frame, Reading}

-- a frame as the file has it
abbrev pub frame : Kept → Frame
frame f = record { kind = f.kind; body = f.body.items }

-- what was read
abbrev pub found : Found → Reading
found r = record { frames = map frame r.frames.items; digest = r.digest; end = r.end; is_whole = r.is_whole }
