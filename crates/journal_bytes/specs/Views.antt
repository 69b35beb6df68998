-- Records without where they lie in memory, and what a reader gives.
use Rattle.std.specs.Prelude.{◌≡◌, map, option_map, Option, Some, None, Result, Ok, Err}
use Rattle.journal_bytes.specs.declared.record.Child.{Child}
use Rattle.journal_bytes.specs.declared.record.Incumbent.{Incumbent}
use Rattle.journal_bytes.specs.declared.record.Listed.{Listed}
use Rattle.journal_bytes.specs.declared.record.Record.{Record}
use Rattle.journal_bytes.specs.declared.record.Record.TheVariants as records
use Rattle.journal_bytes.specs.declared.body.BodyError.{BodyError}
use Rattle.journal_bytes.specs.declared.body.BodyError.TheVariants as errors
use Rattle.journal_bytes.specs.Bodies.{ChildView, IncumbentView, ListedView, RecordView, Improve, Finish, Snapshot}

-- a child as its readers see it
abbrev pub child_view : Child → ChildView
child_view c = record { replaced = c.replaced; bound = c.bound; decisions = c.decisions.items }

-- the best solution of a snapshot as its readers see it
abbrev pub incumbent_view : Incumbent → IncumbentView
incumbent_view b = record { value = b.value; decisions = b.decisions.items }

-- a subproblem of a snapshot as its readers see it
abbrev pub listed_view : Listed → ListedView
listed_view o = record { ticket = o.ticket; bound = o.bound; decisions = o.decisions.items }

-- a record as its readers see it
abbrev pub record_view : Record → RecordView
record_view (records.Improve value decisions) = Improve value decisions.items
record_view (records.Finish ticket children) = Finish ticket (map child_view children.items)
record_view (records.Snapshot best next listed) = Snapshot (option_map incumbent_view best) next (map listed_view listed.items)

-- what a reader gives is what stands there, unless memory ran out
abbrev pub Fails : {Y : Type 0} → BodyError → Option Y → Type 0
Fails errors.OutOfMemory read = Unit {0}
Fails errors.Malformed read = read ≡ None

-- what is read is what stands there, and an error is its cause
abbrev pub Gives : {X Y : Type 0} → (X → Y) → Result X BodyError → Option Y → Type 0
Gives view (Ok x) read = read ≡ Some (view x)
Gives view (Err e) read = Fails e read
