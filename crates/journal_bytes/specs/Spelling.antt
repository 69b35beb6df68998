-- The one spelling of each body.
use Rattle.std.specs.Prelude.{◌≡◌, ℕ, ℤ, ◌-◌, ◌^◌, ◌<◌, List, [], ◌∷◌, ◌++◌, length, Option, None, Some, IfSome, FitsSigned, ◌+◌, ◌*◌, sum_by, All}
use Rattle.std.specs.List.{flat_map, AllByRecursion}
use Rattle.std.specs.Int.{w32, w64, to_be_bytes, cast_unsigned}
use Rattle.problem_names.specs.ModelNames.{byte_of}
use Rattle.journal_bytes.specs.Bodies.{ChildView, IncumbentView, ListedView, RecordView, Improve, Finish, Snapshot}
use Rattle.journal_bytes.specs.Frames.{Frame}
use Rattle.journal_bytes.specs.declared.head.Part.{Part}
use Rattle.journal_bytes.specs.declared.head.TheConstants.{VERSION, PART_VERSION}
use Rattle.journal_bytes.specs.Journal.{HeadView}

-- the version of a new journal: that of parts is their own
abbrev pub version_for : Option Part → ℕ
version_for None = VERSION
version_for (Some p) = PART_VERSION

-- the bytes of a part, or of none
unfoldable pub mark_bytes : Option Part → List ℕ
mark_bytes None = []
mark_bytes (Some p) = to_be_bytes w32 p.index ++ to_be_bytes w32 p.of ++ p.digest

-- how many these are
abbrev pub mark_size : Option Part → ℕ
mark_size None = 0
mark_size (Some p) = 40

-- a part that can be written
pub record PartFits (p : Part) : Type 0 where
  pub less : p.index < p.of
  pub of_fits : p.of < 2 ^ 32
  pub digest : length p.digest ≡ 32

-- the body of the head of a new journal
unfoldable pub head_bytes : HeadView → List ℕ
head_bytes h = to_be_bytes w32 (version_for h.part) ++ byte_of h.model ∷ [] ++ to_be_bytes w64 (cast_unsigned w64 h.within) ++ mark_bytes h.part ++ to_be_bytes w32 (length h.text) ++ h.text

-- numbers of 32 bits
abbrev pub numbers : List ℕ → List ℕ
numbers ns = flat_map (to_be_bytes w32) ns

-- how many decisions, and the decisions
unfoldable pub decision_bytes : List ℕ → List ℕ
decision_bytes ds = to_be_bytes w32 (length ds) ++ numbers ds

-- a ticket, or the greatest number for none
abbrev pub number_of_ticket : Option ℕ → ℕ
number_of_ticket None = 2 ^ 64 - 1
number_of_ticket (Some t) = t

-- a number, a bound and decisions
unfoldable pub bounded_bytes : ℕ → ℤ → List ℕ → List ℕ
bounded_bytes number bound ds = to_be_bytes w64 number ++ to_be_bytes w64 (cast_unsigned w64 bound) ++ decision_bytes ds

-- the bytes of a child
abbrev pub child_bytes : ChildView → List ℕ
child_bytes c = bounded_bytes (number_of_ticket c.replaced) c.bound c.decisions

-- the bytes of a subproblem of a snapshot
abbrev pub listed_bytes : ListedView → List ℕ
listed_bytes o = bounded_bytes o.ticket o.bound o.decisions

-- the bytes of the best solution of a snapshot, or of none
unfoldable pub best_bytes : Option IncumbentView → List ℕ
best_bytes None = 0 ∷ []
best_bytes (Some b) = 1 ∷ (to_be_bytes w64 (cast_unsigned w64 b.value) ++ decision_bytes b.decisions)

-- the body of a record
unfoldable pub record_bytes : RecordView → List ℕ
record_bytes (Improve value ds) = to_be_bytes w64 (cast_unsigned w64 value) ++ decision_bytes ds
record_bytes (Finish ticket cs) = to_be_bytes w64 ticket ++ to_be_bytes w32 (length cs) ++ flat_map child_bytes cs
record_bytes (Snapshot best next os) = best_bytes best ++ to_be_bytes w64 next ++ to_be_bytes w32 (length os) ++ flat_map listed_bytes os

-- the byte that tells which record it is
abbrev pub record_kind : RecordView → ℕ
record_kind (Improve value ds) = 2
record_kind (Finish ticket cs) = 3
record_kind (Snapshot best next os) = 4

-- the sizes of bodies in bytes
abbrev pub child_size : ChildView → ℕ
child_size c = 20 + 4 * length c.decisions

-- that of a subproblem of a snapshot
abbrev pub listed_size : ListedView → ℕ
listed_size o = 20 + 4 * length o.decisions

-- that of the best solution of a snapshot, or of none
abbrev pub best_size : Option IncumbentView → ℕ
best_size None = 1
best_size (Some b) = 13 + 4 * length b.decisions

-- how many bytes the body of a record has
abbrev pub record_size : RecordView → ℕ
record_size (Improve value ds) = 12 + 4 * length ds
record_size (Finish ticket cs) = 12 + sum_by child_size cs
record_size (Snapshot best next os) = best_size best + (12 + sum_by listed_size os)

-- the number of none is no ticket
abbrev pub IsTicket : Option ℕ → Type 0
IsTicket replaced = IfSome replaced (λ t. t < 2 ^ 64 - 1)

-- no ticket is the greatest number
abbrev pub HasTickets : RecordView → Type 0
HasTickets (Improve value ds) = Unit {0}
HasTickets (Finish ticket cs) = All (λ c. IsTicket c.replaced) cs
HasTickets (Snapshot best next os) = Unit {0}

-- a record that a journal can hold
pub record HasSpelling (r : RecordView) : Type 0 where
  pub size : record_size r < 2 ^ 32
  pub tickets : HasTickets r

-- its fields in their ranges, as its spelling needs
pub record ChildFits (c : ChildView) : Type 0 where
  pub replaced : IsTicket c.replaced
  pub bound : FitsSigned w64 c.bound
  pub count : length c.decisions < 2 ^ 32
  pub each : AllByRecursion (λ d. d < 2 ^ 32) c.decisions

-- so those of a subproblem of a snapshot
pub record ListedFits (o : ListedView) : Type 0 where
  pub ticket : o.ticket < 2 ^ 64
  pub bound : FitsSigned w64 o.bound
  pub count : length o.decisions < 2 ^ 32
  pub each : AllByRecursion (λ d. d < 2 ^ 32) o.decisions

-- and those of the best solution of a snapshot
pub record IncumbentFits (b : IncumbentView) : Type 0 where
  pub value : FitsSigned w64 b.value
  pub count : length b.decisions < 2 ^ 32
  pub each : AllByRecursion (λ d. d < 2 ^ 32) b.decisions

-- the numbers of a record fit their fields
abbrev pub RecordFits : RecordView → Type 0
RecordFits (Improve value ds) = FitsSigned w64 value × (length ds < 2 ^ 32) × AllByRecursion (λ d. d < 2 ^ 32) ds
RecordFits (Finish ticket cs) = (ticket < 2 ^ 64) × (length cs < 2 ^ 32) × All ChildFits cs
RecordFits (Snapshot best next os) = IfSome best IncumbentFits × (next < 2 ^ 64) × (length os < 2 ^ 32) × All ListedFits os

-- a journal of this version may have the record: the first version has no snapshots
abbrev pub IsOfVersion : ℕ → RecordView → Type 0
IsOfVersion version (Improve value ds) = Unit {0}
IsOfVersion version (Finish ticket cs) = Unit {0}
IsOfVersion version (Snapshot best next os) = version ≡ VERSION

-- the frame of a head
abbrev pub head_frame : HeadView → Frame
head_frame h = record { kind = 1; body = head_bytes h }
