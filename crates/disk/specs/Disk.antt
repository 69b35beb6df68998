-- What the calls of a disk do to its file, and what a crash may leave of it between two syncs.
use Rattle.std.specs.Prelude.{◌<◌, ◌≡◌, ◌⊎◌, ◌↔◌, ℕ, ◌+◌, ◌-◌, ◌≤◌, max, Bool, List, ◌++◌, length, take, drop, get_or, Option, Some, None}

-- new is old with these bytes at this offset
abbrev pub Holds : List ℕ → ℕ → List ℕ → List ℕ → Type 0
Holds old at bytes new = new ≡ take at old ++ bytes ++ drop (at + length bytes) old

-- after a write of n bytes that a crash cuts short: any bytes in the range and past the old end, the same elsewhere
pub record Torn (at n : ℕ) (old new : List ℕ) : Type 0 where
  pub before : take at new ≡ take at old
  pub after : drop (at + n) new ≡ drop (at + n) old
  pub no_shorter : length old ≤ length new
  pub no_longer : length new ≤ max (length old) (at + n)

-- what a read gives after a write that failed: each byte of the range is the old one or the written one
pub record Partly (at : ℕ) (bytes old new : List ℕ) : Type 0 where
  pub torn : Torn at (length bytes) old new
  pub each : (i : ℕ) → at ≤ i → i < length new → ((i < length old) × (get_or new i 0 ≡ get_or old i 0)) ⊎ (get_or new i 0 ≡ get_or bytes (i - at) 0)

-- each new outcome of a crash is an old outcome after a step
abbrev pub Follows : (List ℕ → List ℕ → Type 0) → (List ℕ → Type 0) → (List ℕ → Type 0) → Type 0
Follows step old new = (c : List ℕ) → new c → (d : List ℕ) × old d × step d c

-- a crash leaves this and nothing else
abbrev pub Only : List ℕ → (List ℕ → Type 0) → Type 0
Only file outcomes = (c : List ℕ) → outcomes c → c ≡ file

-- a crash leaves what it left before
abbrev pub SameOutcomes : (List ℕ → Type 0) → (List ℕ → Type 0) → Type 0
SameOutcomes old new = (c : List ℕ) → new c ↔ old c

-- Time goes on: a crash since t might have left what it might have left before, or what it may leave now.
pub record Elapses (before now : ℕ) (past since : ℕ → List ℕ → Type 0) (may_leave : List ℕ → Type 0) : Type 0 where
  pub later : before ≤ now
  pub nothing_else : (t : ℕ) (c : List ℕ) → t ≤ before → since t c → past t c ⊎ may_leave c
  pub keeps : (t : ℕ) (c : List ℕ) → t ≤ before → past t c → since t c

-- what no call but `attach` changes
pub record Keeps {D : Type 0} (attached tells : D → Bool) (names : D → List (List ℕ)) (found : D → List ℕ) (old new : D) : Type 0 where
  pub stays_attached : attached new ≡ attached old
  pub still_tells : tells new ≡ tells old
  pub same_names : names new ≡ names old
  pub same_found : found new ≡ found old

-- the first sync since the attaching that succeeded: its moment, what it put on the disk, and how many calls had failed by then
pub record FirstSync : Type 0 where
  pub moment : ℕ
  pub content : List ℕ
  pub faults : ℕ

-- P of the first sync; where none has succeeded yet, a read gives what it gave before
abbrev pub AtFirstSync : Option FirstSync → List ℕ → List ℕ → (FirstSync → Type 0) → Type 0
AtFirstSync None before now P = now ≡ before
AtFirstSync (Some first) before now P = P first

-- the first sync, where one succeeds now
abbrev pub first_sync : Option FirstSync → ℕ → List ℕ → ℕ → Option FirstSync
first_sync None moment content faults = Some (record { moment = moment; content = content; faults = faults })
first_sync (Some first) moment content faults = Some first

-- A crash at any moment since old leaves a file that has P.
pub record LeavesOnly {D : Type 0} (moment : D → ℕ) (left_since : D → ℕ → List ℕ → Type 0) (old new : D) (P : List ℕ → Type 0) : Type 0 where
  pub later : moment old ≤ moment new
  pub each : (c : List ℕ) → left_since new (moment old) c → P c
  -- for a run that began earlier
  pub before : (t : ℕ) (c : List ℕ) → t ≤ moment old → left_since new t c → left_since old t c ⊎ P c
