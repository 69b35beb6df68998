-- Runs of entries of one depth and bucket under folds, each with the place of the next run of its fold.
use Rattle.std.specs.Prelude.{◌≡◌, ◌≢◌, ℕ, zero, suc, ◌+◌, ◌-◌, ◌^◌, ◌<◌, ◌≤◌, ◌⊎◌, List, [], ◌∷◌, length, slice_index_or, nat_eq, Option, Some, None}
use Rattle.std.specs.Int.{w64, cast_signed}
use Rattle.dp_model.specs.Folds.{fold_of}
use Rattle.std.specs.declared.hash.FoldHasher.{FoldHasher}
use Rattle.std.specs.declared.hash.BuildHasherDefault.{BuildHasherDefault}
use Rattle.indexmap.specs.IndexMap.{IndexMap, get, spare}
use Rattle.dominance_table.specs.declared.groups.Run.{Run}
use Rattle.dominance_table.specs.declared.groups.Ends.{Ends}

-- the runs in the order of their puts, and for how many there is memory
pub record GroupsView : Type 0 where
  pub runs : List Run
  pub room : ℕ

-- of each fold the places of its first and its last run
abbrev pub RunHeads : Type 0
RunHeads = IndexMap ℕ Ends (BuildHasherDefault FoldHasher)

-- the run at a place
abbrev pub run_at : List Run → ℕ → Run
run_at runs i = slice_index_or runs i (record { depth = 0; bucket = 0; end = 0; fold = 0; next = 0 })

-- its fold
abbrev pub fold_at : List Run → ℕ → ℕ
fold_at runs i = (run_at runs i).fold

-- where the next run of its fold stands
abbrev pub next_at : List Run → ℕ → ℕ
next_at runs i = (run_at runs i).next

-- its depth
abbrev pub depth_at : List Run → ℕ → ℕ
depth_at runs i = (run_at runs i).depth

-- its bucket
abbrev pub bucket_at : List Run → ℕ → ℕ
bucket_at runs i = (run_at runs i).bucket

-- where it ends
abbrev pub end_at : List Run → ℕ → ℕ
end_at runs i = (run_at runs i).end

-- the place of the first entry of the run at a place, which is the end of the run before; of a place past all runs the end of all
abbrev pub start_at : List Run → ℕ → ℕ
start_at runs zero = 0
start_at runs (suc i) = end_at runs i

-- the fold of a depth and a bucket
abbrev pub group_fold : ℕ → ℕ → ℕ
group_fold depth bucket = fold_of depth (cast_signed w64 bucket ∷ [])

-- the last run of a fold, or none
abbrev pub last_in : Option Ends → Option ℕ
last_in None = None
last_in (Some e) = Some e.last

-- the ends of a fold once the place is its last
abbrev pub ends_after : Option Ends → ℕ → Ends
ends_after None place = record { first = place; last = place }
ends_after (Some e) place = record { first = e.first; last = place }

-- the number for no place
abbrev pub no_place : ℕ
no_place = 2 ^ 64 - 1

-- the first and the last of a fold have that fold, and no run before and after them; the next of a run has its fold, and no run
-- between
pub record AreChained (heads : RunHeads) (runs : List Run) : Type 0 where
  pub none : (f j : ℕ) → get nat_eq heads f ≡ None → j < length runs → fold_at runs j ≢ f
  pub within : (f : ℕ) (e : Ends) → get nat_eq heads f ≡ Some e → e.last < length runs
  pub ordered : (f : ℕ) (e : Ends) → get nat_eq heads f ≡ Some e → e.first ≤ e.last
  pub first : (f : ℕ) (e : Ends) → get nat_eq heads f ≡ Some e → fold_at runs e.first ≡ f
  pub last : (f : ℕ) (e : Ends) → get nat_eq heads f ≡ Some e → fold_at runs e.last ≡ f
  pub before : (f j : ℕ) (e : Ends) → get nat_eq heads f ≡ Some e → j < e.first → j < length runs → fold_at runs j ≢ f
  pub after : (f j : ℕ) (e : Ends) → get nat_eq heads f ≡ Some e → e.last < j → j < length runs → fold_at runs j ≢ f
  pub later : (i : ℕ) → i < length runs → i < next_at runs i
  pub next : (i : ℕ) → i < length runs → next_at runs i < length runs → fold_at runs (next_at runs i) ≡ fold_at runs i
  pub none_next : (i : ℕ) → i < length runs → (next_at runs i < length runs) ⊎ (next_at runs i ≡ no_place)
  pub between : (i j : ℕ) → i < j → j < next_at runs i → j < length runs → fold_at runs j ≢ fold_at runs i

-- there is memory for this many runs and the heads of their folds
pub record HasRunHeadRoom (heads : RunHeads) (runs : List Run) (room capacity : ℕ) : Type 0 where
  pub placed : length runs ≤ room
  pub runs_room : room ≤ capacity
  pub heads_room : room ≤ length runs + spare heads

-- the new runs are the old ones and one more under the fold
pub record HasLinked (old new : List Run) (fold : ℕ) : Type 0 where
  pub len : length new ≡ length old + 1
  pub kept : (j : ℕ) → j < length old → fold_at new j ≡ fold_at old j
  pub fold_is : fold_at new (length old) ≡ fold

-- the new runs are the old ones and one more, which comes next after the one at the place, where there is one
pub record IsAppended (old new : List Run) (last : Option ℕ) (fold : ℕ) : Type 0 where
  pub entered : HasLinked old new fold
  pub few : length old < no_place
  pub next_is : next_at new (length old) ≡ no_place
  pub nexts : (j : ℕ) → j < length old → last ≢ Some j → next_at new j ≡ next_at old j
  pub joined : (j : ℕ) → last ≡ Some j → next_at new j ≡ length old

-- the new runs are the old ones, of which the last is of the depth and the bucket and has a new end
pub record IsLonger (old new : List Run) (depth bucket end : ℕ) : Type 0 where
  pub len : length new ≡ length old
  pub some : 0 < length old
  pub folds : (j : ℕ) → j < length old → fold_at new j ≡ fold_at old j
  pub nexts : (j : ℕ) → j < length old → next_at new j ≡ next_at old j
  pub depths : (j : ℕ) → j < length old → depth_at new j ≡ depth_at old j
  pub buckets : (j : ℕ) → j < length old → bucket_at new j ≡ bucket_at old j
  pub ends : (j : ℕ) → j + 1 < length old → end_at new j ≡ end_at old j
  pub depth_is : (j : ℕ) → j + 1 ≡ length old → depth_at new j ≡ depth
  pub bucket_is : (j : ℕ) → j + 1 ≡ length old → bucket_at new j ≡ bucket
  pub end_is : (j : ℕ) → j + 1 ≡ length old → end_at new j ≡ end

-- an entry of the depth and the bucket is in the last of the new runs, which ends after it: in the last of the old ones, or in one more
pub record HasEnteredRun (old new : List Run) (depth bucket fold end : ℕ) : Type 0 where
  pub len : (length new ≡ length old) ⊎ (length new ≡ length old + 1)
  pub some : 0 < length new
  pub folds : (j : ℕ) → j < length old → fold_at new j ≡ fold_at old j
  pub depths : (j : ℕ) → j < length old → depth_at new j ≡ depth_at old j
  pub buckets : (j : ℕ) → j < length old → bucket_at new j ≡ bucket_at old j
  pub ends : (j : ℕ) → j + 1 < length new → end_at new j ≡ end_at old j
  pub depth_is : (j : ℕ) → j + 1 ≡ length new → depth_at new j ≡ depth
  pub bucket_is : (j : ℕ) → j + 1 ≡ length new → bucket_at new j ≡ bucket
  pub end_is : (j : ℕ) → j + 1 ≡ length new → end_at new j ≡ end
  pub fold_is : length new ≡ length old + 1 → fold_at new (length old) ≡ fold
