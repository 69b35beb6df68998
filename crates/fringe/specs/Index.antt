-- Entries of slots under folds, each with the number of the earlier one of its fold. The number of an entry is its place plus 1.
use Rattle.std.specs.Prelude.{◌≡◌, ◌≢◌, ℕ, ◌+◌, ◌^◌, ◌<◌, ◌≤◌, List, length, slice_index_or, nat_eq, unwrap_or}
use Rattle.std.specs.declared.hash.FoldHasher.{FoldHasher}
use Rattle.std.specs.declared.hash.BuildHasherDefault.{BuildHasherDefault}
use Rattle.indexmap.specs.IndexMap.{IndexMap, get, spare, index_map_len}
use Rattle.fringe.specs.declared.index.Node.{Node}

-- the entries in the order in which they came, and how many have room
pub record IndexView : Type 0 where
  pub nodes : List Node
  pub room : ℕ

-- of each fold the number of its last entry
abbrev pub Heads : Type 0
Heads = IndexMap ℕ ℕ (BuildHasherDefault FoldHasher)

-- the entry at a place
abbrev pub indexed_at : List Node → ℕ → Node
indexed_at nodes i = slice_index_or nodes i (record { fold = 0; slot = 0; next = 0 })

-- its fold
abbrev pub entry_fold : List Node → ℕ → ℕ
entry_fold nodes i = (indexed_at nodes i).fold

-- its slot
abbrev pub entry_slot : List Node → ℕ → ℕ
entry_slot nodes i = (indexed_at nodes i).slot

-- the number of the entry of its fold before it, or 0
abbrev pub entry_next : List Node → ℕ → ℕ
entry_next nodes i = (indexed_at nodes i).next

-- the number of the last entry of a fold, or 0
abbrev pub head_at : Heads → ℕ → ℕ
head_at heads fold = unwrap_or (get nat_eq heads fold) 0

-- a head or a next is the number of the last entry of its fold, or 0 where there is none
pub record IsIndex (heads : Heads) (nodes : List Node) : Type 0 where
  pub head_within : (f : ℕ) → head_at heads f ≤ length nodes
  pub head_fold : (f i : ℕ) → head_at heads f ≡ i + 1 → entry_fold nodes i ≡ f
  pub head_last : (f j : ℕ) → head_at heads f ≤ j → j < length nodes → entry_fold nodes j ≢ f
  pub next_within : (j : ℕ) → j < length nodes → entry_next nodes j ≤ j
  pub next_fold : (j i : ℕ) → j < length nodes → entry_next nodes j ≡ i + 1 → entry_fold nodes i ≡ entry_fold nodes j
  pub next_last : (j i : ℕ) → j < length nodes → entry_next nodes j ≤ i → i < j → entry_fold nodes i ≢ entry_fold nodes j

-- each entry that has room has room for a head too, and its place has 32 bits
pub record HasHeadRoom (heads : Heads) (nodes : List Node) (room : ℕ) : Type 0 where
  pub few : index_map_len heads ≤ length nodes
  pub enough : room ≤ index_map_len heads + spare heads
  pub small : room < 2 ^ 32

-- the new entries are the old ones and one more
pub record HasEntered (old new : List Node) (fold slot : ℕ) : Type 0 where
  pub len : length new ≡ length old + 1
  pub kept : (j : ℕ) → j < length old → indexed_at new j ≡ indexed_at old j
  pub fold_is : entry_fold new (length old) ≡ fold
  pub slot_is : entry_slot new (length old) ≡ slot
