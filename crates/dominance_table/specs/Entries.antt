-- The entries of a table, and the table as its callers see it.
use Rattle.std.specs.Prelude.{◌≡◌, ℕ, ◌+◌, ◌-◌, ◌*◌, ◌<◌, ◌≤◌, ℤ, pos, Bool, cond, nat_eq, List, [], ◌∷◌, ◌++◌, length, take, drop, slice_index_or}
use Rattle.dominance_table.specs.declared.entry.Entry.{Entry}
use Rattle.dominance_table.specs.declared.put.Put.{Put}
use Rattle.dominance_table.specs.declared.put.Put.TheVariants.{Yes, AtLimit}
use Rattle.dominance_table.specs.declared.groups.Run.{Run}
use Rattle.dominance_table.specs.Groups.{fold_at, depth_at, bucket_at, end_at, start_at, group_fold}

-- a state that was reached: its depth, its bucket, its row, its rank, the value that it was reached with, and its ticket
pub record TableEntry : Type 0 where
  pub depth : ℕ
  pub bucket : ℕ
  pub row : List ℤ
  pub rank : ℤ
  pub value : ℤ
  pub ticket : ℕ

-- a table: its entries in the order of their puts, the cells of a row, the most entries, and for how many more there is memory
pub record TableView : Type 0 where
  pub entries : List TableEntry
  pub words : ℕ
  pub limit : ℕ
  pub spare : ℕ

-- the table has as many entries as it may
abbrev pub is_full : TableView → Bool
is_full t = nat_eq (length t.entries) t.limit

-- what a put answers
abbrev pub put_gives : TableView → Put
put_gives t = cond (is_full t) AtLimit Yes

-- the table after a put of this entry
abbrev pub after_put : TableView → TableEntry → TableView
after_put t e = cond (is_full t) t (record t { entries = t.entries ++ e ∷ []; spare = t.spare - 1 })

-- an entry in memory, with its row
abbrev pub with_row : Entry → List ℤ → TableEntry
with_row e row = record { depth = e.depth; bucket = e.bucket; row = row; rank = e.rank; value = e.value; ticket = e.ticket }

-- entries in memory, with their rows, which lie one after another
abbrev pub with_rows : ℕ → List Entry → List ℤ → List TableEntry
with_rows words [] cells = []
with_rows words (e ∷ es) cells = with_row e (take words cells) ∷ with_rows words es (drop words cells)

-- there is memory for this many entries and their rows, and no more entries than that or than the limit
pub record HasRoom (words limit room len capacity cells cells_capacity : ℕ) : Type 0 where
  pub some : 1 ≤ words
  pub limited : len ≤ limit
  pub placed : len ≤ room
  pub entries : room ≤ capacity
  pub rows : cells ≡ len * words
  pub blocks : room * words ≤ cells_capacity

-- the entry at a place, and the cells of its row
abbrev pub entry_at : List Entry → ℕ → Entry
entry_at entries i = slice_index_or entries i (record { depth = 0; bucket = 0; rank = pos 0; value = pos 0; ticket = 0 })

-- the row at a place
abbrev pub row_at : List ℤ → ℕ → ℕ → List ℤ
row_at cells words place = take words (drop (place * words) cells)

-- the entries of a run lie from the end of the one before to its own end, and are of its depth and bucket; all entries are in runs
pub record AreGrouped (entries : List Entry) (runs : List Run) : Type 0 where
  pub all : start_at runs (length runs) ≡ length entries
  pub within : (r : ℕ) → r < length runs → end_at runs r ≤ length entries
  pub ordered : (r : ℕ) → r < length runs → start_at runs r ≤ end_at runs r
  pub depth : (r i : ℕ) → r < length runs → start_at runs r ≤ i → i < end_at runs r → (entry_at entries i).depth ≡ depth_at runs r
  pub bucket : (r i : ℕ) → r < length runs → start_at runs r ≤ i → i < end_at runs r → (entry_at entries i).bucket ≡ bucket_at runs r
  pub fold : (r : ℕ) → r < length runs → fold_at runs r ≡ group_fold (depth_at runs r) (bucket_at runs r)

-- there is room for as many runs more as entries
abbrev pub HasRunRoom : ℕ → ℕ → ℕ → ℕ → Type 0
HasRunRoom room len runs runs_room = runs + (room - len) ≤ runs_room

-- no ticket is less than one before it
abbrev pub AreRising : List Entry → Type 0
AreRising entries = (i j : ℕ) → i ≤ j → j < length entries → (entry_at entries i).ticket ≤ (entry_at entries j).ticket
