-- A table whose chains run through the places of the rows. Rows are compared from the first live cell on.
use Rattle.std.specs.Int.{IsPowerOfTwo}
use Rattle.std.specs.Prelude.{◌≡◌, ◌≢◌, ◌⊎◌, ℕ, zero, suc, ◌+◌, ◌-◌, ◌<◌, ◌≤◌, nat_eq, ◌/◌, ◌^◌, ℤ, Bool, true, cond, List, length, slice_index_or, bit_and, bit_xor}
use Rattle.layer_candidates.specs.Rows.{live_at}
use Rattle.dp_model.specs.Folds.{spread}

-- the slot of a hash among this many: some of the upper bits of a product, which all bits of the hash reach
abbrev pub slot_of : ℕ → ℕ → ℕ
slot_of hash size = bit_and (spread (bit_xor hash (hash / 2 ^ 32)) / 2 ^ 32) (size - 1)

-- one more than the greatest place below n that passes, or 0 where none does
abbrev pub top : (ℕ → Bool) → ℕ → ℕ
top p zero = 0
top p (suc n) = cond (p n) (suc n) (top p n)

-- whether the hash of a place has this slot
abbrev pub has_slot : List ℕ → ℕ → ℕ → ℕ → Bool
has_slot hashes size slot k = nat_eq (slot_of (slice_index_or hashes k 0) size) slot

-- the head of a slot names the last of the rows that have it, and each row names the last one before it with its slot
pub record IsTable (count : ℕ) (hashes heads next : List ℕ) : Type 0 where
  pub hashes_size : count ≤ length hashes
  pub next_size : count ≤ length next
  pub slots : IsPowerOfTwo (length heads)
  pub heads_are : (slot : ℕ) → slot < length heads → slice_index_or heads slot 0 ≡ top (has_slot hashes (length heads) slot) count
  pub next_are : (k : ℕ) → k < count → slice_index_or next k 0 ≡ top (has_slot hashes (length heads) (slot_of (slice_index_or hashes k 0) (length heads))) k

-- the row of the place has these live cells, or the place is `count` where no row has them
pub record IsRowFound (row : ℕ → List ℤ) (live count : ℕ) (new : List ℤ) (place : ℕ) : Type 0 where
  pub within : place ≤ count
  pub same : place < count → live_at row live place ≡ new
  pub none : place ≡ count → (k : ℕ) → k < count → live_at row live k ≢ new

-- rows with these live cells have this hash
abbrev pub HaveHash : (ℕ → List ℤ) → ℕ → ℕ → List ℤ → ℕ → List ℕ → Type 0
HaveHash row live count new hash hashes = (k : ℕ) → k < count → live_at row live k ≡ new → slice_index_or hashes k 0 ≡ hash

-- of this many rows the new one was found at the place, or put in after them
pub record IsPlaced (row : ℕ → List ℤ) (old new : ℕ) (state : List ℤ) (place : ℕ) : Type 0 where
  pub same : row place ≡ state
  pub grown : ((place < old) × (new ≡ old)) ⊎ ((place ≡ old) × (new ≡ old + 1))

-- the place before i has the slot of the hash, and no row from i on with that slot has these live cells
pub record IsSearched (row : ℕ → List ℤ) (live count : ℕ) (new : List ℤ) (hash : ℕ) (hashes : List ℕ) (size i : ℕ) : Type 0 where
  pub within : i ≤ count
  pub here : 0 < i → has_slot hashes size (slot_of hash size) (i - 1) ≡ true
  pub past : (k : ℕ) → i ≤ k → k < count → has_slot hashes size (slot_of hash size) k ≡ true → live_at row live k ≢ new
