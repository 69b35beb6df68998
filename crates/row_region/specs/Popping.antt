-- What a free place is when it is to be written.
use Rattle.std.specs.Prelude.{◌≡◌, ℕ, ◌+◌, ◌-◌, ◌*◌, ◌<◌, ◌≤◌, ℤ, pos, List, length, slice_get, slice_set, slice_index_or, Some, None}
use Rattle.row_region.specs.Layout.{row_at, places, HasFreeChain, IsSound}

-- nothing but the cells of one row differs
pub record SameBut (cells new : List ℤ) (words place : ℕ) : Type 0 where
  pub size : length new ≡ length cells
  pub before : (k : ℕ) → k < place * words → slice_index_or new k (pos 0) ≡ slice_index_or cells k (pos 0)
  pub after : (k : ℕ) → place * words + words ≤ k → slice_index_or new k (pos 0) ≡ slice_index_or cells k (pos 0)

-- the cells of this many rows are there now, and no place is changed by that
pub record HasMade (cells new : List ℤ) (words made count fresh free given : ℕ) : Type 0 where
  pub sound : IsSound new words made count fresh free given
  pub places : places new words count fresh free given ≡ places cells words count fresh free given

-- the place was free, and is not among the free ones now; what is written there is its row, and the other rows stay
pub record HasPopped (cells : List ℤ) (words made count fresh free given place new_fresh new_free new_given : ℕ) : Type 0 where
  pub within : place < new_fresh
  pub most : new_fresh ≤ made
  pub was_free : slice_get (places cells words count fresh free given) place ≡ Some None
  pub spare : given + (count - fresh) ≡ new_given + (count - new_fresh) + 1
  pub chained : (new : List ℤ) → SameBut cells new words place → HasFreeChain new words new_fresh new_free new_given
  pub rows : (new : List ℤ) → SameBut cells new words place
      → places new words count new_fresh new_free new_given ≡ slice_set (places cells words count fresh free given) place (Some (row_at new words place))
