-- Prefixes that are dealt out to parts in turn, by their bounds. A prefix is meant by its place in the list of bounds.
use Rattle.std.specs.Prelude.{ℕ, ◌%◌, nat_eq, nat_lt, ℤ, pos, int_lt, Bool, cond, List, length, filter, slice_index_or}
use Rattle.std.specs.Ordering.{int_eq}
use Rattle.dp_model.specs.Decisions.{below}

abbrev pub bound_at : List ℤ → ℕ → ℤ
bound_at bounds i = slice_index_or bounds i (pos 0)

-- whether the place j is dealt out before the place i: the greater bound goes first, and of equal ones the first place
abbrev pub goes_first : List ℤ → ℕ → ℕ → Bool
goes_first bounds i j = cond (int_eq (bound_at bounds j) (bound_at bounds i)) (nat_lt j i) (int_lt (bound_at bounds i) (bound_at bounds j))

-- how many places are dealt out before this one
abbrev pub turn_of : List ℤ → ℕ → ℕ
turn_of bounds i = length (filter (goes_first bounds i) (below (length bounds)))

-- the part, of this number of parts, to which the place is dealt
abbrev pub part_of : List ℤ → ℕ → ℕ → ℕ
part_of bounds of i = turn_of bounds i % of

-- whether the place is dealt to the part with the number index
abbrev pub is_dealt : List ℤ → ℕ → ℕ → ℕ → Bool
is_dealt bounds of index i = nat_eq (part_of bounds of i) index

-- the places that are dealt to the part
abbrev pub dealt_to : List ℤ → ℕ → ℕ → List ℕ
dealt_to bounds of index = filter (is_dealt bounds of index) (below (length bounds))
