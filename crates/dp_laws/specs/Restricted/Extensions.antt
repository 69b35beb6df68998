-- The extensions of a layer's prefixes by one decision, of which one is kept for each state.
use Rattle.std.specs.Prelude.{ℕ, ◌+ℤ◌, int_lt, cond, List, [], ◌∷◌, ◌++◌, map, filter}
use Rattle.std.specs.List.{flat_map}
use Rattle.dp_model.specs.Dp.{Dp}
use Rattle.dp_model.specs.Decisions.{below}
use Rattle.dp_model.specs.Reached.{Reached}
use Rattle.dp_model.specs.Rows.{row_same}

-- the prefix with one decision more
abbrev pub extended : Dp → ℕ → Reached → ℕ → Reached
extended dp k r d = record { decisions = r.decisions ++ d ∷ []; row = dp.step k r.row d; value = r.value +ℤ dp.gain k r.row d }

-- the prefix with each allowed decision, the lesser decision first
abbrev pub extensions : Dp → ℕ → Reached → List Reached
extensions dp k r = map (extended dp k r) (filter (dp.allowed k r.row) (below (dp.choices k)))

-- of two prefixes the one of greater value; the first where the values are equal
abbrev pub better : Reached → Reached → Reached
better r new = cond (int_lt r.value new.value) new r

-- a new prefix among those with different states: where its state is there, the better one stays
abbrev pub joined : List Reached → Reached → List Reached
joined [] new = new ∷ []
joined (r ∷ rs) new = cond (row_same r.row new.row) (better r new ∷ rs) (r ∷ joined rs new)

-- such prefixes with all the new ones
abbrev pub all_joined : List Reached → List Reached → List Reached
all_joined rs [] = rs
all_joined rs (new ∷ news) = all_joined (joined rs new) news

-- the candidates for the next layer, by earlier parent and then by lesser decision
abbrev pub candidates : Dp → ℕ → List Reached → List Reached
candidates dp k layer = flat_map (extensions dp k) layer
