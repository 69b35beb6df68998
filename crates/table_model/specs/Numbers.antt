-- A table as a list of whole numbers.
use Rattle.std.specs.Prelude.{ℕ, zero, suc, ℤ, pos, negsuc, unsigned_abs, List, [], ◌∷◌, length, Option, Some, None}
use Rattle.table_model.specs.Table.{LayerTable, Table}

-- ---- writing in front of a rest

abbrev pub put_natural : ℕ → List ℤ → List ℤ
put_natural n rest = pos n ∷ rest

abbrev pub put_whole : ℤ → List ℤ → List ℤ
put_whole z rest = z ∷ rest

-- an option after 0 or 1
abbrev pub put_option : {X : Type 0} → (X → List ℤ → List ℤ) → Option X → List ℤ → List ℤ
put_option put None rest = pos 0 ∷ rest
put_option put (Some x) rest = pos 1 ∷ put x rest

abbrev pub put_each : {X : Type 0} → (X → List ℤ → List ℤ) → List X → List ℤ → List ℤ
put_each put [] rest = rest
put_each put (x ∷ xs) rest = put x (put_each put xs rest)

-- a list after its length
abbrev pub put_list : {X : Type 0} → (X → List ℤ → List ℤ) → List X → List ℤ → List ℤ
put_list put xs rest = pos (length xs) ∷ put_each put xs rest

abbrev pub put_cells : List (List (Option ℤ)) → List ℤ → List ℤ
put_cells = put_list (put_list (put_option put_whole))

abbrev pub put_layer : LayerTable → List ℤ → List ℤ
put_layer l rest =
    put_natural l.states (put_natural l.choices
    (put_cells l.gap
    (put_list (put_list put_natural) l.merge
    (put_list (put_option put_whole) l.rough
    (put_list (put_list (put_option put_natural)) l.next
    (put_cells l.gain rest))))))

-- the numbers of a table
abbrev pub numbers_of : Table → List ℤ
numbers_of t = put_whole t.root_value (put_list put_layer t.layers [])

-- ---- reading, with what is left

abbrev pub take_natural : List ℤ → ℕ × List ℤ
take_natural [] = (0, [])
take_natural (z ∷ rest) = (unsigned_abs z, rest)

abbrev pub take_whole : List ℤ → ℤ × List ℤ
take_whole [] = (pos 0, [])
take_whole (z ∷ rest) = (z, rest)

abbrev pub taken_some : {X : Type 0} → X × List ℤ → Option X × List ℤ
taken_some p = (Some p.0, p.1)

abbrev pub take_option : {X : Type 0} → (List ℤ → X × List ℤ) → List ℤ → Option X × List ℤ
take_option take [] = (None, [])
take_option take (pos zero ∷ rest) = (None, rest)
take_option take (pos (suc n) ∷ rest) = taken_some (take rest)
take_option take (negsuc n ∷ rest) = (None, rest)

abbrev pub taken_first : {X : Type 0} → X → List X × List ℤ → List X × List ℤ
taken_first x p = (x ∷ p.0, p.1)

unfoldable pub take_each : {X : Type 0} → (List ℤ → X × List ℤ) → ℕ → List ℤ → List X × List ℤ
take_each take zero rest = ([], rest)
take_each take (suc n) rest = taken_first (take rest).0 (take_each take n (take rest).1)

abbrev pub take_list : {X : Type 0} → (List ℤ → X × List ℤ) → List ℤ → List X × List ℤ
take_list take numbers = take_each take (take_natural numbers).0 (take_natural numbers).1

-- what was taken goes on, with what is left
abbrev pub taken_then : {X Y : Type 0} → X × List ℤ → (X → List ℤ → Y) → Y
taken_then p more = more p.0 p.1

abbrev pub take_cells : List ℤ → List (List (Option ℤ)) × List ℤ
take_cells = take_list (take_list (take_option take_whole))

abbrev pub take_layer : List ℤ → LayerTable × List ℤ
take_layer numbers =
    taken_then (take_natural numbers) (λ states a.
    taken_then (take_natural a) (λ choices b.
    taken_then (take_cells b) (λ gap c.
    taken_then (take_list (take_list take_natural) c) (λ merge d.
    taken_then (take_list (take_option take_whole) d) (λ rough e.
    taken_then (take_list (take_list (take_option take_natural)) e) (λ next f.
    taken_then (take_cells f) (λ gain g.
    (record { states = states; choices = choices; gap = gap; merge = merge; rough = rough; next = next; gain = gain }, g))))))))

-- the table that numbers spell
unfoldable pub table_spelled : List ℤ → Table
table_spelled numbers = record { root_value = (take_whole numbers).0; layers = (take_list take_layer (take_whole numbers).1).0 }
