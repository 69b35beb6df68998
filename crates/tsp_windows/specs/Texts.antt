-- Texts of tours: the nodes, the distances by row, and opening and closing of each node's window.
use Rattle.std.specs.Prelude.{ℕ, ◌+◌, ◌*◌, ◌/◌, ◌%◌, pos, unsigned_abs, int_lt, cond, nat_eq, List, [], ◌∷◌, ◌++◌, length, Result, Ok, Err}
use Rattle.std.specs.List.{flat_map}
use Rattle.tokens.specs.Text.{TextState, text_start, place_of}
use Rattle.tokens.specs.declared.instance_error.InstanceError.{InstanceError}
use Rattle.tokens.specs.Decimal.{decimal_of}
use Rattle.tokens.specs.declared.comment.Comment.TheVariants.{Hash}
use Rattle.tokens.specs.Grammar.{number_then, part_then, end_then, times}
use Rattle.tokens.specs.declared.instance_error.InstanceFault.TheVariants as faults
use Rattle.tsp_windows.specs.Instance.{Instance, Window}

-- a distance after those before it: from 0 to 10^9 in the text, and 0 from a node to itself
unfoldable pub distance_at : ℕ → List ℕ → TextState → Result (List ℕ × TextState) InstanceError
distance_at n made s =
    number_then (pos 0) (pos 1000000000) s (λ z t.
    Ok (made ++ cond (nat_eq (length made / n) (length made % n)) 0 (unsigned_abs z) ∷ [], t))

-- a window after those before it: two times from 0 to 10^12, of which the closing is not before the opening
unfoldable pub window_at : List Window → TextState → Result (List Window × TextState) InstanceError
window_at made s =
    number_then (pos 0) (pos 1000000000000) s (λ opening t.
    number_then (pos 0) (pos 1000000000000) t (λ closing u.
    cond (int_lt closing opening)
    (Err (record { fault = faults.Window; place = place_of t }))
    (Ok (made ++ record { opening = unsigned_abs opening; closing = unsigned_abs closing } ∷ [], u))))

-- the instance with this many nodes that stands after them in the text, to its end
unfoldable pub nodes_at : ℕ → TextState → Result Instance InstanceError
nodes_at n s =
    part_then (times (distance_at n) (n * n) [] s) (λ distances t.
    part_then (times window_at n [] t) (λ windows u.
    end_then u (Ok (record { nodes = n; distances = distances; windows = windows }))))

-- the instance that a text spells, or its first fault
unfoldable pub spelled : List ℕ → Result Instance InstanceError
spelled bytes = number_then (pos 1) (pos 300) (text_start Hash bytes) (λ n s. nodes_at (unsigned_abs n) s)

-- numbers after one another, each with the byte after it: LF at the end of a row of this many, else a space
abbrev pub separator : ℕ → ℕ → ℕ
separator n k = cond (nat_eq ((k + 1) % n) 0) 10 32

-- the distances from the k-th on, a row a line
abbrev pub printed_distances : ℕ → ℕ → List ℕ → List ℕ
printed_distances n k [] = []
printed_distances n k (d ∷ ds) = decimal_of (pos d) ++ separator n k ∷ printed_distances n (k + 1) ds

-- a window and the end of its line
abbrev pub printed_window : Window → List ℕ
printed_window w = decimal_of (pos w.opening) ++ 32 ∷ (decimal_of (pos w.closing) ++ 10 ∷ [])

-- the windows, one a line
abbrev pub printed_windows : List Window → List ℕ
printed_windows ws = flat_map printed_window ws

-- the canonical text
unfoldable pub printed : Instance → List ℕ
printed i = decimal_of (pos i.nodes) ++ 10 ∷ (printed_distances i.nodes 0 i.distances ++ printed_windows i.windows)
