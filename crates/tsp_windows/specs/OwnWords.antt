-- Tours in the problem's own words: an order of the nodes that is kept within the windows, and when it returns.
use Rattle.std.specs.Prelude.{ℕ, ◌+◌, max, ℤ, pos, neg_ℤ, Bool, false, cond, ◌&&◌, nat_eq, nat_lt, nat_le, List, [], ◌∷◌, length, Option, Some, None}
use Rattle.std.specs.List.{list_all}
use Rattle.pending_rows.specs.Orders.{are_different}
use Rattle.tsp_windows.specs.Instance.{Instance, distance, opening, closing}

-- the last node of the list is node 0
abbrev pub ends_at_home : List ℕ → Bool
ends_at_home [] = false
ends_at_home (v ∷ []) = nat_eq v 0
ends_at_home (v ∷ u ∷ vs) = ends_at_home (u ∷ vs)

-- each of the n nodes stands in the list once, and node 0 is the last
abbrev pub is_order : ℕ → List ℕ → Bool
is_order n visits = nat_eq (length visits) n && (list_all (λ v. nat_lt v n) visits && (are_different visits && ends_at_home visits))

-- when the last node is left that is visited from a node and a time on, or none where one is reached too late
abbrev pub end_time : Instance → ℕ → ℕ → List ℕ → Option ℕ
end_time i here time [] = Some time
end_time i here time (v ∷ vs) = cond (nat_le (time + distance i here v) (closing i v)) (end_time i v (max (time + distance i here v) (opening i v)) vs) None

abbrev pub negated : Option ℕ → Option ℤ
negated None = None
negated (Some time) = Some (neg_ℤ (pos time))

-- the negated time of return of a tour that leaves node 0 when it opens, or none where the visits are no tour within the windows
abbrev pub tour_value : Instance → List ℕ → Option ℤ
tour_value i visits = cond (is_order i.nodes visits) (negated (end_time i 0 (opening i 0) visits)) None
