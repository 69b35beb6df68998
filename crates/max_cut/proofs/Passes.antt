-- One component more of a pass over weights.
use Rattle.std.proofs.Common.{◌≡◌, ℕ, ◌+◌, ◌<◌, ℤ, pos, ◌+ℤ◌, List, length, get_or, drop, ap}
use Rattle.std.specs.Int.{int_min}
use Rattle.std.proofs.lemmas.List.{drop_more}
use Rattle.max_cut.specs.Graph.{negatives_of}

pub negatives_of-drop_more : (ws : List ℤ) (i : ℕ) (d : ℤ) → i < length ws → negatives_of (drop i ws) ≡ int_min (get_or ws i d) (pos 0) +ℤ negatives_of (drop (i + 1) ws)
negatives_of-drop_more ws i d h = ap negatives_of (drop_more ws i d h)
