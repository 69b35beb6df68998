-- What is taken out of a layer in order: nodes that are struck, and nodes that a leader dominates.
use Rattle.std.specs.Prelude.{ℕ, ◌+◌, nat_le, ℤ, pos, ◌+ℤ◌, int_le, Bool, not, cond, ◌&&◌, ◌||◌, List, [], ◌∷◌, ◌++◌, length, Option, Some, None, is_some}
use Rattle.dp_model.specs.Dp.{Dp}
use Rattle.dp_model.specs.Gaps.{is_struck_by}
use Rattle.dp_model.specs.declared.limits.TheConstants.{MOST_LEADERS}
use Rattle.dp_laws.specs.Diagrams.Nodes.{DdNode}
use Rattle.dp_laws.specs.Rules.Redirects.{Redirect}

-- an exact node that dominates later ones, with its place among those that stay
pub record Leader : Type 0 where
  pub place : ℕ
  pub row : List ℤ
  pub value : ℤ

-- the redirect to the place, where the gap lifts the number to at most the other one
abbrev pub redirect_within : ℕ → Option ℤ → ℤ → ℤ → Option Redirect
redirect_within place None above number = None
redirect_within place (Some gap) above number = cond (int_le (number +ℤ gap) above) (Some (record { place = place; longer = gap })) None

-- the first of two redirects
abbrev pub first_redirect : Option Redirect → Option Redirect → Option Redirect
first_redirect None other = other
first_redirect (Some l) other = Some l

-- the redirect to the first leader that dominates the node
abbrev pub at_leader : Dp → ℕ → List Leader → DdNode → Option Redirect
at_leader dp k [] node = None
at_leader dp k (a ∷ leaders) node =
    first_redirect (redirect_within a.place (dp.gap k a.row node.row) a.value node.value) (at_leader dp k leaders node)

-- whether a node is struck: its value plus its rough bound is at most the threshold, or it has no rough bound
abbrev pub is_struck : Dp → ℕ → Option ℤ → DdNode → Bool
is_struck dp k t node = is_struck_by node.value (dp.rough k node.row) t

-- the leaders after a node that stays at the place: an exact one becomes a leader while there are fewer than `MOST_LEADERS`
abbrev pub leaders_past : List Leader → ℕ → DdNode → List Leader
leaders_past leaders place node =
    cond (node.exact && not (nat_le MOST_LEADERS (length leaders))) (leaders ++ record { place = place; row = node.row; value = node.value } ∷ []) leaders

-- the nodes that stay
abbrev pub pruned_nodes : Dp → ℕ → Option ℤ → List Leader → ℕ → List DdNode → List DdNode
pruned_nodes dp k t leaders place [] = []
pruned_nodes dp k t leaders place (node ∷ nodes) =
    cond (is_struck dp k t node || is_some (at_leader dp k leaders node))
    (pruned_nodes dp k t leaders place nodes)
    (node ∷ pruned_nodes dp k t (leaders_past leaders place node) (place + 1) nodes)

-- where the arcs into each node of the layer are redirected
abbrev pub prune_redirects : Dp → ℕ → Option ℤ → List Leader → ℕ → List DdNode → List (Option Redirect)
prune_redirects dp k t leaders place [] = []
prune_redirects dp k t leaders place (node ∷ nodes) =
    cond (is_struck dp k t node)
    (None ∷ prune_redirects dp k t leaders place nodes)
    (cond (is_some (at_leader dp k leaders node))
    (at_leader dp k leaders node ∷ prune_redirects dp k t leaders place nodes)
    (Some (record { place = place; longer = pos 0 }) ∷ prune_redirects dp k t (leaders_past leaders place node) (place + 1) nodes))
