-- A solution in the problem's own words: a list of decisions along the next states.
use Rattle.std.specs.Prelude.{ℕ, ◌+◌, ℤ, pos, ◌+ℤ◌, nat_eq, cond, List, [], ◌∷◌, length, Option, Some, None, option_map}
use Rattle.table_model.specs.Table.{LayerTable, Table, layer_at, transition_at}
use Rattle.table_model.specs.declared.transition.Transition.{Transition}

-- a gain, and what is gained after it
abbrev pub gain_then : Option Transition → (ℕ → Option ℤ) → Option ℤ
gain_then None rest = None
gain_then (Some w) rest = option_map (λ z. w.gain +ℤ z) (rest w.next)

-- what the decisions gain one after another from the state at the layer, or none where one of them is not allowed
abbrev pub gains_along : List LayerTable → ℕ → ℕ → List ℕ → Option ℤ
gains_along layers k s [] = Some (pos 0)
gains_along layers k s (d ∷ ds) = gain_then (transition_at (layer_at layers k) s d) (λ next. gains_along layers (k + 1) next ds)

-- the root value and the gains of a decision for each layer but the last, and none where they are no solution
abbrev pub own_value : Table → List ℕ → Option ℤ
own_value t decisions = cond (nat_eq (length decisions + 1) (length t.layers)) (option_map (λ z. t.root_value +ℤ z) (gains_along t.layers 0 0 decisions)) None
