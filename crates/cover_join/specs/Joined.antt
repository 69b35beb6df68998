-- The cover of a whole problem, made of covers of its parts.
use Rattle.std.specs.Prelude.{◌≡◌, ℕ, zero, suc, ◌+◌, ◌%◌, nat_eq, ℤ, pos, Bool, true, cond, ◌&&◌, List, [], ◌∷◌, ◌++◌, length, map, filter, replicate, unwrap_or, option_map, option_and_then, Option, Some, None}
use Rattle.std.specs.Option.{is_some}
use Rattle.dp_model.specs.Dp.{Dp}
use Rattle.dp_model.specs.Decisions.{below}
use Rattle.dp_model.specs.Rows.{row_same}
use Rattle.bound_cover.specs.declared.cover.CoverArc.{CoverArc}
use Rattle.bound_cover.specs.declared.cover.Verdict.TheVariants.{Accepted}
use Rattle.bound_cover.specs.Covers.{CoverRow}
use Rattle.bound_cover.specs.Tests.{is_at_most}
use Rattle.bound_cover.specs.Exploring.{layer_of, rest_of}
use Rattle.bound_cover.specs.Verdicts.{verdict}
use Rattle.parts.specs.Part.{part_program}

-- what a text tells of a part: its greatest value, a solution of that value, and the layers of its cover
pub record PartAnswer : Type 0 where
  pub best : Option ℤ
  pub assignment : List ℕ
  pub layers : List (List CoverRow)

-- the first answer with the greatest value, where none is less than every number
abbrev pub best_answer : PartAnswer → List PartAnswer → PartAnswer
best_answer p [] = p
best_answer p (q ∷ ps) = best_answer (cond (is_at_most q.best p.best) p q) ps

-- whether the row is the root, with a bound within what the value leaves
abbrev pub is_root_row : Dp → Option ℤ → CoverRow → Bool
is_root_row dp best row = row_same row.words dp.root && is_at_most row.bound (rest_of best dp.root_value)

-- the first such row
abbrev pub root_row : Dp → Option ℤ → List CoverRow → Option CoverRow
root_row dp best [] = None
root_row dp best (row ∷ rows) = cond (is_root_row dp best row) (Some row) (root_row dp best rows)

-- the arcs of a part's root row; none where it is a rough row
abbrev pub root_arcs : Dp → PartAnswer → Option (List CoverArc)
root_arcs dp p = option_and_then (λ (row : CoverRow). row.arcs) (root_row dp p.best (layer_of p.layers 0))

-- whether each part's root row has arcs
abbrev pub have_arcs : Dp → List PartAnswer → Bool
have_arcs dp [] = true
have_arcs dp (p ∷ ps) = is_some (root_arcs dp p) && have_arcs dp ps

-- the target of the first arc of the decision
abbrev pub target_for : ℕ → List CoverArc → Option ℕ
target_for d [] = None
target_for d (arc ∷ arcs) = cond (nat_eq arc.decision d) arc.target (target_for d arcs)

-- a target after n further rows
abbrev pub shifted : ℕ → Option ℕ → Option ℕ
shifted n target = option_map (λ t. n + t) target

abbrev pub shifted_arc : ℕ → CoverArc → CoverArc
shifted_arc n arc = record { decision = arc.decision; target = shifted n arc.target }

-- the row with its arcs to a layer in which n further rows stand first
abbrev pub shifted_row : ℕ → CoverRow → CoverRow
shifted_row n row = record { bound = row.bound; words = row.words; arcs = option_map (map (shifted_arc n)) row.arcs }

-- the rows of layer j of one part after another, where n rows of the next layer stand before those of the first
abbrev pub joined_layer : ℕ → ℕ → List PartAnswer → List CoverRow
joined_layer j n [] = []
joined_layer j n (p ∷ ps) = map (shifted_row n) (layer_of p.layers j) ++ joined_layer j (n + length (layer_of p.layers (j + 1))) ps

-- this number of layers, from layer j on
abbrev pub joined_layers : ℕ → ℕ → List PartAnswer → List (List CoverRow)
joined_layers zero j ps = []
joined_layers (suc count) j ps = joined_layer j 0 ps ∷ joined_layers count (j + 1) ps

-- the target of a decision in the part with the number i, where n rows of layer 1 stand before those of the first part
abbrev pub joined_target : Dp → ℕ → ℕ → ℕ → List PartAnswer → Option ℕ
joined_target dp d i n [] = None
joined_target dp d zero n (p ∷ ps) = shifted n (target_for d (unwrap_or (root_arcs dp p) []))
joined_target dp d (suc i) n (p ∷ ps) = joined_target dp d i (n + length (layer_of p.layers 1)) ps

-- the arcs of the root: each decision that is allowed there, with the target that its part has for it
abbrev pub joined_arcs : Dp → List PartAnswer → List CoverArc
joined_arcs dp ps = map (λ d. record { decision = d; target = joined_target dp d (d % length ps) 0 ps }) (filter (dp.allowed 0 dp.root) (below (dp.choices 0)))

-- the root, with what the value leaves as its bound
abbrev pub joined_root : Dp → Option ℤ → Option (List CoverArc) → CoverRow
joined_root dp best arcs = record { bound = rest_of best dp.root_value; words = dp.root; arcs = arcs }

-- the root as a rough row, and further layers without rows
abbrev pub rough_cover : Dp → Option ℤ → List (List CoverRow)
rough_cover dp best = (joined_root dp best None ∷ []) ∷ replicate dp.vars []

-- the root with the arcs of all parts, and below it the rows of all parts
abbrev pub whole_cover : Dp → Option ℤ → List PartAnswer → List (List CoverRow)
whole_cover dp best ps = (joined_root dp best (Some (joined_arcs dp ps)) ∷ []) ∷ joined_layers dp.vars 1 ps

-- the joined cover: of a problem without variables that of the first part; where the root row of some part is a rough row, the rough cover
abbrev pub joined_cover : Dp → PartAnswer → List PartAnswer → List (List CoverRow)
joined_cover dp p ps =
    cond (nat_eq dp.vars 0) p.layers
    (cond (have_arcs dp (p ∷ ps)) (whole_cover dp (best_answer p ps).best (p ∷ ps)) (rough_cover dp (best_answer p ps).best))

-- what is told of the whole: the greatest value with its solution, and the joined cover
abbrev pub joined : Dp → PartAnswer → List PartAnswer → PartAnswer
joined dp p ps = record {
  best = (best_answer p ps).best;
  assignment = (best_answer p ps).assignment;
  layers = joined_cover dp p ps;
}

-- the check on a problem accepts the answer without a distance
abbrev pub IsAccepted : Dp → PartAnswer → Type 0
IsAccepted dp p = verdict dp p.best (pos 0) p.assignment p.layers ≡ Accepted

-- the checks on the parts from number i on, of this number of parts, accept their answers
abbrev pub AreAccepted : Dp → ℕ → ℕ → List PartAnswer → Type 0
AreAccepted dp of i [] = Unit {0}
AreAccepted dp of i (p ∷ ps) = IsAccepted (part_program dp i of) p × AreAccepted dp of (i + 1) ps
