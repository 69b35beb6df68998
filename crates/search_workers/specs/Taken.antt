-- Which children a round takes of a diagram.
use Rattle.std.specs.Prelude.{◌≡◌, ◌⊎◌, ℕ, ℤ, cond, ◌^◌, nat_lt, List, [], Option, None}
use Rattle.dp_model.specs.Dp.{Dp}
use Rattle.dp_model.specs.Reached.{reached}
use Rattle.dp_model.specs.Subproblem.{Subproblem}
use Rattle.dp_model.specs.declared.cut_kind.CutKind.{CutKind}
use Rattle.dp_model.specs.declared.cut_kind.CutKind.TheVariants.{LastExactLayer, Frontier}
use Rattle.dp_laws.specs.Children.{children_size}
use Rattle.dp_laws.specs.Diagrams.Nodes.{DdLayers}
use Rattle.dp_laws.specs.Diagrams.Cutsets.{children_of}
use Rattle.dp_laws.specs.Restricted.Beams.{wide}
use Rattle.dp_laws.specs.Rules.Compiling.{relaxed}

-- the kind of the children: where the record that names all of the frontier would be too large, the last exact layer
abbrev pub kind_taken : Dp → DdLayers → CutKind → CutKind
kind_taken dp d LastExactLayer = LastExactLayer
kind_taken dp d Frontier = cond (nat_lt (children_size (children_of dp d Frontier)) (2 ^ 32)) Frontier LastExactLayer

-- the children of that kind
abbrev pub taken_from : Dp → DdLayers → CutKind → List Subproblem
taken_from dp d kind = children_of dp d (kind_taken dp d kind)

-- the children of a prefix, by its diagrams of this width and threshold: none where the width takes nothing from the restricted one, else
-- those of this kind of the relaxed one
abbrev pub AreOfDiagrams : Dp → ℕ → CutKind → List ℕ → Option ℤ → List Subproblem → Type 0
AreOfDiagrams dp width kind p threshold cs = ((wide dp p width threshold ≡ None) × (cs ≡ [])) ⊎ (cs ≡ taken_from dp (relaxed dp (reached dp p) width threshold) kind)
