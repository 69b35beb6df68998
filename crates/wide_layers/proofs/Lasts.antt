-- The nodes of a last layer, as readers see them.
use Rattle.std.proofs.Common.{◌≡◌, ℕ, suc, ◌-◌, ◌<◌, ◌≤◌, ℤ, pos, false, List, [], ◌∷◌, length, slice_get, Option, Some, None, option_map, unwrap_or, sym, ap, subst, ◌∙◌, arith}
use Rattle.std.proofs.lemmas.Option.{slice_get-get_or}
use Rattle.dp_model.specs.Dp.{Dp}
use Rattle.dp_model.specs.Gaps.{IsStateOf}
use Rattle.dp_model.specs.Lists.{Each}
use Rattle.dp_laws.specs.Diagrams.Nodes.{DdNode}
use Rattle.layer_build.specs.Layers.{SpaceView, layer_at, last_depth, last_layer}
use Rattle.layer_candidates.proofs.HeldRows.{each-here}
use Rattle.wide_layers.specs.Candidates.{state_at}

last-got : (layers : List (List DdNode)) → 1 ≤ length layers → slice_get layers (length layers - 1) ≡ Some (last_layer layers)
last-got [] some = absurd (omega arith)
last-got (l ∷ []) some = let e : length (l ∷ []) - 1 ≡ 0 = omega arith in ap (slice_get (l ∷ [])) e
last-got (l ∷ m ∷ rest) some =
    let e : length (l ∷ m ∷ rest) - 1 ≡ suc (length (m ∷ rest) - 1) = omega arith in
    ap (slice_get (l ∷ m ∷ rest)) e ∙ last-got (m ∷ rest) (omega arith)

-- what stands where there is no node
abbrev no_node : DdNode
no_node = record { row = []; value = pos 0; exact = false; arcs = []; path = []; suffix = None }

pub layer-last : (s : SpaceView) (depth : ℕ) → 1 ≤ length s.layers → depth ≡ last_depth s → layer_at s depth ≡ last_layer s.layers
layer-last s depth some at =
    let e : depth - length s.prefix ≡ length s.layers - 1 = omega (arith, at) in
    ap (λ (o : Option (List DdNode)). unwrap_or o []) (ap (slice_get s.layers) e ∙ last-got s.layers some)

-- it is a state
pub state-within : (dp : Dp) (k : ℕ) (nodes : List DdNode) (i : ℕ) → Each (λ (n : DdNode). IsStateOf dp k n.row) nodes → i < length nodes → IsStateOf dp k (state_at nodes i)
state-within dp k nodes i h less =
    subst (IsStateOf dp k) (sym (ap (λ (o : Option DdNode). unwrap_or (option_map (λ (n : DdNode). n.row) o) []) (slice_get-get_or nodes i no_node less))) (each-here (λ (n : DdNode). IsStateOf dp k n.row) nodes i no_node h less)

-- and so is the row that is read
pub row-is-state : (dp : Dp) (s : SpaceView) (depth i : ℕ) (row : List ℤ) → depth ≡ last_depth s → Each (λ (n : DdNode). IsStateOf dp (last_depth s) n.row) (last_layer s.layers) → i < length (last_layer s.layers)
    → state_at (last_layer s.layers) i ≡ row → IsStateOf dp depth row
row-is-state dp s depth i row at h less read =
    subst (λ (k : ℕ). IsStateOf dp k row) (sym at) (subst (IsStateOf dp (last_depth s)) read (state-within dp (last_depth s) (last_layer s.layers) i h less))
