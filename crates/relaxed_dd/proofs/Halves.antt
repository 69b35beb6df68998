-- The suffixes of all layers, from the last one up.
use Rattle.std.proofs.Common.{◌≡◌, ℕ, zero, suc, ◌+◌, ◌-◌, ◌<◌, ◌≤◌, List, [], ◌∷◌, length, map, refl, sym, ◌∙◌, ap, subst, arith}
use Rattle.dp_model.specs.Dp.{Dp}
use Rattle.dp_model.specs.Lists.{Each}
use Rattle.dp_laws.specs.declared.arc.DdArc.{DdArc}
use Rattle.dp_laws.specs.Diagrams.Nodes.{DdNode}
use Rattle.dp_laws.specs.Rules.Compiling.{first_of_layers, with_suffixes}
use Rattle.layer_build.specs.Layers.{SpaceView, last_depth, layer_at}
use Rattle.layer_nodes.specs.Ending.{MayAdd, MayLead}
use Rattle.layer_build.specs.Ended.{ended, ended_at}
use Rattle.relaxed_dd.specs.Numbers.{AreLayersWithin}
use Rattle.relaxed_dd.proofs.Lasts.{nth}
use Rattle.relaxed_dd.proofs.Numbers.{MaySum, may-sum, suffixes_of}

-- layers from depth k on, of which all but the first n have their suffixes
abbrev pub half : Dp → ℕ → ℕ → List (List DdNode) → List (List DdNode)
half dp k zero ls = with_suffixes dp k ls
half dp k (suc n) [] = []
half dp k (suc n) (layer ∷ rest) = layer ∷ half dp (k + 1) n rest

half-none : (dp : Dp) (k : ℕ) (ls : List (List DdNode)) → half dp k (length ls) ls ≡ ls
half-none dp k [] = refl
half-none dp k (layer ∷ rest) = ap (λ ls. layer ∷ ls) (half-none dp (k + 1) rest)

half-length : (dp : Dp) (k n : ℕ) (ls : List (List DdNode)) → length (half dp k n ls) ≡ length ls
half-length dp k zero [] = refl
half-length dp k zero (layer ∷ rest) = ap suc (half-length dp (k + 1) zero rest)
half-length dp k (suc n) [] = refl
half-length dp k (suc n) (layer ∷ rest) = ap suc (half-length dp (k + 1) n rest)

-- one layer more has its suffixes
half-next : (dp : Dp) (k n depth : ℕ) (ls : List (List DdNode)) → depth ≡ k + n → ended_at dp depth n (half dp k (suc n) ls) ≡ half dp k n ls
half-next dp k zero depth [] e = refl
half-next dp k (suc n) depth [] e = refl
half-next dp k zero depth (layer ∷ rest) e =
    let same : depth ≡ k = omega arith in
    ap (λ d. map (ended dp d (first_of_layers (with_suffixes dp (k + 1) rest))) layer ∷ with_suffixes dp (k + 1) rest) same
half-next dp k (suc n) depth (layer ∷ rest) e = ap (λ ls. layer ∷ ls) (half-next dp (k + 1) n depth rest (omega arith))

-- what its sums need
half-sums : (dp : Dp) (w k j : ℕ) (ls : List (List DdNode)) → dp.vars ≤ 1024 → AreLayersWithin dp w k ls → k + length ls ≡ dp.vars + 1 → j + 1 < length ls → MaySum (nth (half dp k (suc j) ls) j) (nth (half dp k (suc j) ls) (suc j))
half-sums dp w k j [] small h e less = absurd (omega arith)
half-sums dp w k j (layer ∷ []) small h e less = absurd (omega arith)
half-sums dp w k zero (layer ∷ next ∷ rest) small h e less = may-sum dp w k layer next rest small h (omega arith)
half-sums dp w k (suc j) (layer ∷ next ∷ rest) small h e less = half-sums dp w (k + 1) j (next ∷ rest) small h.1.1 (omega arith) (omega arith)

-- In a workspace.

abbrev pub half_space : Dp → ℕ → SpaceView → SpaceView
half_space dp n start = record start { layers = half dp (length start.prefix) n start.layers }

pub half-starts : (dp : Dp) (n : ℕ) (start : SpaceView) → n ≡ length start.layers → start ≡ half_space dp n start
half-starts dp n start e = ap (λ ls. record start { layers = ls }) (sym (ap (λ n. half dp (length start.prefix) n start.layers) e ∙ half-none dp (length start.prefix) start.layers))

-- what the suffixes of a layer need
pub record MaySet (s : SpaceView) (depth : ℕ) : Type 0 where
  pub first : length s.prefix ≤ depth
  pub last : depth ≤ last_depth s
  pub whole : last_depth s ≡ s.vars
  pub arcs : depth < last_depth s → Each (λ (node : DdNode). Each MayAdd node.arcs) (layer_at s depth)
  pub leads : depth < last_depth s → Each (λ (node : DdNode). Each (λ (arc : DdArc). MayLead (suffixes_of (layer_at s (depth + 1))) arc.target) node.arcs) (layer_at s depth)

may-set : (dp : Dp) (start s : SpaceView) (j depth : ℕ) → dp.vars ≤ 1024 → AreLayersWithin dp start.width (length start.prefix) start.layers → length start.prefix + length start.layers ≡ dp.vars + 1 → start.vars ≡ dp.vars
    → j < length start.layers → depth ≡ length start.prefix + j → s ≡ half_space dp (suc j) start → MaySet s depth
may-set dp start s j depth small h whole vars less at e =
    let k = length start.prefix in
    let ls = half dp k (suc j) start.layers in
    let long = half-length dp k (suc j) start.layers in
    let here : depth - k ≡ j = omega arith in
    let below : depth + 1 - k ≡ suc j = omega arith in
    let sums : depth < k + (length ls - 1) → MaySum (nth ls (depth - k)) (nth ls (depth + 1 - k)) = λ low.
    subst (λ i. MaySum (nth ls i) (nth ls (depth + 1 - k))) (sym here) (subst (λ i. MaySum (nth ls j) (nth ls i)) (sym below) (half-sums dp start.width k j start.layers small h whole (omega arith))) in
    subst (λ v. MaySet v depth) (sym e) (record {
      first = omega arith;
      last = omega arith;
      whole = omega arith;
      arcs = λ low. (sums low).arcs;
      leads = λ low. (sums low).leads;
    })

half-further : (dp : Dp) (start s new : SpaceView) (j depth : ℕ) → depth ≡ length start.prefix + j → s ≡ half_space dp (suc j) start → new ≡ record s { layers = ended_at dp depth (depth - length s.prefix) s.layers } → new ≡ half_space dp j start
half-further dp start s new j depth at e n =
    let k = length start.prefix in
    let here : depth - k ≡ j = omega arith in
    n ∙ (ap (λ (v : SpaceView). record v { layers = ended_at dp depth (depth - length v.prefix) v.layers }) e
    ∙ (ap (λ i. record start { layers = ended_at dp depth i (half dp k (suc j) start.layers) }) here ∙ ap (λ ls. record start { layers = ls }) (half-next dp k j depth start.layers at)))

-- From the last layer up, `below` layers below the first one: this many of them have their suffixes.
pub record AreSet (dp : Dp) (start s : SpaceView) (last below above : ℕ) : Type 0 where
  pub small : dp.vars ≤ 1024
  pub numbers : AreLayersWithin dp start.width (length start.prefix) start.layers
  pub whole : length start.prefix + length start.layers ≡ dp.vars + 1
  pub vars : start.vars ≡ dp.vars
  pub last_is : last ≡ dp.vars
  pub below_is : below + 1 ≡ length start.layers
  pub half_is : s ≡ half_space dp (below + 1 - above) start

pub sets-next : (dp : Dp) (start s : SpaceView) (last below above : ℕ) → AreSet dp start s last below above → above < below + 1 → MaySet s (last - above)
sets-next dp start s last below above h test =
    let whole = h.whole in
    let last_is = h.last_is in
    let below_is = h.below_is in
    let left : below + 1 - above ≡ suc (below - above) = omega arith in
    may-set dp start s (below - above) (last - above) h.small h.numbers whole h.vars (omega arith) (omega arith) (h.half_is ∙ ap (λ i. half_space dp i start) left)

pub sets-further : (dp : Dp) (start s new : SpaceView) (last below above : ℕ) → AreSet dp start s last below above → above < below + 1
    → ((dp : Dp) → dp.vars ≡ s.vars → new ≡ record s { layers = ended_at dp (last - above) (last - above - length s.prefix) s.layers }) → AreSet dp start new last below (above + 1)
sets-further dp start s new last below above h test e =
    let whole = h.whole in
    let last_is = h.last_is in
    let below_is = h.below_is in
    let left : below + 1 - above ≡ suc (below - above) = omega arith in
    let after : below - above ≡ below + 1 - (above + 1) = omega arith in
    let here : s ≡ half_space dp (suc (below - above)) start = h.half_is ∙ ap (λ i. half_space dp i start) left in
    let vars : dp.vars ≡ s.vars = sym h.vars ∙ sym (ap (λ (v : SpaceView). v.vars) here) in
    record {
      small = h.small;
      numbers = h.numbers;
      whole = whole;
      vars = h.vars;
      last_is = last_is;
      below_is = below_is;
      half_is = half-further dp start s new (below - above) (last - above) (omega arith) here (e dp vars) ∙ ap (λ i. half_space dp i start) after;
    }

pub sets-all : (dp : Dp) (start s : SpaceView) (last below above : ℕ) → AreSet dp start s last below above → below + 1 ≤ above → s ≡ half_space dp 0 start
sets-all dp start s last below above h end = let none : below + 1 - above ≡ 0 = omega arith in h.half_is ∙ ap (λ i. half_space dp i start) none
