-- The last layers of a list of layers.
use Rattle.std.proofs.Common.{◌≡◌, ℕ, zero, suc, ◌+◌, ◌-◌, ◌<◌, ℤ, List, [], ◌∷◌, length, slice_get, Option, unwrap_or, refl, sym, ◌∙◌, ap, arith}
use Rattle.dp_model.specs.Dp.{Dp}
use Rattle.dp_laws.specs.Diagrams.Nodes.{DdNode}
use Rattle.dp_laws.specs.Rules.Compiling.{TwoLayers, built, compiled}
use Rattle.layer_build.specs.Layers.{last_layer, expand_last}

-- the layer at a place
abbrev pub nth : List (List DdNode) → ℕ → List DdNode
nth ls i = unwrap_or (slice_get ls i) []

pub length-expand : (rule : List DdNode → TwoLayers) (ls : List (List DdNode)) → 0 < length ls → length (expand_last rule ls) ≡ length ls + 1
length-expand rule [] some = absurd (omega arith)
length-expand rule (l ∷ []) some = refl
length-expand rule (l ∷ n ∷ rest) some = let ih = length-expand rule (n ∷ rest) (omega arith) in omega arith

-- an expanded list has two layers at least
last-over : (rule : List DdNode → TwoLayers) (l n : List DdNode) (rest : List (List DdNode)) → last_layer (l ∷ expand_last rule (n ∷ rest)) ≡ last_layer (expand_last rule (n ∷ rest))
last-over rule l n [] = refl
last-over rule l n (m ∷ rest) = refl

pub last-expand : (rule : List DdNode → TwoLayers) (ls : List (List DdNode)) → 0 < length ls → last_layer (expand_last rule ls) ≡ (rule (last_layer ls)).next
last-expand rule [] some = absurd (omega arith)
last-expand rule (l ∷ []) some = refl
last-expand rule (l ∷ n ∷ rest) some = last-over rule l n rest ∙ last-expand rule (n ∷ rest) (omega arith)

-- the layers, of which the last is replaced by what is compiled from it

abbrev pub with_rest : (List DdNode → List (List DdNode)) → List (List DdNode) → List (List DdNode)
with_rest f [] = []
with_rest f (l ∷ []) = f l
with_rest f (l ∷ n ∷ rest) = l ∷ with_rest f (n ∷ rest)

rest-over : (f : List DdNode → List (List DdNode)) (rule : List DdNode → TwoLayers) (l n : List DdNode) (rest : List (List DdNode)) → with_rest f (l ∷ expand_last rule (n ∷ rest)) ≡ l ∷ with_rest f (expand_last rule (n ∷ rest))
rest-over f rule l n [] = refl
rest-over f rule l n (m ∷ rest) = refl

pub rest-expand : (dp : Dp) (first w : ℕ) (t : Option ℤ) (k m : ℕ) (ls : List (List DdNode)) → with_rest (compiled dp first w t k (suc m)) ls ≡ with_rest (compiled dp first w t (k + 1) m) (expand_last (built dp first w t k) ls)
rest-expand dp first w t k m [] = refl
rest-expand dp first w t k m (l ∷ []) = refl
rest-expand dp first w t k m (l ∷ n ∷ rest) = ap (λ ls. l ∷ ls) (rest-expand dp first w t k m (n ∷ rest)) ∙ sym (rest-over (compiled dp first w t (k + 1) m) (built dp first w t k) l n rest)

pub rest-none : (dp : Dp) (first w : ℕ) (t : Option ℤ) (k : ℕ) (ls : List (List DdNode)) → with_rest (compiled dp first w t k zero) ls ≡ ls
rest-none dp first w t k [] = refl
rest-none dp first w t k (l ∷ []) = refl
rest-none dp first w t k (l ∷ n ∷ rest) = ap (λ ls. l ∷ ls) (rest-none dp first w t k (n ∷ rest))

-- the last layer by its place
pub last-at : (ls : List (List DdNode)) → 0 < length ls → nth ls (length ls - 1) ≡ last_layer ls
last-at [] some = absurd (omega arith)
last-at (l ∷ []) some = refl
last-at (l ∷ n ∷ rest) some =
    let at : length (l ∷ n ∷ rest) - 1 ≡ suc (length (n ∷ rest) - 1) = omega arith in
    ap (nth (l ∷ n ∷ rest)) at ∙ last-at (n ∷ rest) (omega arith)

pub last-at-depth : (first : ℕ) (ls : List (List DdNode)) (depth : ℕ) → 0 < length ls → depth ≡ first + (length ls - 1) → nth ls (depth - first) ≡ last_layer ls
last-at-depth first ls depth some e =
    let at : depth - first ≡ length ls - 1 = omega arith in
    ap (nth ls) at ∙ last-at ls some
