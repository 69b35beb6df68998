-- A layer that is expanded without its struck nodes, and then without those that a leader dominates, is expanded and pruned.
use Rattle.std.proofs.Common.{◌≡◌, ℕ, ◌+◌, ◌≤◌, ℤ, List, [], ◌∷◌, length, Option, refl, sym, ◌∙◌, ap, subst, arith}
use Rattle.dp_model.specs.Dp.{Dp}
use Rattle.dp_laws.specs.Diagrams.Nodes.{DdNode}
use Rattle.dp_laws.specs.Rules.Compiling.{TwoLayers, expand, prune}
use Rattle.layer_nodes.specs.Sifting.{expand_sifted}
use Rattle.layer_nodes.specs.Striking.{drop_dominated}
use Rattle.layer_nodes.proofs.Dropped.{NoneIsStruck, dropped-pruned, none-struck, dropped-sifted}
use Rattle.layer_build.specs.Layers.{SpaceView, last_depth, last_layer, expand_last, on_last_two}
use Rattle.layer_build.proofs.Kept.{length-expand, last-expand}
use Rattle.layer_nodes.specs.Nodes.{Told}

-- ---- rules on the last layers

pub two-same : (r r' : TwoLayers → TwoLayers) (ls : List (List DdNode)) → ((above : List DdNode) → r (record { above = above; next = last_layer ls }) ≡ r' (record { above = above; next = last_layer ls })) → on_last_two r ls ≡ on_last_two r' ls
two-same r r' [] same = refl
two-same r r' (l ∷ []) same = ap (λ (two : TwoLayers). two.next ∷ []) (same [])
two-same r r' (l ∷ n ∷ []) same = ap (λ (two : TwoLayers). two.above ∷ two.next ∷ []) (same l)
two-same r r' (l ∷ n ∷ m ∷ rest) same = ap (λ ls. l ∷ ls) (two-same r r' (n ∷ m ∷ rest) same)

two-over : (r2 : TwoLayers → TwoLayers) (r1 : List DdNode → TwoLayers) (l n : List DdNode) (rest : List (List DdNode)) → on_last_two r2 (l ∷ expand_last r1 (n ∷ rest)) ≡ l ∷ on_last_two r2 (expand_last r1 (n ∷ rest))
two-over r2 r1 l n [] = refl
two-over r2 r1 l n (m ∷ []) = refl
two-over r2 r1 l n (m ∷ o ∷ rest) = refl

-- a rule on the last two of the expanded layers
pub two-expanded : (r2 : TwoLayers → TwoLayers) (r1 : List DdNode → TwoLayers) (ls : List (List DdNode)) → on_last_two r2 (expand_last r1 ls) ≡ expand_last (λ l. r2 (r1 l)) ls
two-expanded r2 r1 [] = refl
two-expanded r2 r1 (l ∷ []) = refl
two-expanded r2 r1 (l ∷ n ∷ rest) = two-over r2 r1 l n rest ∙ ap (λ ls. l ∷ ls) (two-expanded r2 r1 (n ∷ rest))

-- rules that do the same with the last layer expand in the same way
pub expand-alike : (f g : List DdNode → TwoLayers) (ls : List (List DdNode)) → f (last_layer ls) ≡ g (last_layer ls) → expand_last f ls ≡ expand_last g ls
expand-alike f g [] same = refl
expand-alike f g (l ∷ []) same = ap (λ (two : TwoLayers). two.above ∷ two.next ∷ []) same
expand-alike f g (l ∷ m ∷ ls) same = ap (λ r. l ∷ r) (expand-alike f g (m ∷ ls) same)

-- ---- pruning

-- where no node of the last layer is struck
pub dropped-last : (dp : Dp) (k : ℕ) (t : Option ℤ) (ls : List (List DdNode)) → NoneIsStruck dp k t (last_layer ls) → on_last_two (drop_dominated dp k) ls ≡ on_last_two (prune dp k t) ls
dropped-last dp k t ls free = two-same (drop_dominated dp k) (prune dp k t) ls (λ above. dropped-pruned dp k t (record { above = above; next = last_layer ls }) free)

abbrev after_expand : Dp → Option ℤ → List Told → SpaceView → SpaceView
after_expand dp t told s = record s { layers = expand_last (expand_sifted dp (last_depth s) t) s.layers; told = told }

abbrev after_drop : Dp → List Told → SpaceView → SpaceView
after_drop dp told s = record s { layers = on_last_two (drop_dominated dp (last_depth s)) s.layers; told = told }

deeper : (dp : Dp) (t : Option ℤ) (told : List Told) (s : SpaceView) → 1 ≤ length s.layers → last_depth (after_expand dp t told s) ≡ last_depth s + 1
deeper dp t told s some = let long = length-expand (expand_sifted dp (last_depth s) t) s.layers some in omega arith

-- no node of the last layer is struck
pub none-struck-now : (dp : Dp) (t : Option ℤ) (s s1 : SpaceView) → 1 ≤ length s.layers → s1 ≡ after_expand dp t s1.told s → NoneIsStruck dp (last_depth s1) t (last_layer s1.layers)
none-struck-now dp t s s1 some e =
    let k = last_depth s in
    let last = last-expand (expand_sifted dp k t) s.layers some in
    subst (λ (v : SpaceView). NoneIsStruck dp (last_depth v) t (last_layer v.layers)) (sym e)
    (subst (λ n. NoneIsStruck dp n t (last_layer (expand_last (expand_sifted dp k t) s.layers))) (sym (deeper dp t s1.told s some))
    (subst (NoneIsStruck dp (k + 1) t) (sym last) (none-struck dp (k + 1) t (expand dp k (last_layer s.layers)).next)))

-- the last layer is expanded and pruned
pub expanded-pruned : (dp : Dp) (t : Option ℤ) (s s1 new : SpaceView) → 1 ≤ length s.layers → s1 ≡ after_expand dp t s1.told s → new ≡ after_drop dp new.told s1
    → new ≡ record s { layers = expand_last (λ l. prune dp (last_depth s + 1) t (expand dp (last_depth s) l)) s.layers; told = new.told }
expanded-pruned dp t s s1 new some e1 e2 =
    let k = last_depth s in
    let ls = s.layers in
    let both : on_last_two (drop_dominated dp (k + 1)) (expand_last (expand_sifted dp k t) ls) ≡ expand_last (λ l. prune dp (k + 1) t (expand dp k l)) ls =
    two-expanded (drop_dominated dp (k + 1)) (expand_sifted dp k t) ls
    ∙ expand-alike (λ l. drop_dominated dp (k + 1) (expand_sifted dp k t l)) (λ l. prune dp (k + 1) t (expand dp k l)) ls (dropped-sifted dp (k + 1) t (expand dp k (last_layer ls))) in
    (e2 ∙ ap (after_drop dp new.told) e1)
    ∙ (ap (λ n. record s { layers = on_last_two (drop_dominated dp n) (expand_last (expand_sifted dp k t) ls); told = new.told }) (deeper dp t s1.told s some)
    ∙ ap (λ (l : List (List DdNode)). record s { layers = l; told = new.told }) both)
