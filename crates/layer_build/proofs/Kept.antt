-- Each step keeps a diagram under way.
use Rattle.std.proofs.Common.{◌≡◌, ℕ, suc, ◌+◌, ◌-◌, ◌*◌, ◌<◌, ◌≤◌, ℤ, List, [], ◌∷◌, map, take, drop, length, length-append, Option, None, ◌⊎◌, inl, inr, mul-le-mul_right, refl, sym, ap, ◌∙◌, subst, arith}
use Rattle.std.proofs.lemmas.List.{length-take-le}
use Rattle.dp_model.specs.Dp.{Dp}
use Rattle.dp_model.specs.Gaps.{IsStateOf}
use Rattle.dp_model.specs.Laws.{IsLawful}
use Rattle.dp_model.specs.Lists.{Each}
use Rattle.dp_model.specs.Prefixes.{IsPrefix}
use Rattle.dp_model.specs.Reached.{reached}
use Rattle.dp_model.proofs.Members.{each-has, each-of-all}
use Rattle.dp_model.proofs.Paths.{IsPrefix-length}
use Rattle.dp_laws.specs.Diagrams.Nodes.{DdNode}
use Rattle.dp_laws.specs.Rules.Compiling.{TwoLayers, prune, keep_first, merge_rest, start_layer}
use Rattle.dp_laws.specs.Rules.Pruning.{pruned_nodes}
use Rattle.dp_laws.specs.Rules.Reducing.{merged_node, merged_layer}
use Rattle.dp_laws.specs.Rules.Within.{IsBetween, IsLayerWithin, AreWithin}
use Rattle.dp_laws.proofs.Rules.Pruned.{pruned-has, few-pruned}
use Rattle.dp_laws.proofs.Rules.Within.{start-within, prune-within, keep-first-within, merge-within}
use Rattle.layer_build.specs.Layers.{SpaceView, IsPreparedFor, last_depth, last_layer, expand_last, on_last_two}
use Rattle.layer_build.specs.UnderWay.{last_two, IsUnderWay}
use Rattle.layer_build.proofs.Expansions.{Expands}
use Rattle.layer_nodes.specs.Nodes.{Told, told_of}

-- ---- the ends of a list of layers

last-cons : (x : List DdNode) (l : List (List DdNode)) → 1 ≤ length l → last_layer (x ∷ l) ≡ last_layer l
last-cons x [] some = absurd (omega arith)
last-cons x (y ∷ l) some = refl

two-cons : (x : List DdNode) (l : List (List DdNode)) → 2 ≤ length l → last_two (x ∷ l) ≡ last_two l
two-cons x [] some = absurd (omega arith)
two-cons x (y ∷ []) some = absurd (omega arith)
two-cons x (y ∷ z ∷ l) some = refl

pub length-expand : (rule : List DdNode → TwoLayers) (l : List (List DdNode)) → 1 ≤ length l → length (expand_last rule l) ≡ length l + 1
length-expand rule [] some = absurd (omega arith)
length-expand rule (x ∷ []) some = refl
length-expand rule (x ∷ y ∷ l) some = let e = length-expand rule (y ∷ l) (omega arith) in omega arith

pub last-expand : (rule : List DdNode → TwoLayers) (l : List (List DdNode)) → 1 ≤ length l → last_layer (expand_last rule l) ≡ (rule (last_layer l)).next
last-expand rule [] some = absurd (omega arith)
last-expand rule (x ∷ []) some = refl
last-expand rule (x ∷ y ∷ l) some =
    let long = length-expand rule (y ∷ l) (omega arith) in
    last-cons x (expand_last rule (y ∷ l)) (omega arith) ∙ last-expand rule (y ∷ l) (omega arith)

pub two-expand : (rule : List DdNode → TwoLayers) (l : List (List DdNode)) → 1 ≤ length l → last_two (expand_last rule l) ≡ rule (last_layer l)
two-expand rule [] some = absurd (omega arith)
two-expand rule (x ∷ []) some = refl
two-expand rule (x ∷ y ∷ l) some =
    let long = length-expand rule (y ∷ l) (omega arith) in
    two-cons x (expand_last rule (y ∷ l)) (omega arith) ∙ two-expand rule (y ∷ l) (omega arith)

pub length-two : (rule : TwoLayers → TwoLayers) (l : List (List DdNode)) → length (on_last_two rule l) ≡ length l
length-two rule [] = refl
length-two rule (x ∷ []) = refl
length-two rule (x ∷ y ∷ []) = refl
length-two rule (x ∷ y ∷ z ∷ l) = ap suc (length-two rule (y ∷ z ∷ l))

pub two-two : (rule : TwoLayers → TwoLayers) (l : List (List DdNode)) → 2 ≤ length l → last_two (on_last_two rule l) ≡ rule (last_two l)
two-two rule [] some = absurd (omega arith)
two-two rule (x ∷ []) some = absurd (omega arith)
two-two rule (x ∷ y ∷ []) some = refl
two-two rule (x ∷ y ∷ z ∷ l) some =
    let long = length-two rule (y ∷ z ∷ l) in
    two-cons x (on_last_two rule (y ∷ z ∷ l)) (omega arith) ∙ two-two rule (y ∷ z ∷ l) (omega arith)

pub last-two : (rule : TwoLayers → TwoLayers) (l : List (List DdNode)) → 1 ≤ length l → last_layer (on_last_two rule l) ≡ (rule (last_two l)).next
last-two rule [] some = absurd (omega arith)
last-two rule (x ∷ []) some = refl
last-two rule (x ∷ y ∷ []) some = refl
last-two rule (x ∷ y ∷ z ∷ l) some =
    let long = length-two rule (y ∷ z ∷ l) in
    last-cons x (on_last_two rule (y ∷ z ∷ l)) (omega arith) ∙ last-two rule (y ∷ z ∷ l) (omega arith)

pub last-of-two : (l : List (List DdNode)) → (last_two l).next ≡ last_layer l
last-of-two [] = refl
last-of-two (x ∷ []) = refl
last-of-two (x ∷ y ∷ []) = refl
last-of-two (x ∷ y ∷ z ∷ l) = last-of-two (y ∷ z ∷ l)

-- ---- the steps

pub expanded-under-way : (dp : Dp) (rule : ℕ → List DdNode → TwoLayers) (s : SpaceView) → Expands dp s.width rule → (told : List Told) → IsUnderWay dp s → last_depth s < dp.vars
    → told ≡ map (λ (n : DdNode). told_of dp (last_depth s + 1) n.row) (rule (last_depth s) (last_layer s.layers)).next
    → (s.width < length (rule (last_depth s) (last_layer s.layers)).next → Each (λ (n : DdNode). 1 ≤ length n.path) (rule (last_depth s) (last_layer s.layers)).next)
    → length (rule (last_depth s) (last_layer s.layers)).next ≤ length (last_layer s.layers) * dp.choices (last_depth s)
    → length (rule (last_depth s) (last_layer s.layers)).next ≤ s.room
    → IsUnderWay dp (record s { layers = expand_last (rule (last_depth s)) s.layers; told = told })
expanded-under-way dp rule s expands told u low ranked paths few room =
    let d = last_depth s in
    let here = rule d in
    let some = u.some in
    let long = length-expand here s.layers some in
    let deep : length s.prefix + (length (expand_last here s.layers) - 1) ≡ d + 1 = omega arith in
    let last = last-expand here s.layers some in
    let both : AreWithin dp d s.width (here (last_layer s.layers)) = expands.within d (last_layer s.layers) low u.within in
    record {
      lawful = u.lawful;
      prepared = record { vars = u.prepared.vars; words = u.prepared.words; choices = u.prepared.choices; width = u.prepared.width; enough = u.prepared.enough; path = u.prepared.path };
      prefix = u.prefix;
      some = omega arith;
      low = omega arith;
      within = subst (λ (k : ℕ). IsLayerWithin dp k s.width (last_layer (expand_last here s.layers))) (sym deep) (subst (IsLayerWithin dp (d + 1) s.width) (sym last) both.next);
      two = λ less. (let above : length s.prefix + (length (expand_last here s.layers) - 1) - 1 ≡ d = omega arith in
          subst (λ (k : ℕ). AreWithin dp k s.width (last_two (expand_last here s.layers))) (sym above) (subst (AreWithin dp d s.width) (sym (two-expand here s.layers some)) both));
      told = ranked ∙ (ap (λ (k : ℕ). map (λ (n : DdNode). told_of dp k n.row) (here (last_layer s.layers)).next) (sym deep)
          ∙ ap (map (λ (n : DdNode). told_of dp (length s.prefix + (length (expand_last here s.layers) - 1)) n.row)) (sym last));
      unmerged = λ wide. subst (Each (λ (n : DdNode). 1 ≤ length n.path)) (sym last) (paths (subst (λ (l : List DdNode). s.width < length l) last wide));
      few = subst (λ (l : List DdNode). length l ≤ s.room) (sym last) room;
      one = λ same. absurd (omega arith);
      second = λ same. (let at : d ≡ length s.prefix = omega arith in
          let first : length (last_layer s.layers) ≤ 1 = u.one at in
          let product : length (last_layer s.layers) * dp.choices d ≤ 1 * dp.choices d = mul-le-mul_right (dp.choices d) first in
          let choices = ap dp.choices at in
          subst (λ (l : List DdNode). length l ≤ dp.choices (length s.prefix)) (sym last) (omega arith));
    }

pub two-under-way : (dp : Dp) (s : SpaceView) (told : List Told) (first_reduced : Option ℕ) (rule : TwoLayers → TwoLayers) → IsUnderWay dp s
    → (length s.prefix < last_depth s → AreWithin dp (last_depth s - 1) s.width (rule (last_two s.layers)))
    → IsLayerWithin dp (last_depth s) s.width (rule (last_two s.layers)).next
    → told ≡ map (λ (n : DdNode). told_of dp (last_depth s) n.row) (rule (last_two s.layers)).next
    → (s.width < length (rule (last_two s.layers)).next → Each (λ (n : DdNode). 1 ≤ length n.path) (rule (last_two s.layers)).next)
    → length (rule (last_two s.layers)).next ≤ length (last_layer s.layers)
    → IsUnderWay dp (record s { layers = on_last_two rule s.layers; told = told; first_reduced = first_reduced })
two-under-way dp s told first_reduced rule u both one ranked unmerged fewer =
    let d = last_depth s in
    let some = u.some in
    let low = u.low in
    let few = u.few in
    let long = length-two rule s.layers in
    let deep : length s.prefix + (length (on_last_two rule s.layers) - 1) ≡ d = ap (λ (n : ℕ). length s.prefix + (n - 1)) long in
    let last = last-two rule s.layers some in
    record {
      lawful = u.lawful;
      prepared = record { vars = u.prepared.vars; words = u.prepared.words; choices = u.prepared.choices; width = u.prepared.width; enough = u.prepared.enough; path = u.prepared.path };
      prefix = u.prefix;
      some = omega arith;
      low = omega arith;
      within = subst (λ (k : ℕ). IsLayerWithin dp k s.width (last_layer (on_last_two rule s.layers))) (sym deep) (subst (IsLayerWithin dp d s.width) (sym last) one);
      two = λ less. (let deeper : length s.prefix < d = omega arith in
          let above : length s.prefix + (length (on_last_two rule s.layers) - 1) - 1 ≡ d - 1 = ap (λ (n : ℕ). n - 1) deep in
          subst (λ (k : ℕ). AreWithin dp k s.width (last_two (on_last_two rule s.layers))) (sym above)
          (subst (AreWithin dp (d - 1) s.width) (sym (two-two rule s.layers (omega arith))) (both deeper)));
      told = ranked ∙ (ap (λ (k : ℕ). map (λ (n : DdNode). told_of dp k n.row) (rule (last_two s.layers)).next) (sym deep)
          ∙ ap (map (λ (n : DdNode). told_of dp (length s.prefix + (length (on_last_two rule s.layers) - 1)) n.row)) (sym last));
      unmerged = λ wide. subst (Each (λ (n : DdNode). 1 ≤ length n.path)) (sym last) (unmerged (subst (λ (l : List DdNode). s.width < length l) last wide));
      few = subst (λ (l : List DdNode). length l ≤ s.room) (sym last) (omega arith);
      one = λ same. (let at : d ≡ length s.prefix = omega arith in let least = u.one at in subst (λ (l : List DdNode). length l ≤ 1) (sym last) (omega arith));
      second = λ same. (let at : d ≡ length s.prefix + 1 = omega arith in let least = u.second at in subst (λ (l : List DdNode). length l ≤ dp.choices (length s.prefix)) (sym last) (omega arith));
    }

-- a layer with some of its nodes taken out
pruned-within : (dp : Dp) (d w k : ℕ) (t : Option ℤ) (layer : List DdNode) → IsLayerWithin dp k w layer → IsLayerWithin dp k w (pruned_nodes dp d t [] 0 layer)
pruned-within dp d w k t layer h =
    let from : (P : DdNode → Type 0) → Each P layer → Each P (pruned_nodes dp d t [] 0 layer) = λ P all. each-of-all P (pruned_nodes dp d t [] 0 layer) (λ x has. each-has P layer x all (pruned-has dp d t [] 0 layer x has)) in
    record {
      states = from (λ (n : DdNode). IsStateOf dp k n.row) h.states;
      values = from (λ (n : DdNode). IsBetween (k + 1) (2 * k + 1) n.value) h.values;
      wide = λ wider. (let fewer = few-pruned dp d t [] 0 layer in from (λ (n : DdNode). IsBetween (k + 1) (2 * k) n.value) (h.wide (omega arith)));
    }

pub pruned-under-way : (dp : Dp) (s : SpaceView) (told : List Told) (t : Option ℤ) → IsUnderWay dp s
    → told ≡ map (λ (n : DdNode). told_of dp (last_depth s) n.row) (prune dp (last_depth s) t (last_two s.layers)).next
    → IsUnderWay dp (record s { layers = on_last_two (prune dp (last_depth s) t) s.layers; told = told })
pruned-under-way dp s told t u ranked =
    let d = last_depth s in
    let last = last-of-two s.layers in
    let fewer = few-pruned dp d t [] 0 (last_layer s.layers) in
    let move : (P : List DdNode → Type 0) → P (pruned_nodes dp d t [] 0 (last_layer s.layers)) → P (pruned_nodes dp d t [] 0 (last_two s.layers).next) = λ P p. subst (λ (l : List DdNode). P (pruned_nodes dp d t [] 0 l)) (sym last) p in
    two-under-way dp s told s.first_reduced (prune dp d t) u
    (λ deeper. (let same : d - 1 + 1 ≡ d = omega arith in subst (λ (k : ℕ). AreWithin dp (d - 1) s.width (prune dp k t (last_two s.layers))) same (prune-within dp u.lawful (d - 1) s.width t (last_two s.layers) (u.two deeper))))
    (move (IsLayerWithin dp d s.width) (pruned-within dp d s.width d t (last_layer s.layers) u.within))
    ranked
    (move (λ (l : List DdNode). s.width < length l → Each (λ (n : DdNode). 1 ≤ length n.path) l)
    (λ wide. each-of-all (λ (n : DdNode). 1 ≤ length n.path) (pruned_nodes dp d t [] 0 (last_layer s.layers)) (λ x has. each-has (λ (n : DdNode). 1 ≤ length n.path) (last_layer s.layers) x (u.unmerged (omega arith)) (pruned-has dp d t [] 0 (last_layer s.layers) x has))))
    (move (λ (l : List DdNode). length l ≤ length (last_layer s.layers)) fewer)

-- a wide layer stands below the first one
pub wide-deep : (dp : Dp) (s : SpaceView) → IsUnderWay dp s → s.width < length (last_layer s.layers) → length s.prefix < last_depth s
wide-deep dp s u wide = go (grind arith)
  where
    go : (length s.prefix < last_depth s) ⊎ (last_depth s ≡ length s.prefix) → length s.prefix < last_depth s
    go (inl less) = less
    go (inr same) = absurd (let least = u.one same in let some = u.prepared.width.positive in omega arith)

pub start-under-way : (dp : Dp) → IsLawful dp → (s : SpaceView) (p : List ℕ) (told : List Told) (held : ℕ) → IsPreparedFor dp s → IsPrefix dp p
    → told ≡ map (λ (n : DdNode). told_of dp (length p) n.row) (start_layer (reached dp p))
    → IsUnderWay dp (record s { prefix = p; layers = start_layer (reached dp p) ∷ []; told = told; first_reduced = None; held = held })
start-under-way dp laws s p told held h prefix ranked =
    let low = IsPrefix-length dp p prefix in
    let some = h.enough.some in
    let positive = h.width.positive in
    let same : length p + (1 - 1) ≡ length p = omega arith in
    record {
      lawful = laws;
      prepared = record { vars = h.vars; words = h.words; choices = h.choices; width = h.width; enough = h.enough; path = h.path };
      prefix = prefix;
      some = omega arith;
      low = omega arith;
      within = subst (λ (k : ℕ). IsLayerWithin dp k s.width (start_layer (reached dp p))) (sym same) (start-within dp laws p s.width prefix low h.width.positive);
      two = λ less. absurd (omega arith);
      told = ranked ∙ ap (λ (k : ℕ). map (λ (n : DdNode). told_of dp k n.row) (start_layer (reached dp p))) (sym same);
      unmerged = λ wide. absurd (omega arith);
      few = some;
      one = λ e. omega arith;
      second = λ e. absurd (omega arith);
    }

pub kept-under-way : (dp : Dp) (s : SpaceView) (told : List Told) (first_reduced : Option ℕ) → IsUnderWay dp s → s.width < length (last_layer s.layers)
    → told ≡ map (λ (n : DdNode). told_of dp (last_depth s) n.row) (keep_first s.width (last_two s.layers)).next
    → IsUnderWay dp (record s { layers = on_last_two (keep_first s.width) s.layers; told = told; first_reduced = first_reduced })
kept-under-way dp s told first_reduced u wide ranked =
    let d = last_depth s in
    let deeper = wide-deep dp s u wide in
    let both : AreWithin dp (d - 1) s.width (keep_first s.width (last_two s.layers)) = keep-first-within dp u.lawful (d - 1) s.width (last_two s.layers) (u.two deeper) in
    let same : d - 1 + 1 ≡ d = omega arith in
    let last = ap (λ (l : List DdNode). length l) (last-of-two s.layers) in
    let short : length (take s.width (last_two s.layers).next) ≡ s.width = length-take-le s.width (last_two s.layers).next (omega arith) in
    two-under-way dp s told first_reduced (keep_first s.width) u (λ _. both) (subst (λ (k : ℕ). IsLayerWithin dp k s.width (take s.width (last_two s.layers).next)) same both.next) ranked
    (λ wider. absurd (omega arith)) (omega arith)

pub merged-length : (dp : Dp) (k w : ℕ) (layer : List DdNode) → 1 ≤ w → w < length layer → length (merged_layer dp k w layer) ≡ w
merged-length dp k w layer some wide =
    let long = length-append (take (w - 1) layer) (merged_node dp k (drop (w - 1) layer) ∷ []) in
    let short = length-take-le (w - 1) layer (omega arith) in
    omega arith

pub merged-under-way : (dp : Dp) (s : SpaceView) (told : List Told) (first_reduced : Option ℕ) → IsUnderWay dp s → s.width < length (last_layer s.layers)
    → told ≡ map (λ (n : DdNode). told_of dp (last_depth s) n.row) (merge_rest dp (last_depth s) s.width (last_two s.layers)).next
    → IsUnderWay dp (record s { layers = on_last_two (merge_rest dp (last_depth s) s.width) s.layers; told = told; first_reduced = first_reduced })
merged-under-way dp s told first_reduced u wide ranked =
    let d = last_depth s in
    let deeper = wide-deep dp s u wide in
    let positive = u.prepared.width.positive in
    let last = ap (λ (l : List DdNode). length l) (last-of-two s.layers) in
    let same : d - 1 + 1 ≡ d = omega arith in
    let both : AreWithin dp (d - 1) s.width (merge_rest dp d s.width (last_two s.layers)) =
    subst (λ (k : ℕ). AreWithin dp (d - 1) s.width (merge_rest dp k s.width (last_two s.layers))) same (merge-within dp u.lawful (d - 1) s.width (last_two s.layers) positive (omega arith) (u.two deeper)) in
    let short = merged-length dp d s.width (last_two s.layers).next positive (omega arith) in
    two-under-way dp s told first_reduced (merge_rest dp d s.width) u (λ _. both) (subst (λ (k : ℕ). IsLayerWithin dp k s.width (merged_layer dp d s.width (last_two s.layers).next)) same both.next) ranked
    (λ wider. absurd (omega arith)) (omega arith)
