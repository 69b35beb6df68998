-- Layers that are built one after another.
use Rattle.std.proofs.Common.{◌≡◌, ℕ, zero, suc, ◌+◌, ◌-◌, ◌<◌, ◌≤◌, nat_lt, Bool, true, false, cond, ◌&&◌, ℤ, List, length, Option, Some, None, IsTrue, refl, sym, ◌∙◌, ap, subst, arith}
use Rattle.dp_model.specs.Dp.{Dp}
use Rattle.dp_model.specs.Reached.{reached}
use Rattle.dp_laws.specs.Diagrams.Nodes.{DdNode}
use Rattle.dp_laws.specs.Restricted.Beam.{is_reduced}
use Rattle.dp_laws.specs.Rules.Compiling.{TwoLayers, expand, prune, is_wide, built, compiled, merge_rest, first_reduced_below, start_layer}
use Rattle.dp_laws.proofs.Rules.Built.{built-narrow}
use Rattle.layer_build.specs.Layers.{SpaceView, last_depth, last_layer, expand_last, reduced_first}
use Rattle.layer_build.specs.UnderWay.{IsUnderWay}
use Rattle.relaxed_dd.specs.Building.{HasBuilt, HasCompiled, IsStarted, with_next, compiled_from}
use Rattle.relaxed_dd.proofs.Lasts.{length-expand, last-expand, with_rest, rest-expand, rest-none}
use Rattle.layer_nodes.specs.Nodes.{Told}

-- the first that there is
abbrev pub first_of : Option ℕ → Option ℕ → Option ℕ
first_of None other = other
first_of (Some depth) other = Some depth

-- the least reduced depth of the layers so far, or else of the rest, where the last one is at depth k
abbrev pub reduced_with : Dp → ℕ → ℕ → Option ℤ → ℕ → ℕ → Option ℕ → List DdNode → Option ℕ
reduced_with dp first w t k m so_far last = first_of so_far (first_reduced_below dp first w t k m last)

-- the layers of the prefix are built as far as depth k, in a workspace that stood so at the start
pub record IsBuiltTo (dp : Dp) (t : Option ℤ) (k : ℕ) (start s : SpaceView) : Type 0 where
  pub deep : length start.prefix ≤ k
  pub low : k ≤ dp.vars
  pub space : s ≡ record start { layers = s.layers; told = s.told; first_reduced = s.first_reduced }
  pub size : length s.layers ≡ k - length start.prefix + 1
  pub layers : with_rest (compiled dp (length start.prefix) start.width t k (dp.vars - k)) s.layers ≡ compiled_from dp t start
  pub reduced_is : reduced_with dp (length start.prefix) start.width t k (dp.vars - k) s.first_reduced (last_layer s.layers)
      ≡ first_reduced_below dp (length start.prefix) start.width t (length start.prefix) (dp.vars - length start.prefix) (start_layer (reached dp start.prefix))
  pub narrow : IsTrue (is_reduced dp (length start.prefix) k) → length (last_layer s.layers) ≤ start.width
  pub under_way : IsUnderWay dp s

pub starts : (dp : Dp) (t : Option ℤ) (s : SpaceView) → IsUnderWay dp s → IsStarted dp s → IsBuiltTo dp t (length s.prefix) s s
starts dp t s under h =
    let first = length s.prefix in
    let short = h.shorter in
    let start = start_layer (reached dp s.prefix) in
    record {
      deep = omega arith;
      low = omega arith;
      space = refl;
      size = (let one = ap (λ ls. length ls) h.layers in omega arith);
      layers = ap (with_rest (compiled dp first s.width t first (dp.vars - first))) h.layers;
      reduced_is = ap (λ (o : Option ℕ). reduced_with dp first s.width t first (dp.vars - first) o (last_layer s.layers)) h.first_reduced ∙ ap (λ ls. first_reduced_below dp first s.width t first (dp.vars - first) (last_layer ls)) h.layers;
      narrow = λ deep. absurd (let no : is_reduced dp first first ≡ false = grind arith in let both : true ≡ false = sym deep ∙ no in cc);
      under_way = under;
    }

-- one layer more
reduced-further : (dp : Dp) (first w : ℕ) (t : Option ℤ) (k m : ℕ) (so_far : Option ℕ) (last : List DdNode) (b : Bool) → is_wide dp first w (k + 1) (prune dp (k + 1) t (expand dp k last)).next ≡ b
    → reduced_with dp first w t (k + 1) m (cond b (reduced_first so_far (k + 1)) so_far) (built dp first w t k last).next ≡ reduced_with dp first w t k (suc m) so_far last
reduced-further dp first w t k m (Some depth) last true e = refl
reduced-further dp first w t k m (Some depth) last false e = refl
reduced-further dp first w t k m None last true e = sym (ap (λ b. cond b (Some (k + 1)) (first_reduced_below dp first w t (k + 1) m (built dp first w t k last).next)) e)
reduced-further dp first w t k m None last false e = sym (ap (λ b. cond b (Some (k + 1)) (first_reduced_below dp first w t (k + 1) m (built dp first w t k last).next)) e)

pub builds-further : (dp : Dp) (t : Option ℤ) (k : ℕ) (start s new : SpaceView) → 1 ≤ start.width → k < dp.vars → IsBuiltTo dp t k start s → HasBuilt dp t s new → IsBuiltTo dp t (k + 1) start new
builds-further dp t k start s new some low h n =
    let first = length start.prefix in
    let w = start.width in
    let m = dp.vars - (k + 1) in
    let left : dp.vars - k ≡ suc m = omega arith in
    let deep = h.deep in
    let size = h.size in
    let prefix : s.prefix ≡ start.prefix = ap (λ (v : SpaceView). v.prefix) h.space in
    let width : s.width ≡ w = ap (λ (v : SpaceView). v.width) h.space in
    let at : last_depth s ≡ k = (let e : length s.prefix ≡ first = ap (λ (p : List ℕ). length p) prefix in omega arith) in
    let rule : built dp (length s.prefix) s.width t (last_depth s) ≡ built dp first w t k = cc in
    let layers : new.layers ≡ expand_last (built dp first w t k) s.layers = ap (λ (v : SpaceView). v.layers) n.space ∙ ap (λ r. expand_last r s.layers) rule in
    let some-layer : 0 < length s.layers = omega arith in
    let last : last_layer new.layers ≡ (built dp first w t k (last_layer s.layers)).next = ap last_layer layers ∙ last-expand (built dp first w t k) s.layers some-layer in
    let Wide : ℕ → ℕ → ℕ → Bool = λ f v d. is_wide dp f v (d + 1) (prune dp (d + 1) t (expand dp d (last_layer s.layers))).next in
    let wide : Wide (length s.prefix) s.width (last_depth s) ≡ Wide first w k = cc in
    let Then : Bool → ℕ → Option ℕ = λ b d. cond b (reduced_first s.first_reduced (d + 1)) s.first_reduced in
    let reduced_now : new.first_reduced ≡ Then (Wide first w k) k = ap (λ (v : SpaceView). v.first_reduced) n.space ∙ (ap (λ b. Then b (last_depth s)) wide ∙ ap (Then (Wide first w k)) at) in
    record {
      deep = omega arith;
      low = omega arith;
      space = n.space ∙ (let e : record s { layers = new.layers; told = new.told; first_reduced = new.first_reduced } ≡ record start { layers = new.layers; told = new.told; first_reduced = new.first_reduced } = ap (λ (v : SpaceView). record v { layers = new.layers; told = new.told; first_reduced = new.first_reduced }) h.space in
          let f : record s { layers = expand_last (built dp (length s.prefix) s.width t (last_depth s)) s.layers; told = new.told; first_reduced = with_next dp t s } ≡ record s { layers = new.layers; told = new.told; first_reduced = new.first_reduced } = (let a = ap (λ (v : SpaceView). v.layers) n.space in let b = ap (λ (v : SpaceView). v.first_reduced) n.space in cc) in
          f ∙ e);
      size = ap (λ ls. length ls) layers ∙ (let long = length-expand (built dp first w t k) s.layers some-layer in omega arith);
      layers = ap (with_rest (compiled dp first w t (k + 1) m)) layers ∙ (sym (rest-expand dp first w t k m s.layers) ∙ (ap (λ c. with_rest (compiled dp first w t k c) s.layers) (sym left) ∙ h.layers));
      reduced_is = ap (λ (o : Option ℕ). reduced_with dp first w t (k + 1) m o (last_layer new.layers)) reduced_now ∙ (ap (λ l. reduced_with dp first w t (k + 1) m (Then (Wide first w k) k) l) last
          ∙ (reduced-further dp first w t k m s.first_reduced (last_layer s.layers) (Wide first w k) refl ∙ (ap (λ c. reduced_with dp first w t k c s.first_reduced (last_layer s.layers)) (sym left) ∙ h.reduced_is)));
      narrow = λ cut. subst (λ l. length l ≤ w) (sym last) (built-narrow dp first w t k (last_layer s.layers) some cut);
      under_way = n.under_way;
    }

first-of-none : (o : Option ℕ) → first_of o None ≡ o
first-of-none None = refl
first-of-none (Some d) = refl

-- the last layer is built
pub builds-all : (dp : Dp) (t : Option ℤ) (start s : SpaceView) → IsBuiltTo dp t dp.vars start s → HasCompiled dp t start s
builds-all dp t start s h =
    let first = length start.prefix in
    let none : dp.vars - dp.vars ≡ zero = omega arith in
    let layers : s.layers ≡ compiled_from dp t start = sym (rest-none dp first start.width t dp.vars s.layers) ∙ (ap (λ c. with_rest (compiled dp first start.width t dp.vars c) s.layers) (sym none) ∙ h.layers) in
    let reduced_is : s.first_reduced ≡ first_reduced_below dp first start.width t first (dp.vars - first) (start_layer (reached dp start.prefix)) =
    sym (first-of-none s.first_reduced) ∙ (ap (λ c. reduced_with dp first start.width t dp.vars c s.first_reduced (last_layer s.layers)) (sym none) ∙ h.reduced_is) in
    record {
      space = h.space ∙ (ap (λ ls. record start { layers = ls; told = s.told; first_reduced = s.first_reduced }) layers ∙ ap (λ (o : Option ℕ). record start { layers = compiled_from dp t start; told = s.told; first_reduced = o }) reduced_is);
      under_way = h.under_way;
    }

-- a layer that may be reduced is built within the width, and another one is expanded and pruned

-- the next layer by a test whether it may be reduced
abbrev built_if : Bool → Dp → ℕ → Option ℤ → ℕ → List DdNode → TwoLayers
built_if b dp w t k layer =
    let two = prune dp (k + 1) t (expand dp k layer) in
    cond (b && nat_lt w (length two.next)) (merge_rest dp (k + 1) w two) two

-- the workspace with its next layer built by such a test
abbrev after_test : Bool → Dp → Option ℤ → List Told → SpaceView → SpaceView
after_test b dp t told s = record s {
  layers = expand_last (built_if b dp s.width t (last_depth s)) s.layers;
  told = told;
  first_reduced = cond (b && nat_lt s.width (length (prune dp (last_depth s + 1) t (expand dp (last_depth s) (last_layer s.layers))).next)) (reduced_first s.first_reduced (last_depth s + 1)) s.first_reduced;
}

-- a layer that is built by the right test is built
pub built-by : (dp : Dp) (t : Option ℤ) (s new : SpaceView) (b : Bool) → is_reduced dp (length s.prefix) (last_depth s + 1) ≡ b → new ≡ after_test b dp t new.told s → IsUnderWay dp new → HasBuilt dp t s new
built-by dp t s new b test e u = record { space = e ∙ ap (λ b. after_test b dp t new.told s) (sym test); under_way = u }

-- what the next layer needs
pub record MayBuild (dp : Dp) (s : SpaceView) : Type 0 where
  pub some : 0 < length s.layers
  pub below : last_depth s < dp.vars
  pub narrow : length s.prefix + 2 ≤ last_depth s → length (last_layer s.layers) ≤ s.width

pub may-build : (dp : Dp) (t : Option ℤ) (k : ℕ) (start s : SpaceView) → k < dp.vars → IsBuiltTo dp t k start s → MayBuild dp s
may-build dp t k start s low h =
    let deep = h.deep in
    let size = h.size in
    let prefix : length s.prefix ≡ length start.prefix = ap (λ (v : SpaceView). length v.prefix) h.space in
    let width : s.width ≡ start.width = ap (λ (v : SpaceView). v.width) h.space in
    let at : last_depth s ≡ k = omega arith in
    record {
      some = omega arith;
      below = omega arith;
      narrow = λ more. (let cut : is_reduced dp (length start.prefix) k ≡ true = grind arith in let few = h.narrow cut in omega arith);
    }
