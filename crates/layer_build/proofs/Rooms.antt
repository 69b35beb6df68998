-- How much memory layers of a width need.
use Rattle.std.proofs.Common.{◌≡◌, ℕ, zero, suc, ◌+◌, ◌*◌, ◌^◌, ◌<◌, ◌≤◌, vec_capacity, mul-le-mul_left, mul-le-mul_right, sym, ap, subst, ◌∙◌, ◌⊎◌, inl, inr, arith}
use Rattle.dp_model.specs.Dp.{Dp}
use Rattle.dp_model.specs.Laws.{IsLawful}
use Rattle.dp_laws.specs.Width.{cost_below}
use Rattle.layer_candidates.specs.declared.beam.Beam.{Beam}
use Rattle.layer_candidates.specs.Beaming.{HasLayers, HasMade}
use Rattle.layer_candidates.specs.Layering.{HasMemory}
use Rattle.layer_build.specs.Layers.{IsWidth, AreEnough}
use Rattle.layer_build.specs.Stacked.{beam_width}

last-of : (k n : ℕ) → k < suc n → (k ≡ n) ⊎ (k < n)
last-of k n h = grind arith

choice-cost : (dp : Dp) (n k : ℕ) → k < n → dp.choices k ≤ cost_below dp n
choice-cost dp zero k less = absurd (omega arith)
choice-cost dp (suc n) k less = go (last-of k n less) (choice-cost dp n k)
  where
    go : (k ≡ n) ⊎ (k < n) → (k < n → dp.choices k ≤ cost_below dp n) → dp.choices k ≤ cost_below dp (suc n)
    go (inl e) again = let c = ap dp.choices e in omega arith
    go (inr l) again = let c = again l in omega arith

vars-cost : (dp : Dp) → IsLawful dp → (n : ℕ) → n ≤ cost_below dp n
vars-cost dp laws zero = omega arith
vars-cost dp laws (suc n) = let rest = vars-cost dp laws n in let some = laws.sizes.some_words in omega arith

pub choice-few : (dp : Dp) (w : ℕ) → IsWidth dp w → (k : ℕ) → k < dp.vars → w * dp.choices k ≤ 2 ^ 25
choice-few dp w h k less =
    let cost = h.fits.cost in
    let c = mul-le-mul_left w (choice-cost dp dp.vars k less) in
    omega arith

pub vars-few : (dp : Dp) → IsLawful dp → (w : ℕ) → IsWidth dp w → dp.vars * w ≤ 2 ^ 25
vars-few dp laws w h =
    let cost = h.fits.cost in
    let c = mul-le-mul_left w (vars-cost dp laws dp.vars) in
    omega arith

-- One layer more.

pub record AreEnoughTo (dp : Dp) (w n room before : ℕ) : Type 0 where
  pub enough : AreEnough dp w n room
  pub last : (k : ℕ) → k + 1 ≡ n → before ≡ dp.choices k
  pub before_few : before ≤ 1024

pub enough-more : (dp : Dp) → IsLawful dp → (w n room before choices new : ℕ) → IsWidth dp w → n < dp.vars → AreEnoughTo dp w n room before → choices ≡ dp.choices n
    → room ≤ new → w * choices ≤ new → before * choices ≤ new → new ≤ 2 ^ 25 → AreEnoughTo dp w (n + 1) new choices
enough-more dp laws w n room before choices new h less e is a b c small = record {
  enough = record {
    some = (let one = e.enough.some in omega arith);
    first = λ k low. first k (last-or k n low);
    second = λ k low. second k (last-or (k + 1) n low);
    later = λ k low. later k (last-or k n low);
    few = small;
  };
  last = λ k same. (let f : k ≡ n = omega arith in is ∙ ap dp.choices (sym f));
  before_few = (let most = laws.sizes.choices n less in omega arith);
}
  where
    last-or : (k n : ℕ) → k < n + 1 → (k ≡ n) ⊎ (k < n)
    last-or k n h = grind arith

    wide : dp.choices n ≤ w * dp.choices n
    wide = let p = mul-le-mul_right (dp.choices n) h.positive in let one : 1 * dp.choices n ≡ dp.choices n = omega arith in omega arith

    first : (k : ℕ) → (k ≡ n) ⊎ (k < n) → dp.choices k ≤ new
    first k (inl f) = let same = ap dp.choices f in let v = wide in let u = subst (λ (x : ℕ). w * x ≤ new) is b in omega arith
    first k (inr l) = let old = e.enough.first k l in omega arith

    later : (k : ℕ) → (k ≡ n) ⊎ (k < n) → w * dp.choices k ≤ new
    later k (inl f) = subst (λ (j : ℕ). w * dp.choices j ≤ new) (sym f) (subst (λ (x : ℕ). w * x ≤ new) is b)
    later k (inr l) = let old = e.enough.later k l in omega arith

    second : (k : ℕ) → (k + 1 ≡ n) ⊎ (k + 1 < n) → dp.choices k * dp.choices (k + 1) ≤ new
    second k (inl f) = subst (λ (j : ℕ). dp.choices k * dp.choices j ≤ new) (sym f) (subst (λ (x : ℕ). x * dp.choices n ≤ new) (e.last k f) (subst (λ (x : ℕ). before * x ≤ new) is c))
    second k (inr l) = let old = e.enough.second k l in omega arith

pub product-few : (a b : ℕ) → a ≤ 1024 → b ≤ 1024 → a * b ≤ 2 ^ 25
product-few a b ha hb =
    let one = mul-le-mul_right b ha in
    omega arith

-- A beam that was made.

pub has-layers : (dp : Dp) → IsLawful dp → (w words room widest steps vars : ℕ) (b : Beam) → IsWidth dp w → AreEnough dp w dp.vars room → HasMade words room widest steps b
    → words ≡ dp.words → vars ≡ dp.vars → widest ≡ beam_width w → steps ≡ widest + vars * w → HasLayers dp w b
has-layers dp laws w words room widest steps vars b h e m words_is vars_is widest_is steps_is =
    let many = vars-few dp laws w h in
    let most = h.fits.most in
    let wide : w ≤ widest = omega arith in
    let least : 1024 ≤ widest = omega arith in
    record {
      room = room;
      widest = widest;
      enough = record {
        first = e.first;
        second = e.second;
        later = e.later;
        members = record {
          one = omega arith;
          choices = λ k less. (let few = laws.sizes.choices k less in omega arith);
          width = wide;
        };
      };
      positive = h.positive;
      candidates = subst (λ (n : ℕ). HasMemory n room b.candidates) words_is m.candidates;
      members = m.members;
      steps = subst (λ (n : ℕ). n ≤ vec_capacity b.steps) (steps_is ∙ ap (λ (n : ℕ). widest + n * w) vars_is) m.steps_hold;
      small = omega arith;
    }
