-- Following decisions one after another.
use Rattle.std.proofs.Common.{◌≡◌, ℕ, ◌+◌, ◌<◌, ◌≤◌, ℤ, ◌+ℤ◌, List, [], ◌∷◌, length, take, get_or, refl, sym, ◌∙◌, ap, subst, arith, FitsSigned, w64, IsTrue}
use Rattle.std.proofs.lemmas.Int.{ints}
use Rattle.std.proofs.lemmas.List.{take_more, length-take-le, take-append-drop}
use Rattle.dp_model.specs.Dp.{Dp, IsAllowed}
use Rattle.dp_model.specs.Gaps.{IsStateOf}
use Rattle.dp_model.specs.Laws.{IsLawful}
use Rattle.dp_model.specs.Prefixes.{IsPath, IsPrefix, state_of, value_of}
use Rattle.dp_model.specs.Walked.{IsWalked}
use Rattle.dp_model.proofs.Paths.{IsPrefix-then, state_of-then, value_of-then, IsPrefix-front, IsPrefix-back, state_of-state}
use Rattle.dp_model.proofs.Sizes.{value_of-size}

-- what was walked of the decisions so far
pub record IsWalkedTo (dp : Dp) (ds : List ℕ) (k : ℕ) (s : List ℤ) (v : ℤ) : Type 0 where
  pub within : k ≤ length ds
  pub few : length ds ≤ dp.vars
  pub walked : IsWalked dp (take k ds) s v

pub walked_none : (dp : Dp) (ds : List ℕ) → length ds ≤ dp.vars → IsWalkedTo dp ds 0 dp.root dp.root_value
walked_none dp ds few = record { within = omega arith; few = few; walked = record { prefix = tt; row = refl; value = omega (arith, ints) } }

pub walked_state : (dp : Dp) → IsLawful dp → (ds : List ℕ) (k : ℕ) (s : List ℤ) (v : ℤ) → IsWalkedTo dp ds k s v → IsTrue (dp.is_state k s)
walked_state dp laws ds k s v w =
    let deep = length-take-le k ds w.within in
    let at = state_of-state dp laws.states (take k ds) w.walked.prefix in
    subst (λ n. IsTrue (dp.is_state n s)) deep (subst (λ r. IsTrue (dp.is_state (length (take k ds)) r)) (sym w.walked.row) at.test)

pub walked_state_of : (dp : Dp) → IsLawful dp → (ds : List ℕ) (k : ℕ) (s : List ℤ) (v : ℤ) → IsWalkedTo dp ds k s v → IsStateOf dp k s
walked_state_of dp laws ds k s v w =
    let few = w.few in let within = w.within in
    record { layer = omega arith; test = walked_state dp laws ds k s v w }

pub walked_fits : (dp : Dp) → IsLawful dp → (ds : List ℕ) (k : ℕ) (s : List ℤ) (v : ℤ) (d : ℕ) → IsWalkedTo dp ds k s v → IsAllowed dp k s d → FitsSigned w64 (v +ℤ dp.gain k s d)
walked_fits dp laws ds k s v d w allowed =
    let size = value_of-size dp laws (take k ds) w.walked.prefix in
    let short = length-take-le k ds w.within in
    let few = w.few in let within = w.within in
    let most = laws.sizes.vars in
    let is = w.walked.value in
    let one = laws.sizes.gain k s d (walked_state_of dp laws ds k s v w) allowed in
    omega (arith, ints)

pub walked_more : (dp : Dp) (ds : List ℕ) (k : ℕ) (s : List ℤ) (v : ℤ) → k < length ds → IsWalkedTo dp ds k s v → IsAllowed dp k s (get_or ds k 0)
    → IsWalkedTo dp ds (k + 1) (dp.step k s (get_or ds k 0)) (v +ℤ dp.gain k s (get_or ds k 0))
walked_more dp ds k s v more w allowed =
    let d = get_or ds k 0 in
    let p = take k ds in
    let short = length-take-le k ds w.within in
    let longer = take_more ds k 0 more in
    let here : IsAllowed dp (length p) (state_of dp p) d = subst (λ n. IsAllowed dp n (state_of dp p) d) (sym short) (subst (λ r. IsAllowed dp k r d) w.walked.row allowed) in
    let stepped : dp.step k s d ≡ dp.step (length p) (state_of dp p) d = ap (λ r. dp.step k r d) w.walked.row ∙ ap (λ n. dp.step n (state_of dp p) d) (sym short) in
    let gained : dp.gain k s d ≡ dp.gain (length p) (state_of dp p) d = ap (λ r. dp.gain k r d) w.walked.row ∙ ap (λ n. dp.gain n (state_of dp p) d) (sym short) in
    let few = w.few in
    record {
      within = omega arith;
      few = w.few;
      walked = record {
        prefix = subst (IsPrefix dp) (sym longer) (IsPrefix-then dp p d w.walked.prefix here);
        row = stepped ∙ (sym (state_of-then dp p d) ∙ ap (state_of dp) (sym longer));
        value = ap (λ z. v +ℤ z) gained ∙ (ap (λ z. z +ℤ dp.gain (length p) (state_of dp p) d) w.walked.value ∙ (sym (value_of-then dp p d) ∙ ap (value_of dp) (sym longer)));
      };
    }

-- where the decisions are a prefix, each is allowed in the state that those before it reach
pub walked_allowed : (dp : Dp) (ds : List ℕ) (k : ℕ) (s : List ℤ) (v : ℤ) → k < length ds → IsWalkedTo dp ds k s v → IsPrefix dp ds → IsAllowed dp k s (get_or ds k 0)
walked_allowed dp ds k s v more w whole =
    let d = get_or ds k 0 in
    let p = take k ds in
    let short = length-take-le k ds w.within in
    let longer = take_more ds k 0 more in
    let split = take-append-drop (k + 1) ds in
    let front : IsPrefix dp (take (k + 1) ds) = IsPrefix-front dp (take (k + 1) ds) _ (subst (IsPrefix dp) (sym split) whole) in
    let last : IsPath dp (length p) (state_of dp p) (d ∷ []) = IsPrefix-back dp p (d ∷ []) (subst (IsPrefix dp) longer front) in
    subst (λ r. IsAllowed dp k r d) (sym w.walked.row) (subst (λ n. IsAllowed dp n (state_of dp p) d) short last.0)
