-- Paths one after another.
use Rattle.std.proofs.Common.{◌≡◌, ℕ, ◌+◌, ◌<◌, ◌≤◌, ℤ, ◌+ℤ◌, List, [], ◌∷◌, ◌++◌, length, length-append, refl, sym, ◌∙◌, ap, subst, add-zero, zero-add, arith}
use Rattle.std.proofs.lemmas.Int.{ints}
use Rattle.dp_model.specs.Dp.{Dp, IsAllowed}
use Rattle.dp_model.specs.Gaps.{IsStateOf}
use Rattle.dp_model.specs.Laws.{StepsAreStates}
use Rattle.dp_model.specs.Prefixes.{IsPath, end_of, gain_of, IsPrefix, state_of, value_of, IsCompletion, IsContinuation}

pub IsPath-append : (dp : Dp) (k : ℕ) (s : List ℤ) (p q : List ℕ) → IsPath dp k s p → IsPath dp (k + length p) (end_of dp k s p) q → IsPath dp k s (p ++ q)
IsPath-append dp k s [] q here there = subst (λ n. IsPath dp n s q) (add-zero k) there
IsPath-append dp k s (d ∷ p) q here there =
    let e : k + length (d ∷ p) ≡ k + 1 + length p = omega arith in
    (here.0, IsPath-append dp (k + 1) (dp.step k s d) p q here.1 (subst (λ n. IsPath dp n (end_of dp (k + 1) (dp.step k s d) p) q) e there))

pub IsPath-front : (dp : Dp) (k : ℕ) (s : List ℤ) (p q : List ℕ) → IsPath dp k s (p ++ q) → IsPath dp k s p
IsPath-front dp k s [] q h = tt
IsPath-front dp k s (d ∷ p) q h = (h.0, IsPath-front dp (k + 1) (dp.step k s d) p q h.1)

pub IsPath-back : (dp : Dp) (k : ℕ) (s : List ℤ) (p q : List ℕ) → IsPath dp k s (p ++ q) → IsPath dp (k + length p) (end_of dp k s p) q
IsPath-back dp k s [] q h = subst (λ n. IsPath dp n s q) (sym (add-zero k)) h
IsPath-back dp k s (d ∷ p) q h =
    let e : k + 1 + length p ≡ k + length (d ∷ p) = omega arith in
    subst (λ n. IsPath dp n (end_of dp (k + 1) (dp.step k s d) p) q) e (IsPath-back dp (k + 1) (dp.step k s d) p q h.1)

pub end_of-append : (dp : Dp) (k : ℕ) (s : List ℤ) (p q : List ℕ) → end_of dp k s (p ++ q) ≡ end_of dp (k + length p) (end_of dp k s p) q
end_of-append dp k s [] q = ap (λ n. end_of dp n s q) (sym (add-zero k))
end_of-append dp k s (d ∷ p) q =
    let e : k + 1 + length p ≡ k + length (d ∷ p) = omega arith in
    end_of-append dp (k + 1) (dp.step k s d) p q ∙ ap (λ n. end_of dp n (end_of dp (k + 1) (dp.step k s d) p) q) e

pub gain_of-append : (dp : Dp) (k : ℕ) (s : List ℤ) (p q : List ℕ) → gain_of dp k s (p ++ q) ≡ gain_of dp k s p +ℤ gain_of dp (k + length p) (end_of dp k s p) q
gain_of-append dp k s [] q =
    let e : gain_of dp k s q ≡ gain_of dp (k + 0) s q = ap (λ n. gain_of dp n s q) (sym (add-zero k)) in
    e ∙ omega (arith, ints)
gain_of-append dp k s (d ∷ p) q =
    let e : k + 1 + length p ≡ k + length (d ∷ p) = omega arith in
    let rest = gain_of-append dp (k + 1) (dp.step k s d) p q ∙ ap (λ n. gain_of dp (k + 1) (dp.step k s d) p +ℤ gain_of dp n (end_of dp (k + 1) (dp.step k s d) p) q) e in
    ap (λ z. dp.gain k s d +ℤ z) rest ∙ omega (arith, ints)

-- a path ends at the last layer or above it
pub IsPath-length : (dp : Dp) (k : ℕ) (s : List ℤ) (p : List ℕ) → k ≤ dp.vars → IsPath dp k s p → k + length p ≤ dp.vars
IsPath-length dp k s [] low h = omega arith
IsPath-length dp k s (d ∷ p) low h =
    let below : k < dp.vars = h.0.layer in
    let rest = IsPath-length dp (k + 1) (dp.step k s d) p (omega arith) h.1 in omega arith

-- a path from a state leads to a state
pub end_of-state : (dp : Dp) → StepsAreStates dp → (k : ℕ) (s : List ℤ) (p : List ℕ) → IsStateOf dp k s → IsPath dp k s p → IsStateOf dp (k + length p) (end_of dp k s p)
end_of-state dp laws k s [] h path = subst (λ n. IsStateOf dp n s) (sym (add-zero k)) h
end_of-state dp laws k s (d ∷ p) h path =
    let below : k < dp.vars = path.0.layer in
    let next : IsStateOf dp (k + 1) (dp.step k s d) = record { layer = omega arith; test = laws.step k s d h path.0 } in
    let e : k + 1 + length p ≡ k + length (d ∷ p) = omega arith in
    subst (λ n. IsStateOf dp n (end_of dp (k + 1) (dp.step k s d) p)) e (end_of-state dp laws (k + 1) (dp.step k s d) p next path.1)

-- The same from the root.

pub IsPrefix-append : (dp : Dp) (p q : List ℕ) → IsPrefix dp p → IsPath dp (length p) (state_of dp p) q → IsPrefix dp (p ++ q)
IsPrefix-append dp p q here there = IsPath-append dp 0 dp.root p q here (subst (λ n. IsPath dp n (state_of dp p) q) (sym (zero-add (length p))) there)

pub IsPrefix-front : (dp : Dp) (p q : List ℕ) → IsPrefix dp (p ++ q) → IsPrefix dp p
IsPrefix-front dp p q h = IsPath-front dp 0 dp.root p q h

pub IsPrefix-back : (dp : Dp) (p q : List ℕ) → IsPrefix dp (p ++ q) → IsPath dp (length p) (state_of dp p) q
IsPrefix-back dp p q h = subst (λ n. IsPath dp n (state_of dp p) q) (zero-add (length p)) (IsPath-back dp 0 dp.root p q h)

pub state_of-append : (dp : Dp) (p q : List ℕ) → state_of dp (p ++ q) ≡ end_of dp (length p) (state_of dp p) q
state_of-append dp p q = end_of-append dp 0 dp.root p q ∙ ap (λ n. end_of dp n (state_of dp p) q) (zero-add (length p))

pub value_of-append : (dp : Dp) (p q : List ℕ) → value_of dp (p ++ q) ≡ value_of dp p +ℤ gain_of dp (length p) (state_of dp p) q
value_of-append dp p q =
    let split = gain_of-append dp 0 dp.root p q ∙ ap (λ n. gain_of dp 0 dp.root p +ℤ gain_of dp n (state_of dp p) q) (zero-add (length p)) in
    ap (λ z. dp.root_value +ℤ z) split ∙ omega (arith, ints)

pub IsPrefix-length : (dp : Dp) (p : List ℕ) → IsPrefix dp p → length p ≤ dp.vars
IsPrefix-length dp p h = let short = IsPath-length dp 0 dp.root p (omega arith) h in omega arith

pub state_of-state : (dp : Dp) → StepsAreStates dp → (p : List ℕ) → IsPrefix dp p → IsStateOf dp (length p) (state_of dp p)
state_of-state dp laws p h =
    let root : IsStateOf dp 0 dp.root = record { layer = omega arith; test = laws.root } in
    subst (λ n. IsStateOf dp n (state_of dp p)) (zero-add (length p)) (end_of-state dp laws 0 dp.root p root h)

-- one decision more

pub IsPrefix-then : (dp : Dp) (p : List ℕ) (d : ℕ) → IsPrefix dp p → IsAllowed dp (length p) (state_of dp p) d → IsPrefix dp (p ++ d ∷ [])
IsPrefix-then dp p d h allowed = IsPrefix-append dp p (d ∷ []) h (allowed, tt)

pub state_of-then : (dp : Dp) (p : List ℕ) (d : ℕ) → state_of dp (p ++ d ∷ []) ≡ dp.step (length p) (state_of dp p) d
state_of-then dp p d = state_of-append dp p (d ∷ [])

pub value_of-then : (dp : Dp) (p : List ℕ) (d : ℕ) → value_of dp (p ++ d ∷ []) ≡ value_of dp p +ℤ dp.gain (length p) (state_of dp p) d
value_of-then dp p d = value_of-append dp p (d ∷ []) ∙ omega (arith, ints)

-- what follows a prefix in a completion is a continuation of its state, and the value is the sum

pub continued : (dp : Dp) (p x : List ℕ) (c : IsCompletion dp p x) → IsContinuation dp (length p) (state_of dp p) c.rest
continued dp p x c =
    let path = subst (λ y. IsPrefix dp y) c.begins c.solution.prefix in
    record {
      path = IsPrefix-back dp p c.rest path;
      whole = (let long = sym (length-append p c.rest) ∙ (ap length (sym c.begins) ∙ c.solution.whole) in long);
    }

pub value_of-split : (dp : Dp) (p x : List ℕ) (c : IsCompletion dp p x) → value_of dp x ≡ value_of dp p +ℤ gain_of dp (length p) (state_of dp p) c.rest
value_of-split dp p x c = ap (value_of dp) c.begins ∙ value_of-append dp p c.rest

-- a prefix with a continuation of its state is a completion of the prefix
pub completed : (dp : Dp) (p c : List ℕ) → IsPrefix dp p → IsContinuation dp (length p) (state_of dp p) c → IsCompletion dp p (p ++ c)
completed dp p c h k = record {
  solution = record { prefix = IsPrefix-append dp p c h k.path; whole = length-append p c ∙ k.whole };
  rest = c;
  begins = refl;
}
