-- The worth of an assignment, as a walk finds it.
use Rattle.std.proofs.Common.{◌≡◌, ℕ, ◌+◌, nat_eq, nat_lt, ℤ, true, cond, ◌&&◌, List, [], ◌∷◌, length, Option, Some, None, refl, sym, ◌∙◌, ap, arith}
use Rattle.dp_model.specs.Dp.{Dp, IsAllowed}
use Rattle.dp_model.specs.Numbers.{add_some}
use Rattle.dp_model.specs.Prefixes.{IsPath, IsPrefix, IsSolution, gain_of, value_of}
use Rattle.dp_model.specs.Walked.{WalkGives}
use Rattle.bound_cover.specs.Verdicts.{worth_from, worth}
use Rattle.bound_cover.proofs.Sound.{worth-is}

worth-of : (dp : Dp) (k : ℕ) (s : List ℤ) (x : List ℕ) → IsPath dp k s x → k + length x ≡ dp.vars → worth_from dp k s x ≡ Some (gain_of dp k s x)
worth-of dp k s [] path whole = let same : nat_eq k dp.vars ≡ true = grind arith in rw same refl
worth-of dp k s (d ∷ x) path whole =
    let a : IsAllowed dp k s d = path.0 in
    let short = a.layer in let few = a.choice in
    let one : nat_lt k dp.vars ≡ true = grind arith in
    let two : nat_lt d (dp.choices k) ≡ true = grind arith in
    let three : dp.allowed k s d ≡ true = a.test in
    let may : (nat_lt k dp.vars && (nat_lt d (dp.choices k) && dp.allowed k s d)) ≡ true = rw (one, two, three) refl in
    ap (λ b. cond b (add_some (dp.gain k s d) (worth_from dp (k + 1) (dp.step k s d) x)) None) may ∙ ap (add_some (dp.gain k s d)) (worth-of dp (k + 1) (dp.step k s d) x path.1 (omega arith))

-- of a whole prefix it is the value
pub worth-whole : (dp : Dp) (x : List ℕ) → IsPrefix dp x → length x ≡ dp.vars → worth dp x ≡ Some (value_of dp x)
worth-whole dp x path whole = ap (add_some dp.root_value) (worth-of dp 0 dp.root x path (omega arith))

-- of no solution there is none
pub worth-none : (dp : Dp) (x : List ℕ) → (IsSolution dp x → ⊥) → worth dp x ≡ None
worth-none dp x never =
    elim (worth dp x) as (λ o. worth dp x ≡ o → o ≡ None) [ None ↦ λ _. refl | Some v ↦ λ e. absurd (never (worth-is dp x v e).solution) ] refl

-- as the code finds it
pub found-value : (dp : Dp) (x : List ℕ) (row : List ℤ) (o : Option ℤ) → WalkGives dp x row o → length x ≡ dp.vars → worth dp x ≡ o
found-value dp x row None gives whole = worth-none dp x (λ s. gives s.prefix)
found-value dp x row (Some v) gives whole = worth-whole dp x gives.prefix whole ∙ ap (λ z. Some z) (sym gives.value)

pub not-whole : (dp : Dp) (x : List ℕ) → (length x ≡ dp.vars → ⊥) → worth dp x ≡ None
not-whole dp x other = worth-none dp x (λ s. other s.whole)
