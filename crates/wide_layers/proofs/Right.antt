-- Which candidates are right.
use Rattle.std.proofs.Common.{◌≡◌, ℕ, zero, suc, ◌+◌, ◌<◌, ◌≤◌, ℤ, Bool, true, false, cond, List, [], ◌∷◌, ◌++◌, map, Result, Ok, Err, OnOk, OnErr, refl, sym, ap, ◌∙◌, arith}
use Rattle.std.proofs.lemmas.List.{map-append}
use Rattle.std.proofs.lemmas.List.Elements.{filter-append}
use Rattle.dp_model.specs.Decisions.{below}
use Rattle.dp_model.specs.Dp.{Dp}
use Rattle.dp_model.specs.Lists.{Each}
use Rattle.dp_model.proofs.Members.{Each-append}
use Rattle.layer_candidates.specs.Extending.{all_allowed}
use Rattle.layer_candidates.proofs.Extended.{allowed-skipped}
use Rattle.wide_layers.specs.Candidates.{Candidate, candidate, candidates_by, candidates_of, candidates_from, IsMade, IsRight}

-- a decision that is allowed has a candidate, which is right
pub by-allowed : (dp : Dp) (k i : ℕ) (s : List ℤ) (d : ℕ) → dp.allowed k s d ≡ true → candidates_by dp k i s (d ∷ []) ≡ candidate dp k i s d ∷ []
by-allowed dp k i s d e = rw e refl

pub by-refused : (dp : Dp) (k i : ℕ) (s : List ℤ) (d : ℕ) → dp.allowed k s d ≡ false → candidates_by dp k i s (d ∷ []) ≡ []
by-refused dp k i s d e = rw e refl

pub right-allowed : (dp : Dp) (k i : ℕ) (s : List ℤ) (d : ℕ) → dp.allowed k s d ≡ true → IsRight dp k (candidate dp k i s d)
right-allowed dp k i s d e = record { allowed = e; gain_is = refl; row_is = refl; rank_is = refl }

-- what a decision makes is its candidate
pub made-by : (dp : Dp) (k i : ℕ) (s : List ℤ) (d : ℕ) (gain rank : ℤ) (row : List ℤ) → IsMade dp k s d gain rank row
    → (let c : Candidate = record { parent = i; state = s; decision = d; gain = gain; row = row; rank = rank } in c) ∷ [] ≡ candidates_by dp k i s (d ∷ [])
made-by dp k i s d gain rank row h =
    ap (λ (z : ℤ). (let c : Candidate = record { parent = i; state = s; decision = d; gain = z; row = row; rank = rank } in c) ∷ []) h.gain_is
    ∙ (ap (λ (r : List ℤ). (let c : Candidate = record { parent = i; state = s; decision = d; gain = dp.gain k s d; row = r; rank = rank } in c) ∷ []) h.row_is
    ∙ (ap (λ (z : ℤ). (let c : Candidate = record { parent = i; state = s; decision = d; gain = dp.gain k s d; row = dp.step k s d; rank = z } in c) ∷ []) h.rank_is
    ∙ sym (by-allowed dp k i s d h.allowed)))

right-filtered : (dp : Dp) (k i : ℕ) (s : List ℤ) (d : ℕ) (ds : List ℕ) → Each (IsRight dp k) (candidates_by dp k i s ds) → (b : Bool) → dp.allowed k s d ≡ b
    → Each (IsRight dp k) (map (candidate dp k i s) (cond b (d ∷ all_allowed dp k s ds) (all_allowed dp k s ds)))
right-filtered dp k i s d ds h true e = (right-allowed dp k i s d e, h)
right-filtered dp k i s d ds h false e = h

right-by : (dp : Dp) (k i : ℕ) (s : List ℤ) (ds : List ℕ) → Each (IsRight dp k) (candidates_by dp k i s ds)
right-by dp k i s [] = tt
right-by dp k i s (d ∷ ds) = right-filtered dp k i s d ds (right-by dp k i s ds) (dp.allowed k s d) refl

-- all candidates are right
pub right-from : (dp : Dp) (k : ℕ) (state : ℕ → List ℤ) (from n : ℕ) → Each (IsRight dp k) (candidates_from dp k state from n)
right-from dp k state from zero = tt
right-from dp k state from (suc n) =
    Each-append (IsRight dp k) (candidates_from dp k state from n) (candidates_of dp k (from + n) (state (from + n))) (right-from dp k state from n) (right-by dp k (from + n) (state (from + n)) (below (dp.choices k)))

-- the candidates by one decision more, and by those that are stepped over
by-append : (dp : Dp) (k i : ℕ) (s : List ℤ) (ds es : List ℕ) → candidates_by dp k i s (ds ++ es) ≡ candidates_by dp k i s ds ++ candidates_by dp k i s es
by-append dp k i s ds es = ap (map (candidate dp k i s)) (filter-append (dp.allowed k s) ds es) ∙ map-append (candidate dp k i s) (all_allowed dp k s ds) (all_allowed dp k s es)

abbrev AreStepped : Dp → ℕ → List ℤ → ℕ → ℕ → Type 0
AreStepped dp k s from to = (d : ℕ) → from ≤ d → d < to → dp.allowed k s d ≡ false

pub by-none : (dp : Dp) (k i : ℕ) (s : List ℤ) (to : ℕ) → 0 ≤ to → AreStepped dp k s 0 to → candidates_by dp k i s (below to) ≡ []
by-none dp k i s to on stepped = ap (map (candidate dp k i s)) (allowed-skipped dp k s 0 to on stepped)

pub by-next : (dp : Dp) (k i : ℕ) (s : List ℤ) (d to : ℕ) → d + 1 ≤ to → AreStepped dp k s (d + 1) to → candidates_by dp k i s (below to) ≡ candidates_by dp k i s (below d) ++ candidates_by dp k i s (d ∷ [])
by-next dp k i s d to on stepped =
    let e : d + 1 ≡ suc d = omega arith in
    ap (map (candidate dp k i s)) (allowed-skipped dp k s (d + 1) to on stepped)
    ∙ (ap (λ (n : ℕ). candidates_by dp k i s (below n)) e ∙ by-append dp k i s (below d) (d ∷ []))

-- either way of a result
pub on-either : {T E : Type 0} (r : Result T E) {A B C : Type 0} → OnOk r A → OnErr r B → (A → C) → (B → C) → C
on-either (Ok x) a b f g = f a
on-either (Err e) a b f g = g b

pub ok-then : {T E : Type 0} (r : Result T E) {A B : Type 0} → OnOk r A → (A → B) → OnOk r B
ok-then (Ok x) a f = f a
ok-then (Err e) a f = tt
