-- How many prefixes begin with one of several of which none begins with another.
use Rattle.std.proofs.Common.{◌≡◌, ℕ, zero, suc, ◌+◌, ◌-◌, ◌<◌, ◌≤◌, ℤ, List, [], ◌∷◌, ◌++◌, map, length, drop, filter, Bool, true, false, cond, ◌&&◌, nat_eq, inl, inr, refl, sym, ◌∙◌, ap, subst, arith, add-zero, length-append}
use Rattle.std.specs.List.{sum_by}
use Rattle.std.proofs.Math.Seq.{drop-append_seam}
use Rattle.std.proofs.lemmas.List.Sums.{sum_by-cons}
use Rattle.dp_model.specs.Counts.{pot, paths_from}
use Rattle.dp_model.specs.Decisions.{begins, below}
use Rattle.dp_model.specs.Dp.{Dp}
use Rattle.dp_model.specs.Lists.{Each}
use Rattle.dp_model.specs.Prefixes.{IsPath, IsPrefix, end_of, state_of}
use Rattle.dp_model.proofs.Members.{Has, Has-filter, Has-below}
use Rattle.dp_model.proofs.Paths.{IsPrefix-back, state_of-append}
use Rattle.dp_model.proofs.RowLemmas.{begins-is, nat_eq-is, nat_eq-self}
use Rattle.dp_laws.specs.Antichains.{NeitherBegins, IsExtension, PotsAreBelow, PotsArePositive}
use Rattle.dp_laws.specs.Pairs.{EachTwo}

-- Sums.

pub sum-at_most : {X : Type 0} (f g : X → ℕ) → ((x : X) → f x ≤ g x) → (xs : List X) → sum_by f xs ≤ sum_by g xs
sum-at_most f g le [] = omega arith
sum-at_most f g le (x ∷ xs) =
    let here = le x in let rest = sum-at_most f g le xs in let left = sum_by-cons f x xs in let right = sum_by-cons g x xs in omega arith

pub sum-same : {X : Type 0} (f g : X → ℕ) (xs : List X) → Each (λ x. f x ≡ g x) xs → sum_by f xs ≡ sum_by g xs
sum-same f g [] h = refl
sum-same f g (x ∷ xs) h =
    let here = h.0 in let rest = sum-same f g xs h.1 in let left = sum_by-cons f x xs in let right = sum_by-cons g x xs in omega arith

pub sum-map : {X Y : Type 0} (f : Y → ℕ) (g : X → Y) (xs : List X) → sum_by f (map g xs) ≡ sum_by (λ x. f (g x)) xs
sum-map f g [] = refl
sum-map f g (x ∷ xs) =
    let rest = sum-map f g xs in let left = sum_by-cons f (g x) (map g xs) in let right = sum_by-cons (λ x. f (g x)) x xs in omega arith

-- where one member's share is more by so much, and no share is less, the sum is more by so much
sum-more : (f g : ℕ → ℕ) (d more : ℕ) → g d ≡ more + f d → ((x : ℕ) → f x ≤ g x) → (ds : List ℕ) → Has d ds → sum_by f ds + more ≤ sum_by g ds
sum-more f g d more is le [] h = absurd h
sum-more f g d more is le (x ∷ xs) (inl same) =
    let here : g x ≡ more + f x = subst (λ y. g y ≡ more + f y) (sym same) is in
    let rest = sum-at_most f g le xs in let left = sum_by-cons f x xs in let right = sum_by-cons g x xs in omega arith
sum-more f g d more is le (x ∷ xs) (inr later) =
    let here = le x in let rest = sum-more f g d more is le xs later in let left = sum_by-cons f x xs in let right = sum_by-cons g x xs in omega arith

-- Lists of decisions of which none begins with another.

begins-cons : (d : ℕ) (t u : List ℕ) → begins (d ∷ t) (d ∷ u) ≡ begins t u
begins-cons d t u = ap (λ b. b && begins t u) (nat_eq-self d)

begins-both : (p t u : List ℕ) → begins (p ++ t) (p ++ u) ≡ begins t u
begins-both [] t u = refl
begins-both (d ∷ p) t u = begins-cons d (p ++ t) (p ++ u) ∙ begins-both p t u

-- what follows the first decision, of those that begin with it
tails : ℕ → List (List ℕ) → List (List ℕ)
tails d [] = []
tails d ([] ∷ cs) = tails d cs
tails d ((e ∷ t) ∷ cs) = cond (nat_eq e d) (t ∷ tails d cs) (tails d cs)

tails-here : (d : ℕ) (t : List ℕ) (cs : List (List ℕ)) → tails d ((d ∷ t) ∷ cs) ≡ t ∷ tails d cs
unfolding tails
tails-here d t cs = ap (λ b. cond b (t ∷ tails d cs) (tails d cs)) (nat_eq-self d)

tails-paths : (dp : Dp) (k : ℕ) (s : List ℤ) (d : ℕ) (cs : List (List ℕ)) → Each (IsPath dp k s) cs → Each (IsPath dp (k + 1) (dp.step k s d)) (tails d cs)
unfolding tails
tails-paths dp k s d [] h = tt
tails-paths dp k s d ([] ∷ cs) h = tails-paths dp k s d cs h.1
tails-paths dp k s d ((e ∷ t) ∷ cs) h =
    let rest = tails-paths dp k s d cs h.1 in
    let go : (b : Bool) → nat_eq e d ≡ b → Each (IsPath dp (k + 1) (dp.step k s d)) (cond b (t ∷ tails d cs) (tails d cs)) =
    λ b. elim b as (λ b. nat_eq e d ≡ b → Each (IsPath dp (k + 1) (dp.step k s d)) (cond b (t ∷ tails d cs) (tails d cs))) [
      | true ↦ λ same. (subst (λ x. IsPath dp (k + 1) (dp.step k s x) t) (nat_eq-is e d same) h.0.1, rest)
      | false ↦ λ other. rest
    ] in
    go (nat_eq e d) refl

apart-tails : (d : ℕ) (t : List ℕ) (cs : List (List ℕ)) → Each (NeitherBegins (d ∷ t)) cs → Each (NeitherBegins t) (tails d cs)
unfolding tails
apart-tails d t [] h = tt
apart-tails d t ([] ∷ cs) h = apart-tails d t cs h.1
apart-tails d t ((e ∷ u) ∷ cs) h =
    let rest = apart-tails d t cs h.1 in
    let go : (b : Bool) → nat_eq e d ≡ b → Each (NeitherBegins t) (cond b (u ∷ tails d cs) (tails d cs)) =
    λ b. elim b as (λ b. nat_eq e d ≡ b → Each (NeitherBegins t) (cond b (u ∷ tails d cs) (tails d cs))) [
      | true ↦ λ same.
          let here : NeitherBegins (d ∷ t) (d ∷ u) = subst (λ x. NeitherBegins (d ∷ t) (x ∷ u)) (nat_eq-is e d same) h.0 in
          (record { first = sym (begins-cons d t u) ∙ here.first; second = sym (begins-cons d u t) ∙ here.second }, rest)
      | false ↦ λ other. rest
    ] in
    go (nat_eq e d) refl

two-tails : (d : ℕ) (cs : List (List ℕ)) → EachTwo NeitherBegins cs → EachTwo NeitherBegins (tails d cs)
unfolding tails
two-tails d [] h = tt
two-tails d ([] ∷ cs) h = two-tails d cs h.1
two-tails d ((e ∷ t) ∷ cs) h =
    let rest = two-tails d cs h.1 in
    let go : (b : Bool) → nat_eq e d ≡ b → EachTwo NeitherBegins (cond b (t ∷ tails d cs) (tails d cs)) =
    λ b. elim b as (λ b. nat_eq e d ≡ b → EachTwo NeitherBegins (cond b (t ∷ tails d cs) (tails d cs))) [
      | true ↦ λ same. (apart-tails d t cs (subst (λ x. Each (NeitherBegins (x ∷ t)) cs) (nat_eq-is e d same) h.0), rest)
      | false ↦ λ other. rest
    ] in
    go (nat_eq e d) refl

-- what a list counts for, by its first decision and the rest
by_head : (ℕ → List ℕ → ℕ) → List ℕ → ℕ
by_head g [] = 0
by_head g (d ∷ t) = g d t

HeadIn : List ℕ → List ℕ → Type 0
HeadIn ds [] = Unit {0}
HeadIn ds (d ∷ t) = Has d ds

-- what lists count for is shared out among their first decisions
shared : (g : ℕ → List ℕ → ℕ) (ds : List ℕ) (cs : List (List ℕ)) → Each (HeadIn ds) cs → sum_by (by_head g) cs ≤ sum_by (λ d. sum_by (g d) (tails d cs)) ds
unfolding tails by_head HeadIn
shared g ds [] h = omega arith
shared g ds ([] ∷ cs) h =
    let rest = shared g ds cs h.1 in let left = sum_by-cons (by_head g) [] cs in omega arith
shared g ds ((e ∷ t) ∷ cs) h =
    let rest = shared g ds cs h.1 in
    let left = sum_by-cons (by_head g) (e ∷ t) cs in
    let f : ℕ → ℕ = λ d. sum_by (g d) (tails d cs) in
    let f2 : ℕ → ℕ = λ d. sum_by (g d) (tails d ((e ∷ t) ∷ cs)) in
    let here : f2 e ≡ g e t + f e = ap (sum_by (g e)) (tails-here e t cs) ∙ sum_by-cons (g e) t (tails e cs) in
    let le : (d : ℕ) → f d ≤ f2 d = λ d.
    let more = sum_by-cons (g d) t (tails d cs) in
    elim (nat_eq e d) as (λ b. sum_by (g d) (tails d cs) ≤ sum_by (g d) (cond b (t ∷ tails d cs) (tails d cs))) [ true ↦ omega arith | false ↦ omega arith ] in
    let sum = sum-more f f2 e (g e t) here le ds h.0 in
    omega arith

-- The counts.

-- the prefixes below the path c from the state, where this many layers are left there
count_at : Dp → ℕ → ℕ → List ℤ → List ℕ → ℕ
count_at dp m k s c = paths_from dp (m - length c) (k + length c) (end_of dp k s c)

count_at-cons : (dp : Dp) (m k : ℕ) (s : List ℤ) (d : ℕ) (t : List ℕ) → count_at dp (suc m) k s (d ∷ t) ≡ count_at dp m (k + 1) (dp.step k s d) t
unfolding count_at
count_at-cons dp m k s d t =
    let left : suc m - length (d ∷ t) ≡ m - length t = omega arith in
    let layer : k + length (d ∷ t) ≡ k + 1 + length t = omega arith in
    ap (λ n. paths_from dp n (k + length (d ∷ t)) (end_of dp (k + 1) (dp.step k s d) t)) left
    ∙ ap (λ n. paths_from dp (m - length t) n (end_of dp (k + 1) (dp.step k s d) t)) layer

IsSomeList : List ℕ → Type 0
IsSomeList [] = ⊥
IsSomeList (d ∷ t) = Unit {0}

others-some : (d : ℕ) (t : List ℕ) (cs : List (List ℕ)) → Each (NeitherBegins (d ∷ t)) cs → Each IsSomeList cs
unfolding IsSomeList
others-some d t [] h = tt
others-some d t ([] ∷ cs) h = absurd (let wrong = h.0.second in cc)
others-some d t ((e ∷ u) ∷ cs) h = (tt, others-some d t cs h.1)

heads-in : (dp : Dp) (k : ℕ) (s : List ℤ) (cs : List (List ℕ)) → Each (IsPath dp k s) cs → Each (HeadIn (filter (dp.allowed k s) (below (dp.choices k)))) cs
unfolding HeadIn
heads-in dp k s [] h = tt
heads-in dp k s ([] ∷ cs) h = (tt, heads-in dp k s cs h.1)
heads-in dp k s ((d ∷ t) ∷ cs) h =
    (Has-filter (dp.allowed k s) (below (dp.choices k)) d (Has-below (dp.choices k) d h.0.0.choice) h.0.0.test, heads-in dp k s cs h.1)

heads-counts : (dp : Dp) (m k : ℕ) (s : List ℤ) (cs : List (List ℕ)) → Each IsSomeList cs
    → Each (λ c. count_at dp (suc m) k s c ≡ by_head (λ d. count_at dp m (k + 1) (dp.step k s d)) c) cs
unfolding by_head IsSomeList
heads-counts dp m k s [] h = tt
heads-counts dp m k s ([] ∷ cs) h = absurd h.0
heads-counts dp m k s ((d ∷ t) ∷ cs) h = (count_at-cons dp m k s d t, heads-counts dp m k s cs h.1)

Fans : Dp → ℕ → Type 0
Fans dp m = (k : ℕ) (s : List ℤ) (cs : List (List ℕ)) → EachTwo NeitherBegins cs → Each (IsPath dp k s) cs → sum_by (count_at dp m k s) cs ≤ paths_from dp m k s

-- of paths that are apart and take a decision, less by one
fan-below : (dp : Dp) (m : ℕ) → Fans dp m → (k : ℕ) (s : List ℤ) (cs : List (List ℕ)) → EachTwo NeitherBegins cs → Each (IsPath dp k s) cs → Each IsSomeList cs
    → sum_by (count_at dp (suc m) k s) cs + 1 ≤ paths_from dp (suc m) k s
unfolding Fans
fan-below dp m deeper k s cs two paths some =
    let ds = filter (dp.allowed k s) (below (dp.choices k)) in
    let g : ℕ → List ℕ → ℕ = λ d. count_at dp m (k + 1) (dp.step k s d) in
    let same = sum-same (count_at dp (suc m) k s) (by_head g) cs (heads-counts dp m k s cs some) in
    let split = shared g ds cs (heads-in dp k s cs paths) in
    let below_each = sum-at_most (λ d. sum_by (g d) (tails d cs)) (λ d. paths_from dp m (k + 1) (dp.step k s d)) (λ d. deeper (k + 1) (dp.step k s d) (tails d cs) (two-tails d cs two) (tails-paths dp k s d cs paths)) ds in
    omega arith

count-none : (dp : Dp) (k : ℕ) (s : List ℤ) (cs : List (List ℕ)) → sum_by (count_at dp 0 k s) cs ≡ 0
unfolding count_at
count-none dp k s [] = refl
count-none dp k s (c ∷ cs) =
    let none : 0 - length c ≡ 0 = omega arith in
    let here : count_at dp 0 k s c ≡ 0 = ap (λ n. paths_from dp n (k + length c) (end_of dp k s c)) none in
    let rest = count-none dp k s cs in let sum = sum_by-cons (count_at dp 0 k s) c cs in omega arith

count-whole : (dp : Dp) (m k : ℕ) (s : List ℤ) → count_at dp m k s [] ≡ paths_from dp m k s
unfolding count_at
count-whole dp m k s =
    let left : m - 0 ≡ m = omega arith in
    ap (λ n. paths_from dp n (k + 0) s) left ∙ ap (λ n. paths_from dp m n s) (add-zero k)

fan : (dp : Dp) (m : ℕ) → Fans dp m
unfolding Fans IsSomeList
fan dp zero k s cs two paths = let none = count-none dp k s cs in omega arith
fan dp (suc m) k s [] two paths = omega arith
fan dp (suc m) k s ([] ∷ []) two paths =
    let one = sum_by-cons (count_at dp (suc m) k s) [] [] in let whole = count-whole dp (suc m) k s in omega arith
fan dp (suc m) k s ([] ∷ c ∷ cs) two paths = absurd (let wrong = two.0.0.first in cc)
fan dp (suc m) k s ((d ∷ t) ∷ cs) two paths =
    let less = fan-below dp m (fan dp m) k s ((d ∷ t) ∷ cs) two paths (tt, others-some d t cs two.0) in omega arith

-- Extensions.

-- what follows p in a list that begins with it
follows : List ℕ → List ℕ → List ℕ
follows p q = drop (length p) q

follows-is : (dp : Dp) (p q : List ℕ) → IsExtension dp p q → q ≡ p ++ follows p q
unfolding follows
follows-is dp p q h =
    let split = begins-is p q h.extends in
    split.1 ∙ ap (λ l. p ++ l) (sym (drop-append_seam p split.0) ∙ ap (drop (length p)) (sym split.1))

follows-paths : (dp : Dp) (p : List ℕ) (qs : List (List ℕ)) → Each (IsExtension dp p) qs → Each (IsPath dp (length p) (state_of dp p)) (map (follows p) qs)
follows-paths dp p [] h = tt
follows-paths dp p (q ∷ qs) h = (IsPrefix-back dp p (follows p q) (subst (IsPrefix dp) (follows-is dp p q h.0) h.0.prefix), follows-paths dp p qs h.1)

some-list : (c : List ℕ) → 0 < length c → IsSomeList c
unfolding IsSomeList
some-list [] h = absurd (omega arith)
some-list (d ∷ t) h = tt

follows-some : (dp : Dp) (p : List ℕ) (qs : List (List ℕ)) → Each (IsExtension dp p) qs → Each IsSomeList (map (follows p) qs)
follows-some dp p [] h = tt
follows-some dp p (q ∷ qs) h =
    let longer : 0 < length (follows p q) = let is = ap length (follows-is dp p q h.0) ∙ length-append p (follows p q) in let deeper = h.0.deeper in omega arith in
    (some-list (follows p q) longer, follows-some dp p qs h.1)

follows-apart : (dp : Dp) (p a b : List ℕ) → IsExtension dp p a → IsExtension dp p b → NeitherBegins a b → NeitherBegins (follows p a) (follows p b)
follows-apart dp p a b one other apart = record {
  first = sym (begins-both p (follows p a) (follows p b)) ∙ (ap (λ l. begins l (p ++ follows p b)) (sym (follows-is dp p a one)) ∙ (ap (begins a) (sym (follows-is dp p b other)) ∙ apart.first));
  second = sym (begins-both p (follows p b) (follows p a)) ∙ (ap (λ l. begins l (p ++ follows p a)) (sym (follows-is dp p b other)) ∙ (ap (begins b) (sym (follows-is dp p a one)) ∙ apart.second));
}

follows-others : (dp : Dp) (p a : List ℕ) (qs : List (List ℕ)) → IsExtension dp p a → Each (IsExtension dp p) qs → Each (NeitherBegins a) qs → Each (NeitherBegins (follows p a)) (map (follows p) qs)
follows-others dp p a [] own h apart = tt
follows-others dp p a (q ∷ qs) own h apart = (follows-apart dp p a q own h.0 apart.0, follows-others dp p a qs own h.1 apart.1)

follows-two : (dp : Dp) (p : List ℕ) (qs : List (List ℕ)) → Each (IsExtension dp p) qs → EachTwo NeitherBegins qs → EachTwo NeitherBegins (map (follows p) qs)
follows-two dp p [] h two = tt
follows-two dp p (q ∷ qs) h two = (follows-others dp p q qs h.0 h.1 two.0, follows-two dp p qs h.1 two.1)

pot-follows : (dp : Dp) (p q : List ℕ) → IsExtension dp p q → pot dp q ≡ count_at dp (dp.vars - length p) (length p) (state_of dp p) (follows p q)
unfolding count_at
pot-follows dp p q h =
    let t = follows p q in
    let long : length (p ++ t) ≡ length p + length t = length-append p t in
    let left : dp.vars - length (p ++ t) ≡ dp.vars - length p - length t = omega arith in
    ap (pot dp) (follows-is dp p q h)
    ∙ (ap (λ n. paths_from dp n (length (p ++ t)) (state_of dp (p ++ t))) left
    ∙ (ap (λ n. paths_from dp (dp.vars - length p - length t) n (state_of dp (p ++ t))) long
    ∙ ap (λ s. paths_from dp (dp.vars - length p - length t) (length p + length t) s) (state_of-append dp p t)))

pots-follow : (dp : Dp) (p : List ℕ) (qs : List (List ℕ)) → Each (IsExtension dp p) qs
    → Each (λ q. pot dp q ≡ count_at dp (dp.vars - length p) (length p) (state_of dp p) (follows p q)) qs
pots-follow dp p [] h = tt
pots-follow dp p (q ∷ qs) h = (pot-follows dp p q h.0, pots-follow dp p qs h.1)

fan-some : (dp : Dp) (m k : ℕ) (s : List ℤ) (cs : List (List ℕ)) → 0 < m → EachTwo NeitherBegins cs → Each (IsPath dp k s) cs → Each IsSomeList cs
    → sum_by (count_at dp m k s) cs + 1 ≤ paths_from dp m k s
fan-some dp zero k s cs some two paths lists = absurd (omega arith)
fan-some dp (suc m) k s cs some two paths lists = fan-below dp m (fan dp m) k s cs two paths lists

pub pots-below : (dp : Dp) → PotsAreBelow dp
pots-below dp p qs short own two =
    let f = count_at dp (dp.vars - length p) (length p) (state_of dp p) in
    let left : 0 < dp.vars - length p = omega arith in
    let same = sum-same (pot dp) (λ q. f (follows p q)) qs (pots-follow dp p qs own) in
    let mapped = sum-map f (follows p) qs in
    let less = fan-some dp (dp.vars - length p) (length p) (state_of dp p) (map (follows p) qs) left (follows-two dp p qs own two) (follows-paths dp p qs own) (follows-some dp p qs own) in
    omega arith

paths-some : (dp : Dp) (m k : ℕ) (s : List ℤ) → 0 < m → 0 < paths_from dp m k s
paths-some dp zero k s h = absurd (omega arith)
paths-some dp (suc m) k s h = omega arith

pub pots-positive : (dp : Dp) → PotsArePositive dp
pots-positive dp p h = paths-some dp (dp.vars - length p) (length p) (state_of dp p) (omega arith)
