-- However it is dealt out, each feasible solution begins with one of the prefixes.
use Rattle.std.proofs.Common.{◌≡◌, ℕ, ◌+◌, ◌<◌, nat_lt, ℤ, true, false, ◌&&◌, cond, List, [], ◌∷◌, ◌++◌, length, length-append, map, Option, inl, inr, IsTrue, refl, sym, ◌∙◌, ap, subst, arith}
use Rattle.std.specs.List.{flat_map}
use Rattle.dp_model.specs.Dp.{Dp, IsAllowed}
use Rattle.dp_model.specs.Decisions.{begins, below}
use Rattle.dp_model.specs.Lists.{OneOf}
use Rattle.dp_model.specs.Prefixes.{IsPath, IsPrefix, IsSolution, state_of}
use Rattle.dp_model.proofs.Members.{Has, Has-below, Has-filter, Has-map, one-of-has}
use Rattle.dp_model.proofs.Paths.{IsPrefix-back}
use Rattle.dp_model.proofs.RowLemmas.{begins-is, begins-append}
use Rattle.frontier_parts.specs.CoversBelow.{goes_on}
use Rattle.frontier_parts.specs.Splitting.{longer, split_at, dealt}
use Rattle.frontier_parts.specs.Settled.{DealsOut}

left : {X : Type 0} (P : X → Type 0) (xs ys : List X) → OneOf P xs → OneOf P (xs ++ ys)
left P [] ys h = absurd h
left P (x ∷ xs) ys (inl here) = inl here
left P (x ∷ xs) ys (inr later) = inr (left P xs ys later)

right : {X : Type 0} (P : X → Type 0) (xs ys : List X) → OneOf P ys → OneOf P (xs ++ ys)
right P [] ys h = h
right P (x ∷ xs) ys h = inr (right P xs ys h)

each_goes : {X : Type 0} (P : X → Type 0) (f : X → List X) → ((x : X) → P x → OneOf P (f x)) → (xs : List X) → OneOf P xs → OneOf P (flat_map f xs)
each_goes P f all [] h = absurd h
each_goes P f all (x ∷ xs) (inl here) = left P (f x) (flat_map f xs) (all x here)
each_goes P f all (x ∷ xs) (inr later) = right P (f x) (flat_map f xs) (each_goes P f all xs later)

joined_list : (p : List ℕ) (d : ℕ) (rest : List ℕ) → p ++ d ∷ rest ≡ (p ++ d ∷ []) ++ rest
joined_list [] d rest = refl
joined_list (e ∷ p) d rest = ap (λ (l : List ℕ). e ∷ l) (joined_list p d rest)

module _ (dp : Dp) (x : List ℕ) (solution : IsSolution dp x) where
  abbrev Begins : List ℕ → Type 0
  Begins p = IsTrue (begins p x)

  by_rest : (p rest : List ℕ) → length p < dp.vars → x ≡ p ++ rest → OneOf Begins (map (λ d. p ++ d ∷ []) (goes_on dp p))
  by_rest p [] short is = absurd (let whole = solution.whole in let long : length x ≡ length p + 0 = ap length is ∙ length-append p [] in omega arith)
  by_rest p (d ∷ rest) short is =
      let path : IsPath dp (length p) (state_of dp p) (d ∷ rest) = IsPrefix-back dp p (d ∷ rest) (subst (λ (y : List ℕ). IsPrefix dp y) is solution.prefix) in
      let allowed : IsAllowed dp (length p) (state_of dp p) d = path.0 in
      let has : Has d (goes_on dp p) = Has-filter (dp.allowed (length p) (state_of dp p)) (below (dp.choices (length p))) d (Has-below (dp.choices (length p)) d allowed.choice) allowed.test in
      let begun : Begins (p ++ d ∷ []) = subst (λ (y : List ℕ). IsTrue (begins (p ++ d ∷ []) y)) (sym (is ∙ joined_list p d rest)) (begins-append (p ++ d ∷ []) rest) in
      one-of-has Begins (map (λ d. p ++ d ∷ []) (goes_on dp p)) (p ++ d ∷ []) begun (Has-map (λ d. p ++ d ∷ []) (goes_on dp p) d has)

  by_longer : (p : List ℕ) → Begins p → OneOf Begins (longer dp p)
  by_longer p begun = elim (nat_lt (length p) dp.vars) as (λ b. nat_lt (length p) dp.vars ≡ b → OneOf Begins (cond b (map (λ d. p ++ d ∷ []) (goes_on dp p)) (p ∷ []))) [
    | true ↦ λ e. (let is = begins-is p x begun in by_rest p is.0 (grind arith) is.1)
    | false ↦ λ e. inl begun
  ] refl

  by_split : (q p : List ℕ) → Begins p → OneOf Begins (split_at dp q p)
  by_split q p begun = elim (begins p q && begins q p) as (λ b. OneOf Begins (cond b (longer dp p) (p ∷ []))) [ true ↦ by_longer p begun | false ↦ inl begun ]

  begins_dealt : (qs : List (List ℕ)) → OneOf Begins (dealt dp qs)
  begins_dealt [] = inl refl
  begins_dealt (q ∷ qs) = each_goes Begins (split_at dp q) (by_split q) (dealt dp qs) (begins_dealt qs)

pub dealt_out : (dp : Dp) (inc : Option ℤ) (qs : List (List ℕ)) → DealsOut dp inc (dealt dp qs)
dealt_out dp inc qs = λ x h. inr (begins_dealt dp x h qs)
