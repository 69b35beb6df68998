-- Distances that are drawn one after another.
use Rattle.std.proofs.Common.{◌≡◌, ◌∙◌, ℕ, ◌+◌, ◌/◌, ◌%◌, ◌≤◌, cond, List, [], ◌∷◌, ◌++◌, length, get_or, refl, sym, ap, subst, arith, inl, inr, eq-eqb, length-append}
use Rattle.std.proofs.lemmas.Bool.{cases_lt}
use Rattle.std.proofs.lemmas.List.{get_or_append_left, get_or_at, get_or_past}
use Rattle.draws.specs.Draws.{drawn, steps}
use Rattle.draws.proofs.Steps.{steps_more, steps_none}
use Rattle.tsp_windows.specs.Generating.{AreDistances, following_distance, distance_drawn, with_distance}

-- this many distances are drawn from the seed, and these draws are left
pub record AreDrawn (n seed k x : ℕ) (ds : List ℕ) : Type 0 where
  pub drawn : steps (with_distance n) k [] seed ≡ (ds, x)
  pub distances : AreDistances n k ds

pub none_drawn : (n seed x : ℕ) (ds : List ℕ) → x ≡ seed → ds ≡ [] → AreDrawn n seed 0 x ds
none_drawn n seed x ds from none = record {
  drawn = steps_none (with_distance n) [] seed ∙ (λ i. (sym none i, sym from i));
  distances = record {
    long = ap length none;
    short = λ k. subst (λ xs. get_or xs k 0 ≤ 50) (sym none) (omega arith);
    home = λ k l e. absurd (let none_there = ap length none in omega (arith, none_there));
  };
}

distances_more : (n k d : ℕ) (ds : List ℕ) → AreDistances n k ds → d ≤ 50 → (k / n ≡ k % n → d ≡ 0) → AreDistances n (k + 1) (ds ++ d ∷ [])
distances_more n k d ds a short home = record {
  long = let l = a.long in omega (arith, length-append ds (d ∷ []));
  short = λ j. elim (cases_lt j (length ds)) [
    | inl here ↦ subst (λ m. m ≤ 50) (sym (get_or_append_left ds (d ∷ []) 0 j here)) (a.short j)
    | inr past ↦ later j past
  ];
  home = λ j l e. elim (cases_lt j (length ds)) [
    | inl here ↦ get_or_append_left ds (d ∷ []) 0 j here ∙ a.home j here e
    | inr past ↦ (let same : j ≡ length ds = omega (arith, length-append ds (d ∷ [])) in
        ap (λ i. get_or (ds ++ d ∷ []) i 0) same ∙ get_or_at ds d [] 0 (length ds) refl ∙ home (subst (λ i. i / n ≡ i % n) (same ∙ a.long) e))
  ];
}
  where
    later : (j : ℕ) → length ds ≤ j → get_or (ds ++ d ∷ []) j 0 ≤ 50
    later j past = elim (cases_lt (length ds) j) [
      | inl over ↦ subst (λ m. m ≤ 50) (sym (get_or_past (ds ++ d ∷ []) j 0 (omega (arith, length-append ds (d ∷ []))))) (omega arith)
      | inr same ↦ (let here : j ≡ length ds = omega arith in subst (λ m. m ≤ 50) (sym (ap (λ i. get_or (ds ++ d ∷ []) i 0) here ∙ get_or_at ds d [] 0 (length ds) refl)) short)
    ]

pub one_more : (n seed k x y d : ℕ) (ds more : List ℕ) → AreDrawn n seed k x ds → d ≡ distance_drawn n k x → y ≡ following_distance n k x → d ≤ 50 → more ≡ ds ++ d ∷ []
    → AreDrawn n seed (k + 1) y more
one_more n seed k x y d ds more a is following short pushed =
    let long = a.distances.long in
    record {
      drawn = steps_more (with_distance n) k [] ds more seed x y a.drawn
          (λ i. ((ap (λ e. ds ++ e ∷ []) (ap (λ m. distance_drawn n m x) long ∙ sym is) ∙ sym pushed) i, (ap (λ m. following_distance n m x) long ∙ sym following) i));
      distances = subst (AreDistances n (k + 1)) (sym pushed) (distances_more n k d ds a.distances short (λ e. is ∙ ap (λ b. cond b 0 (10 + drawn x % 41)) (eq-eqb (k / n) (k % n) e)));
    }
