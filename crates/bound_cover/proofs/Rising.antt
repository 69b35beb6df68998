-- Arcs in the order of their decisions.
use Rattle.std.proofs.Common.{◌≡◌, ℕ, zero, suc, ◌<◌, nat_eq, nat_lt, Bool, true, false, cond, List, [], ◌∷◌, ◌++◌, map, filter, Some, ◌⊎◌, inl, inr, refl, subst, arith}
use Rattle.dp_model.specs.Decisions.{below}
use Rattle.dp_model.specs.Lists.{Each}
use Rattle.dp_model.proofs.Members.{Has, each-has, each-of-all, Each-append, Has-below-from, Has-filter-from}
use Rattle.bound_cover.specs.declared.cover.CoverArc.{CoverArc}
use Rattle.bound_cover.specs.Tests.{lists, arc_for, put_in, with_listed}

-- each number is less than all later ones
abbrev pub Rises : List ℕ → Type 0
Rises [] = Unit {0}
Rises (d ∷ ds) = Each (λ e. d < e) ds × Rises ds

rises-end : (ds : List ℕ) (n : ℕ) → Rises ds → Each (λ d. d < n) ds → Rises (ds ++ n ∷ [])
rises-end [] n r all = (tt, tt)
rises-end (d ∷ ds) n r all = (Each-append (λ e. d < e) ds (n ∷ []) r.0 (all.0, tt), rises-end ds n r.1 all.1)

pub rises-below : (n : ℕ) → Rises (below n)
rises-below zero = tt
rises-below (suc n) = rises-end (below n) n (rises-below n) (each-of-all (λ d. d < n) (below n) (λ d h. Has-below-from n d h))

each-filter : (P : ℕ → Type 0) (test : ℕ → Bool) (ds : List ℕ) → Each P ds → Each P (filter test ds)
each-filter P test ds all = each-of-all P (filter test ds) (λ d h. each-has P ds d all (Has-filter-from test ds d h).0)

pub rises-filter : (test : ℕ → Bool) (ds : List ℕ) → Rises ds → Rises (filter test ds)
rises-filter test [] r = tt
rises-filter test (d ∷ ds) r = elim (test d) as (λ b. Rises (cond b (d ∷ filter test ds) (filter test ds))) [
  | true ↦ (each-filter (λ e. d < e) test ds r.0, rises-filter test ds r.1)
  | false ↦ rises-filter test ds r.1
]

-- a decision below all that are listed is not listed
not-listed : (d : ℕ) (arcs : List CoverArc) → Each (λ e. d < e) (map (λ (a : CoverArc). a.decision) arcs) → lists d arcs ≡ false
not-listed d [] all = refl
not-listed d (arc ∷ arcs) all =
    let less : d < arc.decision = all.0 in
    let rest = not-listed d arcs all.1 in
    let other : nat_eq arc.decision d ≡ false = grind arith in
    rw other rest

-- the arc of a decision among arcs in order
pub record IsArcFor (d : ℕ) (arcs : List CoverArc) : Type 0 where
  pub arc : CoverArc
  pub has : Has arc arcs
  pub decision : arc.decision ≡ d
  pub is : arc_for d arcs ≡ Some arc

pub arc-for : (d : ℕ) (arcs : List CoverArc) → Rises (map (λ (a : CoverArc). a.decision) arcs) → Has d (map (λ (a : CoverArc). a.decision) arcs) → IsArcFor d arcs
arc-for d [] r h = absurd h
arc-for d (arc ∷ arcs) r (inl same) =
    let other : nat_lt arc.decision d ≡ false = grind arith in
    let here : nat_eq arc.decision d ≡ true = grind arith in
    let once : lists d arcs ≡ false = not-listed d arcs (subst (λ n. Each (λ e. n < e) (map (λ (a : CoverArc). a.decision) arcs)) same r.0) in
    record { arc = arc; has = inl refl; decision = same; is = rw (other, here, once) refl }
arc-for d (arc ∷ arcs) r (inr later) =
    let less : arc.decision < d = each-has (λ e. arc.decision < e) (map (λ (a : CoverArc). a.decision) arcs) d r.0 later in
    let before : nat_lt arc.decision d ≡ true = grind arith in
    let rest = arc-for d arcs r.1 later in
    record { arc = rest.arc; has = inr rest.has; decision = rest.decision; is = rw before rest.is }

-- what is tested is allowed or listed
put_in-from : (d e : ℕ) (es : List ℕ) → Has e (put_in d es) → (d ≡ e) ⊎ Has e es
put_in-from d e [] h = elim h as (λ _. (d ≡ e) ⊎ Has e []) [ inl same ↦ inl same | inr never ↦ absurd never ]
put_in-from d e (x ∷ es) h =
    elim (nat_lt d x) as (λ b. Has e (cond b (d ∷ x ∷ es) (cond (nat_eq d x) (x ∷ es) (x ∷ put_in d es))) → (d ≡ e) ⊎ Has e (x ∷ es)) [
      | true ↦ λ k. elim k as (λ _. (d ≡ e) ⊎ Has e (x ∷ es)) [ inl same ↦ inl same | inr later ↦ inr later ]
      | false ↦ elim (nat_eq d x) as (λ b. Has e (cond b (x ∷ es) (x ∷ put_in d es)) → (d ≡ e) ⊎ Has e (x ∷ es)) [
        | true ↦ λ k. inr k
        | false ↦ λ k. elim k as (λ _. (d ≡ e) ⊎ Has e (x ∷ es)) [
          | inl same ↦ inr (inl same)
          | inr later ↦ elim (put_in-from d e es later) as (λ _. (d ≡ e) ⊎ Has e (x ∷ es)) [ inl same ↦ inl same | inr old ↦ inr (inr old) ]
        ]
      ]
    ] h

pub with_listed-from : (allowed : List ℕ) (arcs : List CoverArc) (d : ℕ) → Has d (with_listed allowed arcs) → Has d allowed ⊎ Has d (map (λ (a : CoverArc). a.decision) arcs)
with_listed-from allowed [] d h = inl h
with_listed-from allowed (arc ∷ arcs) d h = elim (put_in-from arc.decision d (with_listed allowed arcs) h) as (λ _. Has d allowed ⊎ Has d (map (λ (a : CoverArc). a.decision) (arc ∷ arcs))) [
  | inl same ↦ inr (inl same)
  | inr old ↦ elim (with_listed-from allowed arcs d old) as (λ _. Has d allowed ⊎ Has d (map (λ (a : CoverArc). a.decision) (arc ∷ arcs))) [ inl a ↦ inl a | inr b ↦ inr (inr b) ]
]
