-- What is left of a list of children when those that pass through another one are left out.
use Rattle.std.proofs.Common.{◌≡◌, ℕ, ◌≤◌, nat_eq, ℤ, Bool, true, false, cond, ◌||◌, List, [], ◌∷◌, ◌++◌, length, map, ◌⊎◌, inl, inr, IsTrue, refl, sym, ◌∙◌, ap, subst, arith, length-append, append_assoc}
use Rattle.dp_model.specs.Dp.{Dp}
use Rattle.dp_model.specs.Decisions.{begins}
use Rattle.dp_model.specs.Lists.{Each, OneOf}
use Rattle.dp_model.specs.Prefixes.{Reaches, state_of}
use Rattle.dp_model.specs.Rows.{row_same}
use Rattle.dp_model.specs.Subproblem.{Subproblem, IsOwn}
use Rattle.dp_model.proofs.Members.{Has, each-has}
use Rattle.dp_model.proofs.RowLemmas.{begins-is, row_same-self, nat_eq-self}
use Rattle.dp_laws.specs.Children.{is_at, DifferInPlace}
use Rattle.dp_laws.specs.Pairs.{EachTwo}
use Rattle.dp_laws.specs.Diagrams.Cutsets.{passes, outermost}
use Rattle.dp_laws.proofs.Diagrams.Children.{path_of}
use Rattle.dp_laws.proofs.Diagrams.Apart.{not-true, same-length, AreTwo}

-- What is left comes from the list, and passes through none of those that were kept before.

pub outermost-from : (kept cs : List Subproblem) (d : Subproblem) → Has d (outermost path_of kept cs) → Has d cs
outermost-from kept [] d h = absurd h
outermost-from kept (c ∷ cs) d h =
    elim (passes path_of kept c.decisions) as (λ b. Has d (cond b (outermost path_of kept cs) (c ∷ outermost path_of (c ∷ kept) cs)) → Has d (c ∷ cs)) [
      | true ↦ λ k. inr (outermost-from kept cs d k)
      | false ↦ λ k. elim k as (λ _. Has d (c ∷ cs)) [ inl same ↦ inl same | inr later ↦ inr (outermost-from (c ∷ kept) cs d later) ]
    ] h

or-false : (a b : Bool) → (a || b) ≡ false → (a ≡ false) × (b ≡ false)
or-false true b e = absurd (let clash : true ≡ false = e in cc)
or-false false b e = (refl, e)

pub outermost-new : (kept cs : List Subproblem) (d : Subproblem) → Has d (outermost path_of kept cs) → passes path_of kept d.decisions ≡ false
outermost-new kept [] d h = absurd h
outermost-new kept (c ∷ cs) d h =
    elim (passes path_of kept c.decisions) as (λ b. passes path_of kept c.decisions ≡ b → Has d (cond b (outermost path_of kept cs) (c ∷ outermost path_of (c ∷ kept) cs)) → passes path_of kept d.decisions ≡ false) [
      | true ↦ λ e k. outermost-new kept cs d k
      | false ↦ λ e k. elim k as (λ _. passes path_of kept d.decisions ≡ false) [
        | inl same ↦ subst (λ (x : Subproblem). passes path_of kept x.decisions ≡ false) same e
        | inr later ↦ (or-false (begins c.decisions d.decisions) (passes path_of kept d.decisions) (outermost-new (c ∷ kept) cs d later)).1
      ]
    ] refl h

-- What is left matches all that the list matches.

reaches-front : (dp : Dp) (v : ℤ) (a b : List ℕ) → IsTrue (begins a b) → Reaches dp v b → Reaches dp v a
reaches-front dp v a b h r =
    let from = begins-is a b h in
    let inner = r.completion in
    record {
      by = r.by;
      completion = record { solution = inner.solution; rest = from.0 ++ inner.rest; begins = inner.begins ∙ (ap (λ l. l ++ inner.rest) from.1 ∙ append_assoc a from.0 inner.rest) };
      least = r.least;
    }

abbrev prefixes : List Subproblem → List (List ℕ)
prefixes cs = map (λ (c : Subproblem). c.decisions) cs

by-kept : (dp : Dp) (v : ℤ) (kept : List Subproblem) (q : List ℕ) → passes path_of kept q ≡ true → Reaches dp v q → OneOf (Reaches dp v) (prefixes kept)
by-kept dp v [] q e r = absurd (let clash : false ≡ true = e in cc)
by-kept dp v (a ∷ kept) q e r =
    elim (begins a.decisions q) as (λ b. begins a.decisions q ≡ b → (b || passes path_of kept q) ≡ true → OneOf (Reaches dp v) (prefixes (a ∷ kept))) [
      | true ↦ λ t h. inl (reaches-front dp v a.decisions q t r)
      | false ↦ λ t h. inr (by-kept dp v kept q h r)
    ] refl e

pub outermost-matches : (dp : Dp) (v : ℤ) (kept cs : List Subproblem) → OneOf (Reaches dp v) (prefixes cs) → OneOf (Reaches dp v) (prefixes kept) ⊎ OneOf (Reaches dp v) (prefixes (outermost path_of kept cs))
outermost-matches dp v kept [] h = absurd h
outermost-matches dp v kept (c ∷ cs) h =
    let Goal : List Subproblem → Type 0 = λ left. OneOf (Reaches dp v) (prefixes kept) ⊎ OneOf (Reaches dp v) (prefixes left) in
    elim (passes path_of kept c.decisions) as (λ b. passes path_of kept c.decisions ≡ b → Goal (cond b (outermost path_of kept cs) (c ∷ outermost path_of (c ∷ kept) cs))) [
      | true ↦ λ e. elim h as (λ _. Goal (outermost path_of kept cs)) [ inl here ↦ inl (by-kept dp v kept c.decisions e here) | inr later ↦ outermost-matches dp v kept cs later ]
      | false ↦ λ e. elim h as (λ _. Goal (c ∷ outermost path_of (c ∷ kept) cs)) [
        | inl here ↦ inr (inl here)
        | inr later ↦ elim (outermost-matches dp v (c ∷ kept) cs later) as (λ _. Goal (c ∷ outermost path_of (c ∷ kept) cs)) [
          | inl before ↦ elim before as (λ _. Goal (c ∷ outermost path_of (c ∷ kept) cs)) [ inl here ↦ inr (inl here) | inr old ↦ inl old ]
          | inr left ↦ inr (inr left)
        ]
      ]
    ] refl

-- What is left is apart.

-- one stands before the other: it is no deeper, and they differ in depth or state
pub record StandsBefore (c d : Subproblem) : Type 0 where
  pub shallower : length c.decisions ≤ length d.decisions
  pub other : DifferInPlace c d

-- each stands before all later ones
abbrev pub InTurn : List Subproblem → Type 0
InTurn [] = Unit {0}
InTurn (c ∷ cs) = Each (StandsBefore c) cs × InTurn cs

begins-short : (a b : List ℕ) → IsTrue (begins a b) → length a ≤ length b
begins-short a b h = let from = begins-is a b h in let long = ap length from.1 ∙ length-append a from.0 in omega arith

turned : (dp : Dp) (c d : Subproblem) → IsOwn dp c → IsOwn dp d → StandsBefore c d → begins d.decisions c.decisions ≡ false
turned dp c d oc od before = not-true (begins d.decisions c.decisions) (λ h.
    let up = before.shallower in let down = begins-short d.decisions c.decisions h in
    let long : length d.decisions ≡ length c.decisions = omega arith in
    let same : d.decisions ≡ c.decisions = same-length d.decisions c.decisions long h in
    let rows : d.row ≡ c.row = od.row ∙ (ap (state_of dp) same ∙ sym oc.row) in
    let depth : nat_eq (length d.decisions) (length c.decisions) ≡ true = subst (λ n. nat_eq n (length c.decisions) ≡ true) (sym long) (nat_eq-self (length c.decisions)) in
    let row : row_same d.row c.row ≡ true = subst (λ r. row_same r c.row ≡ true) (sym rows) (row_same-self c.row) in
    let place : is_at (length c.decisions) c.row d ≡ true = rw (depth, row) refl in
    let clash : true ≡ false = sym place ∙ before.other in cc)

pub apart-of : (dp : Dp) (c d : Subproblem) → IsOwn dp c → IsOwn dp d → StandsBefore c d → begins c.decisions d.decisions ≡ false → AreTwo c d
apart-of dp c d oc od before new = record { apart = record { first = new; second = turned dp c d oc od before }; differ = before.other }

apart-all : (dp : Dp) (c : Subproblem) (ds : List Subproblem) → IsOwn dp c → ((d : Subproblem) → Has d ds → IsOwn dp d × StandsBefore c d × (begins c.decisions d.decisions ≡ false)) → Each (AreTwo c) ds
apart-all dp c [] oc all = tt
apart-all dp c (d ∷ ds) oc all =
    let here = all d (inl refl) in
    let one = apart-of dp c d oc here.0 here.1 here.2 in
    let rest : Each (AreTwo c) ds = apart-all dp c ds oc (λ x h. all x (inr h)) in
    (one, rest)

pub outermost-apart : (dp : Dp) (kept cs : List Subproblem) → ((c : Subproblem) → Has c cs → IsOwn dp c) → InTurn cs → EachTwo AreTwo (outermost path_of kept cs)
outermost-apart dp kept [] own turn = tt
outermost-apart dp kept (c ∷ cs) own turn =
    elim (passes path_of kept c.decisions) as (λ b. EachTwo AreTwo (cond b (outermost path_of kept cs) (c ∷ outermost path_of (c ∷ kept) cs))) [
      | true ↦ outermost-apart dp kept cs (λ d h. own d (inr h)) turn.1
      | false ↦ (
          let one : Each (AreTwo c) (outermost path_of (c ∷ kept) cs) = apart-all dp c (outermost path_of (c ∷ kept) cs) (own c (inl refl)) (λ d h.
          let has = outermost-from (c ∷ kept) cs d h in
          (own d (inr has), each-has (StandsBefore c) cs d turn.0 has, (or-false (begins c.decisions d.decisions) (passes path_of kept d.decisions) (outermost-new (c ∷ kept) cs d h)).0)) in
          let rest : EachTwo AreTwo (outermost path_of (c ∷ kept) cs) = outermost-apart dp (c ∷ kept) cs (λ d h. own d (inr h)) turn.1 in
          (one, rest))
    ]
