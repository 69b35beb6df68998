-- A walk that finds no failure and all arcs at hand in order: the row has none.
use Rattle.std.proofs.Common.{◌≡◌, ℕ, suc, ◌+◌, ◌<◌, ◌≤◌, nat_eq, nat_le, nat_lt, true, false, cond, List, [], ◌∷◌, ◌++◌, length, take, slice_get, Option, Some, None, refl, sym, ◌∙◌, ap, subst, arith}
use Rattle.std.proofs.lemmas.List.{take_all}
use Rattle.std.specs.Option.{is_some}
use Rattle.dp_model.specs.Dp.{Dp}
use Rattle.dp_model.specs.Lists.{Each}
use Rattle.dp_model.proofs.Members.{Each-append}
use Rattle.dp_laws.proofs.Diagrams.Places.{same-Some}
use Rattle.bound_cover.specs.declared.cover.CoverArc.{CoverArc}
use Rattle.bound_cover.specs.declared.cover.Why.{Why}
use Rattle.bound_cover.specs.Covers.{CoverRow}
use Rattle.bound_cover.specs.Tests.{tested, decisions_fault}
use Rattle.bound_cover.specs.Walking.{least_after, lesser, at_hand, decision_of, step_fault}
use Rattle.bound_cover.proofs.Walking.{IsWalked}
use Rattle.bound_cover.proofs.Walked.{place_after, each-next, take-next, at-inside, walks-on, walk-ends}
use Rattle.bound_cover.proofs.Turns.{holds-none}

-- the walk has come to the decision d and the arc at the place without a failure; where no arc stands out of order, that is a walk
pub record IsPassing (dp : Dp) (k i : ℕ) (next : List CoverRow) (row : CoverRow) (arcs : List CoverArc) (place d : ℕ) : Type 0 where
  pub inside : place ≤ length arcs
  pub before : Each (λ (a : CoverArc). a.decision < d) (take place arcs)
  pub rising : least_after 0 (take place arcs) ≡ None
  pub walked : least_after 0 arcs ≡ None → IsWalked dp k i next row arcs place d

some-less : (m : ℕ) (b : Option ℕ) → lesser (Some m) b ≡ None → ⊥
some-less m None e = let clash : Some m ≡ None = e in absurd (cc)
some-less m (Some n) e = let clash : Some (cond (nat_le m n) m n) ≡ None = e in absurd (cc)

-- a greater one after arcs in order
rising-end : (low d : ℕ) (arcs : List CoverArc) (arc : CoverArc) → low ≤ d → Each (λ (a : CoverArc). a.decision < d) arcs → arc.decision ≡ d → least_after low arcs ≡ None → least_after low (arcs ++ arc ∷ []) ≡ None
rising-end low d [] arc below all same rise = let up : nat_lt arc.decision low ≡ false = grind arith in rw up refl
rising-end low d (a ∷ arcs) arc below all same rise =
    elim (nat_lt a.decision low) as (λ b. cond b (lesser (Some a.decision) (least_after low arcs)) (least_after (a.decision + 1) arcs) ≡ None
    → cond b (lesser (Some a.decision) (least_after low (arcs ++ arc ∷ []))) (least_after (a.decision + 1) (arcs ++ arc ∷ [])) ≡ None) [
      | true ↦ λ e. absurd (some-less a.decision (least_after low arcs) e)
      | false ↦ λ e. (let less : a.decision < d = all.0 in rising-end (a.decision + 1) d arcs arc (omega arith) all.1 same e)
    ] rise

-- one decision further
passes-on : (dp : Dp) (k i : ℕ) (next : List CoverRow) (row : CoverRow) (arcs : List CoverArc) (place d : ℕ) (o hand : Option CoverArc) → slice_get arcs place ≡ o → at_hand d o ≡ hand → IsPassing dp k i next row arcs place d
    → (least_after 0 arcs ≡ None → IsWalked dp k i next row arcs (place_after place hand) (d + 1)) → IsPassing dp k i next row arcs (place_after place hand) (d + 1)
passes-on dp k i next row arcs place d o None at is p walked = record { inside = p.inside; before = each-next d (take place arcs) p.before; rising = p.rising; walked = walked }
passes-on dp k i next row arcs place d None (Some arc) at is p walked = absurd (let clash : None ≡ Some arc = is in cc)
passes-on dp k i next row arcs place d (Some here) (Some arc) at is p walked =
    let taken = elim (nat_eq here.decision d) as (λ b. nat_eq here.decision d ≡ b → cond b (Some here) None ≡ Some arc → (here ≡ arc) × (here.decision ≡ d)) [
      | true ↦ λ t e. (same-Some here arc e, grind arith)
      | false ↦ λ t e. absurd (let clash : None ≡ Some arc = e in cc)
    ] refl is in
    let there : slice_get arcs place ≡ Some here = at in
    let up : place + 1 ≡ suc place = omega arith in
    let more : take (place + 1) arcs ≡ take place arcs ++ here ∷ [] = ap (λ n. take n arcs) up ∙ take-next arcs place here there in
    let own : here.decision < d + 1 = (let same = taken.1 in omega arith) in
    record {
      inside = (let below = at-inside arcs place here there in omega arith);
      before = subst (λ l. Each (λ (a : CoverArc). a.decision < d + 1) l) (sym more) (Each-append (λ (a : CoverArc). a.decision < d + 1) (take place arcs) (here ∷ []) (each-next d (take place arcs) p.before) (own, tt));
      rising = ap (least_after 0) more ∙ rising-end 0 d (take place arcs) here (omega arith) p.before taken.1 p.rising;
      walked = walked;
    }

-- a turn as the code makes it
pub turn-passes : (dp : Dp) (k i : ℕ) (next : List CoverRow) (row : CoverRow) (arcs : List CoverArc) (place d choices : ℕ) (arc : Option CoverArc) (result : Option Why) → choices ≡ dp.choices k → d < choices → IsPassing dp k i next row arcs place d
    → arc ≡ at_hand d (slice_get arcs place) → result ≡ step_fault dp k i next row d (dp.allowed k row.words d) arc → false ≡ is_some result → IsPassing dp k i next row arcs (place_after place arc) (d + 1)
turn-passes dp k i next row arcs place d choices arc result count less p hand step none =
    let inside : d < dp.choices k = subst (λ n. d < n) count less in
    let fine = ap (step_fault dp k i next row d (dp.allowed k row.words d)) (sym hand) ∙ (sym step ∙ holds-none result none) in
    subst (λ o. IsPassing dp k i next row arcs (place_after place o) (d + 1)) (sym hand)
    (passes-on dp k i next row arcs place d (slice_get arcs place) (at_hand d (slice_get arcs place)) refl refl p
    (λ rises. walks-on dp k i next row arcs place d inside (p.walked rises) (λ following. absurd (let clash : None ≡ Some d = sym rises ∙ following in cc)) fine))

at-end : (arcs : List CoverArc) → slice_get arcs (length arcs) ≡ None
at-end [] = refl
at-end (a ∷ arcs) = at-end arcs

-- the end of the walk after the last arc
pub turn-passed : (dp : Dp) (k i : ℕ) (next : List CoverRow) (row : CoverRow) (arcs : List CoverArc) (place d choices : ℕ) → choices ≡ dp.choices k → d ≤ choices → choices ≤ d → IsPassing dp k i next row arcs place d → nat_eq place (length arcs) ≡ true
    → decisions_fault dp k i next row arcs (tested dp k row.words arcs) ≡ None
turn-passed dp k i next row arcs place d choices count low high p is =
    let end : place ≡ length arcs = grind arith in
    let whole : take place arcs ≡ arcs = take_all place arcs (omega arith) in
    let rises : least_after 0 arcs ≡ None = ap (least_after 0) (sym whole) ∙ p.rising in
    let all : dp.choices k ≡ d = omega arith in
    let gone : slice_get arcs place ≡ None = ap (slice_get arcs) end ∙ at-end arcs in
    walk-ends dp k i next row arcs place d all (p.walked rises) None (ap (λ b. lesser b (decision_of (slice_get arcs place))) rises ∙ ap decision_of gone)

pub turn-places : (dp : Dp) (k i : ℕ) (next : List CoverRow) (row : CoverRow) (arcs : List CoverArc) (place n d : ℕ) → place ≡ n → IsPassing dp k i next row arcs place d → IsPassing dp k i next row arcs n d
turn-places dp k i next row arcs place n d e p = subst (λ x. IsPassing dp k i next row arcs x d) e p
