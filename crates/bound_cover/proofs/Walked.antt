-- A walk over the decisions, step by step.
use Rattle.std.proofs.Common.{◌≡◌, ℕ, zero, suc, ◌+◌, ◌<◌, ◌≤◌, nat_eq, nat_lt, ℤ, true, false, cond, ◌&&◌, List, [], ◌∷◌, ◌++◌, length, map, filter, take, drop, slice_get, Option, Some, None, ◌⊎◌, inl, inr, IsTrue, refl, sym, ◌∙◌, ap, subst, arith}
use Rattle.std.proofs.lemmas.List.{take_all}
use Rattle.std.proofs.lemmas.Bool.{and_parts}
use Rattle.dp_model.specs.Decisions.{below}
use Rattle.dp_model.specs.Dp.{Dp}
use Rattle.dp_model.specs.Lists.{Each}
use Rattle.dp_model.proofs.Members.{Has, Each-append, Has-filter, Has-filter-from, Has-below, Has-below-from}
use Rattle.dp_laws.proofs.Diagrams.Places.{same-Some}
use Rattle.bound_cover.specs.declared.cover.CoverArc.{CoverArc}
use Rattle.bound_cover.specs.declared.cover.Why.{Why}
use Rattle.bound_cover.specs.declared.cover.Why.TheVariants.{Target}
use Rattle.bound_cover.specs.Covers.{CoverRow}
use Rattle.bound_cover.specs.Tests.{lists, arc_for, tested, arc_fault, listed_fault, decision_fault, decisions_fault}
use Rattle.bound_cover.specs.Walking.{lesser, least_after, at_hand, step_fault, decision_of}
use Rattle.bound_cover.proofs.Walking.{IsBefore, IsUpTo, rest_fault, IsWalked}
use Rattle.bound_cover.proofs.Faults.{Has-with_listed}
use Rattle.bound_cover.proofs.Rising.{with_listed-from}
use Rattle.bound_cover.proofs.Walks.{rises-tested, least-first, none-fails, listed-tested, before-lesser, not-listed, listed-is, lesser-is, arc-at, arc-missing, arc-ended, following-missing}

-- ---- the arcs around the one at hand

split-at : (arcs : List CoverArc) (place : ℕ) (arc : CoverArc) → slice_get arcs place ≡ Some arc → arcs ≡ take place arcs ++ arc ∷ drop (suc place) arcs
split-at [] place arc e = absurd (let none : None ≡ Some arc = e in cc)
split-at (a ∷ arcs) zero arc e = ap (λ x. x ∷ arcs) (same-Some a arc e)
split-at (a ∷ arcs) (suc place) arc e = ap (λ l. a ∷ l) (split-at arcs place arc e)

beyond : (arcs : List CoverArc) (place : ℕ) → slice_get arcs place ≡ None → length arcs ≤ place
beyond [] place e = omega arith
beyond (a ∷ arcs) zero e = absurd (let none : Some a ≡ None = e in cc)
beyond (a ∷ arcs) (suc place) e = let rest = beyond arcs place e in omega arith

-- arcs with smaller decisions don't list it
lists-none : (d : ℕ) (arcs : List CoverArc) → Each (λ (a : CoverArc). a.decision < d) arcs → lists d arcs ≡ false
lists-none d [] all = refl
lists-none d (a ∷ arcs) all =
    let less : a.decision < d = all.0 in
    let other : nat_eq a.decision d ≡ false = grind arith in
    rw other (lists-none d arcs all.1)

-- a decision below the arc at hand, and below the least after, is not listed
unlisted : (low d : ℕ) (before : List CoverArc) (arc : CoverArc) (after : List CoverArc) → low ≤ d → Each (λ (a : CoverArc). a.decision < d) before → d < arc.decision → IsBefore d (least_after low (before ++ arc ∷ after)) → lists d (before ++ arc ∷ after) ≡ false
unlisted low d [] arc after up all more h =
    let other : nat_eq arc.decision d ≡ false = grind arith in
    let above : nat_lt arc.decision low ≡ false = grind arith in
    let rest : IsBefore d (least_after (arc.decision + 1) after) = subst (λ b. IsBefore d (cond b (lesser (Some arc.decision) (least_after low after)) (least_after (arc.decision + 1) after))) above h in
    rw other (not-listed (arc.decision + 1) d after (omega arith) rest)
unlisted low d (a ∷ before) arc after up all more h =
    let less : a.decision < d = all.0 in
    let other : nat_eq a.decision d ≡ false = grind arith in
    elim (nat_lt a.decision low) as (λ b. nat_lt a.decision low ≡ b → IsBefore d (cond b (lesser (Some a.decision) (least_after low (before ++ arc ∷ after))) (least_after (a.decision + 1) (before ++ arc ∷ after))) → lists d (a ∷ (before ++ arc ∷ after)) ≡ false) [
      | true ↦ λ t g. absurd (let parts = before-lesser d a.decision (least_after low (before ++ arc ∷ after)) g in let more' = parts.0 in omega arith)
      | false ↦ λ t g. rw other (unlisted (a.decision + 1) d before arc after (omega arith) all.1 more g)
    ] refl h

-- after the arc of a decision below the least after stands a greater one
greater-next : (low d : ℕ) (before : List CoverArc) (arc next : CoverArc) (after : List CoverArc) → low ≤ d → Each (λ (a : CoverArc). a.decision < d) before → arc.decision ≡ d → IsBefore d (least_after low (before ++ arc ∷ next ∷ after)) → d < next.decision
greater-next low d [] arc next after up all same h =
    let above : nat_lt arc.decision low ≡ false = grind arith in
    let rest : IsBefore d (least_after (arc.decision + 1) (next ∷ after)) = subst (λ b. IsBefore d (cond b (lesser (Some arc.decision) (least_after low (next ∷ after))) (least_after (arc.decision + 1) (next ∷ after)))) above h in
    elim (nat_lt next.decision (arc.decision + 1)) as (λ b. nat_lt next.decision (arc.decision + 1) ≡ b → IsBefore d (cond b (lesser (Some next.decision) (least_after (arc.decision + 1) after)) (least_after (next.decision + 1) after)) → d < next.decision) [
      | true ↦ λ t g. (before-lesser d next.decision (least_after (arc.decision + 1) after) g).0
      | false ↦ λ t g. grind arith
    ] refl rest
greater-next low d (a ∷ before) arc next after up all same h =
    let less : a.decision < d = all.0 in
    elim (nat_lt a.decision low) as (λ b. nat_lt a.decision low ≡ b → IsBefore d (cond b (lesser (Some a.decision) (least_after low (before ++ arc ∷ next ∷ after))) (least_after (a.decision + 1) (before ++ arc ∷ next ∷ after))) → d < next.decision) [
      | true ↦ λ t g. absurd (let parts = before-lesser d a.decision (least_after low (before ++ arc ∷ next ∷ after)) g in let more' = parts.0 in omega arith)
      | false ↦ λ t g. greater-next (a.decision + 1) d before arc next after (omega arith) all.1 same g
    ] refl h

-- ---- what is tested

tested-cases : (dp : Dp) (k : ℕ) (words : List ℤ) (arcs : List CoverArc) (d : ℕ) → Has d (tested dp k words arcs) → (IsTrue (nat_lt d (dp.choices k) && dp.allowed k words d)) ⊎ (lists d arcs ≡ true)
tested-cases dp k words arcs d h =
    elim (with_listed-from (filter (dp.allowed k words) (below (dp.choices k))) arcs d h) as (λ _. (IsTrue (nat_lt d (dp.choices k) && dp.allowed k words d)) ⊎ (lists d arcs ≡ true)) [
      | inl a ↦ inl (
          let from = Has-filter-from (dp.allowed k words) (below (dp.choices k)) d a in
          let less : d < dp.choices k = Has-below-from (dp.choices k) d from.0 in
          let few : nat_lt d (dp.choices k) ≡ true = grind arith in
          rw few from.1)
      | inr b ↦ inr (listed-is d arcs b)
    ]

tested-allowed : (dp : Dp) (k : ℕ) (words : List ℤ) (arcs : List CoverArc) (d : ℕ) → d < dp.choices k → IsTrue (dp.allowed k words d) → Has d (tested dp k words arcs)
tested-allowed dp k words arcs d less may =
    Has-with_listed (filter (dp.allowed k words) (below (dp.choices k))) arcs d (Has-filter (dp.allowed k words) (below (dp.choices k)) d (Has-below (dp.choices k) d less) may)

-- ---- the arc at hand

-- where it is that of the decision it is the one that counts; else the decision is not listed
pub record IsAtHand (arcs : List CoverArc) (place d : ℕ) (o : Option CoverArc) : Type 0 where
  pub for : arc_for d arcs ≡ o
  pub none : o ≡ None → lists d arcs ≡ false
  pub some : (arc : CoverArc) → o ≡ Some arc → (slice_get arcs place ≡ Some arc) × (arc.decision ≡ d)

at-hand-is : (dp : Dp) (k i : ℕ) (next : List CoverRow) (row : CoverRow) (arcs : List CoverArc) (place d : ℕ) → IsWalked dp k i next row arcs place d → IsBefore d (least_after 0 arcs) → (o : Option CoverArc) → slice_get arcs place ≡ o → IsAtHand arcs place d (at_hand d o)
at-hand-is dp k i next row arcs place d w under None e =
    let all : Each (λ (a : CoverArc). a.decision < d) arcs = subst (λ l. Each (λ (a : CoverArc). a.decision < d) l) (take_all place arcs (beyond arcs place e)) w.before in
    record { for = arc-ended d arcs all; none = λ _. lists-none d arcs all; some = λ arc h. absurd (let clash : None ≡ Some arc = h in cc) }
at-hand-is dp k i next row arcs place d w under (Some arc) e =
    let split = split-at arcs place arc e in
    let low : d ≤ arc.decision = w.at arc e in
    let under' : IsBefore d (least_after 0 (take place arcs ++ arc ∷ drop (suc place) arcs)) = subst (λ l. IsBefore d (least_after 0 l)) split under in
    elim (nat_eq arc.decision d) as (λ b. nat_eq arc.decision d ≡ b → IsAtHand arcs place d (cond b (Some arc) None)) [
      | true ↦ λ t. (
          let same : arc.decision ≡ d = grind arith in
          record {
            for = subst (λ l. arc_for d l ≡ Some arc) (sym split) (arc-at 0 d (take place arcs) arc (drop (suc place) arcs) (omega arith) w.before same under');
            none = λ h. absurd (let clash : Some arc ≡ None = h in cc);
            some = λ x h. (let is : arc ≡ x = same-Some arc x h in (subst (λ y. slice_get arcs place ≡ Some y) is e, subst (λ (y : CoverArc). y.decision ≡ d) is same));
          })
      | false ↦ λ t. (
          let more : d < arc.decision = grind arith in
          record {
            for = subst (λ l. arc_for d l ≡ None) (sym split) (arc-missing d (take place arcs) arc (drop (suc place) arcs) w.before more);
            none = λ _. subst (λ l. lists d l ≡ false) (sym split) (unlisted 0 d (take place arcs) arc (drop (suc place) arcs) (omega arith) w.before more under');
            some = λ x h. absurd (let clash : None ≡ Some x = h in cc);
          })
    ] refl

in-middle : (d : ℕ) (before : List CoverArc) (arc : CoverArc) (after : List CoverArc) → arc.decision ≡ d → Has d (map (λ (a : CoverArc). a.decision) (before ++ arc ∷ after))
in-middle d [] arc after same = inl same
in-middle d (a ∷ before) arc after same = inr (in-middle d before arc after same)

-- ---- steps

-- a decision's failure is that of the step, where it is tested
step-is : (dp : Dp) (k i : ℕ) (next : List CoverRow) (row : CoverRow) (arcs : List CoverArc) (place d : ℕ) (o : Option CoverArc) → d < dp.choices k → IsAtHand arcs place d o → Has d (tested dp k row.words arcs)
    → decision_fault dp k i next row arcs d ≡ step_fault dp k i next row d (dp.allowed k row.words d) o
step-is dp k i next row arcs place d None less h has =
    let few : nat_lt d (dp.choices k) ≡ true = grind arith in
    let for : arc_for d arcs ≡ None = h.for in
    elim (dp.allowed k row.words d) as (λ b. dp.allowed k row.words d ≡ b → cond (nat_lt d (dp.choices k) && b) (listed_fault dp k i next row d (arc_for d arcs)) (Some (Target k i d)) ≡ cond b (Some (Target k i d)) None) [
      | true ↦ λ _. rw (few, for) refl
      | false ↦ λ e. absurd (
          elim (tested-cases dp k row.words arcs d has) as (λ _. ⊥) [
            | inl may ↦ (let both = and_parts (nat_lt d (dp.choices k)) (dp.allowed k row.words d) may in let clash : true ≡ false = sym both.1 ∙ e in cc)
            | inr listed ↦ (let clash : true ≡ false = sym listed ∙ h.none refl in cc)
          ])
    ] refl
step-is dp k i next row arcs place d (Some arc) less h has =
    let few : nat_lt d (dp.choices k) ≡ true = grind arith in
    let for : arc_for d arcs ≡ Some arc = h.for in
    elim (dp.allowed k row.words d) as (λ b. cond (nat_lt d (dp.choices k) && b) (listed_fault dp k i next row d (arc_for d arcs)) (Some (Target k i d)) ≡ cond b (arc_fault dp k i next row d arc.target) (Some (Target k i d))) [
      | true ↦ rw (few, for) refl
      | false ↦ rw few refl
    ]

-- a step that fails belongs to a tested decision
fails-tested : (dp : Dp) (k i : ℕ) (next : List CoverRow) (row : CoverRow) (arcs : List CoverArc) (place d : ℕ) (o : Option CoverArc) (why : Why) → d < dp.choices k → IsAtHand arcs place d o → step_fault dp k i next row d (dp.allowed k row.words d) o ≡ Some why → Has d (tested dp k row.words arcs)
fails-tested dp k i next row arcs place d None why less h e =
    elim (dp.allowed k row.words d) as (λ b. dp.allowed k row.words d ≡ b → cond b (Some (Target k i d)) None ≡ Some why → Has d (tested dp k row.words arcs)) [
      | true ↦ λ t _. tested-allowed dp k row.words arcs d less t
      | false ↦ λ _ f. absurd (let clash : None ≡ Some why = f in cc)
    ] refl e
fails-tested dp k i next row arcs place d (Some arc) why less h e =
    let at = h.some arc refl in
    let split = split-at arcs place arc at.0 in
    listed-tested (filter (dp.allowed k row.words) (below (dp.choices k))) arcs d
    (subst (λ l. Has d (map (λ (a : CoverArc). a.decision) l)) (sym split) (in-middle d (take place arcs) arc (drop (suc place) arcs) at.1))

not-equal : (d : ℕ) (arc : CoverArc) → at_hand d (Some arc) ≡ None → nat_eq arc.decision d ≡ false
not-equal d arc e =
    elim (nat_eq arc.decision d) as (λ b. cond b (Some arc) None ≡ None → b ≡ false) [ true ↦ λ f. absurd (let clash : Some arc ≡ None = f in cc) | false ↦ λ _. refl ] e

up-to-before : (d : ℕ) (o : Option ℕ) → IsUpTo d o → (o ≡ Some d → ⊥) → IsBefore d o
up-to-before d None up other = tt
up-to-before d (Some e) up other =
    let low : d ≤ e = up in
    let split : (d < e) ⊎ (e ≡ d) = grind arith in
    elim split as (λ _. d < e) [ inl less ↦ less | inr same ↦ absurd (other (ap (λ n. Some n) same)) ]

before-next : (d : ℕ) (o : Option ℕ) → IsBefore d o → IsUpTo (d + 1) o
before-next d None h = tt
before-next d (Some e) h = let less : d < e = h in omega arith

pub each-next : (d : ℕ) (arcs : List CoverArc) → Each (λ (a : CoverArc). a.decision < d) arcs → Each (λ (a : CoverArc). a.decision < d + 1) arcs
each-next d [] all = tt
each-next d (a ∷ arcs) all = let less : a.decision < d = all.0 in (omega arith, each-next d arcs all.1)

pub take-next : (arcs : List CoverArc) (place : ℕ) (arc : CoverArc) → slice_get arcs place ≡ Some arc → take (suc place) arcs ≡ take place arcs ++ arc ∷ []
take-next [] place arc e = absurd (let none : None ≡ Some arc = e in cc)
take-next (a ∷ arcs) zero arc e = ap (λ x. x ∷ []) (same-Some a arc e)
take-next (a ∷ arcs) (suc place) arc e = ap (λ l. a ∷ l) (take-next arcs place arc e)

pub at-inside : (arcs : List CoverArc) (place : ℕ) (arc : CoverArc) → slice_get arcs place ≡ Some arc → place < length arcs
at-inside [] place arc e = absurd (let none : None ≡ Some arc = e in cc)
at-inside (a ∷ arcs) zero arc e = omega arith
at-inside (a ∷ arcs) (suc place) arc e = let rest = at-inside arcs place arc e in omega arith

get-drop : (arcs : List CoverArc) (place : ℕ) (next : CoverArc) → slice_get arcs place ≡ Some next → drop place arcs ≡ next ∷ drop (suc place) arcs
get-drop [] place next e = absurd (let none : None ≡ Some next = e in cc)
get-drop (a ∷ arcs) zero next e = ap (λ x. x ∷ arcs) (same-Some a next e)
get-drop (a ∷ arcs) (suc place) next e = get-drop arcs place next e

-- the place after a step
abbrev pub place_after : ℕ → Option CoverArc → ℕ
place_after place None = place
place_after place (Some arc) = place + 1

-- the walk goes on
walk-on : (dp : Dp) (k i : ℕ) (next : List CoverRow) (row : CoverRow) (arcs : List CoverArc) (place d : ℕ) (o : Option CoverArc) → d < dp.choices k → IsWalked dp k i next row arcs place d → IsBefore d (least_after 0 arcs) → at_hand d (slice_get arcs place) ≡ o → IsAtHand arcs place d o
    → step_fault dp k i next row d (dp.allowed k row.words d) o ≡ None → IsWalked dp k i next row arcs (place_after place o) (d + 1)
walk-on dp k i next row arcs place d None less w under is h e = record {
  inside = w.inside;
  before = each-next d (take place arcs) w.before;
  at = λ arc at. (
      let low : d ≤ arc.decision = w.at arc at in
      let other : nat_eq arc.decision d ≡ false = not-equal d arc (ap (at_hand d) (sym at) ∙ is) in
      grind arith);
  following = before-next d (least_after 0 arcs) under;
  fine = λ x has below'. (
      let split : (x < d) ⊎ (d ≡ x) = grind arith in
      elim split as (λ _. decision_fault dp k i next row arcs x ≡ None) [
        | inl older ↦ w.fine x has older
        | inr same ↦ subst (λ n. decision_fault dp k i next row arcs n ≡ None) same (step-is dp k i next row arcs place d None less h (subst (λ n. Has n (tested dp k row.words arcs)) (sym same) has) ∙ e)
      ]);
}
walk-on dp k i next row arcs place d (Some arc) less w under is h e =
    let at = h.some arc refl in
    let split = split-at arcs place arc at.0 in
    let next-place : place + 1 ≡ suc place = omega arith in
    record {
      inside = (let more = at-inside arcs place arc at.0 in omega arith);
      before = subst (λ n. Each (λ (a : CoverArc). a.decision < d + 1) (take n arcs)) (sym next-place)
          (subst (λ l. Each (λ (a : CoverArc). a.decision < d + 1) l) (sym (take-next arcs place arc at.0))
          (Each-append (λ (a : CoverArc). a.decision < d + 1) (take place arcs) (arc ∷ []) (each-next d (take place arcs) w.before) ((let same = at.1 in omega arith), tt)));
      at = λ other there. (
          let there' : slice_get arcs (suc place) ≡ Some other = subst (λ n. slice_get arcs n ≡ Some other) next-place there in
          let whole : arcs ≡ take place arcs ++ arc ∷ other ∷ drop (suc (suc place)) arcs = split ∙ ap (λ l. take place arcs ++ arc ∷ l) (get-drop arcs (suc place) other there') in
          let more : d < other.decision = greater-next 0 d (take place arcs) arc other (drop (suc (suc place)) arcs) (omega arith) w.before at.1 (subst (λ l. IsBefore d (least_after 0 l)) whole under) in
          omega arith);
      following = before-next d (least_after 0 arcs) under;
      fine = λ x has below'. (
          let cases : (x < d) ⊎ (d ≡ x) = grind arith in
          elim cases as (λ _. decision_fault dp k i next row arcs x ≡ None) [
            | inl older ↦ w.fine x has older
            | inr same ↦ subst (λ n. decision_fault dp k i next row arcs n ≡ None) same (step-is dp k i next row arcs place d (Some arc) less h (subst (λ n. Has n (tested dp k row.words arcs)) (sym same) has) ∙ e)
          ]);
    }

-- a turn of the walk that goes on
pub walks-on : (dp : Dp) (k i : ℕ) (next : List CoverRow) (row : CoverRow) (arcs : List CoverArc) (place d : ℕ) → d < dp.choices k → IsWalked dp k i next row arcs place d → (least_after 0 arcs ≡ Some d → ⊥)
    → step_fault dp k i next row d (dp.allowed k row.words d) (at_hand d (slice_get arcs place)) ≡ None → IsWalked dp k i next row arcs (place_after place (at_hand d (slice_get arcs place))) (d + 1)
walks-on dp k i next row arcs place d less w other e =
    let under = up-to-before d (least_after 0 arcs) w.following other in
    walk-on dp k i next row arcs place d (at_hand d (slice_get arcs place)) less w under refl (at-hand-is dp k i next row arcs place d w under (slice_get arcs place) refl) e

-- a turn that fails
pub walk-fails : (dp : Dp) (k i : ℕ) (next : List CoverRow) (row : CoverRow) (arcs : List CoverArc) (place d : ℕ) (why : Why) → d < dp.choices k → IsWalked dp k i next row arcs place d → (least_after 0 arcs ≡ Some d → ⊥)
    → step_fault dp k i next row d (dp.allowed k row.words d) (at_hand d (slice_get arcs place)) ≡ Some why → decisions_fault dp k i next row arcs (tested dp k row.words arcs) ≡ Some why
walk-fails dp k i next row arcs place d why less w other e =
    let under = up-to-before d (least_after 0 arcs) w.following other in
    let h = at-hand-is dp k i next row arcs place d w under (slice_get arcs place) refl in
    let o = at_hand d (slice_get arcs place) in
    let has = fails-tested dp k i next row arcs place d o why less h e in
    least-first dp k i next row arcs (tested dp k row.words arcs) d why (rises-tested dp k row.words arcs) has w.fine (step-is dp k i next row arcs place d o less h has ∙ e)

-- the least decision that stands after one as great fails
missing-fails : (dp : Dp) (k i : ℕ) (next : List CoverRow) (row : CoverRow) (arcs : List CoverArc) (d : ℕ) → arc_for d arcs ≡ None → decision_fault dp k i next row arcs d ≡ Some (Target k i d)
missing-fails dp k i next row arcs d e =
    elim (nat_lt d (dp.choices k) && dp.allowed k row.words d) as (λ b. cond b (listed_fault dp k i next row d (arc_for d arcs)) (Some (Target k i d)) ≡ Some (Target k i d)) [
      | true ↦ rw e refl
      | false ↦ refl
    ]

following-fails : (dp : Dp) (k i : ℕ) (next : List CoverRow) (row : CoverRow) (arcs : List CoverArc) (b : ℕ) → least_after 0 arcs ≡ Some b → Has b (tested dp k row.words arcs) × (decision_fault dp k i next row arcs b ≡ Some (Target k i b))
following-fails dp k i next row arcs b e =
    let is = following-missing 0 arcs b e in (
      listed-tested (filter (dp.allowed k row.words) (below (dp.choices k))) arcs b is.listed,
      elim is.missing as (λ _. decision_fault dp k i next row arcs b ≡ Some (Target k i b)) [ inl under ↦ absurd (omega arith) | inr none ↦ missing-fails dp k i next row arcs b none ],
    )

pub walk-following : (dp : Dp) (k i : ℕ) (next : List CoverRow) (row : CoverRow) (arcs : List CoverArc) (place d : ℕ) → IsWalked dp k i next row arcs place d → least_after 0 arcs ≡ Some d
    → decisions_fault dp k i next row arcs (tested dp k row.words arcs) ≡ Some (Target k i d)
walk-following dp k i next row arcs place d w e =
    let fails = following-fails dp k i next row arcs d e in
    least-first dp k i next row arcs (tested dp k row.words arcs) d (Target k i d) (rises-tested dp k row.words arcs) fails.0 w.fine fails.1

-- ---- the end

both-before : (e : ℕ) (a b : Option ℕ) → IsBefore e (lesser a b) → IsBefore e a × IsBefore e b
both-before e None b h = (tt, h)
both-before e (Some m) b h = before-lesser e m b h

above-all : (d e : ℕ) (arcs : List CoverArc) → d ≤ e → Each (λ (a : CoverArc). a.decision < d) arcs → Each (λ (a : CoverArc). a.decision < e) arcs
above-all d e [] up all = tt
above-all d e (a ∷ arcs) up all = let less : a.decision < d = all.0 in (omega arith, above-all d e arcs up all.1)

not-left : (dp : Dp) (k i : ℕ) (next : List CoverRow) (row : CoverRow) (arcs : List CoverArc) (place d e : ℕ) → IsWalked dp k i next row arcs place d → d ≤ e → (o : Option CoverArc) → slice_get arcs place ≡ o → IsBefore e (lesser (least_after 0 arcs) (decision_of o)) → lists e arcs ≡ false
not-left dp k i next row arcs place d e w up None at under =
    let all : Each (λ (a : CoverArc). a.decision < d) arcs = subst (λ l. Each (λ (a : CoverArc). a.decision < d) l) (take_all place arcs (beyond arcs place at)) w.before in
    lists-none e arcs (above-all d e arcs up all)
not-left dp k i next row arcs place d e w up (Some arc) at under =
    let split = split-at arcs place arc at in
    let both = both-before e (least_after 0 arcs) (Some arc.decision) under in
    let less : e < arc.decision = both.1 in
    subst (λ l. lists e l ≡ false) (sym split) (unlisted 0 e (take place arcs) arc (drop (suc place) arcs) (omega arith) (above-all d e (take place arcs) up w.before) less (subst (λ l. IsBefore e (least_after 0 l)) split both.0))

-- nothing is tested between the end of the choices and the least that is left
nothing-between : (dp : Dp) (k i : ℕ) (next : List CoverRow) (row : CoverRow) (arcs : List CoverArc) (place d : ℕ) → dp.choices k ≡ d → IsWalked dp k i next row arcs place d → (o : Option CoverArc) → slice_get arcs place ≡ o
    → (e : ℕ) → Has e (tested dp k row.words arcs) → IsBefore e (lesser (least_after 0 arcs) (decision_of o)) → decision_fault dp k i next row arcs e ≡ None
nothing-between dp k i next row arcs place d all w o at e has under =
    let split : (e < d) ⊎ (d ≤ e) = grind arith in
    elim split as (λ _. decision_fault dp k i next row arcs e ≡ None) [
      | inl less ↦ w.fine e has less
      | inr more ↦ elim (tested-cases dp k row.words arcs e has) as (λ _. decision_fault dp k i next row arcs e ≡ None) [
        | inl may ↦ absurd (
            let both = and_parts (nat_lt e (dp.choices k)) (dp.allowed k row.words e) may in
            let few : nat_lt e (dp.choices k) ≡ true = both.0 in
            let less : e < dp.choices k = grind arith in omega arith)
        | inr listed ↦ absurd (let clash : true ≡ false = sym listed ∙ not-left dp k i next row arcs place d e w more o at under in cc)
      ]
    ]

lesser-of : (a b : Option ℕ) (m : ℕ) → lesser a b ≡ Some m → (a ≡ Some m) ⊎ (b ≡ Some m)
lesser-of None b m e = inr e
lesser-of (Some x) b m e = elim (lesser-is x b m e) as (λ _. (Some x ≡ Some m) ⊎ (b ≡ Some m)) [ inl same ↦ inl (ap (λ n. Some n) same) | inr rest ↦ inr rest.0 ]

decision-some : (o : Option CoverArc) (m : ℕ) → decision_of o ≡ Some m → (arc : CoverArc) × (o ≡ Some arc) × (arc.decision ≡ m)
decision-some None m e = absurd (let clash : None ≡ Some m = e in cc)
decision-some (Some arc) m e = (arc, refl, same-Some arc.decision m e)

-- the least that is left is tested and fails
left-fails : (dp : Dp) (k i : ℕ) (next : List CoverRow) (row : CoverRow) (arcs : List CoverArc) (place d m : ℕ) → dp.choices k ≡ d → IsWalked dp k i next row arcs place d → lesser (least_after 0 arcs) (decision_of (slice_get arcs place)) ≡ Some m
    → Has m (tested dp k row.words arcs) × (decision_fault dp k i next row arcs m ≡ Some (Target k i m))
left-fails dp k i next row arcs place d m all w e =
    elim (lesser-of (least_after 0 arcs) (decision_of (slice_get arcs place)) m e) as (λ _. Has m (tested dp k row.words arcs) × (decision_fault dp k i next row arcs m ≡ Some (Target k i m))) [
      | inl following ↦ following-fails dp k i next row arcs m following
      | inr here ↦ (
          let from = decision-some (slice_get arcs place) m here in
          let arc = from.0 in
          let split = split-at arcs place arc from.1 in
          let low : d ≤ arc.decision = w.at arc from.1 in
          let same : arc.decision ≡ m = from.2 in
          let many : nat_lt m (dp.choices k) ≡ false = grind arith in (
            listed-tested (filter (dp.allowed k row.words) (below (dp.choices k))) arcs m (subst (λ l. Has m (map (λ (a : CoverArc). a.decision) l)) (sym split) (in-middle m (take place arcs) arc (drop (suc place) arcs) same)),
            rw many refl,
          ))
    ]

pub walk-ends : (dp : Dp) (k i : ℕ) (next : List CoverRow) (row : CoverRow) (arcs : List CoverArc) (place d : ℕ) → dp.choices k ≡ d → IsWalked dp k i next row arcs place d → (o : Option ℕ) → lesser (least_after 0 arcs) (decision_of (slice_get arcs place)) ≡ o
    → decisions_fault dp k i next row arcs (tested dp k row.words arcs) ≡ rest_fault k i o
walk-ends dp k i next row arcs place d all w None e =
    none-fails dp k i next row arcs (tested dp k row.words arcs) (λ x h. nothing-between dp k i next row arcs place d all w (slice_get arcs place) refl x h (subst (IsBefore x) (sym e) tt))
walk-ends dp k i next row arcs place d all w (Some m) e =
    let fails = left-fails dp k i next row arcs place d m all w e in
    least-first dp k i next row arcs (tested dp k row.words arcs) m (Target k i m) (rises-tested dp k row.words arcs) fails.0
    (λ x h less. nothing-between dp k i next row arcs place d all w (slice_get arcs place) refl x h (subst (IsBefore x) (sym e) less)) fails.1
