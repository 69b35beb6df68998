-- What a walk over a row's arcs may rest on: the first failure is that of the least decision that fails, and below the least
-- decision that stands after one as great the arcs stand in order.
use Rattle.std.proofs.Common.{◌≡◌, ℕ, ◌+◌, ◌<◌, ◌≤◌, nat_eq, nat_lt, nat_le, ℤ, true, false, not, cond, ◌&&◌, ◌||◌, List, [], ◌∷◌, ◌++◌, map, filter, Option, Some, None, ◌⊎◌, inl, inr, refl, sym, ◌∙◌, ap, subst, arith}
use Rattle.dp_model.specs.Decisions.{below}
use Rattle.dp_model.specs.Dp.{Dp}
use Rattle.dp_model.specs.Lists.{Each}
use Rattle.dp_model.proofs.Members.{Has, each-has}
use Rattle.bound_cover.specs.declared.cover.CoverArc.{CoverArc}
use Rattle.bound_cover.specs.declared.cover.Why.{Why}
use Rattle.bound_cover.specs.Covers.{CoverRow}
use Rattle.bound_cover.specs.Tests.{first_of, lists, arc_for, put_in, with_listed, tested, decision_fault, decisions_fault}
use Rattle.bound_cover.specs.Walking.{lesser, least_after}
use Rattle.bound_cover.proofs.Walking.{IsBefore}
use Rattle.bound_cover.proofs.Rising.{Rises, rises-below, rises-filter}
use Rattle.bound_cover.proofs.Faults.{Has-put_in}

-- ---- the tested decisions rise

each-put_in : (P : ℕ → Type 0) (d : ℕ) (es : List ℕ) → P d → Each P es → Each P (put_in d es)
each-put_in P d [] p all = (p, tt)
each-put_in P d (e ∷ es) p all =
    elim (nat_lt d e) as (λ b. Each P (cond b (d ∷ e ∷ es) (cond (nat_eq d e) (e ∷ es) (e ∷ put_in d es)))) [
      | true ↦ (p, all)
      | false ↦ elim (nat_eq d e) as (λ b. Each P (cond b (e ∷ es) (e ∷ put_in d es))) [ true ↦ all | false ↦ (all.0, each-put_in P d es p all.1) ]
    ]

each-above : (d e : ℕ) (es : List ℕ) → d < e → Each (λ x. e < x) es → Each (λ x. d < x) es
each-above d e [] less all = tt
each-above d e (x ∷ es) less all = let more = all.0 in (omega arith, each-above d e es less all.1)

rises-put_in : (d : ℕ) (es : List ℕ) → Rises es → Rises (put_in d es)
rises-put_in d [] r = (tt, tt)
rises-put_in d (e ∷ es) r =
    elim (nat_lt d e) as (λ b. nat_lt d e ≡ b → Rises (cond b (d ∷ e ∷ es) (cond (nat_eq d e) (e ∷ es) (e ∷ put_in d es)))) [
      | true ↦ λ t. (let less : d < e = grind arith in ((less, each-above d e es less r.0), r))
      | false ↦ λ t. elim (nat_eq d e) as (λ b. nat_eq d e ≡ b → Rises (cond b (e ∷ es) (e ∷ put_in d es))) [
        | true ↦ λ _. r
        | false ↦ λ u. (let more : e < d = grind arith in (each-put_in (λ x. e < x) d es more r.0, rises-put_in d es r.1))
      ] refl
    ] refl

rises-with_listed : (allowed : List ℕ) (arcs : List CoverArc) → Rises allowed → Rises (with_listed allowed arcs)
rises-with_listed allowed [] r = r
rises-with_listed allowed (arc ∷ arcs) r = rises-put_in arc.decision (with_listed allowed arcs) (rises-with_listed allowed arcs r)

pub rises-tested : (dp : Dp) (k : ℕ) (words : List ℤ) (arcs : List CoverArc) → Rises (tested dp k words arcs)
rises-tested dp k words arcs = rises-with_listed (filter (dp.allowed k words) (below (dp.choices k))) arcs (rises-filter (dp.allowed k words) (below (dp.choices k)) (rises-below (dp.choices k)))

-- ---- the first failure is that of the least decision that fails

pub least-first : (dp : Dp) (k i : ℕ) (next : List CoverRow) (row : CoverRow) (arcs : List CoverArc) (ds : List ℕ) (d : ℕ) (why : Why) → Rises ds → Has d ds → ((e : ℕ) → Has e ds → e < d → decision_fault dp k i next row arcs e ≡ None)
    → decision_fault dp k i next row arcs d ≡ Some why → decisions_fault dp k i next row arcs ds ≡ Some why
least-first dp k i next row arcs [] d why r h fine fails = absurd h
least-first dp k i next row arcs (e ∷ ds) d why r (inl same) fine fails =
    let here : decision_fault dp k i next row arcs e ≡ Some why = ap (decision_fault dp k i next row arcs) same ∙ fails in
    ap (λ o. first_of o (decisions_fault dp k i next row arcs ds)) here
least-first dp k i next row arcs (e ∷ ds) d why r (inr later) fine fails =
    let less : e < d = each-has (λ x. e < x) ds d r.0 later in
    let here : decision_fault dp k i next row arcs e ≡ None = fine e (inl refl) less in
    ap (λ o. first_of o (decisions_fault dp k i next row arcs ds)) here ∙ least-first dp k i next row arcs ds d why r.1 later (λ x h less'. fine x (inr h) less') fails

pub none-fails : (dp : Dp) (k i : ℕ) (next : List CoverRow) (row : CoverRow) (arcs : List CoverArc) (ds : List ℕ) → ((e : ℕ) → Has e ds → decision_fault dp k i next row arcs e ≡ None) → decisions_fault dp k i next row arcs ds ≡ None
none-fails dp k i next row arcs [] fine = refl
none-fails dp k i next row arcs (e ∷ ds) fine = ap (λ o. first_of o (decisions_fault dp k i next row arcs ds)) (fine e (inl refl)) ∙ none-fails dp k i next row arcs ds (λ x h. fine x (inr h))

-- a listed decision is tested
put_in-has : (d : ℕ) (es : List ℕ) → Has d (put_in d es)
put_in-has d [] = inl refl
put_in-has d (e ∷ es) =
    elim (nat_lt d e) as (λ b. Has d (cond b (d ∷ e ∷ es) (cond (nat_eq d e) (e ∷ es) (e ∷ put_in d es)))) [
      | true ↦ inl refl
      | false ↦ elim (nat_eq d e) as (λ b. nat_eq d e ≡ b → Has d (cond b (e ∷ es) (e ∷ put_in d es))) [ true ↦ λ t. inl (let same : d ≡ e = grind arith in sym same) | false ↦ λ _. inr (put_in-has d es) ] refl
    ]

pub listed-tested : (allowed : List ℕ) (arcs : List CoverArc) (d : ℕ) → Has d (map (λ (a : CoverArc). a.decision) arcs) → Has d (with_listed allowed arcs)
listed-tested allowed [] d h = absurd h
listed-tested allowed (arc ∷ arcs) d (inl same) = subst (λ n. Has n (put_in arc.decision (with_listed allowed arcs))) same (put_in-has arc.decision (with_listed allowed arcs))
listed-tested allowed (arc ∷ arcs) d (inr later) = Has-put_in arc.decision d (with_listed allowed arcs) (listed-tested allowed arcs d later)

-- ---- the arcs below the least that stands after one as great

pub before-lesser : (d m : ℕ) (o : Option ℕ) → IsBefore d (lesser (Some m) o) → (d < m) × IsBefore d o
before-lesser d m None h = (h, tt)
before-lesser d m (Some n) h =
    elim (nat_le m n) as (λ b. nat_le m n ≡ b → d < cond b m n → (d < m) × (d < n)) [
      | true ↦ λ t l. (l, grind arith)
      | false ↦ λ t l. (grind arith, l)
    ] refl h

-- such a decision below `low` is not listed
pub not-listed : (low d : ℕ) (arcs : List CoverArc) → d < low → IsBefore d (least_after low arcs) → lists d arcs ≡ false
not-listed low d [] less h = refl
not-listed low d (arc ∷ arcs) less h =
    elim (nat_lt arc.decision low) as (λ b. nat_lt arc.decision low ≡ b → IsBefore d (cond b (lesser (Some arc.decision) (least_after low arcs)) (least_after (arc.decision + 1) arcs)) → lists d (arc ∷ arcs) ≡ false) [
      | true ↦ λ t g. (
          let parts = before-lesser d arc.decision (least_after low arcs) g in
          let up : d < arc.decision = parts.0 in
          let other : nat_eq arc.decision d ≡ false = grind arith in
          rw other (not-listed low d arcs less parts.1))
      | false ↦ λ t g. (
          let up : low ≤ arc.decision = grind arith in
          let other : nat_eq arc.decision d ≡ false = grind arith in
          rw other (not-listed (arc.decision + 1) d arcs (omega arith) g))
    ] refl h

-- the arc at the place of a walk is that of its decision
pub arc-at : (low d : ℕ) (before : List CoverArc) (arc : CoverArc) (after : List CoverArc) → low ≤ d → Each (λ (a : CoverArc). a.decision < d) before → arc.decision ≡ d → IsBefore d (least_after low (before ++ arc ∷ after)) → arc_for d (before ++ arc ∷ after) ≡ Some arc
arc-at low d [] arc after up all same h =
    let other : nat_lt arc.decision d ≡ false = grind arith in
    let here : nat_eq arc.decision d ≡ true = grind arith in
    let above : nat_lt arc.decision low ≡ false = grind arith in
    let rest : IsBefore d (least_after (arc.decision + 1) after) = subst (λ b. IsBefore d (cond b (lesser (Some arc.decision) (least_after low after)) (least_after (arc.decision + 1) after))) above h in
    let once : lists d after ≡ false = not-listed (arc.decision + 1) d after (omega arith) rest in
    rw (other, here, once) refl
arc-at low d (a ∷ before) arc after up all same h =
    let less : a.decision < d = all.0 in
    let smaller : nat_lt a.decision d ≡ true = grind arith in
    elim (nat_lt a.decision low) as (λ b. nat_lt a.decision low ≡ b → IsBefore d (cond b (lesser (Some a.decision) (least_after low (before ++ arc ∷ after))) (least_after (a.decision + 1) (before ++ arc ∷ after))) → arc_for d (a ∷ (before ++ arc ∷ after)) ≡ Some arc) [
      | true ↦ λ t g. absurd (let parts = before-lesser d a.decision (least_after low (before ++ arc ∷ after)) g in let more = parts.0 in omega arith)
      | false ↦ λ t g. rw smaller (arc-at (a.decision + 1) d before arc after (omega arith) all.1 same g)
    ] refl h

-- where the walk has passed all smaller arcs and the next one is greater, or there is none, the decision is not listed in order
pub arc-missing : (d : ℕ) (before : List CoverArc) (arc : CoverArc) (after : List CoverArc) → Each (λ (a : CoverArc). a.decision < d) before → d < arc.decision → arc_for d (before ++ arc ∷ after) ≡ None
arc-missing d [] arc after all more =
    let other : nat_lt arc.decision d ≡ false = grind arith in
    let differs : nat_eq arc.decision d ≡ false = grind arith in
    rw (other, differs) refl
arc-missing d (a ∷ before) arc after all more =
    let less : a.decision < d = all.0 in
    let smaller : nat_lt a.decision d ≡ true = grind arith in
    rw smaller (arc-missing d before arc after all.1 more)

pub arc-ended : (d : ℕ) (arcs : List CoverArc) → Each (λ (a : CoverArc). a.decision < d) arcs → arc_for d arcs ≡ None
arc-ended d [] all = refl
arc-ended d (a ∷ arcs) all =
    let less : a.decision < d = all.0 in
    let smaller : nat_lt a.decision d ≡ true = grind arith in
    rw smaller (arc-ended d arcs all.1)

pub listed-is : (d : ℕ) (arcs : List CoverArc) → Has d (map (λ (a : CoverArc). a.decision) arcs) → lists d arcs ≡ true
listed-is d [] h = absurd h
listed-is d (arc ∷ arcs) (inl same) = let here : nat_eq arc.decision d ≡ true = grind arith in rw here refl
listed-is d (arc ∷ arcs) (inr later) =
    let rest = listed-is d arcs later in
    elim (nat_eq arc.decision d) as (λ b. (b || lists d arcs) ≡ true) [ true ↦ refl | false ↦ rest ]

pub lesser-is : (m : ℕ) (o : Option ℕ) (b : ℕ) → lesser (Some m) o ≡ Some b → (m ≡ b) ⊎ ((o ≡ Some b) × (b < m))
lesser-is m None b e = inl (let same : Some m ≡ Some b = e in cc)
lesser-is m (Some n) b e =
    elim (nat_le m n) as (λ t. nat_le m n ≡ t → Some (cond t m n) ≡ Some b → (m ≡ b) ⊎ ((Some n ≡ Some b) × (b < m))) [
      | true ↦ λ _ f. inl (let same : Some m ≡ Some b = f in cc)
      | false ↦ λ t f. (let same : n ≡ b = (let g : Some n ≡ Some b = f in cc) in let less : n < m = grind arith in inr (f, omega arith))
    ] refl e

-- an arc that is not smaller than a decision which is listed after it hides that decision
hidden : (b : ℕ) (arc : CoverArc) (arcs : List CoverArc) → b ≤ arc.decision → lists b arcs ≡ true → arc_for b (arc ∷ arcs) ≡ None
hidden b arc arcs low there =
    let smaller : nat_lt arc.decision b ≡ false = grind arith in
    elim (nat_eq arc.decision b) as (λ t. arc_for b (arc ∷ arcs) ≡ cond t (cond (not (lists b arcs)) (Some arc) None) None → arc_for b (arc ∷ arcs) ≡ None) [
      | true ↦ λ e. e ∙ rw there refl
      | false ↦ λ e. e
    ] (rw smaller (elim (nat_eq arc.decision b) as (λ t. cond (t && not (lists b arcs)) (Some arc) None ≡ cond t (cond (not (lists b arcs)) (Some arc) None) None) [ true ↦ refl | false ↦ refl ]))

-- the least decision that stands after one as great is listed, but not in order
pub record IsAfter (low b : ℕ) (arcs : List CoverArc) : Type 0 where
  pub listed : Has b (map (λ (a : CoverArc). a.decision) arcs)
  pub missing : (b < low) ⊎ (arc_for b arcs ≡ None)

pub following-missing : (low : ℕ) (arcs : List CoverArc) (b : ℕ) → least_after low arcs ≡ Some b → IsAfter low b arcs
following-missing low [] b e = absurd (let clash : None ≡ Some b = e in cc)
following-missing low (arc ∷ arcs) b e =
    elim (nat_lt arc.decision low) as (λ t. nat_lt arc.decision low ≡ t → cond t (lesser (Some arc.decision) (least_after low arcs)) (least_after (arc.decision + 1) arcs) ≡ Some b → IsAfter low b (arc ∷ arcs)) [
      | true ↦ λ t f. (
          let under : arc.decision < low = grind arith in
          elim (lesser-is arc.decision (least_after low arcs) b f) as (λ _. IsAfter low b (arc ∷ arcs)) [
            | inl same ↦ record { listed = inl same; missing = inl (omega arith) }
            | inr rest ↦ (let less = rest.1 in record { listed = inr (following-missing low arcs b rest.0).listed; missing = inl (omega arith) })
          ])
      | false ↦ λ t f. (
          let more = following-missing (arc.decision + 1) arcs b f in
          let there = listed-is b arcs more.listed in
          let split : (b ≤ arc.decision) ⊎ (arc.decision < b) = grind arith in
          record {
            listed = inr more.listed;
            missing = elim split as (λ _. (b < low) ⊎ (arc_for b (arc ∷ arcs) ≡ None)) [
              | inl below ↦ inr (hidden b arc arcs below there)
              | inr above ↦ (
                  let smaller : nat_lt arc.decision b ≡ true = grind arith in
                  elim more.missing as (λ _. (b < low) ⊎ (arc_for b (arc ∷ arcs) ≡ None)) [
                    | inl under ↦ absurd (omega arith)
                    | inr none ↦ inr (rw smaller none)
                  ])
            ];
          })
    ] refl e
