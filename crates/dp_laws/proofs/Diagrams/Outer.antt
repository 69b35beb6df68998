-- The frontier in words.
use Rattle.std.proofs.Common.{◌≡◌, ℕ, suc, ◌+◌, ◌≤◌, nat_lt, nat_eq, ℤ, Bool, true, false, not, cond, ◌&&◌, ◌||◌, List, [], ◌∷◌, ◌++◌, length, filter, drop, Option, inl, inr, IsTrue, refl, sym, ◌∙◌, ap, subst, arith, append_assoc}
use Rattle.dp_model.specs.Decisions.{begins}
use Rattle.dp_model.specs.Dp.{Dp}
use Rattle.dp_model.specs.Laws.{IsLawful}
use Rattle.dp_model.specs.Lists.{Each}
use Rattle.dp_model.specs.Prefixes.{state_of}
use Rattle.dp_model.specs.Rows.{row_same}
use Rattle.dp_model.specs.Subproblem.{Subproblem, IsOwn}
use Rattle.dp_model.proofs.Members.{Has, each-has, each-of-all}
use Rattle.dp_model.proofs.RowLemmas.{begins-is, begins-append, row_same-self, nat_eq-self}
use Rattle.dp_laws.specs.Pairs.{EachTwo}
use Rattle.dp_laws.specs.Children.{is_at}
use Rattle.dp_laws.specs.Diagrams.Nodes.{DdNode}
use Rattle.dp_laws.specs.Diagrams.Seen.{AreLayers}
use Rattle.dp_laws.specs.Diagrams.Cutsets.{passes, outermost}
use Rattle.dp_laws.specs.Diagrams.Outer.{is_below_one, FrontierIsOuter}
use Rattle.dp_laws.proofs.Diagrams.Apart.{not-true, same-length}
use Rattle.dp_laws.proofs.Diagrams.Borders.{border-of, in-turn}
use Rattle.dp_laws.proofs.Diagrams.ChildFacts.{is-child}
use Rattle.dp_laws.proofs.Diagrams.Children.{path_of, all_borders, frontier-are, borders-below}
use Rattle.dp_laws.proofs.Diagrams.Outermost.{StandsBefore, InTurn}
use Rattle.dp_laws.proofs.Diagrams.Starts.{starts}

-- begins goes on
begins-then : (a b c : List ℕ) → IsTrue (begins a b) → IsTrue (begins b c) → IsTrue (begins a c)
begins-then a b c h k =
    let x = begins-is a b h in
    let y = begins-is b c k in
    let whole : c ≡ a ++ (x.0 ++ y.0) = y.1 ∙ (ap (λ l. l ++ y.0) x.1 ∙ append_assoc a x.0 y.0) in
    subst (λ l. IsTrue (begins a l)) (sym whole) (begins-append a (x.0 ++ y.0))

passes-then : (kept : List Subproblem) (b c : List ℕ) → passes path_of kept b ≡ true → IsTrue (begins b c) → passes path_of kept c ≡ true
passes-then [] b c h k = absurd (let clash : false ≡ true = h in cc)
passes-then (a ∷ kept) b c h k =
    elim (begins a.decisions b) as (λ v. begins a.decisions b ≡ v → (v || passes path_of kept b) ≡ true → (begins a.decisions c || passes path_of kept c) ≡ true) [
      | true ↦ λ e h. (let front : begins a.decisions c ≡ true = begins-then a.decisions b c e k in rw front refl)
      | false ↦ λ e h. (let rest = passes-then kept b c h k in elim (begins a.decisions c) as (λ v. (v || passes path_of kept c) ≡ true) [ true ↦ refl | false ↦ rest ])
    ] refl h

passes-append : (xs ys : List Subproblem) (q : List ℕ) → passes path_of (xs ++ ys) q ≡ (passes path_of xs q || passes path_of ys q)
passes-append [] ys q = refl
passes-append (x ∷ xs) ys q =
    let rest = passes-append xs ys q in
    elim (begins x.decisions q) as (λ v. (v || passes path_of (xs ++ ys) q) ≡ ((v || passes path_of xs q) || passes path_of ys q)) [ true ↦ refl | false ↦ rest ]

-- what passes through one of those kept passes through one of all before, and the other way round
abbrev SamePasses : List Subproblem → List Subproblem → Type 0
SamePasses front kept = (q : List ℕ) → passes path_of front q ≡ passes path_of kept q

or-turned : (a b : Bool) → (a || (b || false)) ≡ (b || a)
or-turned true true = refl
or-turned true false = refl
or-turned false true = refl
or-turned false false = refl

dropped : (front kept : List Subproblem) (c : Subproblem) → SamePasses front kept → passes path_of kept c.decisions ≡ true → SamePasses (front ++ c ∷ []) kept
dropped front kept c same e q =
    passes-append front (c ∷ []) q ∙ (or-turned (passes path_of front q) (begins c.decisions q) ∙
    elim (begins c.decisions q) as (λ v. begins c.decisions q ≡ v → (v || passes path_of front q) ≡ passes path_of kept q) [
      | true ↦ λ f. sym (passes-then kept c.decisions q e f)
      | false ↦ λ f. same q
    ] refl)

added : (front kept : List Subproblem) (c : Subproblem) → SamePasses front kept → SamePasses (front ++ c ∷ []) (c ∷ kept)
added front kept c same q =
    passes-append front (c ∷ []) q ∙ (or-turned (passes path_of front q) (begins c.decisions q) ∙ ap (λ v. begins c.decisions q || v) (same q))

-- of two the first is no deeper, and does not begin the other one where they are as deep
pub record Stands (a b : Subproblem) : Type 0 where
  pub shallower : length a.decisions ≤ length b.decisions
  pub apart : length a.decisions ≡ length b.decisions → begins a.decisions b.decisions ≡ false

-- those before: a proper prefix is one that it passes through
before-same : (front : List Subproblem) (c : Subproblem) → Each (λ o. Stands o c) front → is_below_one front c ≡ passes path_of front c.decisions
before-same [] c h = refl
before-same (o ∷ front) c h =
    let rest = before-same front c h.1 in
    let low = h.0.shallower in
    let one : (nat_lt (length o.decisions) (length c.decisions) && begins o.decisions c.decisions) ≡ begins o.decisions c.decisions =
    elim (nat_lt (length o.decisions) (length c.decisions)) as (λ v. nat_lt (length o.decisions) (length c.decisions) ≡ v → (v && begins o.decisions c.decisions) ≡ begins o.decisions c.decisions) [
      | true ↦ λ e. refl
      | false ↦ λ e. (let same : length o.decisions ≡ length c.decisions = grind arith in sym (h.0.apart same))
    ] refl in
    ap (λ v. v || is_below_one front c) one ∙ ap (λ v. begins o.decisions c.decisions || v) rest

-- those after are no proper prefixes
following-none : (rest : List Subproblem) (c : Subproblem) → Each (λ o. length c.decisions ≤ length o.decisions) rest → is_below_one rest c ≡ false
following-none [] c h = refl
following-none (o ∷ rest) c h =
    let later = following-none rest c h.1 in
    let low = h.0 in
    let long : nat_lt (length o.decisions) (length c.decisions) ≡ false = grind arith in
    rw (long, later) refl

below-append : (xs ys : List Subproblem) (c : Subproblem) → is_below_one (xs ++ ys) c ≡ (is_below_one xs c || is_below_one ys c)
below-append [] ys c = refl
below-append (x ∷ xs) ys c =
    let rest = below-append xs ys c in
    elim (nat_lt (length x.decisions) (length c.decisions) && begins x.decisions c.decisions) as (λ v. (v || is_below_one (xs ++ ys) c) ≡ ((v || is_below_one xs c) || is_below_one ys c)) [ true ↦ refl | false ↦ rest ]

has-following : {X : Type 0} (xs : List X) (y : X) (ys : List X) → Has y (xs ++ y ∷ ys)
has-following [] y ys = inl refl
has-following (x ∷ xs) y ys = inr (has-following xs y ys)

two-parts : {X : Type 0} (R : X → X → Type 0) (xs : List X) (y : X) (ys : List X) → EachTwo R (xs ++ y ∷ ys) → Each (λ x. R x y) xs × Each (R y) ys
two-parts R [] y ys h = (tt, h.0)
two-parts R (x ∷ xs) y ys h = let rest = two-parts R xs y ys h.1 in ((each-has (R x) (xs ++ y ∷ ys) y h.0 (has-following xs y ys), rest.0), rest.1)

each-then : (c : Subproblem) (cs : List Subproblem) → Each (Stands c) cs → Each (λ o. length c.decisions ≤ length o.decisions) cs
each-then c [] h = tt
each-then c (o ∷ cs) h = (h.0.shallower, each-then c cs h.1)

or-none : (a b : Bool) → b ≡ false → (a || b) ≡ a
or-none true b e = refl
or-none false b e = e

-- what is left of the rest, where all before are known
outer : (whole front kept cs : List Subproblem) → whole ≡ front ++ cs → EachTwo Stands whole → SamePasses front kept → outermost path_of kept cs ≡ filter (λ c. not (is_below_one whole c)) cs
outer whole front kept [] are two same = refl
outer whole front kept (c ∷ cs) are two same =
    let parts = two-parts Stands front c cs (subst (EachTwo Stands) are two) in
    let none : is_below_one (c ∷ cs) c ≡ false = following-none (c ∷ cs) c (omega arith, each-then c cs parts.1) in
    let test : is_below_one whole c ≡ passes path_of kept c.decisions =
    ap (λ l. is_below_one l c) are ∙ (below-append front (c ∷ cs) c ∙ (or-none (is_below_one front c) (is_below_one (c ∷ cs) c) none ∙ (before-same front c parts.0 ∙ same c.decisions))) in
    let next : whole ≡ (front ++ c ∷ []) ++ cs = are ∙ sym (append_assoc front (c ∷ []) cs) in
    let left : List Subproblem → List Subproblem = λ cs. filter (λ x. not (is_below_one whole x)) cs in
    subst (λ v. outermost path_of kept (c ∷ cs) ≡ cond (not v) (c ∷ left cs) (left cs)) (sym test)
    (elim (passes path_of kept c.decisions) as (λ v. passes path_of kept c.decisions ≡ v → cond v (outermost path_of kept cs) (c ∷ outermost path_of (c ∷ kept) cs) ≡ cond (not v) (c ∷ left cs) (left cs)) [
      | true ↦ λ e. outer whole (front ++ c ∷ []) kept cs next two (dropped front kept c same e)
      | false ↦ λ e. ap (λ l. c ∷ l) (outer whole (front ++ c ∷ []) (c ∷ kept) cs next two (added front kept c same))
    ] refl)

-- The borders of a diagram stand so.

stands-of : (dp : Dp) (c d : Subproblem) → IsOwn dp c → IsOwn dp d → StandsBefore c d → Stands c d
stands-of dp c d oc od before = record {
  shallower = before.shallower;
  apart = λ long. not-true (begins c.decisions d.decisions) (λ h.
      let same : c.decisions ≡ d.decisions = same-length c.decisions d.decisions long h in
      let rows : d.row ≡ c.row = od.row ∙ (ap (state_of dp) (sym same) ∙ sym oc.row) in
      let depth : nat_eq (length d.decisions) (length c.decisions) ≡ true = subst (λ n. nat_eq n (length c.decisions) ≡ true) long (nat_eq-self (length c.decisions)) in
      let row : row_same d.row c.row ≡ true = subst (λ r. row_same r c.row ≡ true) (sym rows) (row_same-self c.row) in
      let place : is_at (length c.decisions) c.row d ≡ true = rw (depth, row) refl in
      let clash : true ≡ false = sym place ∙ before.other in cc);
}

two-of : (dp : Dp) (cs : List Subproblem) → ((c : Subproblem) → Has c cs → IsOwn dp c) → InTurn cs → EachTwo Stands cs
two-of dp [] own turn = tt
two-of dp (c ∷ cs) own turn =
    (each-of-all (Stands c) cs (λ o has. stands-of dp c o (own c (inl refl)) (own o (inr has)) (each-has (StandsBefore c) cs o turn.0 has)), two-of dp cs (λ o has. own o (inr has)) turn.1)

outer-below : (dp : Dp) → IsLawful dp → (p : List ℕ) (w : ℕ) (t : Option ℤ) (root : DdNode) (more : List (List DdNode)) → AreLayers dp p w t (length p) ((root ∷ []) ∷ more) → length p + length more ≡ dp.vars
    → outermost path_of [] (all_borders dp (length p + 1) more) ≡ filter (λ c. not (is_below_one (all_borders dp (length p + 1) more) c)) (all_borders dp (length p + 1) more)
outer-below dp laws p w t root [] all e = refl
outer-below dp laws p w t root (next ∷ rest) all e =
    let k = length p in
    let cs = all_borders dp (k + 1) (next ∷ rest) in
    let e' : k + 1 + length rest ≡ dp.vars = omega arith in
    let own : (c : Subproblem) → Has c cs → IsOwn dp c = λ c has. (
    let b = border-of dp laws p w t (k + 1) next rest all.1 e' c has in
    let low = b.below_first in
    (is-child dp p b.depth b.node c b.reached b.child (omega arith) b.above_last).own) in
    outer cs [] [] cs refl (two-of dp cs own (in-turn dp laws p w t (k + 1) next rest all.1 e')) (λ q. refl)

pub frontier-outer : (dp : Dp) → FrontierIsOuter dp
frontier-outer dp p w t d laws short h =
    let start = starts dp p w t d h short in
    let all : AreLayers dp p w t (length p) ((start.root ∷ []) ∷ start.more) = subst (λ ds. AreLayers dp p w t (length p) ds) start.are h.layer in
    let long = h.depth in
    let count : length d.layers ≡ suc (length start.more) = ap length start.are in
    let below : drop 1 d.layers ≡ start.more = ap (λ ds. drop 1 ds) start.are in
    let Goal : List Subproblem → Type 0 = λ bs. outermost path_of [] bs ≡ filter (λ c. not (is_below_one bs c)) bs in
    let base : Goal (all_borders dp (length p + 1) start.more) = outer-below dp laws p w t start.root start.more all (omega arith) in
    let here : Goal (all_borders dp (d.first + 1) (drop 1 d.layers)) = subst (λ ms. Goal (all_borders dp (d.first + 1) ms)) (sym below) (subst (λ n. Goal (all_borders dp (n + 1) start.more)) (sym h.first) base) in
    frontier-are dp d ∙ subst (λ bs. outermost path_of [] (all_borders dp (d.first + 1) (drop 1 d.layers)) ≡ filter (λ c. not (is_below_one bs c)) bs) (sym (borders-below dp d)) here
