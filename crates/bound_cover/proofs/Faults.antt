-- What it says that a test has no failure.
use Rattle.std.proofs.Common.{◌≡◌, ℕ, nat_eq, nat_lt, ℤ, pos, ◌+ℤ◌, ◌≤◌, ◌≤ℤ◌, Bool, true, false, cond, ◌&&◌, List, [], ◌∷◌, length, Option, Some, None, inl, inr, IsTrue, refl, ◌∙◌, ap, subst, arith}
use Rattle.std.proofs.lemmas.Int.{ints}
use Rattle.std.proofs.lemmas.Bool.{and_parts}
use Rattle.dp_model.specs.Dp.{Dp}
use Rattle.dp_model.specs.Gaps.{IsStateOf}
use Rattle.dp_model.specs.NumberLaws.{int_le-is}
use Rattle.dp_model.specs.Numbers.{AtMost, add_some}
use Rattle.dp_model.proofs.Members.{Has}
use Rattle.bound_cover.specs.declared.cover.CoverArc.{CoverArc}
use Rattle.bound_cover.specs.declared.cover.Why.{Why}
use Rattle.bound_cover.specs.declared.cover.Why.TheVariants.{Target}
use Rattle.bound_cover.specs.Covers.{CoverRow}
use Rattle.bound_cover.specs.Tests.{is_at_most, unless, first_of, is_state_row, put_in, with_listed, arc_for, decision_fault, decisions_fault, listed_fault, arc_fault}

pub first-none : (a b : Option Why) → first_of a b ≡ None → (a ≡ None) × (b ≡ None)
first-none None b e = (refl, e)
first-none (Some why) b e = absurd (let clash : Some why ≡ None = e in cc)

pub first-both : (a b : Option Why) → a ≡ None → b ≡ None → first_of a b ≡ None
first-both a b e f = ap (λ o. first_of o b) e ∙ f

pub unless-none : (test : Bool) (why : Why) → unless test why ≡ None → IsTrue test
unless-none true why e = refl
unless-none false why e = absurd (let clash : Some why ≡ None = e in cc)

pub unless-holds : (test : Bool) (why : Why) → IsTrue test → unless test why ≡ None
unless-holds test why h = ap (λ b. unless b why) h

pub cond-none : (test : Bool) (o : Option Why) (why : Why) → cond test o (Some why) ≡ None → IsTrue test × (o ≡ None)
cond-none true o why e = (refl, e)
cond-none false o why e = absurd (let clash : Some why ≡ None = e in cc)

pub cond-holds : (test : Bool) (o other : Option Why) → IsTrue test → o ≡ None → cond test o other ≡ None
cond-holds test o other h e = ap (λ b. cond b o other) h ∙ e

-- what is at most one option is at most another one above it
pub at-most-over : (z : ℤ) (a b : Option ℤ) → AtMost z a → IsTrue (is_at_most a b) → AtMost z b
at-most-over z None b h t = absurd h
at-most-over z (Some a) None h t = absurd (let clash : false ≡ true = t in cc)
at-most-over z (Some a) (Some b) h t =
    let up : a ≤ℤ b = int_le-is a b t in
    let low : z ≤ℤ a = h in omega (arith, ints)

pub add-at-most : (z more : ℤ) (a : Option ℤ) → AtMost more a → AtMost (z +ℤ more) (add_some z a)
add-at-most z more None h = absurd h
add-at-most z more (Some a) h = let low : more ≤ℤ a = h in omega (arith, ints)

pub at-most-below : (y z : ℤ) (a : Option ℤ) → y ≤ℤ z → AtMost z a → AtMost y a
at-most-below y z None h k = absurd k
at-most-below y z (Some a) h k = let low : z ≤ℤ a = k in omega (arith, ints)

pub at-most-zero : (b : Option ℤ) → IsTrue (is_at_most (Some (pos 0)) b) → AtMost (pos 0) b
at-most-zero b t = at-most-over (pos 0) (Some (pos 0)) b (omega (arith, ints)) t

-- the words that are tested are a state
pub state-of-row : (dp : Dp) (k : ℕ) (words : List ℤ) → k ≤ dp.vars → IsTrue (is_state_row dp k words) → IsStateOf dp k words
state-of-row dp k words low h = record { layer = low; test = (and_parts (nat_eq (length words) dp.words) (dp.is_state k words) h).1 }

-- an allowed decision is tested
pub Has-put_in : (d e : ℕ) (es : List ℕ) → Has e es → Has e (put_in d es)
Has-put_in d e [] h = absurd h
Has-put_in d e (x ∷ es) h =
    elim (nat_lt d x) as (λ b. Has e (cond b (d ∷ x ∷ es) (cond (nat_eq d x) (x ∷ es) (x ∷ put_in d es)))) [
      | true ↦ inr h
      | false ↦ elim (nat_eq d x) as (λ b. Has e (cond b (x ∷ es) (x ∷ put_in d es))) [
        | true ↦ h
        | false ↦ elim h as (λ _. Has e (x ∷ put_in d es)) [ inl same ↦ inl same | inr later ↦ inr (Has-put_in d e es later) ]
      ]
    ]

pub Has-with_listed : (allowed : List ℕ) (arcs : List CoverArc) (d : ℕ) → Has d allowed → Has d (with_listed allowed arcs)
Has-with_listed allowed [] d h = h
Has-with_listed allowed (arc ∷ arcs) d h = Has-put_in arc.decision d (with_listed allowed arcs) (Has-with_listed allowed arcs d h)

-- where no decision fails, none of them does
pub decision-of : (dp : Dp) (k i : ℕ) (next : List CoverRow) (row : CoverRow) (arcs : List CoverArc) (ds : List ℕ) → decisions_fault dp k i next row arcs ds ≡ None → (d : ℕ) → Has d ds → decision_fault dp k i next row arcs d ≡ None
decision-of dp k i next row arcs [] e d h = absurd h
decision-of dp k i next row arcs (x ∷ ds) e d (inl same) = subst (λ n. decision_fault dp k i next row arcs n ≡ None) same (first-none (decision_fault dp k i next row arcs x) (decisions_fault dp k i next row arcs ds) e).0
decision-of dp k i next row arcs (x ∷ ds) e d (inr later) = decision-of dp k i next row arcs ds (first-none (decision_fault dp k i next row arcs x) (decisions_fault dp k i next row arcs ds) e).1 d later

-- the arc of a decision that does not fail
pub listed-of : (dp : Dp) (k i : ℕ) (next : List CoverRow) (row : CoverRow) (d : ℕ) (o : Option CoverArc) → listed_fault dp k i next row d o ≡ None → (arc : CoverArc) × (arc_fault dp k i next row d arc.target ≡ None)
listed-of dp k i next row d None e = absurd (let clash : Some (Target k i d) ≡ None = e in cc)
listed-of dp k i next row d (Some arc) e = (arc, e)

pub arc-of : (dp : Dp) (k i : ℕ) (next : List CoverRow) (row : CoverRow) (arcs : List CoverArc) (d : ℕ) → decision_fault dp k i next row arcs d ≡ None → (arc : CoverArc) × (arc_fault dp k i next row d arc.target ≡ None)
arc-of dp k i next row arcs d e =
    let parts = cond-none (nat_lt d (dp.choices k) && dp.allowed k row.words d) (listed_fault dp k i next row d (arc_for d arcs)) _ e in
    listed-of dp k i next row d (arc_for d arcs) parts.1
