-- The turns of the walk as the code makes them.
use Rattle.std.proofs.Common.{◌≡◌, ℕ, ◌+◌, ◌<◌, ◌≤◌, true, false, List, slice_get, Option, Some, None, refl, sym, ◌∙◌, ap, subst, arith, eqb}
use Rattle.std.proofs.lemmas.Bool.{eqb-true}
use Rattle.std.proofs.lemmas.Bool.Decides.{nat_tests}
use Rattle.std.specs.Option.{option_eq, is_some}
use Rattle.dp_model.specs.Dp.{Dp}
use Rattle.bound_cover.specs.declared.cover.CoverArc.{CoverArc}
use Rattle.bound_cover.specs.declared.cover.Why.{Why}
use Rattle.bound_cover.specs.declared.cover.Why.TheVariants.{Target}
use Rattle.bound_cover.specs.Covers.{CoverRow}
use Rattle.bound_cover.specs.Tests.{tested, decisions_fault}
use Rattle.bound_cover.specs.Walking.{least_after, lesser, at_hand, decision_of, step_fault}
use Rattle.bound_cover.proofs.Walking.{rest_fault, IsWalked}
use Rattle.bound_cover.proofs.Walked.{place_after, walks-on, walk-fails, walk-following, walk-ends}

found : (o : Option ℕ) (d : ℕ) → true ≡ option_eq eqb o (Some d) → o ≡ Some d
found None d h = absurd (let clash : true ≡ false = h in cc)
found (Some e) d h = ap (λ n. Some n) (eqb-true e d (sym h))

not-found : (o : Option ℕ) (d : ℕ) → false ≡ option_eq eqb o (Some d) → o ≡ Some d → ⊥
not-found o d h e =
    let same : option_eq eqb o (Some d) ≡ eqb d d = ap (λ x. option_eq eqb x (Some d)) e in
    let self : eqb d d ≡ true = grind (arith, nat_tests) in
    let clash : false ≡ true = h ∙ (same ∙ self) in cc

pub holds-none : {X : Type 0} (o : Option X) → false ≡ is_some o → o ≡ None
holds-none None h = refl
holds-none (Some x) h = absurd (let clash : false ≡ true = h in cc)

holds-some : {X : Type 0} (o : Option X) → true ≡ is_some o → (x : X) × (o ≡ Some x)
holds-some None h = absurd (let clash : true ≡ false = h in cc)
holds-some (Some x) h = (x, refl)

pub turn-following : (dp : Dp) (k i : ℕ) (next : List CoverRow) (row : CoverRow) (arcs : List CoverArc) (place d : ℕ) (following : Option ℕ) → IsWalked dp k i next row arcs place d → following ≡ least_after 0 arcs → true ≡ option_eq eqb following (Some d)
    → Some (Target k i d) ≡ decisions_fault dp k i next row arcs (tested dp k row.words arcs)
turn-following dp k i next row arcs place d following w is h = sym (walk-following dp k i next row arcs place d w (sym is ∙ found following d h))

pub turn-fails : (dp : Dp) (k i : ℕ) (next : List CoverRow) (row : CoverRow) (arcs : List CoverArc) (place d choices : ℕ) (following : Option ℕ) (arc : Option CoverArc) (result : Option Why) → choices ≡ dp.choices k → d < choices → IsWalked dp k i next row arcs place d
    → following ≡ least_after 0 arcs → false ≡ option_eq eqb following (Some d) → arc ≡ at_hand d (slice_get arcs place) → result ≡ step_fault dp k i next row d (dp.allowed k row.words d) arc → true ≡ is_some result
    → result ≡ decisions_fault dp k i next row arcs (tested dp k row.words arcs)
turn-fails dp k i next row arcs place d choices following arc result count less w is h hand step some =
    let why = holds-some result some in
    let inside : d < dp.choices k = subst (λ n. d < n) count less in
    why.1 ∙ sym (walk-fails dp k i next row arcs place d why.0 inside w (λ e. not-found following d h (is ∙ e)) (ap (step_fault dp k i next row d (dp.allowed k row.words d)) (sym hand) ∙ (sym step ∙ why.1)))

pub turn-on : (dp : Dp) (k i : ℕ) (next : List CoverRow) (row : CoverRow) (arcs : List CoverArc) (place d choices : ℕ) (following : Option ℕ) (arc : Option CoverArc) (result : Option Why) → choices ≡ dp.choices k → d < choices → IsWalked dp k i next row arcs place d
    → following ≡ least_after 0 arcs → false ≡ option_eq eqb following (Some d) → arc ≡ at_hand d (slice_get arcs place) → result ≡ step_fault dp k i next row d (dp.allowed k row.words d) arc → false ≡ is_some result
    → IsWalked dp k i next row arcs (place_after place arc) (d + 1)
turn-on dp k i next row arcs place d choices following arc result count less w is h hand step none =
    let inside : d < dp.choices k = subst (λ n. d < n) count less in
    subst (λ o. IsWalked dp k i next row arcs (place_after place o) (d + 1)) (sym hand)
    (walks-on dp k i next row arcs place d inside w (λ e. not-found following d h (is ∙ e)) (ap (step_fault dp k i next row d (dp.allowed k row.words d)) (sym hand) ∙ (sym step ∙ holds-none result none)))

pub after-some : (place : ℕ) (o : Option CoverArc) → true ≡ is_some o → place_after place o ≡ place + 1
after-some place None h = absurd (let clash : true ≡ false = h in cc)
after-some place (Some arc) h = refl

pub after-none : (place : ℕ) (o : Option CoverArc) → false ≡ is_some o → place_after place o ≡ place
after-none place None h = refl
after-none place (Some arc) h = absurd (let clash : false ≡ true = h in cc)

pub turn-ends : (dp : Dp) (k i : ℕ) (next : List CoverRow) (row : CoverRow) (arcs : List CoverArc) (place d choices : ℕ) (following left : Option ℕ) → choices ≡ dp.choices k → d ≤ choices → choices ≤ d → IsWalked dp k i next row arcs place d
    → following ≡ least_after 0 arcs → left ≡ lesser following (decision_of (slice_get arcs place)) → rest_fault k i left ≡ decisions_fault dp k i next row arcs (tested dp k row.words arcs)
turn-ends dp k i next row arcs place d choices following left count low high w is rest =
    let all : dp.choices k ≡ d = omega arith in
    sym (walk-ends dp k i next row arcs place d all w left (ap (λ b. lesser b (decision_of (slice_get arcs place))) (sym is) ∙ sym rest))

pub turn-to : (dp : Dp) (k i : ℕ) (next : List CoverRow) (row : CoverRow) (arcs : List CoverArc) (place n d : ℕ) → place ≡ n → IsWalked dp k i next row arcs place d → IsWalked dp k i next row arcs n d
turn-to dp k i next row arcs place n d e w = subst (λ x. IsWalked dp k i next row arcs x d) e w
