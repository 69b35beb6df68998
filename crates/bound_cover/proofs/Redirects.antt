-- Arcs that are sent to rows of other diagrams, as a joined cover has them.
use Rattle.std.proofs.Common.{◌≡◌, ℕ, ◌+◌, ◌<◌, ℤ, ◌+ℤ◌, ◌-ℤ◌, ◌≤ℤ◌, true, false, List, Option, Some, None, IsTrue, refl, sym, subst, arith}
use Rattle.std.proofs.lemmas.Int.{ints}
use Rattle.dp_model.specs.Dp.{Dp}
use Rattle.dp_model.specs.Gaps.{IsStateOf, HasGapWithin}
use Rattle.dp_model.specs.Laws.{IsLawful, IsChained}
use Rattle.dp_model.specs.NumberLaws.{int_le-is, int_le-from}
use Rattle.dp_model.specs.Numbers.{add_some}
use Rattle.bound_cover.specs.declared.cover.Why.TheVariants.{Arc, Target}
use Rattle.bound_cover.specs.Covers.{CoverRow}
use Rattle.bound_cover.specs.Tests.{is_at_most, is_state_row, gap_fault, row_arc_fault}
use Rattle.bound_cover.specs.Exploring.{rest_of}
use Rattle.bound_cover.proofs.Faults.{unless-holds, cond-holds}
use Rattle.bound_cover.proofs.Claims.{at-most-through}
use Rattle.bound_cover.proofs.NodeRows.{state-row}

-- the row of a keeper, a dominator or a replacer of a node: its state covers the node's within the difference of the values,
-- and it claims at most best less its own value
pub record StandsFor (dp : Dp) (best : Option ℤ) (k : ℕ) (target : List ℤ) (value : ℤ) (r : CoverRow) : Type 0 where
  pub state : IsStateOf dp k r.words
  pub gap : ℤ
  pub is : dp.gap k r.words target ≡ Some gap
  pub worth : ℤ
  pub enough : (value +ℤ gap) ≤ℤ worth
  pub claim : IsTrue (is_at_most r.bound (rest_of best worth))

rest-through : (best : Option ℤ) (v gain gap longer over between within worth : ℤ) → gap ≤ℤ (between +ℤ within) → within ≤ℤ longer → (v +ℤ (gain +ℤ longer)) ≤ℤ over → (over +ℤ between) ≤ℤ worth
    → IsTrue (is_at_most (add_some (gain +ℤ gap) (rest_of best worth)) (rest_of best v))
rest-through None v gain gap longer over between within worth a b c d = refl
rest-through (Some top) v gain gap longer over between within worth a b c d = int_le-from ((gain +ℤ gap) +ℤ (top -ℤ worth)) (top -ℤ v) (omega (arith, ints))

add-through : (z : ℤ) (a b : Option ℤ) → IsTrue (is_at_most a b) → IsTrue (is_at_most (add_some z a) (add_some z b))
add-through z None b h = refl
add-through z (Some a) None h = absurd (let clash : false ≡ true = h in cc)
add-through z (Some a) (Some b) h = let low : a ≤ℤ b = int_le-is a b h in int_le-from (z +ℤ a) (z +ℤ b) (omega (arith, ints))

-- the arc of a row passes when it is sent to such a row in place of the node's own; this is where the chain of gaps is needed
pub redirected : (dp : Dp) → IsLawful dp → IsChained dp → (best : Option ℤ) (k i d : ℕ) (row r : CoverRow) → k < dp.vars → (value over longer within : ℤ) (target : List ℤ)
    → IsTrue (is_at_most (rest_of best value) row.bound) → IsStateOf dp (k + 1) (dp.step k row.words d) → IsStateOf dp (k + 1) target
    → dp.gap (k + 1) target (dp.step k row.words d) ≡ Some within → within ≤ℤ longer → (value +ℤ (dp.gain k row.words d +ℤ longer)) ≤ℤ over → StandsFor dp best (k + 1) target over r → row_arc_fault dp k i row d (Some r) ≡ None
redirected dp laws chained best k i d row r short value over longer within target rest of-step of-target is low reached s =
    let step = dp.step k row.words d in
    let gain = dp.gain k row.words d in
    let h : HasGapWithin dp (k + 1) r.words step (s.gap +ℤ within) = chained (k + 1) r.words target step s.gap within s.state of-target of-step s.is is in
    let first = add-through (gain +ℤ h.gap) r.bound (rest_of best s.worth) s.claim in
    let second = rest-through best value gain h.gap longer over s.gap within s.worth h.within low reached s.enough in
    let test = at-most-through (add_some (gain +ℤ h.gap) r.bound) (add_some (gain +ℤ h.gap) (rest_of best s.worth)) row.bound first (at-most-through (add_some (gain +ℤ h.gap) (rest_of best s.worth)) (rest_of best value) row.bound second rest) in
    let fine : gap_fault k i d row.bound gain (Some h.gap) r.bound ≡ None = unless-holds (is_at_most (add_some (gain +ℤ h.gap) r.bound) row.bound) (Arc k i d) test in
    cond-holds (is_state_row dp (k + 1) r.words) (gap_fault k i d row.bound gain (dp.gap (k + 1) r.words step) r.bound) (Some (Target k i d)) (state-row dp laws (k + 1) r.words s.state)
    (subst (λ o. gap_fault k i d row.bound gain o r.bound ≡ None) (sym h.is) fine)
