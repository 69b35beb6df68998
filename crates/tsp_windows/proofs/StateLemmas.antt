-- What the code reads of a row that is a state.
use Rattle.std.proofs.Common.{zero, suc, cond, min, Option, ◌≡◌, ℕ, ◌+◌, ◌-◌, ◌<◌, ◌≤◌, ℤ, Bool, true, false, not, ◌&&◌, ◌||◌, nat_eq, nat_le, List, length, take, drop, Some, None, ◌≢◌, refl, sym, ap, ap₂, ◌∙◌, arith, inl, inr, ◌⊎◌, eq-eqb}
use Rattle.std.specs.Prelude.{is_some, unwrap_or}
use Rattle.std.proofs.lemmas.Bool.{cases_eq, cases_lt, false≢true, and_parts, not-true, cases_Bool, ne_eqb, lt-leb}
use Rattle.std.proofs.lemmas.List.{length-drop, take_all}
use Rattle.std.proofs.lemmas.Bool.Decides.{same_from_decides}
use Rattle.node_sets.specs.Sums.{all_below, lesser, least_amount}
use Rattle.node_sets.specs.Sets.{IsLeastFrom, IsSet, has, is_set, words_for}
use Rattle.node_sets.proofs.Below.{all_below-gives, all_below-from, least_amount-same, least_amount-next, least_amount-none}
use Rattle.node_sets.proofs.Counts.{is_set-gives}
use Rattle.pending_rows.specs.Pending as rows
use Rattle.pending_rows.specs.Pending.{Pending, is_open, is_within, is_pending_row}
use Rattle.pending_rows.proofs.Covering.{within-gives, within-from}
use Rattle.pending_rows.proofs.RowStates.{inside_set}
use Rattle.pending_rows.proofs.Tests as row_tests
use Rattle.pending_rows.proofs.Tests.{by_cases}
use Rattle.tsp_windows.specs.States.{TourState, positions_of, pending_of, shown, leg, arrival, may_visit, may_return, covers, is_sound, is_state_row}
use Rattle.tsp_windows.specs.Instance.{Instance, closing, near}
use Rattle.tsp_windows.specs.FromHome.{IsFromHome}
use Rattle.tsp_windows.specs.Laws.Moves.{IsSoundState, near-le-arrival, all_below-not, sound-gives, sound-from}

and_no : (a b : Bool) → b ≡ false → (a && b) ≡ false
and_no true b e = e
and_no false b e = refl

no_and : (a b : Bool) → a ≡ false → (a && b) ≡ false
no_and true b e = absurd (false≢true (sym e))
no_and false b e = refl

-- ---- parts as shown

pub must-shown : (w : ℕ) (s m : List ℤ) (v : ℕ) → m ≡ rows.must_of w (pending_of w s) → has m v ≡ (shown w s).pending.must v
unfolding shown
must-shown w s m v e = row_tests.must-shown w (pending_of w s) m v e

pub positions-shown : (w : ℕ) (s m : List ℤ) (v : ℕ) → m ≡ positions_of w s → has m v ≡ (shown w s).positions v
unfolding shown
positions-shown w s m v e = ap (λ r. has r v) e

-- the pending part of a row stands for that of its state
pub pending-shown : (w : ℕ) (s r : List ℤ) → r ≡ pending_of w s → rows.shown w r ≡ (shown w s).pending
unfolding shown
pending-shown w s r e = ap (rows.shown w) e

-- what stands after the first cells of a row
pub rest_of : (w words : ℕ) (s : List ℤ) → words ≡ w → take (length s - words) (drop words s) ≡ drop w s
rest_of w words s e =
    let following = length-drop words s in
    take_all (length s - words) (drop words s) (omega (arith, following)) ∙ ap (λ k. drop k s) e

pub pending-row : (n : ℕ) (s : List ℤ) → is_state_row n s ≡ true → is_pending_row n (pending_of (words_for n) s) ≡ true
pending-row n s e =
    (and_parts (is_pending_row n (pending_of (words_for n) s)) _ (and_parts (is_set n (positions_of (words_for n) s)) _ e).1).0

-- ---- what the tests of sets tell of states

pub pending_no : (n : ℕ) (a b : TourState) (x y : Pending) {r : Bool} → r ≡ rows.covers n x y → x ≡ a.pending → y ≡ b.pending → r ≡ false → covers n a b ≡ false
pending_no n a b x y is e f fails = no_and (rows.covers n a.pending b.pending) _ (sym (is ∙ ap₂ (rows.covers n) e f) ∙ fails)

pub positions_cover : (n w : ℕ) (a s p q : List ℤ) (x y : Pending) {b r : Bool} → p ≡ positions_of w s → q ≡ positions_of w a → IsSet n p
    → b ≡ rows.covers n x y → x ≡ (shown w a).pending → y ≡ (shown w s).pending → b ≡ true
    → (r ≡ true → (v : ℕ) → has p v ≡ true → has q v ≡ true) → (((v : ℕ) → has p v ≡ true → has q v ≡ true) → r ≡ true) → r ≡ covers n (shown w a) (shown w s)
unfolding shown
positions_cover n w a s p q x y {b} {r} e f set is g h holds to from =
    same_from_decides {P = (v : ℕ) → v < n → has (positions_of w s) v ≡ true → has (positions_of w a) v ≡ true} r (is_within n (has (positions_of w s)) (has (positions_of w a))) (
      (λ t v l k. ap (λ x. has x v) (sym f) ∙ to t v (ap (λ x. has x v) e ∙ k)),
      (λ c. from (λ v k. ap (λ x. has x v) f ∙ c v (inside_set n p v set k) (ap (λ x. has x v) (sym e) ∙ k))),
    )
    (within-gives n (has (positions_of w s)) (has (positions_of w a)), within-from n (has (positions_of w s)) (has (positions_of w a)))
    ∙ sym (ap (λ t. t && is_within n (has (positions_of w s)) (has (positions_of w a))) (sym (is ∙ ap₂ (rows.covers n) g h) ∙ holds))

-- ---- the test of a state

home_sound : (n w : ℕ) (s p m y : List ℤ) → p ≡ positions_of w s → m ≡ rows.must_of w (pending_of w s) → y ≡ rows.may_of w (pending_of w s) → IsSet n p → IsFromHome p m y → IsSoundState n (shown w s)
unfolding shown
home_sound n w s p m y e f g set h = record {
  position = some.0;
  inside = some.1;
  there = ap (λ x. has x some.0) (sym e) ∙ some.2;
  no_must = sym (row_tests.must-shown w (pending_of w s) m 0 f) ∙ h.no_must;
  no_may = sym (row_tests.may-shown w (pending_of w s) y 0 g) ∙ h.no_may;
}
  where
    here : (b : Bool) → not b ≡ false → b ≡ true
    here true k = refl
    here false k = absurd (false≢true (sym k))

    seek : (all_below n (λ v. not (has p v)) ≡ true) ⊎ (all_below n (λ v. not (has p v)) ≡ false) → (v : ℕ) × (v < n) × (has p v ≡ true)
    seek (inl a) = absurd (h.some (λ v. elim (cases_lt v n) [ inl l ↦ not-true (has p v) (all_below-gives n (λ v. not (has p v)) a v l) | inr l ↦ set.within v l ]))
    seek (inr a) = let found = all_below-not n (λ v. not (has p v)) a in (found.0, found.1, here (has p found.0) found.2)

    some : (v : ℕ) × (v < n) × (has p v ≡ true)
    some = seek (cases_Bool (all_below n (λ v. not (has p v))))

sound_home : (n w : ℕ) (s p m y : List ℤ) → p ≡ positions_of w s → m ≡ rows.must_of w (pending_of w s) → y ≡ rows.may_of w (pending_of w s) → IsSoundState n (shown w s) → IsFromHome p m y
unfolding shown
sound_home n w s p m y e f g h = record {
  some = λ none. false≢true (sym (none h.position) ∙ ap (λ x. has x h.position) e ∙ h.there);
  no_must = row_tests.must-shown w (pending_of w s) m 0 f ∙ h.no_must;
  no_may = row_tests.may-shown w (pending_of w s) y 0 g ∙ h.no_may;
}

-- a row of which one part is none
pub no_positions : (n : ℕ) (s p : List ℤ) → p ≡ positions_of (words_for n) s → is_set n p ≡ false → is_state_row n s ≡ false
no_positions n s p e fails = no_and (is_set n (positions_of (words_for n) s)) _ (rw e at fails)

pub no_pending : (n : ℕ) (s r : List ℤ) → r ≡ pending_of (words_for n) s → is_pending_row n r ≡ false → is_state_row n s ≡ false
no_pending n s r e fails = and_no (is_set n (positions_of (words_for n) s)) _ (no_and (is_pending_row n (pending_of (words_for n) s)) _ (rw e at fails))

-- what is left of the test where both are right
pub state_last : (n : ℕ) (s p m y : List ℤ) {r : Bool} → p ≡ positions_of (words_for n) s → m ≡ rows.must_of (words_for n) (pending_of (words_for n) s) → y ≡ rows.may_of (words_for n) (pending_of (words_for n) s)
    → is_set n p ≡ true → is_pending_row n (pending_of (words_for n) s) ≡ true → (r ≡ true → IsFromHome p m y) → (IsFromHome p m y → r ≡ true) → r ≡ is_state_row n s
state_last n s p m y {r} e f g ps rest to from =
    same_from_decides {P = IsSoundState n (shown (words_for n) s)} r (is_sound n (shown (words_for n) s)) (
      (λ t. home_sound n (words_for n) s p m y e f g (is_set-gives n p ps) (to t)),
      (λ h. from (sound_home n (words_for n) s p m y e f g h)),
    )
    (sound-gives n (shown (words_for n) s), sound-from n (shown (words_for n) s))
    ∙ sym (ap₂ ◌&&◌ (ap (is_set n) (sym e) ∙ ps) (ap (λ b. b && is_sound n (shown (words_for n) s)) rest))

-- ---- decisions

pub visit_no : (i : Instance) (t : TourState) (d : ℕ) → (is_open t.pending d) ≡ false → may_visit i t d ≡ false
visit_no i t d e = and_no (not (nat_eq d 0)) _ (no_and (is_open t.pending d) _ e)

-- node 0 is none that must or may be visited
pub open_elsewhere : (n : ℕ) (t : TourState) (d : ℕ) → IsSoundState n t → is_open t.pending d ≡ true → d ≢ 0
open_elsewhere n t d sound there home = false≢true (sym (ap₂ ◌||◌ sound.no_must sound.no_may) ∙ ap (is_open t.pending) (sym home) ∙ there)

-- a node that is not reached in time even on its least way
pub visit_late : (i : Instance) (t : TourState) (d time moment : ℕ) → time ≡ t.pending.time → moment ≡ (closing i d + 1) - near i d → moment ≤ time → may_visit i t d ≡ false
visit_late i t d time moment e m late =
    and_no (not (nat_eq d 0)) _ (and_no (is_open t.pending d) _ (elim (cases_Bool (is_some (leg i t d))) [
      | inl s ↦ and_no (is_some (leg i t d)) _ (let least = near-le-arrival i t d s in lt-leb (arrival i t d) (closing i d) (omega (arith, e, m, late, least)))
      | inr s ↦ no_and (is_some (leg i t d)) _ s
    ]))

pub visit_some : (i : Instance) (t : TourState) (d way : ℕ) → d ≢ 0 → (is_open t.pending d) ≡ true → leg i t d ≡ Some way → nat_le (t.pending.time + way) (closing i d) ≡ may_visit i t d
visit_some i t d way n e l =
    sym (ap₂ ◌&&◌ (ap not (ne_eqb d 0 n)) (ap₂ ◌&&◌ e (ap (λ o. is_some o && nat_le (t.pending.time + unwrap_or o 0) (closing i d)) l)))

pub return_no : (i : Instance) (t : TourState) (d : ℕ) → (((v : ℕ) → v < i.nodes → t.pending.must v ≡ false) → ⊥) → may_return i t d ≡ false
return_no i t d h =
    and_no (nat_eq d 0) _ (no_and (all_below i.nodes (λ v. not (t.pending.must v))) _ (by_cases (all_below i.nodes (λ v. not (t.pending.must v))) (λ a. h (λ v l. not-true (t.pending.must v) (all_below-gives i.nodes (λ v. not (t.pending.must v)) a v l)))))

pub return_some : (i : Instance) (t : TourState) (d way : ℕ) → d ≡ 0 → ((v : ℕ) → v < i.nodes → t.pending.must v ≡ false) → leg i t d ≡ Some way → nat_le (t.pending.time + way) (closing i d) ≡ may_return i t d
return_some i t d way n e l =
    sym (ap₂ ◌&&◌ (eq-eqb d 0 n) (ap₂ ◌&&◌ (all_below-from i.nodes (λ v. not (t.pending.must v)) (λ v l. ap not (e v l))) (ap (λ o. (is_some o || nat_eq i.nodes 1) && nat_le (t.pending.time + unwrap_or o 0) (closing i d)) l)))

-- another node than 0 is no return
pub return_elsewhere : (i : Instance) (t : TourState) (d : ℕ) → d ≢ 0 → may_return i t d ≡ false
return_elsewhere i t d n = no_and (nat_eq d 0) _ (ne_eqb d 0 n)

-- a return from no position but the node itself
pub return_alone : (i : Instance) (t : TourState) (d : ℕ) → d ≡ 0 → ((v : ℕ) → v < i.nodes → t.pending.must v ≡ false) → leg i t d ≡ None → i.nodes ≡ 1 → nat_le t.pending.time (closing i d) ≡ may_return i t d
return_alone i t d n e l one =
    let same : t.pending.time ≡ t.pending.time + 0 = omega arith in
    ap (λ at. nat_le at (closing i d)) same
    ∙ sym (ap₂ ◌&&◌ (eq-eqb d 0 n) (ap₂ ◌&&◌ (all_below-from i.nodes (λ v. not (t.pending.must v)) (λ v l. ap not (e v l))) (ap₂ (λ o b. (is_some o || b) && nat_le (t.pending.time + unwrap_or o 0) (closing i d)) l (eq-eqb i.nodes 1 one))))

pub return_nowhere : (i : Instance) (t : TourState) (d : ℕ) → leg i t d ≡ None → i.nodes ≢ 1 → may_return i t d ≡ false
return_nowhere i t d l more =
    and_no (nat_eq d 0) _ (and_no (all_below i.nodes (λ v. not (t.pending.must v))) _ (no_and (is_some (leg i t d) || nat_eq i.nodes 1) _ (ap₂ (λ o b. is_some o || b) l (ne_eqb i.nodes 1 more))))

least_kept : (b : Bool) (n v : ℕ) (o : Option ℕ) → v ≤ n → o ≡ Some v → cond b (lesser n o) o ≡ Some v
least_kept b n v o l e = ap (λ o. cond b (lesser n o) o) e ∙ (elim b as (λ b. cond b (Some (min v n)) (Some v) ≡ Some v) [ true ↦ (let m : min v n ≡ v = omega arith in ap Some m) | false ↦ refl ])

least_is : (n : ℕ) (p : List ℤ) (v : ℕ) → v < n → IsLeastFrom (has p) 0 v → least_amount n (has p) (λ q. q) ≡ Some v
least_is zero p v l next = absurd (omega arith)
least_is (suc n) p v l next =
    elim (cases_eq v n) [
      | inl s ↦ ap (λ k. least_amount k (has p) (λ q. q)) (let e : suc n ≡ v + 1 = omega arith in e) ∙ least_amount-next 0 v (has p) (λ q. q) (omega arith) (λ u a b. next.skipped u a b) next.passes
      | inr s ↦ least_kept (has p n) n v (least_amount n (has p) (λ q. q)) (omega arith) (least_is n p v (omega arith) next)
    ]

-- the least position
pub least_position : (n w : ℕ) (s p : List ℤ) (v : ℕ) → p ≡ positions_of w s → IsSet n p → IsLeastFrom (has p) 0 v → v ≡ unwrap_or (least_amount n (shown w s).positions (λ q. q)) 0
least_position n w s p v e set next =
    let inside = inside_set n p v set next.passes in
    sym (ap (λ o. unwrap_or o 0) (least_amount-same n (shown w s).positions (has p) (λ q. q) (λ u l. sym (positions-shown w s p u e)) ∙ least_is n p v inside next))

pub no_position : (n w : ℕ) (s p : List ℤ) → p ≡ positions_of w s → ((v : ℕ) → has p v ≡ false) → 0 ≡ unwrap_or (least_amount n (shown w s).positions (λ q. q)) 0
no_position n w s p e none = sym (ap (λ o. unwrap_or o 0) (least_amount-none n (shown w s).positions (λ q. q) (λ u l. sym (positions-shown w s p u e) ∙ none u)))
