-- What is still to be pushed while a board is restored.
use Rattle.std.proofs.Common.{◌≡◌, ◌≢◌, ℕ, ◌+◌, ◌<◌, ◌≤◌, ℤ, true, false, cond, List, [], ◌∷◌, length, Option, refl, sym, ◌∙◌, ap, subst, arith}
use Rattle.std.proofs.lemmas.List.{length-map}
use Rattle.dp_model.specs.Dp.{Dp}
use Rattle.dp_model.specs.Laws.{IsLawful}
use Rattle.dp_model.specs.Lists.{Each}
use Rattle.dp_model.specs.Numbers.{is_above}
use Rattle.dp_model.specs.Subproblem.{IsOwn, SubView}
use Rattle.dp_model.proofs.Members.{Each-then}
use Rattle.dp_laws.specs.Pairs.{EachTwo}
use Rattle.fringe.specs.Pushing.{after_push}
use Rattle.fringe.specs.Tickets.{Ticketed, IsEarlier}
use Rattle.board_laws.specs.Restoring.{pushed_above}
use Rattle.board_laws.specs.Steps.{back_among}
use Rattle.board.specs.Opened.{ticketed}
use Rattle.board.proofs.Entered.{each-push}
use Rattle.board.proofs.Keeping.{own-cells}

-- what is still to be pushed, and what is wanted in the end
pub record IsRestoring (goal : List Ticketed) (reach : Option ℤ) (others os : List Ticketed) (words spare : ℕ) : Type 0 where
  pub pushed : pushed_above reach os others ≡ goal
  pub later : Each (λ o. Each (IsEarlier o) others) os
  pub ordered : EachTwo IsEarlier others
  pub cells : Each (λ o. length o.subproblem.row ≡ words) others
  pub room : length others ≤ spare

each-among : (P : Ticketed → Type 0) (reach : Option ℤ) (o : Ticketed) (os : List Ticketed) → P o → Each P os → Each P (back_among reach o os)
each-among P reach o os one h = elim (is_above reach o.subproblem.bound) as (λ b. Each P (cond b (after_push o os) os)) [ true ↦ each-push P o os one h | false ↦ h ]

-- no open one has the ticket of the first
pub new-ticket : (goal : List Ticketed) (reach : Option ℤ) (o : Ticketed) (others os : List Ticketed) (words spare : ℕ) → IsRestoring goal reach (o ∷ others) os words spare → Each (λ x. x.ticket ≢ o.ticket) os
new-ticket goal reach o others os words spare e =
    Each-then (λ x. Each (IsEarlier x) (o ∷ others)) (λ x. x.ticket ≢ o.ticket) os (λ x h. let less : x.ticket < o.ticket = h.0 in omega arith) e.later

-- the first of them is pushed
pub restore-one : (goal : List Ticketed) (reach : Option ℤ) (o : Ticketed) (others os new : List Ticketed) (words words_new spare spare_new : ℕ) → new ≡ back_among reach o os → words_new ≡ words → spare ≤ spare_new + 1
    → IsRestoring goal reach (o ∷ others) os words spare → IsRestoring goal reach others new words_new spare_new
restore-one goal reach o others os new words words_new spare spare_new is same less e = record {
  pushed = ap (λ l. pushed_above reach l others) is ∙ e.pushed;
  later = subst (λ (l : List Ticketed). Each (λ x. Each (IsEarlier x) others) l) (sym is)
      (each-among (λ x. Each (IsEarlier x) others) reach o os e.ordered.0 (Each-then (λ x. Each (IsEarlier x) (o ∷ others)) (λ x. Each (IsEarlier x) others) os (λ x h. h.1) e.later));
  ordered = e.ordered.1;
  cells = subst (λ n. Each (λ (x : Ticketed). length x.subproblem.row ≡ n) others) (sym same) e.cells.1;
  room = (let room = e.room in omega arith);
}

-- what is pushed has as many cells as any state
pub listed-cells : (dp : Dp) → IsLawful dp → (os : List Ticketed) (words : ℕ) → words ≡ dp.words → Each (λ o. IsOwn dp o.subproblem) os → Each (λ o. length o.subproblem.row ≡ words) os
listed-cells dp laws os words same own = Each-then (λ (o : Ticketed). IsOwn dp o.subproblem) (λ o. length o.subproblem.row ≡ words) os (λ o h. own-cells dp laws o.subproblem h ∙ sym same) own

pub ticketed-many : (listed : List (ℕ × SubView)) → length (ticketed listed) ≡ length listed
ticketed-many listed = length-map listed (λ (p : ℕ × SubView). record { ticket = p.0; subproblem = p.1.subproblem })

-- before the first of them
pub restore-all : (reach : Option ℤ) (listed left : List (ℕ × SubView)) (os : List Ticketed) (words spare : ℕ) → left ≡ listed → os ≡ [] → EachTwo IsEarlier (ticketed listed) → Each (λ o. length o.subproblem.row ≡ words) (ticketed listed)
    → length listed ≤ spare → IsRestoring (pushed_above reach [] (ticketed listed)) reach (ticketed left) os words spare
restore-all reach listed left os words spare same none rise cells fits =
    let many = ticketed-many listed in
    subst (λ (l : List (ℕ × SubView)). IsRestoring (pushed_above reach [] (ticketed listed)) reach (ticketed l) os words spare) (sym same)
    (subst (λ (l : List Ticketed). IsRestoring (pushed_above reach [] (ticketed listed)) reach (ticketed listed) l words spare) (sym none)
    (record { pushed = refl; later = tt; ordered = rise; cells = cells; room = omega arith }))

-- after the last of them
pub all-restored : (goal : List Ticketed) (reach : Option ℤ) (left : List (ℕ × SubView)) (os : List Ticketed) (words spare : ℕ) → length left ≡ 0 → IsRestoring goal reach (ticketed left) os words spare → os ≡ goal
all-restored goal reach [] os words spare over e = e.pushed
all-restored goal reach (p ∷ left) os words spare over e = absurd (omega arith)
