-- Why workers stop, and where they find the search at its end.
use Rattle.std.proofs.Common.{◌≡◌, inl, inr, ℕ, ℤ, List, [], ◌∷◌, true, false, Option, Some, None, cond, ⊎_elim, refl, sym, ◌∙◌, ap, subst}
use Rattle.std.specs.Prelude.{Bool, IsSome, Result, Ok, Err, IfErr, OnOk}
use Rattle.disk.specs.declared.disk.Disk.{Ghosts}
use Rattle.disk.specs.Counts.{Rose}
use Rattle.turn.specs.declared.turn.Seat.{Seat}
use Rattle.turn.specs.declared.turn.Turn.{Turn}
use Rattle.turn.specs.Order.{NoLess}
use Rattle.turn.specs.Seats.{first_of, seen_of, out_of, left_by}
use Rattle.dp_model.specs.Dp.{Dp}
use Rattle.fringe.specs.Tickets.{Ticketed}
use Rattle.board_laws.specs.Board.{BoardState, is_explored, incumbent_value, slot_at}
use Rattle.board_laws.specs.Steps.{halted, given_back, given_back_from}
use Rattle.board_laws.specs.Taking.{is_budget_up, take_gives, take_open, take_unless, after_answer, after_take}
use Rattle.board_laws.specs.declared.cause.Cause.{Cause}
use Rattle.board_laws.specs.declared.cause.Cause.TheVariants.{Budget, Journal as of_journal}
use Rattle.board_laws.specs.declared.taken.Taken.{Taken}
use Rattle.board_laws.specs.declared.taken.Taken.TheVariants.{Sub, WaitForOthers, Finished, Halted}
use Rattle.journal_bytes.specs.declared.tail.Tail.{Tail}
use Rattle.board.specs.Moves.{out_at}
use Rattle.board.specs.View.{BoardView}
use Rattle.kept_board.specs.Kept.{IsKept, KeepsJournal}
use Rattle.kept_board.specs.View.{KeptView, tag_of}
use Rattle.kept_board.specs.declared.error.KeptError.{KeptError}
use Rattle.kept_board.specs.declared.error.KeptError.TheVariants.{Journal, OutOfMemory}
use Rattle.kept_board.specs.declared.tag.KeptTag.{KeptTag}
use Rattle.search_workers.specs.Later.{NoRoundFollows}
use Rattle.search_workers.specs.Ready.{IfOver}
use Rattle.search_workers.specs.Stopped.{IsWhy, IsSameOrHalted, HasLeft, HasNothingOpen, HasFoundSame, WasStopped, HasEndedAt}
use Rattle.search_workers.specs.declared.workers.stopped.Stopped.{Stopped}
use Rattle.search_workers.specs.declared.workers.stopped.Stopped.TheVariants.{GaveBack, Refused}
use Rattle.search_workers.proofs.Moves.{MayLeave, no-less-then, still-tagged}

no-cause : (cause : Option Cause) → IsSome cause → cause ≡ None → ⊥
no-cause None held none = cc
no-cause (Some cause) held none = cc

-- where a cause is held no round can follow
pub halted-ends : (b : BoardState) → IsSome b.cause → NoRoundFollows b
halted-ends b held = λ left none. absurd (no-cause b.cause held none)

by-open : (b : BoardState) (os : List Ticketed) → IfOver (take_open b os) (NoRoundFollows b)
by-open b [] = tt
by-open b (o ∷ os) = elim (is_budget_up b) as (λ u. is_budget_up b ≡ u → IfOver (cond u (Halted Budget) Sub) (NoRoundFollows b)) [
  | true ↦ λ up left none. up
  | false ↦ λ up. tt
] refl

by-cause : (b : BoardState) (cause : Option Cause) → b.cause ≡ cause → IfOver (take_unless b cause) (NoRoundFollows b)
by-cause b (Some cause) is = halted-ends b (subst (λ c. IsSome c) (sym is) refl)
by-cause b None is = by-open b b.open_ones

both : (e : Bool) → e ≡ true → e ≡ false → ⊥
both true is other = cc
both false is other = cc

-- where Take answers so no round can follow
over-ends : (b : BoardState) (answer : Taken) → answer ≡ take_gives b → IfOver answer (NoRoundFollows b)
over-ends b answer is = subst (λ a. IfOver a (NoRoundFollows b)) (sym is)
    (elim (is_explored b) as (λ e. is_explored b ≡ e → IfOver (cond e Finished (take_unless b b.cause)) (NoRoundFollows b)) [
      | true ↦ λ explored left none. absurd (both (is_explored b) explored left)
      | false ↦ λ explored. by-cause b b.cause refl
    ] refl)

pub over-then : {P Q : Type 0} (answer : Taken) → (P → Q) → IfOver answer P → IfOver answer Q
over-then Sub f h = tt
over-then WaitForOthers f h = tt
over-then Finished f h = f h
over-then (Halted cause) f h = f h

left-by : (b now : BoardState) (who : ℕ) (answer : Taken) → now ≡ after_answer b who answer → IfOver answer (NoRoundFollows b) → IfOver answer (NoRoundFollows now)
left-by b now who Sub is h = tt
left-by b now who WaitForOthers is h = tt
left-by b now who Finished is h = subst NoRoundFollows (sym is) h
left-by b now who (Halted cause) is h = subst NoRoundFollows (sym is) h

-- and none after it
pub over-left : (b now : BoardState) (who : ℕ) (answer : Taken) → answer ≡ take_gives b → now ≡ after_take b who → IfOver answer (NoRoundFollows now)
over-left b now who answer gives step = left-by b now who answer (step ∙ ap (after_answer b who) (sym gives)) (over-ends b answer gives)

-- where Take answers that others are to be waited for, nothing is open and no cause is held
waits-open : (b : BoardState) (os : List Ticketed) → take_open b os ≡ WaitForOthers → os ≡ []
waits-open b [] is = refl
waits-open b (o ∷ os) is = absurd (elim (is_budget_up b) as (λ up. cond up (Halted Budget) Sub ≡ WaitForOthers → ⊥) [ true ↦ λ e. cc | false ↦ λ e. cc ] is)

waits-unless : (b : BoardState) (cause : Option Cause) → take_unless b cause ≡ WaitForOthers → (b.open_ones ≡ []) × (cause ≡ None)
waits-unless b (Some cause) is = absurd (cc)
waits-unless b None is = (waits-open b b.open_ones is, refl)

waits-gives : (b : BoardState) → take_gives b ≡ WaitForOthers → (b.open_ones ≡ []) × (b.cause ≡ None)
waits-gives b is = elim (is_explored b) as (λ e. cond e Finished (take_unless b b.cause) ≡ WaitForOthers → (b.open_ones ≡ []) × (b.cause ≡ None)) [
  | true ↦ λ none. absurd (cc)
  | false ↦ λ waits. waits-unless b b.cause waits
] is

pub waits-left : (b now : BoardState) (who : ℕ) (answer : Taken) → answer ≡ take_gives b → now ≡ after_take b who → answer ≡ WaitForOthers → (now.open_ones ≡ []) × (now.cause ≡ None)
waits-left b now who answer gives step waits =
    let here : take_gives b ≡ WaitForOthers = sym gives ∙ waits in
    let same : now ≡ b = step ∙ ap (after_answer b who) here in
    subst (λ (x : BoardState). (x.open_ones ≡ []) × (x.cause ≡ None)) (sym same) (waits-gives b here)

given-back-from : (b : BoardState) (who : ℕ) (slot : Option Ticketed) → (given_back_from b who slot).cause ≡ b.cause
given-back-from b who None = refl
given-back-from b who (Some o) = refl

-- a GiveBack leaves the cause that is held
pub given-back-cause : (b now : BoardState) (who : ℕ) → now ≡ given_back b who → now.cause ≡ b.cause
given-back-cause b now who is = ap (λ (n : BoardState). n.cause) is ∙ given-back-from b who (slot_at b who)

-- so no round can follow it
pub given-back-ends : (b now : BoardState) (who : ℕ) → now ≡ given_back b who → IsSome b.cause → NoRoundFollows now
given-back-ends b now who is held = halted-ends now (subst (λ c. IsSome c) (sym (given-back-cause b now who is)) held)

module _ {D : Type 0} (on : Ghosts D) where
  by-journal : (dp : Dp) (b : BoardState) (made disk : D) (tail : Option Tail) → KeepsJournal on dp b made disk tail → b.cause ≡ Some of_journal → Rose (on.faults made) (on.faults disk)
  by-journal dp b made disk None k is = absurd (k.0 is)
  by-journal dp b made disk (Some tail) k is = ⊎_elim (λ goes. absurd (goes.cause is)) (λ stopped. stopped.rose) k.state

  -- a kept board is halted for the journal only where the disk has failed
  pub failed-rose : (dp : Dp) (b : BoardState) (made disk : D) (tail : Option Tail) → IsKept on dp b made disk tail → b.cause ≡ Some of_journal → Rose (on.faults made) (on.faults disk)
  failed-rose dp b made disk tail k is = by-journal dp b made disk tail k.journal is

  -- a step that was refused
  pub why-refused : (who : ℕ) (error : KeptError) (found left : KeptView D) → (error ≡ Journal → Rose (on.faults found.disk) (on.faults left.disk)) → (error ≡ Journal → left.board.board ≡ halted found.board.board of_journal)
      → (error ≡ OutOfMemory → (left.board.board ≡ found.board.board) × (left.disk ≡ found.disk)) → IsWhy on who (Refused error) found left
  why-refused who Journal found left rose step memory = (rose refl, step refl)
  why-refused who OutOfMemory found left rose step memory = memory refl

  -- a snapshot, whatever is answered
  pub snapped-same : {T : Type 0} (r : Result T KeptError) (found left : KeptView D) → OnOk r (left.board ≡ found.board) → (r ≡ Err Journal → left.board.board ≡ halted found.board.board of_journal)
      → (r ≡ Err Journal → Rose (on.faults found.disk) (on.faults left.disk)) → (r ≡ Err OutOfMemory → left ≡ found) → IsSameOrHalted on found left
  snapped-same (Ok x) found left same halts rose memory = inl (ap (λ (b : BoardView). b.board) same)
  snapped-same (Err Journal) found left same halts rose memory = inr (rose refl, halts refl)
  snapped-same (Err OutOfMemory) found left same halts rose memory = inl (ap (λ (k : KeptView D). k.board.board) (memory refl))

  -- what is out stays out
  pub same-out : (found left : KeptView D) → IsSameOrHalted on found left → (who : ℕ) → out_at left.board.board who ≡ out_at found.board.board who
  same-out found left as_found who = ⊎_elim (λ same. ap (λ (b : BoardState). out_at b who) same) (λ halts. ap (λ (b : BoardState). out_at b who) halts.1) as_found

module _ {D : Type 0} (on : Ghosts D) (meaning : List ℤ → Dp) where
  -- there was no memory between two holdings
  pub no-memory : (turn : Turn (KeptView D) (KeptTag D)) (before seat : Seat (KeptView D)) → HasLeft turn seat → NoLess (seen_of before) (seen_of seat) → out_of seat ≡ out_of before → WasStopped on meaning turn before seat (Refused OutOfMemory)
  no-memory turn before seat last less out = record {
    last = last;
    found = last.left;
    same = last.same;
    no_less = subst (NoLess (seen_of before)) last.seen_is less;
    out_is = sym last.out_is ∙ out;
    move = inl refl;
    why = (refl, refl);
  }

  -- the same of a worker that had seen less before
  pub stopped-since : (turn : Turn (KeptView D) (KeptTag D)) (first before seat : Seat (KeptView D)) (stopped : Stopped) → NoLess (seen_of first) (seen_of before) → out_of before ≡ out_of first → WasStopped on meaning turn before seat stopped → WasStopped on meaning turn first seat stopped
  stopped-since turn first before seat stopped less out w = record {
    last = w.last;
    found = w.found;
    same = w.same;
    no_less = no-less-then (seen_of first) (seen_of before) (incumbent_value w.found.board.board) less w.no_less;
    out_is = w.out_is ∙ out;
    move = w.move;
    why = w.why;
  }

  pub all-stopped-since : {T : Type 0} (turn : Turn (KeptView D) (KeptTag D)) (first before seat : Seat (KeptView D)) (r : Result T Stopped) → NoLess (seen_of first) (seen_of before) → out_of before ≡ out_of first → IfErr r (WasStopped on meaning turn before seat) → IfErr r (WasStopped on meaning turn first seat)
  all-stopped-since turn first before seat (Ok x) less out w = tt
  all-stopped-since turn first before seat (Err s) less out w = stopped-since turn first before seat s less out w

  -- a worker that gave back left the search at its end
  pub stopped-ends : (turn : Turn (KeptView D) (KeptTag D)) (before seat : Seat (KeptView D)) → WasStopped on meaning turn before seat GaveBack → HasEndedAt turn seat
  stopped-ends turn before seat w = record {
    last = w.last;
    ended = given-back-ends w.found.board.board w.last.left.board.board seat.number w.why.1 (subst (λ c. IsSome c) (sym w.why.0.cause) refl);
  }

-- One holding, in which a seat of the number finds a value and leaves one.
module _ {D : Type 0} (on : Ghosts D) (meaning : List ℤ → Dp) (turn : Turn (KeptView D) (KeptTag D)) (before seat : Seat (KeptView D)) (found left : KeptView D) (who : ℕ) (number : who ≡ seat.number)
    (same : tag_of found ≡ tag_of (first_of turn)) (move : MayLeave on meaning found left who) (left_is : left_by seat ≡ Some left) (seen_is : seen_of seat ≡ incumbent_value left.board.board)
    (out_is : out_of seat ≡ out_at left.board.board seat.number) where
  abbrev pub left-here : HasLeft turn seat
  left-here = record { left = left; left_is = left_is; same = still-tagged on meaning found left who move ∙ same; seen_is = seen_is; out_is = out_is }

  pub ended-here : NoRoundFollows left.board.board → HasEndedAt turn seat
  ended-here ended = record { last = left-here; ended = ended }

  pub nothing-open : (left.board.board.open_ones ≡ []) × (left.board.board.cause ≡ None) → HasNothingOpen turn seat
  nothing-open none = record { last = left-here; none = none.0; going = none.1 }

  pub found-same : IsSameOrHalted on found left → HasFoundSame on turn seat
  found-same as_found = record { last = left-here; found = found; same = same; left_same = as_found }

  stopped-one : (stopped : Stopped) → NoLess (seen_of before) (incumbent_value found.board.board) → out_at found.board.board seat.number ≡ out_of before → IsWhy on who stopped found left → WasStopped on meaning turn before seat stopped
  stopped-one stopped less out why = record {
    last = left-here;
    found = found;
    same = same;
    no_less = less;
    out_is = out;
    move = subst (MayLeave on meaning found left) number move;
    why = subst (λ (n : ℕ). IsWhy on n stopped found left) number why;
  }

  pub stopped-here : {T : Type 0} (r : Result T Stopped) → NoLess (seen_of before) (incumbent_value found.board.board) → out_at found.board.board seat.number ≡ out_of before → IfErr r (λ s. IsWhy on who s found left) → IfErr r (WasStopped on meaning turn before seat)
  stopped-here (Ok x) less out why = tt
  stopped-here (Err s) less out why = stopped-one s less out why
