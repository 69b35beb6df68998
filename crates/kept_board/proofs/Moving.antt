-- What a call of a kept board does is a move.
use Rattle.std.proofs.Common.{◌≡◌, ◌≢◌, inl, inr, ℕ, ℤ, List, Option, Some, None, refl, sym, ap, subst, IsTrue, IsSome, is_some}
use Rattle.disk.specs.declared.disk.Disk.{Ghosts}
use Rattle.disk.specs.Counts.{Rose}
use Rattle.disk.specs.Disk.{Keeps}
use Rattle.dp_model.specs.Dp.{Dp}
use Rattle.board_laws.specs.declared.cause.Cause.{Cause}
use Rattle.board_laws.specs.declared.cause.Cause.TheVariants.{Journal}
use Rattle.board_laws.specs.Runs.{Step, May, after, worker_of}
use Rattle.board_laws.specs.Steps.{halted}
use Rattle.journal_bytes.specs.declared.tail.Tail.{Tail}
use Rattle.journal_bytes.specs.Bodies.{RecordView}
use Rattle.journal_replay.specs.Following.{record_of_step, snapshot_record}
use Rattle.board.specs.Moves.{NeedsNoJournal, IsOf}
use Rattle.board.specs.View.{BoardView, tag_of}
use Rattle.kept_board.specs.Adding.{MayAddTo, LeavesAtMost, Acknowledges}
use Rattle.kept_board.specs.Due.{is_due}
use Rattle.kept_board.specs.Moves.{IsAdded, IsRecorded, MayBeNext, IsMove}

module _ {D : Type 0} (on : Ghosts D) (meaning : List ℤ → Dp) (old new : BoardView) (tag : tag_of new ≡ tag_of old) (made : D) (every who : ℕ) where
  not-recorded : (tail : Option Tail) (cause : Option Cause) (disk : D) → IsRecorded on tail None cause disk disk
  not-recorded None cause disk = refl
  not-recorded (Some tail) cause disk = refl

  pub quiet-moves : (step : Step) (disk : D) (tail : Option Tail) → May (meaning old.numbers) old.board step → NeedsNoJournal step → record_of_step (meaning old.numbers) old.board step ≡ None → IsOf who (worker_of step)
      → new.board ≡ after (meaning old.numbers) old.board step → IsMove on meaning (record { board = old; disk = disk; tail = tail; made = made; every = every }) (record { board = new; disk = disk; tail = tail; made = made; every = every }) who
  quiet-moves step disk tail may alone none of is = record {
    numbers = ap (λ t. t.numbers) tag;
    first = ap (λ t. t.first) tag;
    made = refl;
    every = refl;
    has = refl;
    step = inr (inr (inl (record {
      made = record { step = step; of = of; alone = alone; may = may; is = is };
      recorded = subst (λ r. IsRecorded on tail r old.board.cause disk disk) (sym none) (not-recorded tail old.board.cause disk);
    })));
  }

  pub same-moves : (disk : D) (tail : Option Tail) → new.board ≡ old.board → IsMove on meaning (record { board = old; disk = disk; tail = tail; made = made; every = every }) (record { board = new; disk = disk; tail = tail; made = made; every = every }) who
  same-moves disk tail is = record {
    numbers = ap (λ t. t.numbers) tag;
    first = ap (λ t. t.first) tag;
    made = refl;
    every = refl;
    has = refl;
    step = inl (record { board = is; disk = refl });
  }

  -- with its record the step is one
  by-record : (r : RecordView) (disk next : D) (tail next_tail : Option Tail) → (IsSome tail → old.board.cause ≢ Some Journal) → is_some next_tail ≡ is_some tail → Keeps on.attached on.tells on.names on.found disk next → MayAddTo on next next_tail → (tail ≡ None → next ≡ disk)
      → (IsSome tail → Acknowledges on disk next r) → (IsSome tail → LeavesAtMost on disk next r) → IsRecorded on tail (Some r) old.board.cause disk next
  by-record r disk next None next_tail differ same keeps ready none acknowledged leaves = none refl
  by-record r disk next (Some tail) None differ same keeps ready none acknowledged leaves = absurd (cc)
  by-record r disk next (Some tail) (Some next_tail) differ same keeps ready none acknowledged leaves = record {
    going = differ refl;
    still_tells = keeps.still_tells;
    acknowledged = acknowledged refl;
    durable = λ tells. (ready.is_open (subst IsTrue (sym keeps.still_tells) tells)).settled.durable;
    any_moment = leaves refl;
  }

  pub step-moves : (step : Step) (r : RecordView) (disk next : D) (tail next_tail : Option Tail) → May (meaning old.numbers) old.board step → NeedsNoJournal step → record_of_step (meaning old.numbers) old.board step ≡ Some r → IsOf who (worker_of step) → new.board ≡ after (meaning old.numbers) old.board step
      → (IsSome tail → old.board.cause ≢ Some Journal) → is_some next_tail ≡ is_some tail → Keeps on.attached on.tells on.names on.found disk next → MayAddTo on next next_tail → (tail ≡ None → next ≡ disk)
      → (IsSome tail → Acknowledges on disk next r) → (IsSome tail → LeavesAtMost on disk next r) → IsMove on meaning (record { board = old; disk = disk; tail = tail; made = made; every = every }) (record { board = new; disk = next; tail = next_tail; made = made; every = every }) who
  step-moves step r disk next tail next_tail may alone recorded of is differ same keeps ready none acknowledged leaves = record {
    numbers = ap (λ t. t.numbers) tag;
    first = ap (λ t. t.first) tag;
    made = refl;
    every = refl;
    has = same;
    step = inr (inr (inl (record {
      made = record { step = step; of = of; alone = alone; may = may; is = is };
      recorded = subst (λ o. IsRecorded on tail o old.board.cause disk next) (sym recorded) (by-record r disk next tail next_tail differ same keeps ready none acknowledged leaves);
    })));
  }

  -- of a journal
  added : (r : RecordView) (disk next : D) (tail : Option Tail) → IsSome tail → IsRecorded on tail (Some r) old.board.cause disk next → IsAdded on old.board.cause disk next r
  added r disk next None some recorded = absurd (cc)
  added r disk next (Some tail) some recorded = recorded

  pub snap-moves : (disk next : D) (tail next_tail : Option Tail) → IsTrue (is_due (record { board = old; disk = disk; tail = tail; made = made; every = every })) → IsSome tail → new.board ≡ old.board
      → (IsSome tail → old.board.cause ≢ Some Journal) → is_some next_tail ≡ is_some tail → Keeps on.attached on.tells on.names on.found disk next → MayAddTo on next next_tail → (tail ≡ None → next ≡ disk)
      → (IsSome tail → Acknowledges on disk next (snapshot_record old.board)) → (IsSome tail → LeavesAtMost on disk next (snapshot_record old.board))
      → IsMove on meaning (record { board = old; disk = disk; tail = tail; made = made; every = every }) (record { board = new; disk = next; tail = next_tail; made = made; every = every }) who
  snap-moves disk next tail next_tail due some is differ same keeps ready none acknowledged leaves = record {
    numbers = ap (λ t. t.numbers) tag;
    first = ap (λ t. t.first) tag;
    made = refl;
    every = refl;
    has = same;
    step = inr (inl (record {
      due = due;
      board = is;
      added = let r = snapshot_record old.board in added r disk next tail some (by-record r disk next tail next_tail differ same keeps ready none acknowledged leaves);
    }));
  }

  pub fail-moves : (r : RecordView) (disk next : D) (tail next_tail : Option Tail) → MayBeNext (meaning old.numbers) who (record { board = old; disk = disk; tail = tail; made = made; every = every }) r → new.board ≡ halted old.board Journal
      → (IsSome tail → old.board.cause ≢ Some Journal) → is_some next_tail ≡ is_some tail → IsSome tail → Rose (on.faults disk) (on.faults next) → Keeps on.attached on.tells on.names on.found disk next
      → (IsSome tail → LeavesAtMost on disk next r) → IsMove on meaning (record { board = old; disk = disk; tail = tail; made = made; every = every }) (record { board = new; disk = next; tail = next_tail; made = made; every = every }) who
  fail-moves r disk next tail next_tail next_one is differ same some rose keeps leaves = record {
    numbers = ap (λ t. t.numbers) tag;
    first = ap (λ t. t.first) tag;
    made = refl;
    every = refl;
    has = same;
    step = inr (inr (inr (record {
      has = some;
      going = differ some;
      last = r;
      next = next_one;
      rose = rose;
      still_tells = keeps.still_tells;
      any_moment = leaves some;
      halts = is;
    })));
  }
