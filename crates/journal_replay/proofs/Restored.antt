-- From what accepted records make of a search a board may be restored.
use Rattle.std.proofs.Common.{ℕ, ◌+◌, ◌<◌, ◌≤◌, pos, not, nat_eq, List, [], ◌∷◌, length, Option, Some, None, sym, subst, arith}
use Rattle.std.proofs.lemmas.Int.{ints}
use Rattle.dp_model.specs.Dp.{Dp}
use Rattle.dp_model.specs.Laws.{IsLawful}
use Rattle.dp_model.specs.Lists.{Each}
use Rattle.dp_model.specs.Numbers.{IsFar}
use Rattle.dp_model.specs.Subproblem.{IsOwn, IsChild}
use Rattle.dp_model.proofs.Members.{Each-then}
use Rattle.dp_laws.proofs.Lists.{each-filter, two-filter}
use Rattle.fringe.specs.Tickets.{Ticketed, IsEarlier}
use Rattle.board_laws.specs.Board.{AreSettings, full_slots}
use Rattle.board_laws.specs.GoodBoard.{IncumbentHolds}
use Rattle.board_laws.specs.Steps.{empty_slots, first_open}
use Rattle.board_laws.specs.declared.settings.Settings.{Settings}
use Rattle.board_laws.proofs.First.{first-is-good}
use Rattle.board_laws.proofs.Lists.{each-back}
use Rattle.journal_bytes.specs.Bodies.{ChildView, RecordView, Improve, Finish, Snapshot}
use Rattle.journal_bytes.specs.Base.{from_base}
use Rattle.journal_replay.specs.Replay.{Replayed, MayRestoreFrom, listed_at, taken_off, with_child, with_children, after_record, after_records, replay_start}
use Rattle.journal_replay.specs.Accepting.{MayAddAll, MayBranch, MayFollow, MayFollowAll}
use Rattle.journal_replay.specs.Laws.{AcceptedRestore}
use Rattle.journal_replay.proofs.Added.{kids_listed, added, tickets-rise}
use Rattle.journal_replay.proofs.Based.{state-from}

-- the children of a record are children of its subproblem, with bounds of a bounded size
pub kids-children : (dp : Dp) (p : List ℕ) (s : Replayed) (rs : List ChildView) → MayAddAll dp p s rs
    → Each (λ k. IsChild dp p k.subproblem × IsFar k.subproblem.bound) (kids_listed dp s.next_ticket rs)
kids-children dp p s [] h = tt
kids-children dp p s (r ∷ rs) h = ((h.0.child, h.0.far), kids-children dp p (with_child dp s r) rs h.1)

pub restores-off : (dp : Dp) (ticket : ℕ) (s : Replayed) → MayRestoreFrom dp s → MayRestoreFrom dp (taken_off ticket s)
restores-off dp ticket s h =
    let p = λ (o : Ticketed). not (nat_eq o.ticket ticket) in
    record {
      incumbent = h.incumbent;
      own = each-filter (λ o. IsOwn dp o.subproblem) p s.listed h.own;
      far = each-filter (λ o. IsFar o.subproblem.bound) p s.listed h.far;
      ordered = two-filter IsEarlier p s.listed h.ordered;
      given = each-filter (λ o. o.ticket < s.next_ticket) p s.listed h.given;
    }

pub restores-children : (dp : Dp) (p : List ℕ) (s : Replayed) (rs : List ChildView) → MayRestoreFrom dp s
    → Each (λ k. IsChild dp p k.subproblem × IsFar k.subproblem.bound) (kids_listed dp s.next_ticket rs) → MayRestoreFrom dp (with_children dp s rs)
restores-children dp p s rs h kids =
    let ks = kids_listed dp s.next_ticket rs in
    let new = with_children dp s rs in
    let add = added dp s rs in
    let rise = tickets-rise dp s.next_ticket rs in
    let next = add.next in
    record {
      incumbent = subst (λ best. IncumbentHolds dp best) (sym add.incumbent) h.incumbent;
      own = add.each (λ o. IsOwn dp o.subproblem) h.own (Each-then (λ k. IsChild dp p k.subproblem × IsFar k.subproblem.bound) (λ o. IsOwn dp o.subproblem) ks (λ k x. x.0.own) kids);
      far = add.each (λ o. IsFar o.subproblem.bound) h.far (Each-then (λ k. IsChild dp p k.subproblem × IsFar k.subproblem.bound) (λ o. IsFar o.subproblem.bound) ks (λ k x. x.1) kids);
      ordered = add.two IsEarlier h.ordered rise.ordered (Each-then (λ (y : Ticketed). y.ticket < s.next_ticket) (λ y. Each (IsEarlier y) ks) s.listed
          (λ y less. Each-then (λ (k : Ticketed). s.next_ticket ≤ k.ticket) (IsEarlier y) ks (λ k from. let later : y.ticket < k.ticket = omega arith in later) rise.from) h.given);
      given = add.each (λ o. o.ticket < new.next_ticket) (Each-then (λ (y : Ticketed). y.ticket < s.next_ticket) (λ y. y.ticket < new.next_ticket) s.listed (λ y less. omega arith) h.given)
          (Each-then (λ (y : Ticketed). y.ticket < s.next_ticket + length ks) (λ y. y.ticket < new.next_ticket) ks (λ y less. omega arith) rise.given);
    }

branch-restores : (dp : Dp) (parent : Option Ticketed) (s : Replayed) (rs : List ChildView) → MayBranch dp parent s rs → MayRestoreFrom dp s → MayRestoreFrom dp (with_children dp s rs)
branch-restores dp None s rs may h = absurd may
branch-restores dp (Some parent) s rs may h = restores-children dp parent.subproblem.decisions s rs h (kids-children dp parent.subproblem.decisions s rs may)

pub record-restores : (dp : Dp) (s : Replayed) (r : RecordView) → MayFollow dp s r → MayRestoreFrom dp s → MayRestoreFrom dp (after_record dp s r)
record-restores dp s (Improve value ds) may h = record { incumbent = may.solution; own = h.own; far = h.far; ordered = h.ordered; given = h.given }
record-restores dp s (Finish ticket rs) may h = branch-restores dp (listed_at ticket s.listed) (taken_off ticket s) rs may.1 (restores-off dp ticket s h)
record-restores dp s (Snapshot best next os) may h = may

pub records-restore : (dp : Dp) (s : Replayed) (rs : List RecordView) → MayFollowAll dp s rs → MayRestoreFrom dp s → MayRestoreFrom dp (after_records dp s rs)
records-restore dp s [] may h = h
records-restore dp s (r ∷ rs) may h = records-restore dp (after_record dp s r) rs may.1 (record-restores dp s r may.0 h)

-- Any settings.

abbrev plain : Settings
plain = record { workers = 1; budget = 0; table_limit = 0; width = 1; within = pos 0 }

are-plain : AreSettings plain
are-plain = record { some_workers = omega arith; few_workers = omega arith; some_width = omega arith; distance = record { least = omega (arith, ints); most = omega (arith, ints) } }

pub start-restores : (dp : Dp) → IsLawful dp → MayRestoreFrom dp (replay_start dp)
start-restores dp laws =
    let b = (first-is-good dp laws plain are-plain).board in
    let none = full_slots (empty_slots 1) in
    record {
      incumbent = b.incumbent;
      own = each-back (λ o. IsOwn dp o.subproblem) none (first_open dp) b.own;
      far = each-back (λ o. IsFar o.subproblem.bound) none (first_open dp) b.far;
      ordered = b.ordered;
      given = each-back (λ o. o.ticket < length (first_open dp)) none (first_open dp) b.tickets.given;
    }

pub accepted-restore : (dp : Dp) → IsLawful dp → AcceptedRestore dp
accepted-restore dp laws rs may =
    let start = replay_start dp in
    subst (MayRestoreFrom dp) (sym (state-from dp start rs)) (records-restore dp start (from_base rs) may (start-restores dp laws))
