-- What an append leaves, by records.
use Rattle.std.proofs.Common.{◌≡◌, ◌⊎◌, inl, inr, ⊎_elim, ℕ, List, [], ◌∷◌, ◌++◌, Some, Result, Ok, Err, sym, ap, subst, ◌∙◌}
use Rattle.std.specs.Prelude.{OnOk}
use Rattle.disk.specs.Disk.{Only, LeavesOnly}
use Rattle.journal_bytes.specs.declared.tail.Tail.{Tail}
use Rattle.journal_bytes.specs.Bodies.{RecordView, record_of}
use Rattle.journal_bytes.specs.Frames.{Frame, frames_of, ReadsAs, IsBeforeOrAfter}
use Rattle.journal_bytes.specs.Journal.{HeadView, JournalView, HasRecords, journal_of, since_after}
use Rattle.journal_file.specs.Settled.{IsSettled, IsOpen}
use Rattle.disk.proofs.Runs.{started, weaker}
use Rattle.journal_bytes.proofs.Journals.{same_records, one_more, ok_is, since-push}
use Rattle.journal_file.proofs.Appending.{settled_reads}

pub on_ok : {T E : Type 0} (result : Result T E) (P Q : Type 0) → OnOk result P → (P → Q) → OnOk result Q
on_ok (Ok x) P Q p then = then p
on_ok (Err e) P Q p then = tt

pub on_both : {T E : Type 0} (result : Result T E) (P Q R : Type 0) → OnOk result P → OnOk result Q → (P → Q → R) → OnOk result R
on_both (Ok x) P Q R p q then = then p q
on_both (Err e) P Q R p q then = tt

-- the records as they were, or with one more
abbrev pub HasAtMost : HeadView → List RecordView → RecordView → List ℕ → Type 0
HasAtMost head records r file = HasRecords head records file ⊎ HasRecords head (records ++ r ∷ []) file

module _ (file : List ℕ) (may_leave : List ℕ → Type 0) (tail : Tail) (f : Frame) (r : RecordView) (reads : record_of tail.version f ≡ Some r) (is_open : IsOpen file may_leave tail) where
  as_frames : ReadsAs (frames_of file) file
  as_frames = settled_reads file may_leave tail (frames_of file) is_open.settled

  -- whatever head the file is said to have, it is of the tail's version
  reads_as : (j : JournalView) → journal_of file ≡ Ok j → record_of j.head.version f ≡ Some r
  reads_as j is =
      let own : JournalView = record { head = is_open.head; records = is_open.records; tail = is_open.reads.0 } in
      let same : own ≡ j = ok_is own j (sym is_open.reads.1 ∙ is) in
      subst (λ n. record_of n f ≡ Some r) (is_open.counted.version ∙ ap (λ (x : JournalView). x.head.version) same) reads

  pub any_moment : {D : Type 0} (moment : D → ℕ) (left_since : D → ℕ → List ℕ → Type 0) (old new : D) (head : HeadView) (records : List RecordView) → HasRecords head records file → LeavesOnly moment left_since old new (IsBeforeOrAfter (frames_of file) f)
      → LeavesOnly moment left_since old new (HasAtMost head records r)
  any_moment moment left_since old new head records has run =
      let j : JournalView = record { head = head; records = records; tail = has.0 } in
      weaker moment left_since old new (IsBeforeOrAfter (frames_of file) f) (HasAtMost head records r) run
      (λ c left. ⊎_elim (λ before. inl (same_records (frames_of file) file c j as_frames has.1 before)) (λ after. inr (one_more (frames_of file) f r file c j as_frames has.1 (reads_as j has.1) after)) left)

  pub has_more : (new : List ℕ) (leaves : List ℕ → Type 0) (next : Tail) (head : HeadView) (records : List RecordView) → HasRecords head records file → IsSettled new leaves next (frames_of new) × (frames_of new ≡ frames_of file ++ f ∷ [])
      → HasRecords head (records ++ r ∷ []) new
  has_more new leaves next head records has done =
      let j : JournalView = record { head = head; records = records; tail = has.0 } in
      one_more (frames_of file) f r file new j as_frames has.1 (reads_as j has.1) (subst (λ (xs : List Frame). ReadsAs xs new) done.1 (settled_reads new leaves next (frames_of new) done.0))

  pub open_more : (new : List ℕ) (leaves : List ℕ → Type 0) (next : Tail) → (next.version ≡ tail.version) × (next.since ≡ since_after tail.since r) → IsSettled new leaves next (frames_of new) × (frames_of new ≡ frames_of file ++ f ∷ [])
      → IsOpen new leaves next
  open_more new leaves next counts done = record {
    settled = done.0;
    head = is_open.head;
    records = is_open.records ++ r ∷ [];
    reads = has_more new leaves next is_open.head is_open.records is_open.reads done;
    counted = record {
      version = counts.0 ∙ is_open.counted.version;
      since = counts.1 ∙ ap (λ n. since_after n r) is_open.counted.since ∙ sym (since-push is_open.records 0 r);
    };
  }

-- nothing was written
pub nothing : {D : Type 0} (moment : D → ℕ) (left_since : D → ℕ → List ℕ → Type 0) (disk : D) (file : List ℕ) (may_leave : List ℕ → Type 0) (head : HeadView) (records : List RecordView) (r : RecordView) → ((c : List ℕ) → left_since disk (moment disk) c → may_leave c) → Only file may_leave → HasRecords head records file
    → LeavesOnly moment left_since disk disk (HasAtMost head records r)
nothing moment left_since disk file may_leave head records r only_now durable has =
    started moment left_since disk (HasAtMost head records r) (λ c left. inl (subst (HasRecords head records) (sym (durable c (only_now c left))) has))
