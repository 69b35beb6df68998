-- How a journal begins.
use Rattle.std.proofs.Common.{◌≡◌, ◌≢◌, inl, inr, ⊎_elim, ℕ, suc, ◌-◌, ◌^◌, ◌<◌, ◌≤◌, Bool, true, false, List, [], ◌∷◌, ◌++◌, length, get_or, Option, Some, None, Err, refl, sym, ◌∙◌, ap, subst, arith}
use Rattle.std.specs.Prelude.{IsSome, IfSome}
use Rattle.std.proofs.lemmas.Bool.{cases_lt}
use Rattle.disk.specs.Disk.{FirstSync, AtFirstSync, Torn, Only, LeavesOnly}
use Rattle.journal_bytes.specs.declared.refusal.Refusal.TheVariants.{NotBegun}
use Rattle.journal_bytes.specs.declared.tail.Tail.{Tail}
use Rattle.journal_bytes.specs.Frames.{Frame, no_digest, frames_of, ReadsAs, IsBeforeOrAfter}
use Rattle.journal_file.specs.Settled.{IsSettled, IsOpen}
use Rattle.journal_bytes.specs.Journal.{HeadView, is_distance, journal_in, journal_of, HasRecords}
use Rattle.journal_bytes.specs.Spelling.{PartFits, head_frame}
use Rattle.journal_file.specs.Beginning.{IsProbed, BeganAt, LeavesSince, MayBegin, IsBegun}
use Rattle.disk.proofs.Runs.{then, weaker}
use Rattle.journal_bytes.proofs.Found.{reading_shut}
use Rattle.journal_bytes.proofs.Journals.{only_head}
use Rattle.journal_bytes.proofs.Ended.{short_file, long_file}
use Rattle.journal_file.proofs.Appending.{settled, settled_reads}

pub closed_not_begun : (file : List ℕ) → get_or file 0 0 ≡ 0 → journal_of file ≡ Err NotBegun
unfolding journal_in
closed_not_begun file closed = elim (cases_lt 1 (length file)) [
  | inl long ↦
      let shut : get_or file 0 0 ≢ 1 = λ one. absurd (omega arith) in
      let k : length file ≡ suc (length file - 1) = omega arith in
      long_file file long ∙ ap journal_in (reading_shut (length file) (length file - 1) no_digest 0 file k shut)
  | inr short ↦ short_file file short
]

pub probed_not_begun : (gate : Bool) (file : List ℕ) → IsProbed gate file → journal_of file ≡ Err NotBegun
probed_not_begun true file probed = closed_not_begun file probed.1
probed_not_begun false file probed = short_file file probed

pub begins : (file : List ℕ) → MayBegin file → journal_of file ≡ Err NotBegun
begins file (inl probed) = probed_not_begun true file probed
begins file (inr probed) = probed_not_begun false file probed

pub may_begin : (gate : Bool) (file : List ℕ) → IsProbed gate file → MayBegin file
may_begin true file probed = inl probed
may_begin false file probed = inr probed

-- the byte 0 written at the front of a file of at most one byte
pub torn_first : (file c : List ℕ) → length file ≤ 1 → Torn 0 1 file c → journal_of c ≡ Err NotBegun
torn_first file c short torn = short_file c (omega (arith, torn.no_longer))

-- a head that is written: with records of the newest version, a short text, a distance, and a part that can be written or none
pub record IsNew (h : HeadView) : Type 0 where
  pub newest : h.version ≡ 2
  pub short : length h.text < 2 ^ 32
  pub near : is_distance h.within ≡ true
  pub mark : IfSome h.part PartFits

-- no record, or the head
pub first_record : (h : HeadView) (c : List ℕ) → IsNew h → IsBeforeOrAfter [] (head_frame h) c → IsBegun h c
unfolding journal_in
first_record h c fits (inl none) = elim (cases_lt 1 (length c)) [
  | inl long ↦ inl (long_file c long ∙ ap journal_in none)
  | inr short ↦ inl (short_file c short)
]
first_record h c fits (inr one) = inr (only_head h c fits.newest fits.short fits.near fits.mark one)

-- a file that begins with a closed gate is a journal with no record, and no head
pub closed_settled : (file : List ℕ) (may_leave : List ℕ → Type 0) (tail : Tail) → 0 < length file → get_or file 0 0 ≡ 0 → tail.end ≡ 0 → tail.digest ≡ no_digest → Only file may_leave → IsSettled file may_leave tail (frames_of file) × (frames_of file ≡ [])
closed_settled [] may_leave tail some closed end digest only = absurd (omega arith)
closed_settled (a ∷ file) may_leave tail some closed end digest only = settled (a ∷ file) may_leave tail [] file tt (λ i. closed i ∷ file) end digest only

pub counted : (mid new : Option FirstSync) (few many : ℕ) → IsSome mid → ((s : FirstSync) → mid ≡ Some s → new ≡ Some s) → few ≤ many → IfSome mid (λ s. s.faults ≤ few) → IfSome new (λ s. s.faults ≤ many)
counted None new few many some stays more has = absurd cc
counted (Some s) new few many some stays more has = subst (λ o. IfSome o (λ (s : FirstSync). s.faults ≤ many)) (sym (stays s refl)) (omega (arith, has, more))

module _ (before : List ℕ) where
  pub since_start : (mid new : Option FirstSync) (seen now : List ℕ) (P Q : FirstSync → Type 0) → IsSome mid → ((s : FirstSync) → mid ≡ Some s → new ≡ Some s) → AtFirstSync mid before seen P → ((s : FirstSync) → P s → Q s) → AtFirstSync new before now Q
  since_start None new seen now P Q some stays has then = absurd cc
  since_start (Some s) new seen now P Q some stays has then = subst (λ o. AtFirstSync o before now Q) (sym (stays s refl)) (then s has)

  pub at_first : (o : Option FirstSync) (now : List ℕ) (P Q : FirstSync → Type 0) → AtFirstSync o before now P → ((s : FirstSync) → P s → Q s) → AtFirstSync o before now Q
  at_first None now P Q has then = has
  at_first (Some s) now P Q has then = then s has

module _ {D : Type 0} (moment : D → ℕ) (left_since : D → ℕ → List ℕ → Type 0) (h : HeadView) where
  abbrev pub NotYet : List ℕ → Type 0
  NotYet = λ c. journal_of c ≡ Err NotBegun

  -- the closed gate was written, and then the head
  pub runs : (mid between new : D) (g : Frame) (fs : List Frame) → IsNew h → g ≡ head_frame h → fs ≡ [] → LeavesOnly moment left_since mid between NotYet → LeavesOnly moment left_since between new (IsBeforeOrAfter fs g) → LeavesOnly moment left_since mid new (IsBegun h)
  runs mid between new g fs fits same none first second =
      then moment left_since mid between new NotYet (IsBeforeOrAfter fs g) (IsBegun h) first second (λ c not_yet. inl not_yet)
      (λ c has. first_record h c fits (subst (λ (x : Frame). IsBeforeOrAfter [] x c) same (subst (λ (xs : List Frame). IsBeforeOrAfter xs g c) none has)))

  pub closes : (mid between : D) → LeavesOnly moment left_since mid between NotYet → LeavesOnly moment left_since mid between (IsBegun h)
  closes mid between first = weaker moment left_since mid between NotYet (IsBegun h) first (λ c not_yet. inl not_yet)

  module _ (file : List ℕ) where
    -- since the first sync
    abbrev pub Begun : D → FirstSync → Type 0
    Begun disk s = (s.content ≡ file) × (MayBegin s.content → LeavesSince moment left_since s disk (IsBegun h))

    pub at_probe : (mid : D) (s : FirstSync) → BeganAt moment left_since s mid file → Begun mid s
    at_probe mid s b =
        (b.content, λ may. record { earlier = b.leaves.earlier; each = λ c left. inl (ap journal_of (b.leaves.each c left) ∙ begins file (subst MayBegin b.content may)) })

    -- and after more calls
    pub after : (mid new : D) (s : FirstSync) → LeavesOnly moment left_since mid new (IsBegun h) → BeganAt moment left_since s mid file → Begun new s
    after mid new s run b = (
      b.content,
      λ may. record {
        earlier = omega (arith, b.leaves.earlier, run.later);
        each = λ c left. ⊎_elim (λ before. ((at_probe mid s b).1 may).each c before) (λ now. now) (run.before s.moment c b.leaves.earlier left);
      },
    )

-- the head was added
pub head_open : (file : List ℕ) (may_leave : List ℕ → Type 0) (tail : Tail) (h : HeadView) (g : Frame) (fs : List Frame) → IsNew h → (tail.version ≡ 2) × (tail.since ≡ 0) → g ≡ head_frame h → fs ≡ [] → IsSettled file may_leave tail (frames_of file) × (frames_of file ≡ fs ++ g ∷ []) → IsOpen file may_leave tail × HasRecords h [] file
head_open file may_leave tail h g fs fits counts same none done =
    let frames : frames_of file ≡ head_frame h ∷ [] = done.1 ∙ (λ i. none i ++ same i ∷ []) in
    let reads = only_head h file fits.newest fits.short fits.near fits.mark (subst (λ (xs : List Frame). ReadsAs xs file) frames (settled_reads file may_leave tail (frames_of file) done.0)) in
    (record { settled = done.0; head = h; records = []; reads = reads; counted = record { version = counts.0 ∙ sym fits.newest; since = counts.1 } }, reads)
