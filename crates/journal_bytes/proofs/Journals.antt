-- What a journal reads as, with one record more.
use Rattle.std.proofs.Common.{◌≡◌, inl, inr, ℕ, ◌+◌, ◌^◌, ◌<◌, ◌≤◌, Bool, true, false, List, [], ◌∷◌, ◌++◌, length, Some, Result, Ok, Err, refl, sym, ◌∙◌, ap, subst, arith}
use Rattle.std.specs.Prelude.{IfSome, if◌then◌else◌}
use Rattle.std.proofs.lemmas.Bool.{cases_lt, cases_eq}
use Rattle.journal_bytes.specs.declared.refusal.Refusal.{Refusal}
use Rattle.journal_bytes.specs.declared.refusal.Refusal.TheVariants.{NotBegun, Damaged}
use Rattle.journal_bytes.specs.declared.tail.Tail.{Tail}
use Rattle.journal_bytes.specs.Frames.{Frame, Reading, reading_of, no_digest, is_sound, frames_of, closed_after, ReadsAs}
use Rattle.journal_bytes.specs.Bodies.{RecordView, record_of}
use Rattle.journal_bytes.specs.Journal.{◌>>=◌, HeadView, JournalView, or_malformed, head_of, is_distance, records_from, tail_of, since_all, since_after, IsCounted, journal_in, journal_of, HasRecords}
use Rattle.journal_bytes.specs.Spelling.{PartFits, head_frame}
use Rattle.journal_bytes.proofs.Again.{head_again}
use Rattle.journal_bytes.proofs.Found.{reading_none, reading_shut, reading_damaged}
use Rattle.journal_bytes.proofs.Spelled.{long_of as sound_long}
use Rattle.journal_bytes.proofs.Ended.{short_file, long_file}

-- what is read is not from a file of one byte
long_of : (file : List ℕ) (j : JournalView) → journal_of file ≡ Ok j → 1 < length file
long_of file j reads = elim (cases_lt 1 (length file)) [
  | inl long ↦ long
  | inr short ↦ let e : Err NotBegun ≡ Ok j = sym (short_file file short) ∙ reads in absurd cc
]

abbrev pub done : {A : Type 0} → A → Result A Refusal
done x = Ok x

pub ok_is : {A : Type 0} (x y : A) → done x ≡ done y → x ≡ y
ok_is x y e = cc

ok_if : {A : Type 0} (b : Bool) (x y : A) (e : Refusal) → (if b then Ok x else Err e) ≡ done y → x ≡ y
ok_if true x y e is = ok_is x y is
ok_if false x y e is = absurd (cc)

bind_ok : {A B : Type 0} (r : Result A Refusal) (f : A → Result B Refusal) (y : B) → (r >>= f) ≡ Ok y → (x : A) × (r ≡ Ok x) × (f x ≡ Ok y)
bind_ok (Ok x) f y e = (x, refl, e)
bind_ok (Err d) f y e = absurd cc

pub records_push : (version : ℕ) (fs : List Frame) (at : ℕ) (es : List RecordView) (f : Frame) (e : RecordView) → records_from version at fs ≡ Ok es → record_of version f ≡ Some e → records_from version at (fs ++ f ∷ []) ≡ Ok (es ++ e ∷ [])
unfolding records_from
records_push version [] at es f e so_far reads = let none : [] ≡ es = ok_is [] es so_far in rw reads (ap (λ (l : List RecordView). done (l ++ e ∷ [])) none)
records_push version (g ∷ fs) at es f e so_far reads =
    let first = bind_ok (or_malformed at (record_of version g)) (λ x. records_from version (at + (38 + length g.body)) fs >>= λ xs. Ok (x ∷ xs)) es so_far in
    let others = bind_ok (records_from version (at + (38 + length g.body)) fs) (λ xs. Ok (first.0 ∷ xs)) es first.2 in
    let whole : first.0 ∷ others.0 ≡ es = ok_is (first.0 ∷ others.0) es others.2 in
    rw (first.1, records_push version fs (at + (38 + length g.body)) others.0 f e others.1 reads) (ap (λ (l : List RecordView). done (l ++ e ∷ [])) whole)

-- a file of at most one byte has no frame
short_frames : (c : List ℕ) → length c ≤ 1 → frames_of c ≡ []
short_frames [] short = ap (λ r. r.frames) (reading_none 0 no_digest 0 [] refl)
short_frames (a ∷ b ∷ c) short = absurd (omega arith)
short_frames (a ∷ []) short = elim (cases_eq a 1) [
  | inr shut ↦ ap (λ r. r.frames) (reading_shut 1 0 no_digest 0 (a ∷ []) refl shut)
  | inl one ↦ by_soundness one (is_sound no_digest (a ∷ [])) refl
]
  where
    by_soundness : a ≡ 1 → (sound : Bool) → is_sound no_digest (a ∷ []) ≡ sound → frames_of (a ∷ []) ≡ []
    by_soundness one true sound = absurd (omega (arith, sound_long no_digest (a ∷ []) sound))
    by_soundness one false damaged = ap (λ r. r.frames) (reading_damaged 1 0 no_digest 0 (a ∷ []) refl one damaged)

long_frames : (g : Frame) (gs : List Frame) (c : List ℕ) → ReadsAs (g ∷ gs) c → 1 < length c
long_frames g gs c reads = elim (cases_lt 1 (length c)) [
  | inl long ↦ long
  | inr short ↦ let e : [] ≡ g ∷ gs = sym (short_frames c short) ∙ ap (λ r. r.frames) reads in absurd cc
]

-- the head and the records of frames, where they are a journal's
pub record Parts (g : Frame) (gs : List Frame) (j : JournalView) : Type 0 where
  pub head : head_of g ≡ Ok j.head
  pub records : records_from j.head.version (38 + length g.body) gs ≡ Ok j.records
  pub tail : j.tail ≡ tail_of (closed_after (g ∷ gs)) j.head.version j.records

parts : (g : Frame) (gs : List Frame) (j : JournalView) → journal_in (closed_after (g ∷ gs)) ≡ Ok j → Parts g gs j
unfolding journal_in
parts g gs j is =
    let r = closed_after (g ∷ gs) in
    let made : HeadView → List RecordView → JournalView = λ h es. record { head = h; records = es; tail = tail_of r h.version es } in
    let first = bind_ok (head_of g) (λ h. records_from h.version (38 + length g.body) gs >>= λ es. Ok (made h es)) j is in
    let others = bind_ok (records_from first.0.version (38 + length g.body) gs) (λ es. Ok (made first.0 es)) j first.2 in
    let whole : made first.0 others.0 ≡ j = ok_is (made first.0 others.0) j others.2 in
    record {
      head = first.1 ∙ ap (λ (x : JournalView). done x.head) whole;
      records = subst (λ (x : JournalView). records_from x.head.version (38 + length g.body) gs ≡ done x.records) whole others.1;
      tail = subst (λ (x : JournalView). x.tail ≡ tail_of r x.head.version x.records) whole refl;
    }

joined : (g : Frame) (gs : List Frame) (h : HeadView) (es : List RecordView) (c : List ℕ) → ReadsAs (g ∷ gs) c → head_of g ≡ Ok h → records_from h.version (38 + length g.body) gs ≡ Ok es → HasRecords h es c
unfolding journal_in
joined g gs h es c reads head records =
    let t : Tail = tail_of (closed_after (g ∷ gs)) h.version es in
    let made : journal_in (closed_after (g ∷ gs)) ≡ Ok (record { head = h; records = es; tail = t }) = rw (head, records) refl in
    (t, long_file c (long_frames g gs c reads) ∙ ap journal_in reads ∙ made)

from_file : (fs : List Frame) (file : List ℕ) (j : JournalView) → ReadsAs fs file → journal_of file ≡ Ok j → journal_in (closed_after fs) ≡ Ok j
from_file fs file j reads is = sym (ap journal_in reads) ∙ sym (long_file file (long_of file j is)) ∙ is

pub same_records : (fs : List Frame) (file c : List ℕ) (j : JournalView) → ReadsAs fs file → journal_of file ≡ Ok j → ReadsAs fs c → HasRecords j.head j.records c
unfolding journal_in
same_records [] file c j reads is other = let e : Err NotBegun ≡ Ok j = from_file [] file j reads is in absurd cc
same_records (g ∷ gs) file c j reads is other = let p = parts g gs j (from_file (g ∷ gs) file j reads is) in joined g gs j.head j.records c other p.head p.records

pub one_more : (fs : List Frame) (f : Frame) (e : RecordView) (file c : List ℕ) (j : JournalView) → ReadsAs fs file → journal_of file ≡ Ok j → record_of j.head.version f ≡ Some e → ReadsAs (fs ++ f ∷ []) c → HasRecords j.head (j.records ++ e ∷ []) c
unfolding journal_in
one_more [] f e file c j reads is more other = let x : Err NotBegun ≡ Ok j = from_file [] file j reads is in absurd cc
one_more (g ∷ gs) f e file c j reads is more other =
    let p = parts g gs j (from_file (g ∷ gs) file j reads is) in
    joined g (gs ++ f ∷ []) j.head (j.records ++ e ∷ []) c other p.head (records_push j.head.version gs (38 + length g.body) j.records f e p.records more)

-- a file that reads as the frame of a head has this head and no records
pub only_head : (h : HeadView) (c : List ℕ) → h.version ≡ 2 → length h.text < 2 ^ 32 → is_distance h.within ≡ true → IfSome h.part PartFits → ReadsAs (head_frame h ∷ []) c → HasRecords h [] c
unfolding records_from
only_head h c newest fits near mark reads = joined (head_frame h) [] h [] c reads (head_again h newest fits near mark) refl

-- The tail of a journal.

pub since-push : (es : List RecordView) (n : ℕ) (e : RecordView) → since_all n (es ++ e ∷ []) ≡ since_after (since_all n es) e
since-push [] n e = refl
since-push (x ∷ es) n e = since-push es (since_after n x) e

counted-in : (fs : List Frame) (digest : List ℕ) (end : ℕ) (is_whole : Bool) (j : JournalView) → journal_in (record { frames = fs; digest = digest; end = end; is_whole = is_whole }) ≡ Ok j → IsCounted j.tail j.head j.records
unfolding journal_in
counted-in [] digest end true j is = absurd (cc)
counted-in [] digest end false j is = absurd (cc)
counted-in (g ∷ gs) digest end is_whole j is =
    let r : Reading = record { frames = g ∷ gs; digest = digest; end = end; is_whole = is_whole } in
    let made : HeadView → List RecordView → JournalView = λ h es. record { head = h; records = es; tail = tail_of r h.version es } in
    let last : HeadView → List RecordView → Result JournalView Refusal = λ h es. if is_whole then Ok (made h es) else Err (Damaged end) in
    let first = bind_ok (head_of g) (λ h. records_from h.version (38 + length g.body) gs >>= λ es. last h es) j is in
    let others = bind_ok (records_from first.0.version (38 + length g.body) gs) (λ es. last first.0 es) j first.2 in
    let whole : made first.0 others.0 ≡ j = ok_if is_whole (made first.0 others.0) j (Damaged end) others.2 in
    subst (λ (x : JournalView). IsCounted x.tail x.head x.records) whole (record { version = refl; since = refl })

pub counted : (file : List ℕ) (j : JournalView) → journal_of file ≡ Ok j → IsCounted j.tail j.head j.records
counted file j is =
    let r = reading_of file in
    counted-in r.frames r.digest r.end r.is_whole j (sym (long_file file (long_of file j is)) ∙ is)
