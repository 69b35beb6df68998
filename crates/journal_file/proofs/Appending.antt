-- What an append leaves, step by step, over any disk.
use Rattle.std.proofs.Common.{◌≡◌, ◌≢◌, inl, ℕ, ◌+◌, List, [], ◌∷◌, ◌++◌, length, drop, refl, sym, ◌∙◌, ap, subst, arith, length-append}
use Rattle.std.specs.List.{AllByRecursion}
use Rattle.disk.specs.Disk.{Holds, Torn, Only, LeavesOnly}
use Rattle.journal_bytes.specs.declared.tail.Tail.{Tail}
use Rattle.journal_bytes.specs.Frames.{Frame, Fits, digest_of, sealed, no_digest, spelled, digest_after, frames_of, ReadsAs, IsBeforeOrAfter}
use Rattle.journal_file.specs.Settled.{IsSettled}
use Rattle.disk.proofs.Runs.{started, then, weaker}
use Rattle.journal_bytes.proofs.Reading.{reads_as, fit-push, spelled-push, digest-push, length-digest_of}
use Rattle.journal_file.proofs.Images as images

pub zero_shut : (gate : ℕ) → gate ≡ 0 → gate ≢ 1
zero_shut gate zero one = omega arith

-- a file of these frames is settled, whatever stands after its closed gate
pub settled : (file : List ℕ) (may_leave : List ℕ → Type 0) (tail : Tail) (fs : List Frame) (more : List ℕ) → AllByRecursion Fits fs → file ≡ spelled no_digest fs ++ 0 ∷ more → tail.end ≡ length (spelled no_digest fs) → tail.digest ≡ digest_after no_digest fs → Only file may_leave
    → IsSettled file may_leave tail (frames_of file) × (frames_of file ≡ fs)
settled file may_leave tail fs more fit is end digest only =
    let shut = zero_shut 0 refl in
    let reads : ReadsAs fs file = subst (ReadsAs fs) (sym is) (reads_as fs 0 more fit shut) in
    let same : frames_of file ≡ fs = ap (λ r. r.frames) reads in (
      subst (IsSettled file may_leave tail) (sym same) (record { ends = record { fit = fit; gate = 0; rest = more; shut = shut; parts = is; end = end; digest = digest }; durable = only }),
      same,
    )

-- a settled file reads as its frames
pub settled_reads : (file : List ℕ) (may_leave : List ℕ → Type 0) (tail : Tail) (fs : List Frame) → IsSettled file may_leave tail fs → ReadsAs fs file
settled_reads file may_leave tail fs s = subst (ReadsAs fs) (sym s.ends.parts) (reads_as fs s.ends.gate s.ends.rest s.ends.fit s.ends.shut)

module _ {D : Type 0} (seen : D → List ℕ) (may_leave : D → List ℕ → Type 0) (moment : D → ℕ) (left_since : D → ℕ → List ℕ → Type 0) (old : D) (tail : Tail) (f : Frame) (f_fits : Fits f) (s : IsSettled (seen old) (may_leave old) tail (frames_of (seen old))) where
  abbrev fs : List Frame
  fs = frames_of (seen old)

  abbrev P : List ℕ → Type 0
  P = IsBeforeOrAfter fs f

  reads : ReadsAs fs (seen old)
  reads = subst (ReadsAs fs) (sym s.ends.parts) (reads_as fs s.ends.gate s.ends.rest s.ends.fit s.ends.shut)

  pub nothing_written : ((c : List ℕ) → left_since old (moment old) c → may_leave old c) → LeavesOnly moment left_since old old P
  nothing_written only_now = started moment left_since old P (λ c left. inl (subst (ReadsAs fs) (sym (s.durable c (only_now c left))) reads))

  pub following : (mid : D) (n : ℕ) → LeavesOnly moment left_since old mid (Torn (tail.end + 1) n (seen old)) → LeavesOnly moment left_since old mid P
  following mid n run =
      weaker moment left_since old mid (Torn (tail.end + 1) n (seen old)) P run
      (λ c torn. inl (images.torn_after fs s.ends.fit s.ends.gate s.ends.shut s.ends.rest f f_fits tail.end (sym s.ends.end) n c (subst (λ (l : List ℕ). Torn (tail.end + 1) n l c) s.ends.parts torn)))

  abbrev more : List ℕ → List ℕ
  more bytes = drop (tail.end + 1 + length bytes) (spelled no_digest fs ++ s.ends.gate ∷ s.ends.rest)

  pub staged : (file bytes : List ℕ) → bytes ≡ sealed tail.digest f ++ 0 ∷ [] → Holds (seen old) (tail.end + 1) bytes file → file ≡ images.staged fs s.ends.fit s.ends.gate s.ends.shut s.ends.rest f f_fits tail.end (sym s.ends.end) (more (sealed (digest_after no_digest fs) f ++ 0 ∷ []))
  staged file bytes bytes_are holds =
      let same : bytes ≡ sealed (digest_after no_digest fs) f ++ 0 ∷ [] = bytes_are ∙ ap (λ (d : List ℕ). sealed d f ++ 0 ∷ []) s.ends.digest in
      images.written_following fs s.ends.fit s.ends.gate s.ends.shut s.ends.rest f f_fits tail.end (sym s.ends.end) file (subst (λ (l : List ℕ). Holds l (tail.end + 1) (sealed (digest_after no_digest fs) f ++ 0 ∷ []) file) s.ends.parts (subst (λ (b : List ℕ). Holds (seen old) (tail.end + 1) b file) same holds))

  module _ (mid new : D) (bytes : List ℕ) (bytes_are : bytes ≡ sealed tail.digest f ++ 0 ∷ []) (holds : Holds (seen old) (tail.end + 1) bytes (seen mid)) where
    abbrev rest : List ℕ
    rest = more (sealed (digest_after no_digest fs) f ++ 0 ∷ [])

    pub opened : LeavesOnly moment left_since old mid (Torn (tail.end + 1) (length bytes) (seen old)) → LeavesOnly moment left_since mid new (Torn tail.end 1 (seen mid)) → LeavesOnly moment left_since old new P
    opened first second =
        then moment left_since old mid new P (Torn tail.end 1 (seen mid)) P (following mid (length bytes) first) second (λ c has. has)
        (λ c torn. images.torn_gate fs s.ends.fit s.ends.gate s.ends.shut s.ends.rest f f_fits tail.end (sym s.ends.end) rest c (subst (λ (l : List ℕ). Torn tail.end 1 l c) (staged (seen mid) bytes bytes_are holds) torn))

    pub acknowledged : (next : Tail) → next.end ≡ tail.end + (38 + length f.body) → next.digest ≡ digest_of tail.digest f → Holds (seen mid) tail.end (1 ∷ []) (seen new) → Only (seen new) (may_leave new)
        → IsSettled (seen new) (may_leave new) next (frames_of (seen new)) × (frames_of (seen new) ≡ fs ++ f ∷ [])
    acknowledged next end digest gate_holds only =
        let is : seen new ≡ spelled no_digest (fs ++ f ∷ []) ++ 0 ∷ rest = images.written_gate fs s.ends.fit s.ends.gate s.ends.shut s.ends.rest f f_fits tail.end (sym s.ends.end) rest (seen new) (subst (λ (l : List ℕ). Holds l tail.end (1 ∷ []) (seen new)) (staged (seen mid) bytes bytes_are holds) gate_holds) in
        let long : length (spelled no_digest (fs ++ f ∷ [])) ≡ tail.end + (38 + length f.body) =
        omega (arith, s.ends.end, ap length (spelled-push fs no_digest f []), length-append (spelled no_digest (fs ++ f ∷ [])) [], length-append (spelled no_digest fs) (1 ∷ (sealed (digest_after no_digest fs) f ++ [])), length-append (sealed (digest_after no_digest fs) f) [], length-append f.body (digest_of (digest_after no_digest fs) f), length-digest_of (digest_after no_digest fs) f) in
        settled (seen new) (may_leave new) next (fs ++ f ∷ []) rest (fit-push fs f s.ends.fit f_fits) is (end ∙ sym long) (digest ∙ ap (λ (d : List ℕ). digest_of d f) s.ends.digest ∙ sym (digest-push fs no_digest f)) only
