-- What a crash leaves in each of the two writes of an append.
use Rattle.std.proofs.Common.{◌≡◌, ◌≢◌, inl, inr, ℕ, ◌+◌, ◌<◌, List, [], ◌∷◌, ◌++◌, length, get_or, take, drop, sym, ◌∙◌, ap, subst, arith, append_assoc, length-append, take-append-drop}
use Rattle.std.specs.List.{AllByRecursion}
use Rattle.std.proofs.lemmas.Bool.{cases_eq}
use Rattle.std.proofs.lemmas.List.{take_at, drop_at, drop_more}
use Rattle.disk.specs.Disk.{Holds, Torn}
use Rattle.journal_bytes.specs.Frames.{Frame, Fits, sealed, no_digest, spelled, digest_after, ReadsAs, IsBeforeOrAfter}
use Rattle.journal_bytes.proofs.Reading.{reads_as, spelled-push, fit-push}

module _ (fs : List Frame) (fit : AllByRecursion Fits fs) (gate : ℕ) (shut : gate ≢ 1) (rest : List ℕ) (f : Frame) (f_fits : Fits f) (o : ℕ) (o_is : length (spelled no_digest fs) ≡ o) where
  abbrev pub old : List ℕ
  old = spelled no_digest fs ++ gate ∷ rest

  abbrev pub bytes : List ℕ
  bytes = sealed (digest_after no_digest fs) f ++ 0 ∷ []

  -- the file with the record after the closed gate, and what stood after its place
  abbrev pub staged : List ℕ → List ℕ
  staged more = spelled no_digest fs ++ gate ∷ (sealed (digest_after no_digest fs) f ++ 0 ∷ more)

  -- and with its gate open
  abbrev pub added : List ℕ → List ℕ
  added more = spelled no_digest (fs ++ f ∷ []) ++ 0 ∷ more

  abbrev pub up_to : List ℕ
  up_to = spelled no_digest fs ++ gate ∷ []

  old_parts : old ≡ up_to ++ rest
  old_parts = sym (append_assoc (spelled no_digest fs) (gate ∷ []) rest)

  length-up_to : length up_to ≡ o + 1
  length-up_to = omega (arith, length-append (spelled no_digest fs) (gate ∷ []))

  old_front : take (o + 1) old ≡ up_to
  old_front = ap (λ (l : List ℕ). take (o + 1) l) old_parts ∙ take_at up_to rest (o + 1) length-up_to

  -- the closed gate stands in each outcome of the first write
  pub torn_after : (n : ℕ) (c : List ℕ) → Torn (o + 1) n old c → ReadsAs fs c
  torn_after n c torn =
      let whole : c ≡ spelled no_digest fs ++ gate ∷ drop (o + 1) c =
      sym (take-append-drop (o + 1) c) ∙ ap (λ (l : List ℕ). l ++ drop (o + 1) c) (torn.before ∙ old_front) ∙ append_assoc (spelled no_digest fs) (gate ∷ []) (drop (o + 1) c) in
      subst (ReadsAs fs) (sym whole) (reads_as fs gate (drop (o + 1) c) fit shut)

  pub written_following : (c : List ℕ) → Holds old (o + 1) bytes c → c ≡ staged (drop (o + 1 + length bytes) old)
  written_following c holds =
      let more = drop (o + 1 + length bytes) old in
      holds ∙ ap (λ (l : List ℕ). l ++ bytes ++ more) old_front ∙ append_assoc up_to bytes more ∙ append_assoc (spelled no_digest fs) (gate ∷ []) (bytes ++ more)
      ∙ ap (λ (l : List ℕ). spelled no_digest fs ++ gate ∷ l) (append_assoc (sealed (digest_after no_digest fs) f) (0 ∷ []) more)

  module _ (more : List ℕ) where
    abbrev pub following : List ℕ
    following = sealed (digest_after no_digest fs) f ++ 0 ∷ more

    staged_front : take o (staged more) ≡ spelled no_digest fs
    staged_front = take_at (spelled no_digest fs) (gate ∷ following) o o_is

    staged_back : drop (o + 1) (staged more) ≡ following
    staged_back = ap (λ (l : List ℕ). drop (o + 1) l) (sym (append_assoc (spelled no_digest fs) (gate ∷ []) following)) ∙ drop_at up_to following (o + 1) length-up_to

    added_is : spelled no_digest fs ++ 1 ∷ following ≡ added more
    added_is = sym (spelled-push fs no_digest f (0 ∷ more))

    -- the record stands whole in each outcome of the second write
    pub torn_gate : (c : List ℕ) → Torn o 1 (staged more) c → IsBeforeOrAfter fs f c
    torn_gate c torn =
        let long : o < length c = omega (arith, torn.no_shorter, length-append (spelled no_digest fs) (gate ∷ following)) in
        let new_gate = get_or c o 0 in
        let back : drop o c ≡ new_gate ∷ following = drop_more c o 0 long ∙ ap (λ (l : List ℕ). new_gate ∷ l) (torn.after ∙ staged_back) in
        let whole : c ≡ spelled no_digest fs ++ new_gate ∷ following =
        sym (take-append-drop o c) ∙ ap (λ (l : List ℕ). l ++ drop o c) (torn.before ∙ staged_front) ∙ ap (λ (l : List ℕ). spelled no_digest fs ++ l) back in
        elim (cases_eq new_gate 1) [
          | inl open_gate ↦
              let is : c ≡ added more = whole ∙ ap (λ (g : ℕ). spelled no_digest fs ++ g ∷ following) open_gate ∙ added_is in
              inr (subst (ReadsAs (fs ++ f ∷ [])) (sym is) (reads_as (fs ++ f ∷ []) 0 more (fit-push fs f fit f_fits) (λ e. absurd (omega arith))))
          | inr closed ↦ inl (subst (ReadsAs fs) (sym whole) (reads_as fs new_gate following fit closed))
        ]

    pub written_gate : (c : List ℕ) → Holds (staged more) o (1 ∷ []) c → c ≡ added more
    written_gate c holds =
        holds ∙ ap (λ (l : List ℕ). l ++ (1 ∷ []) ++ drop (o + 1) (staged more)) staged_front ∙ ap (λ (l : List ℕ). spelled no_digest fs ++ (1 ∷ []) ++ l) staged_back
        ∙ append_assoc (spelled no_digest fs) (1 ∷ []) following ∙ added_is
