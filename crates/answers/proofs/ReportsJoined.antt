-- What the reports of all parts of a stopped search are joined to.
use Rattle.std.proofs.Common.{◌≡◌, inl, inr, ℕ, ◌<◌, ℤ, List, [], ◌∷◌, length, Option, Some, None, Result, Ok, Err, true, is_some, refl, sym, ◌∙◌, ap, subst, arith}
use Rattle.std.specs.Prelude.{IfErr, IfOk, MatchResult}
use Rattle.disk.specs.declared.disk.Disk.{Ghosts}
use Rattle.bound_cover.specs.Exploring.{HoldsAll}
use Rattle.dp_model.specs.Distances.{IsDistance}
use Rattle.dp_model.specs.Dp.{Dp}
use Rattle.dp_model.specs.Laws.{IsLawful}
use Rattle.dp_model.specs.Solution.{Solution}
use Rattle.problem_theory.specs.Theory.{Agrees}
use Rattle.board_laws.specs.Board.{BoardState, reach_of, value_held}
use Rattle.board_laws.specs.Starts.{whole_search}
use Rattle.frontier_parts.specs.Searches.{HoldsFrom}
use Rattle.frontier_parts.proofs.Searching.{held_shown, values_settle}
use Rattle.journal_bytes.specs.Bodies.{RecordView}
use Rattle.journal_bytes.specs.Journal.{JournalView}
use Rattle.journal_bytes.specs.declared.head.Part.{Part}
use Rattle.journal_file.specs.declared.error.JournalError.TheVariants as errors
use Rattle.journal_replay.specs.Accepting.{AreAccepted}
use Rattle.journal_replay.specs.Sound.{AreSoundOf}
use Rattle.journal_replay.proofs.Joined.{sound-restore-good}
use Rattle.part_reports.proofs.Told.{reports-hold-from}
use Rattle.part_text.specs.Reports.{SettledView, reports_of}
use Rattle.problems.specs.Theories.{theory_of}
use Rattle.solver_report.specs.declared.answer.Answer.{Answer}
use Rattle.solver_report.specs.declared.answer.Answer.TheVariants as answers
use Rattle.tokens.specs.declared.instance_error.InstanceError.{InstanceError}
use Rattle.answers.specs.Covers.{cover_limit}
use Rattle.answers.specs.Ended.{LeavesAfterReports, Readings, WasRead}
use Rattle.answers.specs.Journals.{Attaches, IsUnwritten}
use Rattle.answers.specs.Kept.{starts_for}
use Rattle.answers.specs.Opened.{ReadsNamed}
use Rattle.answers.specs.Outcomes.{IsTrueOf}
use Rattle.answers.specs.PartSearches.{AreSettledWithin}
use Rattle.answers.specs.Offers.{RefusesReport, parts_told}
use Rattle.answers.specs.ReportsJoined.{AreAllHeld, DoesNotJoin, HasBest, HasJoined, IsTrueJoined, JoinsFrom, JoinsIn, JoinsJournal, JoinsReports, LeavesRead, RefusesReports, TellsJoined, joined_answer, whole_outcome}
use Rattle.answers.specs.Splits.{idle_settings, stopped_board}
use Rattle.answers.proofs.Conclusions.{found_holds, reach_infeasible, reach_proved}
use Rattle.answers.proofs.Opened.{refused-not-disk}
use Rattle.answers.proofs.PartSearches.{in_own_words}
use Rattle.answers.proofs.Splits.{idle-are, stopped-is}

-- ---- what is told is true

module _ (dp : Dp) (laws : IsLawful dp) (own : List ℕ → Option ℤ) (agrees : Agrees dp own) (within : ℤ) (near : IsDistance within) (digest : List ℕ) (records : List RecordView) (rs : List SettledView)
    (best : Option Solution) (joined : HasJoined dp within digest records rs best) where
  some-told : (ss : List SettledView) → 0 < length ss → 0 < length (parts_told ss)
  some-told [] less = less
  some-told (s ∷ ss) less = omega arith

  -- no solution that begins with a start prefix is further above the best one than the distance
  holds-from : (starts : List (List ℕ)) → AreSoundOf dp starts within records → AreAllHeld dp (stopped_board dp within records) (parts_told rs) → HoldsFrom dp starts (reach_of within (value_held best))
  holds-from starts sound held =
      let good = sound-restore-good dp laws {starts = starts} (idle_settings within) records (idle-are within near) joined.accepted sound in
      let board = stopped-is dp laws within near records joined.accepted in
      subst (λ (v : Option ℤ). HoldsFrom dp starts (reach_of within v)) (sym joined.found.value)
      (reports-hold-from dp (stopped_board dp within records) digest (parts_told rs) joined.found.reports starts board good (some-told rs joined.found.some) held)

  whole-true : AreSoundOf dp whole_search within records → AreAllHeld dp (stopped_board dp within records) (parts_told rs) → IsTrueOf dp own 0 (whole_outcome within best)
  whole-true sound held =
      let most : HoldsAll dp (reach_of within (value_held best)) = λ x s. holds-from whole_search sound held x s (inl refl) in
      told best refl most
    where
      told : (b : Option Solution) → b ≡ best → HoldsAll dp (reach_of within (value_held best)) → IsTrueOf dp own 0 (whole_outcome within b)
      told (Some found) is most = (near, reach_proved dp own agrees within best found is joined.found.holds most)
      told None is most = reach_infeasible dp own agrees within best is most

  part-true : (starts : List (List ℕ)) → AreSoundOf dp starts within records → AreAllHeld dp (stopped_board dp within records) (parts_told rs) → AreSettledWithin dp own starts within best
  part-true starts sound held =
      let here = holds-from starts sound held in
      record {
        distance = near;
        none_further = in_own_words dp own agrees starts (reach_of within (value_held best)) here;
        settled = values_settle dp starts within (value_held best) (held_shown dp best joined.found.holds) here;
      }

  joined-true : (part : Option Part) (starts : List (List ℕ)) → starts_for part records ≡ Some starts → AreSoundOf dp starts within records → AreAllHeld dp (stopped_board dp within records) (parts_told rs) → IsTrueJoined dp own part starts within best
  joined-true None starts is sound held = whole-true (subst (λ (ps : List (List ℕ)). AreSoundOf dp ps within records) (sym (some-same is)) sound) held
    where
      some-same : Some whole_search ≡ Some starts → whole_search ≡ starts
      some-same e = cc
  joined-true (Some part) starts is sound held = part-true starts sound held

-- ---- what is answered

module _ (dp : Dp) (laws : IsLawful dp) (own : List ℕ → Option ℤ) (agrees : Agrees dp own) (rs : List SettledView) (j : JournalView) (near : IsDistance j.head.within) (first : ℕ) where
  joins-of : (starts : List (List ℕ)) (part : Option Part) (within : ℤ) (best : Option Solution) → TellsJoined dp own starts rs j (joined_answer part within best) → JoinsFrom dp own starts rs j first (joined_answer part within best)
  joins-of starts None within best tells = tells
  joins-of starts (Some part) within best tells = tells

  told-from : (starts : List (List ℕ)) → starts_for j.head.part j.records ≡ Some starts → (best : Option Solution) → HasJoined dp j.head.within j.tail.digest j.records rs best
      → JoinsFrom dp own starts rs j first (joined_answer j.head.part j.head.within best)
  told-from starts is best h =
      let tells : TellsJoined dp own starts rs j (joined_answer j.head.part j.head.within best) = record {
        best = best;
        told = refl;
        joined = h;
        found_one = found_holds dp own agrees best h.found.holds;
        true_told = joined-true dp laws own agrees j.head.within near j.tail.digest j.records rs best h j.head.part starts is;
      } in
      joins-of starts j.head.part j.head.within best tells

  -- the best solution that was found
  pub joins-told : is_some (starts_for j.head.part j.records) ≡ true → (best : Option Solution) → HasJoined dp j.head.within j.tail.digest j.records rs best
      → JoinsIn dp own (starts_for j.head.part j.records) rs j first (joined_answer j.head.part j.head.within best)
  joins-told there best h = go (starts_for j.head.part j.records) refl there
    where
      go : (o : Option (List (List ℕ))) → starts_for j.head.part j.records ≡ o → is_some o ≡ true → JoinsIn dp own o rs j first (joined_answer j.head.part j.head.within best)
      go None is absent = cc
      go (Some starts) is there = told-from starts is best h

-- a journal is not refused for the disk
pub joins-not-disk : (rs : List SettledView) (j : JournalView) (first : ℕ) → JoinsJournal rs j first (answers.Journal errors.Disk) → ⊥
joins-not-disk rs j first h = never ((theory_of j.head.model).spelled j.head.text) h
  where
    not-here : (dp : Dp) (own : List ℕ → Option ℤ) (o : Option (List (List ℕ))) → JoinsIn dp own o rs j first (answers.Journal errors.Disk) → ⊥
    not-here dp own None same = cc
    not-here dp own (Some starts) h = refused-not-disk dp first j.records h

    never : {E : Type 0} (r : Result (List ℤ) E) → MatchResult r (λ numbers. JoinsIn ((theory_of j.head.model).program numbers) ((theory_of j.head.model).own_value numbers) (starts_for j.head.part j.records) rs j first (answers.Journal errors.Disk))
        (λ e. answers.Journal errors.Disk ≡ answers.Journal (errors.Malformed 0)) → ⊥
    never (Ok numbers) h = not-here _ _ (starts_for j.head.part j.records) h
    never (Err e) same = cc

-- ---- step by step

module _ (dp dpa dpb : Dp) (sa : dpa ≡ dp) (sb : dpb ≡ dp) (within w : ℤ) (sw : w ≡ within) (digest : List ℕ) (records : List RecordView) (rs : List SettledView) (accepted : AreAccepted dpa records) where
  accepted-there : AreAccepted dp records
  accepted-there = subst (λ (d : Dp). AreAccepted d records) sa accepted

  refused-there : (first : ℕ) (answer : Answer) → RefusesReports dp within digest rs answer → DoesNotJoin dp within digest first records rs answer
  refused-there first (answers.ReportsRefused refusal) h = (accepted-there, h)
  refused-there first answers.OutOfMemory h = tt
  refused-there first answer h = absurd h

  -- what was found on the board that accepted records make, or why nothing was
  pub found-joined : (b : BoardState) → b ≡ stopped_board dpa within records → (first : ℕ) (r : Result (Option Solution) Answer) → IfOk r (HasBest dpb w digest b rs) → IfErr r (RefusesReports dpb w digest rs)
      → MatchResult r (HasJoined dp within digest records rs) (DoesNotJoin dp within digest first records rs)
  found-joined b is first (Ok best) h k =
      let on : HasBest dp within digest b rs best = subst (λ (d : Dp). HasBest d within digest b rs best) sb (subst (λ (z : ℤ). HasBest dpb z digest b rs best) sw h) in
      let there : b ≡ stopped_board dp within records = is ∙ ap (λ (d : Dp). stopped_board d within records) sa in
      record { accepted = accepted-there; found = subst (λ (b : BoardState). HasBest dp within digest b rs best) there on }
  found-joined b is first (Err answer) h k = refused-there first answer (subst (λ (d : Dp). RefusesReports d within digest rs answer) sb (subst (λ (z : ℤ). RefusesReports dpb z digest rs answer) sw k))

-- ---- the input

module _ {D : Type 0} (on : Ghosts D) (path : List ℕ) (before now : D) where
  -- reports that were read
  pub text-joined : (bytes : List ℕ) (rs : List SettledView) → reports_of bytes ≡ Ok rs → (answer : Answer) → ReadsNamed on (JoinsJournal rs) path before now answer → JoinsReports on path before now bytes answer
  text-joined bytes rs read answer h = subst (λ (r : Result (List SettledView) InstanceError). MatchResult r (λ rs. ReadsNamed on (JoinsJournal rs) path before now answer) (λ e. RefusesReport e answer × (now ≡ before))) (sym read) h

-- ---- what is left

-- what is left after a text of reports is what is left after an input
pub left-read : {D : Type 0} (on : Ghosts D) (path text : List ℕ) (r : Readings) (before now : D) → WasRead cover_limit r text → LeavesRead on path text before now
    → LeavesAfterReports r (Attaches on path before now × IsUnwritten on now) before now
left-read on path text r before now read (inl same) = inl same
left-read on path text r before now read (inr h) = inr ((h.0, h.1), (text, read, h.2))
