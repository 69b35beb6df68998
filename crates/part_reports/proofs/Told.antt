-- The parts that the reports tell of are settled.
use Rattle.std.proofs.Common.{◌≡◌, ℕ, zero, suc, ◌+◌, ◌<◌, ◌≤◌, ℤ, List, [], ◌∷◌, ◌++◌, length, map, take, Option, Some, None, ◌⊎◌, refl, sym, ◌∙◌, ap, subst, arith}
use Rattle.dp_model.specs.Decisions.{below}
use Rattle.dp_model.specs.Dp.{Dp}
use Rattle.dp_model.specs.Numbers.{AtMost}
use Rattle.dp_model.specs.Prefixes.{IsCompletion, IsSolution, value_of}
use Rattle.dp_model.proofs.Members.{Each-then}
use Rattle.board_laws.specs.Board.{BoardState, incumbent_value, reach_of}
use Rattle.board_laws.specs.GoodBoard.{IsBoard, IsGood, IsGoodFrom}
use Rattle.frontier_parts.specs.Searches.{AreSettledBy, HoldsFrom}
use Rattle.frontier_parts.specs.Settled.{IsShown, IsSettled, IsSettledWithin, joined}
use Rattle.journal_bytes.specs.Bodies.{IncumbentView}
use Rattle.journal_replay.specs.Following.{snapshot_record}
use Rattle.part_records.specs.Parts.{IsPartSettled, IsPartSettledWithin, dealt_record, joined_value}
use Rattle.part_records.proofs.Joining.{near, parts-joined, parts-joined-from}
use Rattle.part_reports.specs.Joining.{IsHeld, IsHeldWithin, ReportsJoin, part_starts, told_of}
use Rattle.part_reports.specs.Reports.{ReportView, AreReports, IsTested, value_told, values_told}

-- the values that are told of the first n parts
told-below : (rs : List ReportView) (n : ℕ) → n ≤ length rs → map (told_of rs) (below n) ≡ take n (values_told rs)
told-below rs zero le = refl
told-below rs (suc n) le = map-snoc (told_of rs) (below n) n ∙ (ap (λ l. l ++ told_of rs n ∷ []) (told-below rs n (omega arith)) ∙ sym (one-more rs n (omega arith)))
  where
    map-snoc : (f : ℕ → Option ℤ) (ks : List ℕ) (k : ℕ) → map f (ks ++ k ∷ []) ≡ map f ks ++ f k ∷ []
    map-snoc f [] k = refl
    map-snoc f (x ∷ ks) k = ap (λ l. f x ∷ l) (map-snoc f ks k)

    one-more : (qs : List ReportView) (m : ℕ) → m < length qs → take (suc m) (values_told qs) ≡ take m (values_told qs) ++ told_of qs m ∷ []
    one-more [] m less = absurd (omega arith)
    one-more (q ∷ qs) zero less = refl
    one-more (q ∷ qs) (suc m) less = ap (λ l. value_told q ∷ l) (one-more qs m (omega arith))

told-all : (rs : List ReportView) → map (told_of rs) (below (length rs)) ≡ values_told rs
told-all rs = told-below rs (length rs) (omega arith) ∙ whole rs
  where
    whole : (qs : List ReportView) → take (length qs) (values_told qs) ≡ values_told qs
    whole [] = refl
    whole (q ∷ qs) = ap (λ l. value_told q ∷ l) (whole qs)

-- a value that was tested is shown
tested-shown : (dp : Dp) (best : Option IncumbentView) (r : ReportView) → r.best ≡ best → IsTested dp best → IsShown dp (value_told r)
tested-shown dp None r is tested = subst (λ (o : Option IncumbentView). IsShown dp (value_told (record r { best = o }))) (sym is) tt
tested-shown dp (Some b) r is tested = subst (λ (o : Option IncumbentView). IsShown dp (value_told (record r { best = o }))) (sym is) (record { by = b.decisions; solution = tested.solution; value = sym tested.value })

told-shown : (dp : Dp) (digest : List ℕ) (of start : ℕ) (rs : List ReportView) → AreReports dp digest of start rs → (i : ℕ) → i < length rs → IsShown dp (told_of rs i)
told-shown dp digest of start [] are i less = absurd (omega arith)
told-shown dp digest of start (r ∷ rs) are zero less = tested-shown dp r.best r refl are.0.tested
told-shown dp digest of start (r ∷ rs) are (suc i) less = told-shown dp digest of (start + 1) rs are.1 i (omega arith)

module _ (dp : Dp) (b : BoardState) (digest : List ℕ) (rs : List ReportView) (are : AreReports dp digest (length rs) 0 rs) where
  -- a part that is held is settled with the value that is told of it
  held-settled : (i : ℕ) → i < length rs → IsHeld dp b rs i → IsPartSettled dp b (dealt_record (length rs) i (snapshot_record b)) (told_of rs i)
  held-settled i less held =
      let shown = told-shown dp digest (length rs) 0 rs are i less in
      record {
        shown = shown;
        each = Each-then (λ p. (x : List ℕ) → IsCompletion dp p x → AtMost (value_of dp x) (told_of rs i) ⊎ AtMost (value_of dp x) (incumbent_value b))
            (λ p. IsSettled dp (incumbent_value b) (record { prefix = p; best = told_of rs i })) (part_starts b (length rs) i) (λ p each. record { shown = shown; held = each }) held;
      }

  held-near : (i : ℕ) → i < length rs → IsHeldWithin dp b rs i → IsPartSettledWithin dp b (dealt_record (length rs) i (snapshot_record b)) (told_of rs i)
  held-near i less held =
      let shown = told-shown dp digest (length rs) 0 rs are i less in
      let within = b.settings.within in
      record {
        shown = shown;
        each = Each-then (λ p. (x : List ℕ) → IsCompletion dp p x → AtMost (value_of dp x) (reach_of within (told_of rs i)) ⊎ AtMost (value_of dp x) (reach_of within (incumbent_value b)))
            (λ p. IsSettledWithin dp within (incumbent_value b) (record { prefix = p; best = told_of rs i })) (part_starts b (length rs) i) (λ p each. record { shown = shown; held = each }) held;
      }

  -- the joined value, part by part and report by report
  same-joined : joined_value b (length rs) (told_of rs) ≡ joined (incumbent_value b) (values_told rs)
  same-joined = ap (joined (incumbent_value b)) (told-all rs)

  pub reports-join : IsBoard dp b → IsGood dp b → 0 < length rs → ReportsJoin dp b rs
  reports-join g h some =
      let join = parts-joined dp b (length rs) (told_of rs) g h some in
      record {
        best = λ zero held. sym same-joined ∙ join.best zero (λ i less. held-settled i less (held i less));
        within = λ held. subst (λ (o : Option ℤ). (x : List ℕ) → IsSolution dp x → AtMost (value_of dp x) (reach_of b.settings.within o)) same-joined (join.within (λ i less. held-near i less (held i less)));
      }

  pub reports-join-from : (starts : List (List ℕ)) → IsBoard dp b → IsGoodFrom dp starts b → 0 < length rs
      → ((i : ℕ) → i < length rs → IsHeldWithin dp b rs i) → AreSettledBy dp starts b.settings.within (joined (incumbent_value b) (values_told rs))
  reports-join-from starts g h some held = subst (λ (o : Option ℤ). AreSettledBy dp starts b.settings.within o) same-joined
      (parts-joined-from dp starts b (length rs) (told_of rs) g h some (λ i less. held-near i less (held i less)))

  -- no solution that begins with a start prefix is further above the joined value than the distance
  pub reports-hold-from : (starts : List (List ℕ)) → IsBoard dp b → IsGoodFrom dp starts b → 0 < length rs
      → ((i : ℕ) → i < length rs → IsHeldWithin dp b rs i) → HoldsFrom dp starts (reach_of b.settings.within (joined (incumbent_value b) (values_told rs)))
  reports-hold-from starts g h some held = subst (λ (o : Option ℤ). HoldsFrom dp starts (reach_of b.settings.within o)) same-joined
      (near dp starts b (length rs) (told_of rs) g h some (λ i less. held-near i less (held i less)))
