-- An order in the problem's own words is a feasible solution of the dynamic program, and the other way round.
use Rattle.std.proofs.Common.{◌≡◌, ℕ, ◌+◌, ℤ, pos, neg_ℤ, ◌+ℤ◌, Bool, true, false, not, ◌&&◌, ◌||◌, nat_eq, nat_lt, cond, List, [], ◌∷◌, length, Some, None, refl, sym, ap, ◌∙◌, subst, arith, inl, inr, eq-eqb}
use Rattle.std.specs.List.{list_all}
use Rattle.std.proofs.lemmas.Int.{ints}
use Rattle.std.proofs.lemmas.Bool.{false≢true, eqb-true, and_parts, and_from, or_left, cases_Bool, ltb-true}
use Rattle.node_sets.specs.Sums.{count_below}
use Rattle.node_sets.specs.Sets.{words_for}
use Rattle.dp_model.specs.Prefixes.{IsSolution, value_of}
use Rattle.dp_model.specs.Solution.{IsSolutionWith, SolutionGives}
use Rattle.pending_rows.specs.Pending.{Pending, shown, row_for, without, start, done}
use Rattle.pending_rows.specs.Orders.{is_order}
use Rattle.pending_rows.proofs.RowParts.{IsWithin, shown-row_for}
use Rattle.pending_rows.proofs.RowStates.{start-bounded}
use Rattle.pending_rows.proofs.Covering.{sum-without, count-start}
use Rattle.pending_rows.proofs.OrderLaws.{AreListed, listed-more, listed-rest}
use Rattle.one_machine.specs.Instance.{Job}
use Rattle.one_machine.specs.OwnWords.{cost, order_value}
use Rattle.one_machine.specs.Program.{taken, program_of}
use Rattle.one_machine.specs.Laws.Runs.{IsRun, run-of_path, path-of_run, gain-of_path}

-- no job may be left out, as in each state that jobs reach from the start
abbrev HasNoMay : Pending → Type 0
HasNoMay t = (v : ℕ) → t.may v ≡ false

taken-no_may : (jobs : List Job) (t : Pending) (d : ℕ) → HasNoMay t → HasNoMay (taken jobs t d)
unfolding done
taken-no_may jobs t d none v = ap (λ b. b && not (nat_eq v d)) (none v)

order-of_run : (jobs : List Job) (k : ℕ) (t : Pending) (ds : List ℕ) → HasNoMay t → IsRun jobs k t ds → AreListed (length jobs) t.must ds
unfolding done
order-of_run jobs k t [] none w = record { inside = refl; different = refl; wanted = refl }
order-of_run jobs k t (d ∷ ds) none w =
    let rest = order-of_run jobs (k + 1) (taken jobs t d) ds (taken-no_may jobs t d none) w.1 in
    listed-more (length jobs) t.must d ds w.0.choice (only (t.must d) (t.may d) (none d) w.0.pending) rest
  where
    only : (x y : Bool) → y ≡ false → (x || y) ≡ true → x ≡ true
    only true y e h = refl
    only false y e h = absurd (false≢true (sym e ∙ h))

run-of_order : (jobs : List Job) (k : ℕ) (t : Pending) (ds : List ℕ) → count_below (length jobs) t.must + k ≡ length jobs → AreListed (length jobs) t.must ds → IsRun jobs k t ds
unfolding done
run-of_order jobs k t [] count h = tt
run-of_order jobs k t (d ∷ ds) count h =
    let inside = ltb-true d (length jobs) (and_parts (nat_lt d (length jobs)) _ h.inside).0 in
    let there = (and_parts (t.must d) _ h.wanted).0 in
    let less : count_below (length jobs) t.must ≡ count_below (length jobs) (without t.must d) + 1 = sum-without (length jobs) d t.must (λ _. 1) inside there in (
      record { layer = omega (arith, less, count); choice = inside; pending = or_left (t.must d) (t.may d) there; few = omega (arith, less, count) },
      run-of_order jobs (k + 1) (taken jobs t d) ds (omega (arith, less, count)) (listed-rest (length jobs) t.must d ds h),
    )

-- ---- from the start

start-no_may : (n : ℕ) → HasNoMay (start n)
unfolding start
start-no_may n v = refl

root-shown : (n : ℕ) → shown (words_for n) (row_for (words_for n) (start n)) ≡ start n
root-shown n = shown-row_for n (start n) (start-bounded n)

root-bounded : (n : ℕ) → IsWithin n (shown (words_for n) (row_for (words_for n) (start n)))
root-bounded n = subst (IsWithin n) (sym (root-shown n)) (start-bounded n)

start-listed : (n : ℕ) (ds : List ℕ) → is_order n ds ≡ true → AreListed n (start n).must ds
unfolding start
start-listed n ds e =
    let parts = and_parts (list_all (λ v. nat_lt v n) ds) _ (and_parts (nat_eq (length ds) n) _ e).1 in
    record { inside = parts.0; different = parts.1; wanted = parts.0 }

value-is : (jobs : List Job) (ds : List ℕ) → neg_ℤ (pos (cost jobs 0 ds)) ≡ value_of (program_of jobs) ds
unfolding start
value-is jobs ds =
    let gain = gain-of_path jobs 0 (row_for (words_for (length jobs)) (start (length jobs))) ds (root-bounded (length jobs)) in
    let time : (shown (words_for (length jobs)) (row_for (words_for (length jobs)) (start (length jobs)))).time ≡ 0 = ap (λ (t : Pending). t.time) (root-shown (length jobs)) in
    plain _ _ (gain ∙ ap (λ x. neg_ℤ (pos (cost jobs x ds))) time)
  where
    plain : (g z : ℤ) → g ≡ z → z ≡ pos 0 +ℤ g
    plain g z e = omega (arith, ints, e)

order-solves : (jobs : List Job) (ds : List ℕ) → is_order (length jobs) ds ≡ true → IsSolutionWith (program_of jobs) ds (neg_ℤ (pos (cost jobs 0 ds)))
order-solves jobs ds e =
    let n = length jobs in
    let run = run-of_order jobs 0 (start (length jobs)) ds (count-start (length jobs)) (start-listed (length jobs) ds e) in
    record {
      solution = record {
        prefix = path-of_run jobs 0 (row_for (words_for (length jobs)) (start (length jobs))) ds (root-bounded (length jobs)) (subst (λ t. IsRun jobs 0 t ds) (sym (root-shown (length jobs))) run);
        whole = eqb-true (length ds) (length jobs) (and_parts (nat_eq (length ds) (length jobs)) _ e).0;
      };
      value = value-is jobs ds;
    }

solution-order : (jobs : List Job) (ds : List ℕ) → IsSolution (program_of jobs) ds → is_order (length jobs) ds ≡ true
solution-order jobs ds x =
    let run = subst (λ t. IsRun jobs 0 t ds) (root-shown (length jobs)) (run-of_path jobs 0 (row_for (words_for (length jobs)) (start (length jobs))) ds (root-bounded (length jobs)) x.prefix) in
    let listed = order-of_run jobs 0 (start (length jobs)) ds (start-no_may (length jobs)) run in
    and_from (nat_eq (length ds) (length jobs)) _ (eq-eqb (length ds) (length jobs) x.whole) (and_from (list_all (λ v. nat_lt v (length jobs)) ds) _ listed.inside listed.different)

-- the own words give a value exactly where the program has a feasible solution, and the same value
pub own_words_solve : (jobs : List Job) (ds : List ℕ) → SolutionGives (program_of jobs) ds (order_value jobs ds)
own_words_solve jobs ds =
    elim (cases_Bool (is_order (length jobs) ds)) [
      | inl e ↦ subst (SolutionGives (program_of jobs) ds) (sym (ap (λ b. cond b (Some (neg_ℤ (pos (cost jobs 0 ds)))) None) e)) (order-solves jobs ds e)
      | inr e ↦ subst (SolutionGives (program_of jobs) ds) (sym (ap (λ b. cond b (Some (neg_ℤ (pos (cost jobs 0 ds)))) None) e)) (λ x. false≢true (sym e ∙ solution-order jobs ds x))
    ]
