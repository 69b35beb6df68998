-- Jobs that are taken one after another from a state: paths of the program, what they cost, and what covers them.
use Rattle.std.proofs.Common.{◌≡◌, ℕ, ◌+◌, ◌-◌, ◌<◌, ◌≤◌, ℤ, pos, neg_ℤ, ◌+ℤ◌, true, not, nat_eq, List, [], ◌∷◌, length, refl, sym, ap, ◌∙◌, subst, arith}
use Rattle.std.proofs.lemmas.Int.{ints}
use Rattle.std.proofs.lemmas.Bool.{and_parts, and_from, leb-true, le-leb}
use Rattle.std.proofs.lemmas.Nat.{mul-le}
use Rattle.node_sets.specs.Sums.{count_below, sum_below}
use Rattle.node_sets.specs.Sets.{words_for}
use Rattle.node_sets.proofs.Below.{sum_below-none, count_below-none}
use Rattle.dp_model.specs.Prefixes.{IsPath, gain_of}
use Rattle.pending_rows.specs.Pending.{Pending, shown, row_for, is_open, without}
use Rattle.pending_rows.proofs.RowParts.{IsWithin, shown-row_for}
use Rattle.pending_rows.proofs.RowStates.{done-bounded, done-time, done-must}
use Rattle.pending_rows.proofs.Covering.{Covers, done-covers, sum-most, sum-more, count-within}
use Rattle.one_machine.specs.Instance.{Job, job_at}
use Rattle.one_machine.specs.OwnWords.{completion, penalty, cost}
use Rattle.one_machine.specs.Program.{may_take, taken, least_cost, program_of}

-- the decision may be taken
pub record IsTaken (jobs : List Job) (k : ℕ) (t : Pending) (d : ℕ) : Type 0 where
  pub layer : k < length jobs
  pub choice : d < length jobs
  pub pending : is_open t d ≡ true
  pub few : count_below (length jobs) (without t.must d) + k + 1 ≤ length jobs

pub taken-gives : (jobs : List Job) (k : ℕ) (t : Pending) (d : ℕ) → k < length jobs → d < length jobs → may_take (length jobs) k t d ≡ true → IsTaken jobs k t d
taken-gives jobs k t d layer choice e =
    let parts = and_parts (is_open t d) _ e in
    record { layer = layer; choice = choice; pending = parts.0; few = leb-true _ _ parts.1 }

pub taken-from : (jobs : List Job) (k : ℕ) (t : Pending) (d : ℕ) → IsTaken jobs k t d → may_take (length jobs) k t d ≡ true
taken-from jobs k t d h = and_from (is_open t d) _ h.pending (le-leb _ _ h.few)

-- the decisions may be taken one after another
abbrev pub IsRun : List Job → ℕ → Pending → List ℕ → Type 0
IsRun jobs k t [] = Unit {0}
IsRun jobs k t (d ∷ ds) = IsTaken jobs k t d × IsRun jobs (k + 1) (taken jobs t d) ds

-- ---- paths of the program

pub shown-taken : (jobs : List Job) (t : Pending) (d : ℕ) → IsWithin (length jobs) t → shown (words_for (length jobs)) (row_for (words_for (length jobs)) (taken jobs t d)) ≡ taken jobs t d
shown-taken jobs t d b = shown-row_for (length jobs) (taken jobs t d) (done-bounded (length jobs) t d (completion jobs t.time d) b)

next-bounded : (jobs : List Job) (t : Pending) (d : ℕ) → IsWithin (length jobs) t → IsWithin (length jobs) (shown (words_for (length jobs)) (row_for (words_for (length jobs)) (taken jobs t d)))
next-bounded jobs t d b = subst (IsWithin (length jobs)) (sym (shown-taken jobs t d b)) (done-bounded (length jobs) t d (completion jobs t.time d) b)

pub run-of_path : (jobs : List Job) (k : ℕ) (s : List ℤ) (ds : List ℕ) → IsWithin (length jobs) (shown (words_for (length jobs)) s) → IsPath (program_of jobs) k s ds → IsRun jobs k (shown (words_for (length jobs)) s) ds
run-of_path jobs k s [] b p = tt
run-of_path jobs k s (d ∷ ds) b p =
    let t : Pending = shown (words_for (length jobs)) s in (
      taken-gives jobs k t d p.0.layer p.0.choice p.0.test,
      subst (λ u. IsRun jobs (k + 1) u ds) (shown-taken jobs t d b) (run-of_path jobs (k + 1) (row_for (words_for (length jobs)) (taken jobs t d)) ds (next-bounded jobs t d b) p.1),
    )

pub path-of_run : (jobs : List Job) (k : ℕ) (s : List ℤ) (ds : List ℕ) → IsWithin (length jobs) (shown (words_for (length jobs)) s) → IsRun jobs k (shown (words_for (length jobs)) s) ds → IsPath (program_of jobs) k s ds
path-of_run jobs k s [] b w = tt
path-of_run jobs k s (d ∷ ds) b w =
    let t : Pending = shown (words_for (length jobs)) s in (
      record { layer = w.0.layer; choice = w.0.choice; test = taken-from jobs k t d w.0 },
      path-of_run jobs (k + 1) (row_for (words_for (length jobs)) (taken jobs t d)) ds (next-bounded jobs t d b) (subst (λ u. IsRun jobs (k + 1) u ds) (sym (shown-taken jobs t d b)) w.1),
    )

-- what they gain is what the jobs cost, negated
pub gain-of_path : (jobs : List Job) (k : ℕ) (s : List ℤ) (ds : List ℕ) → IsWithin (length jobs) (shown (words_for (length jobs)) s) → gain_of (program_of jobs) k s ds ≡ neg_ℤ (pos (cost jobs (shown (words_for (length jobs)) s).time ds))
gain-of_path jobs k s [] b = refl
gain-of_path jobs k s (d ∷ ds) b =
    let t : Pending = shown (words_for (length jobs)) s in
    let rest = gain-of_path jobs (k + 1) (row_for (words_for (length jobs)) (taken jobs t d)) ds (next-bounded jobs t d b) in
    let time : (shown (words_for (length jobs)) (row_for (words_for (length jobs)) (taken jobs t d))).time ≡ completion jobs t.time d = ap (λ (u : Pending). u.time) (shown-taken jobs t d b) ∙ done-time t d (completion jobs t.time d) in
    sum (penalty jobs t.time d) (cost jobs (completion jobs t.time d) ds) _ (rest ∙ ap (λ x. neg_ℤ (pos (cost jobs x ds))) time)
  where
    sum : (a b : ℕ) (g : ℤ) → g ≡ neg_ℤ (pos b) → neg_ℤ (pos a) +ℤ g ≡ neg_ℤ (pos (a + b))
    sum a b g e = omega (arith, ints, e)

-- ---- what a later start costs, and what covers

pub penalty-later : (jobs : List Job) (s t d : ℕ) → s ≤ t → penalty jobs s d ≤ penalty jobs t d
penalty-later jobs s t d l =
    let w : (job_at jobs d).weight ≤ (job_at jobs d).weight = omega arith in
    mul-le (job_at jobs d).weight (completion jobs s d - (job_at jobs d).due) (job_at jobs d).weight (completion jobs t d - (job_at jobs d).due) w (omega arith)

pub cost-later : (jobs : List Job) (s t : ℕ) (ds : List ℕ) → s ≤ t → cost jobs s ds ≤ cost jobs t ds
cost-later jobs s t [] l = omega arith
cost-later jobs s t (d ∷ ds) l =
    let here = penalty-later jobs s t d l in
    let rest = cost-later jobs (completion jobs s d) (completion jobs t d) ds (omega arith) in
    omega (arith, here, rest)

-- what may be taken from a state may be taken from each that covers it
pub run-covered : (jobs : List Job) (k : ℕ) (a b : Pending) (ds : List ℕ) → Covers (length jobs) a b → IsRun jobs k b ds → IsRun jobs k a ds
run-covered jobs k a b [] c w = tt
run-covered jobs k a b (d ∷ ds) c w =
    let fewer = count-within (length jobs) (without a.must d) (without b.must d)
    (λ v l e. let parts = and_parts (a.must v) (not (nat_eq v d)) e in and_from (b.must v) (not (nat_eq v d)) (c.must v l parts.0) parts.1) in
    let early = c.time in (
      record { layer = w.0.layer; choice = w.0.choice; pending = c.pending d w.0.choice w.0.pending; few = omega (arith, fewer, w.0.few) },
      run-covered jobs (k + 1) (taken jobs a d) (taken jobs b d) ds (done-covers (length jobs) a b d (completion jobs a.time d) (completion jobs b.time d) c (omega (arith, early))) w.1,
    )

-- a run to the last layer takes each job that must be taken, and no job begins earlier than the run
pub run-costs : (jobs : List Job) (k : ℕ) (t : Pending) (ds : List ℕ) → count_below (length jobs) t.must + k ≤ length jobs → k + length ds ≡ length jobs → IsRun jobs k t ds → least_cost jobs t ≤ cost jobs t.time ds
run-costs jobs k t [] few whole w =
    let none = sum_below-none (length jobs) t.must (penalty jobs t.time) (count_below-none (length jobs) t.must (omega (arith, few, whole))) in omega (arith, none)
run-costs jobs k t (d ∷ ds) few whole w =
    let must = done-must t d (completion jobs t.time d) in
    let time = done-time t d (completion jobs t.time d) in
    let fewer : count_below (length jobs) (taken jobs t d).must + (k + 1) ≤ length jobs = subst (λ m. count_below (length jobs) m + (k + 1) ≤ length jobs) (sym must) (omega (arith, w.0.few)) in
    let rest = run-costs jobs (k + 1) (taken jobs t d) ds fewer (omega (arith, whole)) w.1 in
    let rest' = subst (λ x. sum_below (length jobs) (without t.must d) (penalty jobs x) ≤ cost jobs x ds) time (subst (λ m. sum_below (length jobs) m (penalty jobs (taken jobs t d).time) ≤ cost jobs (taken jobs t d).time ds) must rest) in
    let later = sum-more (length jobs) (without t.must d) (penalty jobs t.time) (penalty jobs (completion jobs t.time d)) (λ v. penalty-later jobs t.time (completion jobs t.time d) v (omega arith)) in
    let one = sum-most (length jobs) d t.must (penalty jobs t.time) w.0.choice in
    omega (arith, one, later, rest')
