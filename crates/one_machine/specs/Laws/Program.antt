-- The dynamic program of an instance within the limits meets the laws.
use Rattle.std.proofs.Common.{◌≡◌, ℕ, ◌+◌, ◌*◌, ◌≤◌, ℤ, pos, neg_ℤ, ◌+ℤ◌, ◌≤ℤ◌, true, ◌&&◌, cond, nat_le, List, length, Some, None, sym, ap, ◌∙◌, subst, arith, inl, inr}
use Rattle.std.proofs.lemmas.Int.{ints}
use Rattle.std.proofs.lemmas.Bool.{and_parts, and_from, cases_Bool, leb-true, le-leb}
use Rattle.node_sets.specs.Sums.{count_below}
use Rattle.node_sets.specs.Sets.{words_for}
use Rattle.node_sets.proofs.Below.{sum_below-none, sum_below-le, count_below-none}
use Rattle.dp_model.specs.Gaps.{IsStateOf, IsSoundGap, HasGap}
use Rattle.dp_model.specs.Laws.{StepsAreStates, GapsAreSound, RoughBounds, SizesHold, IsLawful, IsChained}
use Rattle.dp_model.specs.NumberLaws.{small_natural, small_negated, small_gap}
use Rattle.dp_model.specs.Numbers.{IsSmall as IsSmallNumber}
use Rattle.pending_rows.specs.Pending.{Pending, IsPendingRow, shown, row_for, start, joined, covers, is_pending_row}
use Rattle.pending_rows.proofs.RowParts.{IsWithin, shown-row_for}
use Rattle.pending_rows.proofs.RowStates.{IsApart, row-gives, row-from, bounded, apart_shown, start-bounded, start-apart, done-bounded, done-apart, done-time, done-must, joined-bounded, joined-apart, joined-time, cells_small}
use Rattle.pending_rows.proofs.Covering.{Covers, covers-gives, covers-from, covers-self, covers-chain, joined-covers-left, joined-covers-right, count-within, count-start}
use Rattle.one_machine.specs.Instance.{Job, is_small, numbers_of, instance_of}
use Rattle.one_machine.specs.OwnWords.{completion, penalty, cost}
use Rattle.one_machine.specs.Program.{taken, least_cost, gap_of, is_state_row, program_of, program}
use Rattle.one_machine.specs.Laws.Limits.{IsSmallInstance, is_small-is, penalty-most}
use Rattle.one_machine.specs.Laws.Runs.{taken-gives, run-of_path, path-of_run, gain-of_path, run-covered, cost-later, run-costs}

-- ---- rows that are states

-- a row that is a state of the layer, with the state that it stands for
pub record IsStateRow (n k : ℕ) (s : List ℤ) : Type 0 where
  pub row : IsPendingRow n s
  pub bounded : IsWithin n (shown (words_for n) s)
  pub apart : IsApart (shown (words_for n) s)
  pub early : (shown (words_for n) s).time ≤ 100000 * k
  pub few : count_below n (shown (words_for n) s).must + k ≤ n

pub state-gives : (n k : ℕ) (s : List ℤ) → is_state_row n k s ≡ true → IsStateRow n k s
state-gives n k s e =
    let parts = and_parts (is_pending_row n s) _ e in
    let two = and_parts (nat_le (shown (words_for n) s).time (100000 * k)) _ parts.1 in
    let row = row-gives n s parts.0 in
    record { row = row; bounded = bounded n s row; apart = apart_shown n s row; early = leb-true _ _ two.0; few = leb-true _ _ two.1 }

state-from : (n k : ℕ) (t : Pending) → n ≤ 100 → IsWithin n t → IsApart t → t.time ≤ 100000 * k → count_below n t.must + k ≤ n → is_state_row n k (row_for (words_for n) t) ≡ true
state-from n k t small b apart early few =
    let is = shown-row_for n t b in
    and_from (is_pending_row n (row_for (words_for n) t)) _ (row-from n t b apart (omega (arith, early, few, small)))
    (subst (λ (u : Pending). (nat_le u.time (100000 * k) && nat_le (count_below n u.must + k) n) ≡ true) (sym is) (and_from (nat_le t.time (100000 * k)) _ (le-leb _ _ early) (le-leb _ _ few)))

start-time : (n : ℕ) → (start n).time ≤ 0
unfolding start
start-time n = omega arith

joined-count : (n : ℕ) (a b : Pending) → count_below n (joined a b).must ≤ count_below n a.must
unfolding joined
joined-count n a b = count-within n (joined a b).must a.must (λ v l e. (and_parts (a.must v) (b.must v) e).0)

states_hold : (jobs : List Job) → IsSmallInstance jobs → StepsAreStates (program_of jobs)
states_hold jobs small = record {
  root = (let count = count-start (length jobs) in let time = start-time (length jobs) in
      state-from (length jobs) 0 (start (length jobs)) small.few (start-bounded (length jobs)) (start-apart (length jobs)) (omega (arith, time)) (omega (arith, count)));
  step = λ k s d state allowed.
      let t : Pending = shown (words_for (length jobs)) s in
      let h = state-gives (length jobs) k s state.test in
      let g = taken-gives jobs k t d allowed.layer allowed.choice allowed.test in
      let must = done-must t d (completion jobs t.time d) in
      let time = done-time t d (completion jobs t.time d) in
      let x = small.each d in
      let few = g.few in
      state-from (length jobs) (k + 1) (taken jobs t d) small.few (done-bounded (length jobs) t d (completion jobs t.time d) h.bounded) (done-apart t d (completion jobs t.time d) h.apart)
      (omega (arith, time, h.early, x.processing)) (subst (λ m. count_below (length jobs) m + (k + 1) ≤ length jobs) (sym must) (omega (arith, few)));
  merged = λ k a s left right.
      let one = state-gives (length jobs) k a left.test in
      let two = state-gives (length jobs) k s right.test in
      let earlier = joined-time (shown (words_for (length jobs)) a) (shown (words_for (length jobs)) s) in
      let fewer = joined-count (length jobs) (shown (words_for (length jobs)) a) (shown (words_for (length jobs)) s) in
      state-from (length jobs) k (joined (shown (words_for (length jobs)) a) (shown (words_for (length jobs)) s)) small.few (joined-bounded (length jobs) (shown (words_for (length jobs)) a) (shown (words_for (length jobs)) s) one.bounded two.bounded)
      (joined-apart (shown (words_for (length jobs)) a) (shown (words_for (length jobs)) s)) (omega (arith, earlier, one.early)) (omega (arith, fewer, one.few));
}

-- ---- gaps

record IsGap (n : ℕ) (a b : Pending) (g : ℤ) : Type 0 where
  covered : Covers n a b
  is : g ≡ pos 0

gap-gives : (n : ℕ) (a b : Pending) (g : ℤ) → gap_of n a b ≡ Some g → IsGap n a b g
gap-gives n a b g e =
    elim (cases_Bool (covers n a b)) [
      | inl c ↦ record { covered = covers-gives n a b c; is = (let same : Some (pos 0) ≡ Some g = sym (ap (λ x. cond x (Some (pos 0)) None) c) ∙ e in cc) }
      | inr c ↦ absurd (let same : None ≡ Some g = sym (ap (λ x. cond x (Some (pos 0)) None) c) ∙ e in cc)
    ]

gap-from : (n : ℕ) (a b : Pending) → Covers n a b → gap_of n a b ≡ Some (pos 0)
gap-from n a b c = ap (λ x. cond x (Some (pos 0)) None) (covers-from n a b c)

sound_gap : (jobs : List Job) (k : ℕ) (a s : List ℤ) (g : ℤ) → IsStateOf (program_of jobs) k a → IsStateOf (program_of jobs) k s → gap_of (length jobs) (shown (words_for (length jobs)) a) (shown (words_for (length jobs)) s) ≡ Some g → IsSoundGap (program_of jobs) k a s g
sound_gap jobs k a s g left right e c way =
    let ta : Pending = shown (words_for (length jobs)) a in
    let ts : Pending = shown (words_for (length jobs)) s in
    let one = state-gives (length jobs) k a left.test in
    let two = state-gives (length jobs) k s right.test in
    let gap = gap-gives (length jobs) ta ts g e in
    let run = run-covered jobs k ta ts c gap.covered (run-of_path jobs k s c two.bounded way.path) in
    record {
      by = c;
      continuation = record { path = path-of_run jobs k a c one.bounded run; whole = way.whole };
      enough = enough _ _ (cost jobs ta.time c) (cost jobs ts.time c) g (gain-of_path jobs k a c one.bounded) (gain-of_path jobs k s c two.bounded) gap.is (cost-later jobs ta.time ts.time c gap.covered.time);
    }
  where
    enough : (x y : ℤ) (p q : ℕ) (g : ℤ) → x ≡ neg_ℤ (pos p) → y ≡ neg_ℤ (pos q) → g ≡ pos 0 → p ≤ q → y ≤ℤ (x +ℤ g)
    enough x y p q g e f z l = omega (arith, ints, e, f, z, l)

has_gap : (jobs : List Job) (k : ℕ) (a s u : List ℤ) → IsStateOf (program_of jobs) k a → IsStateOf (program_of jobs) k s → Covers (length jobs) (joined (shown (words_for (length jobs)) a) (shown (words_for (length jobs)) s)) (shown (words_for (length jobs)) u) → HasGap (program_of jobs) k ((program_of jobs).merged k a s) u
has_gap jobs k a s u left right c =
    let one = state-gives (length jobs) k a left.test in
    let two = state-gives (length jobs) k s right.test in
    let same = shown-row_for (length jobs) (joined (shown (words_for (length jobs)) a) (shown (words_for (length jobs)) s)) (joined-bounded (length jobs) (shown (words_for (length jobs)) a) (shown (words_for (length jobs)) s) one.bounded two.bounded) in
    record { gap = pos 0; is = ap (λ t. gap_of (length jobs) t (shown (words_for (length jobs)) u)) same ∙ gap-from (length jobs) _ (shown (words_for (length jobs)) u) c }

gaps_hold : (jobs : List Job) → GapsAreSound (program_of jobs)
gaps_hold jobs = record {
  sound = sound_gap jobs;
  own = λ k s state. gap-from (length jobs) (shown (words_for (length jobs)) s) (shown (words_for (length jobs)) s) (covers-self (length jobs) (shown (words_for (length jobs)) s));
  merge_new = λ k a s left right. has_gap jobs k a s s left right (joined-covers-right (length jobs) (shown (words_for (length jobs)) a) (shown (words_for (length jobs)) s));
  merge_old = λ k a s u left right other h.
      has_gap jobs k a s u left right (covers-chain (length jobs) (joined (shown (words_for (length jobs)) a) (shown (words_for (length jobs)) s)) (shown (words_for (length jobs)) a) (shown (words_for (length jobs)) u)
      (joined-covers-left (length jobs) (shown (words_for (length jobs)) a) (shown (words_for (length jobs)) s)) (gap-gives (length jobs) (shown (words_for (length jobs)) a) (shown (words_for (length jobs)) u) h.gap h.is).covered);
}

pub chained_program : (jobs : List Job) → IsChained (program_of jobs)
chained_program jobs k a b c g h p q r e f =
    let one = gap-gives (length jobs) (shown (words_for (length jobs)) a) (shown (words_for (length jobs)) b) g e in
    let two = gap-gives (length jobs) (shown (words_for (length jobs)) b) (shown (words_for (length jobs)) c) h f in
    record {
      gap = pos 0;
      is = gap-from (length jobs) (shown (words_for (length jobs)) a) (shown (words_for (length jobs)) c) (covers-chain (length jobs) (shown (words_for (length jobs)) a) (shown (words_for (length jobs)) b) (shown (words_for (length jobs)) c) one.covered two.covered);
      within = chain g h one.is two.is;
    }
  where
    chain : (g h : ℤ) → g ≡ pos 0 → h ≡ pos 0 → pos 0 ≤ℤ (g +ℤ h)
    chain g h p q = omega (arith, ints, p, q)

-- ---- the rough bound, and sizes

rough_holds : (jobs : List Job) → RoughBounds (program_of jobs)
rough_holds jobs = record {
  bounds = λ k s c state way.
      let t : Pending = shown (words_for (length jobs)) s in
      let h = state-gives (length jobs) k s state.test in
      at_most (least_cost jobs t) (cost jobs t.time c) _ (gain-of_path jobs k s c h.bounded) (run-costs jobs k t c h.few way.whole (run-of_path jobs k s c h.bounded way.path));
  last = λ s state.
      let t : Pending = shown (words_for (length jobs)) s in
      let h = state-gives (length jobs) (length jobs) s state.test in
      let few = h.few in
      let none = sum_below-none (length jobs) t.must (penalty jobs t.time) (count_below-none (length jobs) t.must (omega (arith, few))) in
      ap (λ x. Some (neg_ℤ (pos x))) none;
}
  where
    at_most : (p q : ℕ) (g : ℤ) → g ≡ neg_ℤ (pos q) → p ≤ q → g ≤ℤ neg_ℤ (pos p)
    at_most p q g e l = omega (arith, ints, e)

pub least_cost-most : (jobs : List Job) (t : Pending) → IsSmallInstance jobs → t.time ≤ 10000000 → least_cost jobs t ≤ 101000000000000
least_cost-most jobs t small early =
    let total = sum_below-le (length jobs) t.must (penalty jobs t.time) 1010000000000 (λ v l. penalty-most jobs t.time v small early) in
    let few = small.few in
    omega (arith, total, few)

pub time-early : (jobs : List Job) (k : ℕ) (s : List ℤ) → IsSmallInstance jobs → is_state_row (length jobs) k s ≡ true → (shown (words_for (length jobs)) s).time ≤ 10000000
time-early jobs k s small e = let h = state-gives (length jobs) k s e in let early = h.early in let count = h.few in let few = small.few in omega (arith, early, count, few)

sizes_hold : (jobs : List Job) → IsSmallInstance jobs → SizesHold (program_of jobs)
sizes_hold jobs small = record {
  vars = omega (arith, small.few);
  some_words = omega arith;
  words = omega (arith, small.few);
  some_choices = λ k l. omega (arith, l);
  choices = λ k l. omega (arith, small.few);
  root_value = small_natural 0 (omega arith);
  cells = λ k s state. (state-gives (length jobs) k s state.test).row.cells;
  state = λ k s state. cells_small (length jobs) s (state-gives (length jobs) k s state.test).row;
  gain = λ k s d state allowed.
      let most = penalty-most jobs (shown (words_for (length jobs)) s).time d small (time-early jobs k s small state.test) in small_negated _ (omega (arith, most));
  gap = λ k a s g left right e. let zero = (gap-gives (length jobs) (shown (words_for (length jobs)) a) (shown (words_for (length jobs)) s) g e).is in small_gap g (omega (arith, ints)) (omega (arith, ints));
  rough = λ k s r state e.
      let same : neg_ℤ (pos (least_cost jobs (shown (words_for (length jobs)) s))) ≡ r = cc in
      let most = least_cost-most jobs (shown (words_for (length jobs)) s) small (time-early jobs k s small state.test) in
      subst IsSmallNumber same (small_negated _ (omega (arith, most)));
}

lawful_program : (jobs : List Job) → IsSmallInstance jobs → IsLawful (program_of jobs)
lawful_program jobs small = record { states = states_hold jobs small; gaps = gaps_hold jobs; rough = rough_holds jobs; sizes = sizes_hold jobs small }

pub lawful_numbers : (jobs : List Job) → is_small jobs ≡ true → instance_of (numbers_of jobs) ≡ jobs → IsLawful (program (numbers_of jobs))
lawful_numbers jobs small spelled = subst (λ (l : List Job). IsLawful (program_of l)) (sym spelled) (lawful_program jobs (is_small-is jobs small))

pub chained_numbers : (jobs : List Job) → instance_of (numbers_of jobs) ≡ jobs → IsChained (program (numbers_of jobs))
chained_numbers jobs spelled = subst (λ (l : List Job). IsChained (program_of l)) (sym spelled) (chained_program jobs)
