-- The order as a dynamic program: layer k decides the job that is taken next.
use Rattle.std.specs.Prelude.{ℕ, ◌+◌, ◌*◌, ℤ, pos, neg_ℤ, Bool, ◌&&◌, cond, nat_le, List, length, Option, Some, None}
use Rattle.dp_model.specs.Dp.{Dp}
use Rattle.dp_model.specs.Folds.{fold_of}
use Rattle.node_sets.specs.Sums.{count_below, sum_below}
use Rattle.node_sets.specs.Sets.{row_word, words_for}
use Rattle.pending_rows.specs.Pending.{Pending, must_of, shown, row_for, is_open, without, start, done, joined, covers, is_pending_row}
use Rattle.one_machine.specs.Instance.{Job, instance_of}
use Rattle.one_machine.specs.OwnWords.{completion, penalty}

-- a job that must or may be taken, where no more jobs must be taken after it than layers are left
abbrev pub may_take : ℕ → ℕ → Pending → ℕ → Bool
may_take n k t d = is_open t d && nat_le (count_below n (without t.must d) + k + 1) n

-- the state after a job
abbrev pub taken : List Job → Pending → ℕ → Pending
taken jobs t d = done t d (completion jobs t.time d)

-- what all jobs that must be taken would cost if each began now
abbrev pub least_cost : List Job → Pending → ℕ
least_cost jobs t = sum_below (length jobs) t.must (penalty jobs t.time)

abbrev pub gap_of : ℕ → Pending → Pending → Option ℤ
gap_of n a b = cond (covers n a b) (Some (pos 0)) None

-- a row that is a state of the layer: no job has taken longer than 100,000, and no more jobs must be taken than layers are left
abbrev pub is_state_row : ℕ → ℕ → List ℤ → Bool
is_state_row n k s =
    is_pending_row n s
    && (nat_le (shown (words_for n) s).time (100000 * k) && nat_le (count_below n (shown (words_for n) s).must + k) n)

-- the dynamic program of an instance
abbrev pub program_of : List Job → Dp
program_of jobs = record {
  vars = length jobs;
  words = 2 * words_for (length jobs) + 1;
  choices = λ k. length jobs;
  root = row_for (words_for (length jobs)) (start (length jobs));
  root_value = pos 0;
  is_state = λ k s. is_state_row (length jobs) k s;
  allowed = λ k s d. may_take (length jobs) k (shown (words_for (length jobs)) s) d;
  step = λ k s d. row_for (words_for (length jobs)) (taken jobs (shown (words_for (length jobs)) s) d);
  gain = λ k s d. neg_ℤ (pos (penalty jobs (shown (words_for (length jobs)) s).time d));
  merged = λ k a s. row_for (words_for (length jobs)) (joined (shown (words_for (length jobs)) a) (shown (words_for (length jobs)) s));
  gap = λ k a s. gap_of (length jobs) (shown (words_for (length jobs)) a) (shown (words_for (length jobs)) s);
  rough = λ k s. Some (neg_ℤ (pos (least_cost jobs (shown (words_for (length jobs)) s))));
  rank = λ k s. pos (count_below (length jobs) (shown (words_for (length jobs)) s).must);
  bucket = λ k s. row_word (must_of (words_for (length jobs)) s) 0;
  hash = λ k s. fold_of 0 s;
}

-- the dynamic program that the numbers of an instance spell
abbrev pub program : List ℤ → Dp
program numbers = program_of (instance_of numbers)
