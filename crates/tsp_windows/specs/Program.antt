-- The tour as a dynamic program: layer k decides the node that is visited next, and the last layer the return to node 0.
use Rattle.std.specs.Prelude.{ℕ, ◌+◌, ◌*◌, ℤ, pos, ◌-ℤ◌, neg_ℤ, cond, nat_lt, List, Option, Some, None, unwrap_or}
use Rattle.dp_model.specs.Dp.{Dp}
use Rattle.dp_model.specs.Folds.{fold_of}
use Rattle.node_sets.specs.Sums.{count_below, least_amount}
use Rattle.node_sets.specs.Sets.{words_for}
use Rattle.tsp_windows.specs.Instance.{Instance, opening, instance_of}
use Rattle.tsp_windows.specs.States.{TourState, shown, row_for, departure, may_go, moved, joined, covers, is_lost, way_left, start, is_state_row}

-- no bound where the state is lost, else what the least ways cost; nothing is left to gain at the end
abbrev pub rough_of : Instance → ℕ → TourState → Option ℤ
rough_of i k t = cond (nat_lt k i.nodes) (cond (is_lost i k t) None (Some (neg_ℤ (pos (way_left i t))))) (Some (pos 0))

abbrev pub gap_of : ℕ → TourState → TourState → Option ℤ
gap_of n a b = cond (covers n a b) (Some (pos b.pending.time -ℤ pos a.pending.time)) None

-- the dynamic program of an instance
abbrev pub program_of : Instance → Dp
program_of i = record {
  vars = i.nodes;
  words = 3 * words_for i.nodes + 1;
  choices = λ k. i.nodes;
  root = row_for (words_for i.nodes) (start i);
  root_value = neg_ℤ (pos (opening i 0));
  is_state = λ k s. is_state_row i.nodes s;
  allowed = λ k s d. may_go i k (shown (words_for i.nodes) s) d;
  step = λ k s d. row_for (words_for i.nodes) (moved i (shown (words_for i.nodes) s) d);
  gain = λ k s d. pos (shown (words_for i.nodes) s).pending.time -ℤ pos (departure i (shown (words_for i.nodes) s) d);
  merged = λ k a s. row_for (words_for i.nodes) (joined (shown (words_for i.nodes) a) (shown (words_for i.nodes) s));
  gap = λ k a s. gap_of i.nodes (shown (words_for i.nodes) a) (shown (words_for i.nodes) s);
  rough = λ k s. rough_of i k (shown (words_for i.nodes) s);
  rank = λ k s. pos (count_below i.nodes (shown (words_for i.nodes) s).pending.must);
  bucket = λ k s. unwrap_or (least_amount i.nodes (shown (words_for i.nodes) s).positions (λ p. p)) 0;
  hash = λ k s. fold_of 0 s;
}

-- the dynamic program that the numbers of an instance spell
abbrev pub program : List ℤ → Dp
program numbers = program_of (instance_of numbers)
