-- A table as a dynamic program: a state is its number, and a decision is allowed where it has a next state.
use Rattle.std.specs.Prelude.{ℕ, ◌-◌, ℤ, pos, unsigned_abs, Bool, false, nat_lt, is_some, List, [], ◌∷◌, length, Option, Some, None}
use Rattle.dp_model.specs.Dp.{Dp}
use Rattle.table_model.specs.Table.{LayerTable, Table, layer_at, gap_at, merge_at, rough_at, transition_at}
use Rattle.table_model.specs.declared.transition.Transition.{Transition}

-- the number of a state
abbrev pub number_in : List ℤ → ℕ
number_in [] = 0
number_in (z ∷ _) = unsigned_abs z

-- one number below that of the states
abbrev pub is_number : ℕ → List ℤ → Bool
is_number states (pos s ∷ []) = nat_lt s states
is_number states _ = false

abbrev pub row_of_number : ℕ → List ℤ
row_of_number s = pos s ∷ []

abbrev pub next_in : Option Transition → ℕ
next_in None = 0
next_in (Some w) = w.next

abbrev pub gain_in : Option Transition → ℤ
gain_in None = pos 0
gain_in (Some w) = w.gain

abbrev pub program_of : Table → Dp
program_of t = record {
  vars = length t.layers - 1;
  words = 1;
  choices = λ k. (layer_at t.layers k).choices;
  root = row_of_number 0;
  root_value = t.root_value;
  is_state = λ k s. is_number (layer_at t.layers k).states s;
  allowed = λ k s d. is_some (transition_at (layer_at t.layers k) (number_in s) d);
  step = λ k s d. row_of_number (next_in (transition_at (layer_at t.layers k) (number_in s) d));
  gain = λ k s d. gain_in (transition_at (layer_at t.layers k) (number_in s) d);
  merged = λ k a s. row_of_number (merge_at (layer_at t.layers k) (number_in a) (number_in s));
  gap = λ k a s. gap_at (layer_at t.layers k) (number_in a) (number_in s);
  rough = λ k s. rough_at (layer_at t.layers k) (number_in s);
  rank = λ k s. pos 0;
  bucket = λ k s. 0;
  hash = λ k s. number_in s;
}
