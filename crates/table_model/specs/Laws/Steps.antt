-- Steps of a table's program, by the transition that a decision makes.
use Rattle.std.proofs.Common.{◌≡◌, ℕ, ◌+◌, ◌-◌, ◌<◌, ◌≤◌, ◌^◌, ℤ, pos, neg_ℤ, ◌+ℤ◌, ◌≤ℤ◌, Bool, true, List, [], ◌∷◌, length, Option, Some, None, refl, sym, ap, subst, ◌∙◌, arith}
use Rattle.std.specs.Prelude.{is_some, option_map}
use Rattle.std.proofs.lemmas.Bool.{ltb-true, lt-ltb}
use Rattle.dp_model.specs.Dp.{Dp, IsAllowed}
use Rattle.dp_model.specs.Prefixes.{IsPath, gain_of}
use Rattle.table_model.specs.Laws.Shaped.{HasStates, HasDecisions, IsBetween, grid_passes, next_below, some_between, decisions_at}
use Rattle.table_model.specs.Program.{number_in, is_number, row_of_number, next_in, gain_in, program_of}
use Rattle.table_model.specs.Shape.{are_layers}
use Rattle.table_model.specs.Table.{LayerTable, Table, cell_at, layer_at, transition_of, transition_at}
use Rattle.table_model.specs.declared.transition.Transition.{Transition}

-- a row that is a state is the number of one
pub record IsNumber (states : ℕ) (s : List ℤ) : Type 0 where
  pub row : s ≡ row_of_number (number_in s)
  pub below : number_in s < states

pub is_number-is : (states : ℕ) (s : List ℤ) → is_number states s ≡ true → IsNumber states s
is_number-is states (pos n ∷ []) h = record { row = refl; below = ltb-true _ _ h }
is_number-is states _ h = absurd (grind arith)

pub is_number-from : (states n : ℕ) → n < states → is_number states (row_of_number n) ≡ true
is_number-from states n h = lt-ltb _ _ h

-- the next state and the gain of a transition that is there
pub record IsTransition (next : Option ℕ) (gain : Option ℤ) (w : Transition) : Type 0 where
  pub next_is : next ≡ Some w.next
  pub gain_is : gain ≡ Some w.gain

pub transition_parts : (next : Option ℕ) (gain : Option ℤ) (w : Transition) → transition_of next gain ≡ Some w → IsTransition next gain w
transition_parts None gain w h = absurd (grind arith)
transition_parts (Some n) None w h = absurd (grind arith)
transition_parts (Some n) (Some z) w h = record {
  next_is = ap (λ (o : Option Transition). option_map (λ x. x.next) o) h;
  gain_is = ap (λ (o : Option Transition). option_map (λ x. x.gain) o) h;
}

-- a transition, where the option is there
pub record Has (o : Option Transition) : Type 0 where
  pub by : Transition
  pub is : o ≡ Some by

pub has_from : (o : Option Transition) → is_some o ≡ true → Has o
has_from None h = absurd (grind arith)
has_from (Some w) h = record { by = w; is = refl }

pub some_from : (o : Option Transition) (w : Transition) → o ≡ Some w → is_some o ≡ true
some_from o w e = ap (λ (x : Option Transition). is_some x) e

-- a transition leads to a state of the next layer, and its gain is small
pub record IsWithin (after : ℕ) (w : Transition) : Type 0 where
  pub next : w.next < after
  pub gain : IsBetween (neg_ℤ (pos (2 ^ 50))) (pos (2 ^ 50)) w.gain

pub transition_within : (after : ℕ) (l : LayerTable) (s d : ℕ) (w : Transition) → 1 ≤ after → HasDecisions after l → s < l.states → d < l.choices
    → transition_at l s d ≡ Some w → IsWithin after w
transition_within after l s d w some h one two e =
    let parts = transition_parts (cell_at l.next None s d) (cell_at l.gain None s d) w e in
    record {
      next = next_below w.next after (cell_at l.next None s d) some (grid_passes _ _ _ l.next s d None h.next one two) parts.next_is;
      gain = some_between _ _ w.gain (cell_at l.gain None s d) (grid_passes _ _ _ l.gain s d None h.gain one two) parts.gain_is;
    }

-- ---- the program's steps

pub gain_step : (t : Table) (k : ℕ) (s : List ℤ) (d : ℕ) (c : List ℕ) (w : Transition) → transition_at (layer_at t.layers k) (number_in s) d ≡ Some w
    → gain_of (program_of t) k s (d ∷ c) ≡ w.gain +ℤ gain_of (program_of t) (k + 1) (row_of_number w.next) c
gain_step t k s d c w e = ap (λ (o : Option Transition). gain_in o +ℤ gain_of (program_of t) (k + 1) (row_of_number (next_in o)) c) e

pub path_step : (t : Table) (k : ℕ) (s : List ℤ) (d : ℕ) (c : List ℕ) (w : Transition) → transition_at (layer_at t.layers k) (number_in s) d ≡ Some w
    → IsPath (program_of t) (k + 1) ((program_of t).step k s d) c → IsPath (program_of t) (k + 1) (row_of_number w.next) c
path_step t k s d c w e path = subst (λ (o : Option Transition). IsPath (program_of t) (k + 1) (row_of_number (next_in o)) c) e path

pub path_from_step : (t : Table) (k : ℕ) (s : List ℤ) (d : ℕ) (c : List ℕ) (w : Transition) → transition_at (layer_at t.layers k) (number_in s) d ≡ Some w
    → IsPath (program_of t) (k + 1) (row_of_number w.next) c → IsPath (program_of t) (k + 1) ((program_of t).step k s d) c
path_from_step t k s d c w e path = subst (λ (o : Option Transition). IsPath (program_of t) (k + 1) (row_of_number (next_in o)) c) (sym e) path
