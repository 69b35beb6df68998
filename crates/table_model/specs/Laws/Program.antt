-- The program of a table whose tests hold meets the laws.
use Rattle.std.proofs.Common.{◌≡◌, ℕ, ◌+◌, ◌-◌, ◌<◌, ◌≤◌, ◌^◌, ℤ, pos, neg_ℤ, ◌≤ℤ◌, true, List, [], ◌∷◌, length, Option, Some, None, refl, sym, ap, subst, ◌∙◌, arith}
use Rattle.std.proofs.lemmas.Int.{ints}
use Rattle.dp_model.specs.Dp.{IsAllowed}
use Rattle.dp_model.specs.Gaps.{IsStateOf}
use Rattle.dp_model.specs.Laws.{StepsAreStates, GapsAreSound, RoughBounds, SizesHold, IsLawful, IsChained}
use Rattle.dp_model.specs.Lists.{Each}
use Rattle.dp_model.specs.Numbers.{IsSmall}
use Rattle.table_model.specs.Laws.Coded.{table_spelled-numbers_of}
use Rattle.table_model.specs.Laws.Gaps.{sound_from, own_gap, merge_new, merge_old, last_rough, bounds_from, chained_at, gap_between}
use Rattle.table_model.specs.Laws.Shaped.{IsTable, IsBetween, is_between-is, some_between, row_passes, states_at, decisions_at, HasStates}
use Rattle.table_model.specs.Laws.Steps.{IsNumber, is_number-is, is_number-from, has_from, transition_within, IsWithin}
use Rattle.table_model.specs.Numbers.{numbers_of, table_spelled}
use Rattle.table_model.specs.Program.{number_in, row_of_number, next_in, gain_in, is_number, program_of}
use Rattle.table_model.specs.Table.{Table, layer_at, gap_at, merge_at, rough_at, transition_at}
use Rattle.table_model.specs.Tests.{first_failure}
use Rattle.table_model.specs.declared.transition.Transition.{Transition}

small_between : (z : ℤ) → IsBetween (neg_ℤ (pos (2 ^ 50))) (pos (2 ^ 50)) z → IsSmall z
small_between z b = record { low = b.low; high = b.high }

module _ (t : Table) (shape : IsTable t) (tests : first_failure t.layers ≡ None) where
  -- a state of the program is a state of its layer
  record IsState (k : ℕ) (s : List ℤ) : Type 0 where
    layer : k < length t.layers
    row : s ≡ row_of_number (number_in s)
    below : number_in s < (layer_at t.layers k).states

  state_is : (k : ℕ) (s : List ℤ) → IsStateOf (program_of t) k s → IsState k s
  state_is k s state =
      let number = is_number-is (layer_at t.layers k).states s state.test in
      record { layer = (let some = shape.some in let layer = state.layer in omega (arith, some, layer)); row = number.row; below = number.below }

  states_hold : StepsAreStates (program_of t)
  states_hold = record {
    root = is_number-from _ 0 (states_at t.layers 0 shape.layers shape.some).some;
    step = λ k s d state allowed.
        let is = state_is k s state in
        let layer = allowed.layer in
        let below : k + 1 < length t.layers = omega (arith, layer) in
        let w = has_from (transition_at (layer_at t.layers k) (number_in s) d) allowed.test in
        let within = transition_within (layer_at t.layers (k + 1)).states (layer_at t.layers k) (number_in s) d w.by (states_at t.layers (k + 1) shape.layers below).some (decisions_at t.layers k shape.layers below) is.below allowed.choice w.is in
        subst (λ (o : Option Transition). is_number (layer_at t.layers (k + 1)).states (row_of_number (next_in o)) ≡ true) (sym w.is) (is_number-from _ w.by.next within.next);
    merged = λ k a s one two.
        let first = state_is k a one in
        is_number-from _ _ ((states_at t.layers k shape.layers first.layer).merge (number_in a) (number_in s) first.below (state_is k s two).below);
  }

  gaps_hold : GapsAreSound (program_of t)
  gaps_hold = record {
    sound = λ k a s g one two is c run.
        sound_from t shape tests k a s g c (state_is k a one).below (state_is k s two).below is run.path run.whole;
    own = λ k s state. let is = state_is k s state in own_gap t shape tests k (number_in s) is.layer is.below;
    merge_new = λ k a s one two. let first = state_is k a one in merge_new t shape tests k a s first.layer first.below (state_is k s two).below;
    merge_old = λ k a s u one two three has.
        let first = state_is k a one in
        merge_old t shape tests k a s u first.layer first.below (state_is k s two).below (state_is k u three).below has;
  }

  rough_holds : RoughBounds (program_of t)
  rough_holds = record {
    bounds = λ k s c state run. bounds_from t shape tests k s c (state_is k s state).below run.path run.whole;
    last = λ s state.
        last_rough t shape tests (length t.layers - 1) (number_in s) (let some = shape.some in omega (arith, some)) (state_is (length t.layers - 1) s state).below;
  }

  sizes_hold : SizesHold (program_of t)
  sizes_hold = record {
    vars = let few = shape.few in omega (arith, few);
    some_words = omega arith;
    words = omega arith;
    some_choices = λ k below. (decisions_at t.layers k shape.layers (omega (arith, below))).some;
    choices = λ k below. let few = (decisions_at t.layers k shape.layers (omega (arith, below))).few in omega (arith, few);
    root_value = small_between t.root_value (is_between-is _ _ t.root_value shape.root_value);
    cells = λ k s state. ap (λ (l : List ℤ). length l) (state_is k s state).row;
    state = λ k s state.
        let is = state_is k s state in
        let few = (states_at t.layers k shape.layers is.layer).few in
        let below = is.below in
        subst (λ (l : List ℤ). Each IsSmall l) (sym is.row) (record { low = omega (arith, ints); high = omega (arith, ints, few, below) }, tt);
    gain = λ k s d state allowed.
        let is = state_is k s state in
        let layer = allowed.layer in
        let below : k + 1 < length t.layers = omega (arith, layer) in
        let w = has_from (transition_at (layer_at t.layers k) (number_in s) d) allowed.test in
        let within = transition_within (layer_at t.layers (k + 1)).states (layer_at t.layers k) (number_in s) d w.by (states_at t.layers (k + 1) shape.layers below).some (decisions_at t.layers k shape.layers below) is.below allowed.choice w.is in
        subst (λ (o : Option Transition). IsSmall (gain_in o)) (sym w.is) (small_between w.by.gain within.gain);
    gap = λ k a s g one two is.
        let first = state_is k a one in
        let b = gap_between t shape tests k (number_in a) (number_in s) g first.layer first.below (state_is k s two).below is in
        (b.low, record { low = (let low = b.low in omega (arith, ints, low)); high = b.high });
    rough = λ k s r state is.
        let here = state_is k s state in
        let row = (states_at t.layers k shape.layers here.layer).rough in
        small_between r (some_between _ _ r (rough_at (layer_at t.layers k) (number_in s)) (row_passes _ _ (layer_at t.layers k).rough (number_in s) None row here.below) is);
  }

  pub lawful_program : IsLawful (program_of t)
  lawful_program = record { states = states_hold; gaps = gaps_hold; rough = rough_holds; sizes = sizes_hold }

  pub chained_program : IsChained (program_of t)
  chained_program = λ k a b c g h one two three first second.
      let is = state_is k a one in
      chained_at t shape tests k a b c g h is.layer is.below (state_is k b two).below (state_is k c three).below first second

-- the laws, of the program that the numbers of a table spell
pub lawful_numbers : (t : Table) → IsTable t → first_failure t.layers ≡ None → IsLawful (program_of (table_spelled (numbers_of t)))
lawful_numbers t shape tests = subst (λ (u : Table). IsLawful (program_of u)) (sym (table_spelled-numbers_of t)) (lawful_program t shape tests)

pub chained_numbers : (t : Table) → IsTable t → first_failure t.layers ≡ None → IsChained (program_of (table_spelled (numbers_of t)))
chained_numbers t shape tests = subst (λ (u : Table). IsChained (program_of u)) (sym (table_spelled-numbers_of t)) (chained_program t shape tests)
