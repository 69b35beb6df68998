-- A list of decisions along the next states is a feasible solution, and the other way round.
use Rattle.std.proofs.Common.{◌≡◌, ℕ, zero, suc, ◌+◌, ◌-◌, ◌<◌, ◌≤◌, ℤ, pos, ◌+ℤ◌, Bool, true, false, cond, nat_eq, List, [], ◌∷◌, length, get_or, Option, Some, None, refl, sym, ap, subst, ◌∙◌, arith}
use Rattle.std.specs.Prelude.{option_map, is_some}
use Rattle.std.proofs.lemmas.Bool.{eq-eqb, eqb-true, false≢true}
use Rattle.dp_model.specs.Dp.{IsAllowed}
use Rattle.dp_model.specs.Prefixes.{IsPath, IsSolution, gain_of, value_of}
use Rattle.dp_model.specs.Solution.{IsSolutionWith, SolutionGives}
use Rattle.table_model.specs.Laws.Shaped.{IsTable, HasDecisions, grid_row, row_long, states_at, decisions_at}
use Rattle.table_model.specs.Laws.Steps.{IsTransition, transition_parts, Has, has_from, some_from, IsWithin, transition_within, gain_step, path_step, path_from_step}
use Rattle.table_model.specs.OwnWords.{gain_then, gains_along, own_value}
use Rattle.table_model.specs.Program.{number_in, row_of_number, program_of}
use Rattle.table_model.specs.Table.{LayerTable, Table, cell_at, layer_at, no_layer, transition_at}
use Rattle.table_model.specs.declared.transition.Transition.{Transition}

-- a cell that is there stands within its row
within_row : (row : List (Option ℕ)) (d : ℕ) (n : ℕ) → get_or row d None ≡ Some n → d < length row
within_row [] d n h = absurd (grind arith)
within_row (x ∷ row) zero n h = omega arith
within_row (x ∷ row) (suc d) n h = let rest = within_row row d n h in omega (arith, rest)

-- a decision that makes a transition is one of the choices
pub within_choices : (after : ℕ) (l : LayerTable) (s d : ℕ) (w : Transition) → HasDecisions after l → s < l.states → transition_at l s d ≡ Some w → d < l.choices
within_choices after l s d w h one e =
    let parts = transition_parts (cell_at l.next None s d) (cell_at l.gain None s d) w e in
    let long : length (get_or l.next s []) ≡ l.choices = row_long _ _ _ (grid_row _ _ _ l.next s h.next one) in
    let within = within_row (get_or l.next s []) d w.next parts.next_is in
    omega (arith, long, within)

some-inj : (x y : ℤ) → Some x ≡ Some y → x ≡ y
some-inj x y h = cc

none≢some : (z : ℤ) → None ≡ Some z → ⊥
none≢some z h = absurd (grind arith)

module _ (t : Table) (shape : IsTable t) where
  -- a transition that is made from a state leads to a state, with a small gain
  pub step_within : (k s d : ℕ) (w : Transition) → k + 1 < length t.layers → s < (layer_at t.layers k).states → transition_at (layer_at t.layers k) s d ≡ Some w
      → IsWithin (layer_at t.layers (k + 1)).states w
  step_within k s d w below one e =
      let decisions = decisions_at t.layers k shape.layers below in
      transition_within _ (layer_at t.layers k) s d w (states_at t.layers (k + 1) shape.layers below).some decisions one (within_choices _ (layer_at t.layers k) s d w decisions one e) e

  -- decisions along the next states are a path, with their gains
  record IsAlong (k : ℕ) (s : List ℤ) (ds : List ℕ) (z : ℤ) : Type 0 where
    path : IsPath (program_of t) k s ds
    gain : z ≡ gain_of (program_of t) k s ds

  along_more : (k : ℕ) (s : List ℤ) (d : ℕ) (ds : List ℕ) (z : ℤ) (w : Transition) (rest : Option ℤ) → number_in s < (layer_at t.layers k).states
      → k + 1 < length t.layers → transition_at (layer_at t.layers k) (number_in s) d ≡ Some w → option_map (λ y. w.gain +ℤ y) rest ≡ Some z
      → ((y : ℤ) → rest ≡ Some y → IsAlong (k + 1) (row_of_number w.next) ds y) → IsAlong k s (d ∷ ds) z
  along_more k s d ds z w None one below e h more = absurd (none≢some z h)
  along_more k s d ds z w (Some y) one below e h more =
      let rest = more y refl in
      let decisions = decisions_at t.layers k shape.layers below in
      record {
        path = (
          record {
            layer = omega (arith, below);
            choice = within_choices _ (layer_at t.layers k) (number_in s) d w decisions one e;
            test = some_from (transition_at (layer_at t.layers k) (number_in s) d) w e;
          },
          path_from_step t k s d ds w e rest.path,
        );
        gain = sym (some-inj _ _ h) ∙ ap (λ (x : ℤ). w.gain +ℤ x) rest.gain ∙ sym (gain_step t k s d ds w e);
      }

  along_is : (k : ℕ) (s : List ℤ) (ds : List ℕ) (z : ℤ) → number_in s < (layer_at t.layers k).states → k + length ds ≡ length t.layers - 1
      → gains_along t.layers k (number_in s) ds ≡ Some z → IsAlong k s ds z
  along_is k s [] z one whole h = record { path = tt; gain = sym (some-inj _ _ h) }
  along_is k s (d ∷ ds) z one whole h =
      let below : k + 1 < length t.layers = omega (arith, whole) in
      elim (transition_at (layer_at t.layers k) (number_in s) d) as (λ o.
      transition_at (layer_at t.layers k) (number_in s) d ≡ o → gain_then o (λ next. gains_along t.layers (k + 1) next ds) ≡ Some z → IsAlong k s (d ∷ ds) z) [
        | None ↦ λ _ none. absurd (none≢some z none)
        | Some w ↦ λ e some.
            along_more k s d ds z w (gains_along t.layers (k + 1) w.next ds) one below e some
            (λ y rest. along_is (k + 1) (row_of_number w.next) ds y (step_within k (number_in s) d w below one e).next (omega (arith, whole)) rest)
      ] refl h

  -- a path has the gains of its decisions
  along_from : (k : ℕ) (s : List ℤ) (ds : List ℕ) → IsPath (program_of t) k s ds → gains_along t.layers k (number_in s) ds ≡ Some (gain_of (program_of t) k s ds)
  along_from k s [] path = refl
  along_from k s (d ∷ ds) path =
      let w = has_from (transition_at (layer_at t.layers k) (number_in s) d) path.0.test in
      let rest = along_from (k + 1) (row_of_number w.by.next) ds (path_step t k s d ds w.by w.is path.1) in
      ap (λ (o : Option Transition). gain_then o (λ next. gains_along t.layers (k + 1) next ds)) w.is
      ∙ ap (option_map (λ (y : ℤ). w.by.gain +ℤ y)) rest
      ∙ ap (λ (y : ℤ). let o : Option ℤ = Some y in o) (sym (gain_step t k s d ds w.by w.is))

  solution_with : (ds : List ℕ) (z : ℤ) → length ds + 1 ≡ length t.layers → gains_along t.layers 0 0 ds ≡ Some z → IsSolutionWith (program_of t) ds (t.root_value +ℤ z)
  solution_with ds z whole h =
      let along = along_is 0 (row_of_number 0) ds z (states_at t.layers 0 shape.layers shape.some).some (omega (arith, whole)) h in
      record { solution = record { prefix = along.path; whole = omega (arith, whole) }; value = ap (λ (y : ℤ). t.root_value +ℤ y) along.gain }

  -- the value in the problem's own words is that of the feasible solution, and none where there is none
  pub own_words_solve : (ds : List ℕ) → SolutionGives (program_of t) ds (own_value t ds)
  own_words_solve ds =
      elim (nat_eq (length ds + 1) (length t.layers)) as (λ b. nat_eq (length ds + 1) (length t.layers) ≡ b
      → SolutionGives (program_of t) ds (cond b (option_map (λ z. t.root_value +ℤ z) (gains_along t.layers 0 0 ds)) None)) [
        | true ↦ λ whole.
            elim (gains_along t.layers 0 0 ds) as (λ o. gains_along t.layers 0 0 ds ≡ o → SolutionGives (program_of t) ds (option_map (λ z. t.root_value +ℤ z) o)) [
              | Some z ↦ λ h. solution_with ds z (eqb-true _ _ whole) h
              | None ↦ λ h. λ solution. none≢some _ (sym h ∙ along_from 0 (row_of_number 0) ds solution.prefix)
            ] refl
        | false ↦ λ other. λ solution.
            let some = shape.some in
            let long = solution.whole in
            false≢true (sym other ∙ eq-eqb (length ds + 1) (length t.layers) (omega (arith, some, long)))
      ] refl
