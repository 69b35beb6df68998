-- The dynamic program of an instance within the limits meets the laws.
use Rattle.std.proofs.Common.{◌≡◌, ℕ, ◌≤◌, pos, true, false, ◌&&◌, cond, List, [], ◌∷◌, drop, Some, None, refl, sym, ap, ◌∙◌, arith, leb}
use Rattle.std.proofs.lemmas.Bool.{leb-true, leb-false, false≢true}
use Rattle.std.proofs.lemmas.Int.{ints}
use Rattle.std.proofs.Math.Seq.{drop-length}
use Rattle.dp_model.specs.Prefixes.{IsSolution, value_of}
use Rattle.dp_model.specs.Laws.{StepsAreStates, GapsAreSound, RoughBounds, IsLawful, IsChained}
use Rattle.knapsack.specs.declared.item.Item.{Item}
use Rattle.knapsack.specs.Instance.{Instance, instance_of, numbers_of, item_numbers, items_of, is_small}
use Rattle.knapsack.specs.Order.{ratio_order, fill}
use Rattle.knapsack.specs.OwnWords.{has_copies, total_weight, total_profit, packed_value}
use Rattle.dp_model.specs.Solution.{IsSolutionWith, SolutionGives}
use Rattle.knapsack.specs.Laws.Greedy.{packing-le-fill}
use Rattle.knapsack.specs.Program.{left, program_of}
use Rattle.knapsack.specs.Laws.States.{is_left-is, is_left-from, gap-is, gap-from}
use Rattle.knapsack.specs.Laws.Packings.{path_packs, copies_all, packing_paths, path_wider, gain_same}
use Rattle.knapsack.specs.Laws.Sizes.{sizes_hold}

-- the numbers of items spell them
pub items_of-item_numbers : (xs : List Item) → items_of (item_numbers xs) ≡ xs
unfolding items_of
items_of-item_numbers [] = refl
items_of-item_numbers (x ∷ xs) = ap (λ (l : List Item). x ∷ l) (items_of-item_numbers xs)

pub ruleset round_trip = (items_of-item_numbers)

-- the numbers of an instance spell it
pub instance_of-numbers_of : (i : Instance) → instance_of (numbers_of i) ≡ i
instance_of-numbers_of i = ap (λ (l : List Item). let r : Instance = record { capacity = i.capacity; items = l } in r) (items_of-item_numbers i.items)

-- The laws.

states_hold : (i : Instance) → StepsAreStates (program_of i)
states_hold i = record {
  root = is_left-from i.capacity i.capacity (omega arith);
  step = λ k s d state allowed. let within : left s ≤ i.capacity = (is_left-is _ _ state.test).within in is_left-from i.capacity _ (omega arith);
  merged = λ k a s kept state.
      let one : left a ≤ i.capacity = (is_left-is _ _ kept.test).within in
      let other : left s ≤ i.capacity = (is_left-is _ _ state.test).within in
      is_left-from i.capacity _ (omega arith);
}

gaps_hold : (i : Instance) → GapsAreSound (program_of i)
gaps_hold i = record {
  sound = λ k a s g kept state is c run.
      let gap = gap-is (left a) (left s) g is in
      record {
        by = c;
        continuation = record { path = path_wider i k s a c gap.more run.path; whole = run.whole };
        enough = let same = gain_same i k s a c in let zero = gap.zero in omega (arith, ints);
      };
  own = λ k s state. gap-from (left s) (left s) (omega arith);
  merge_new = λ k a s kept state. record { gap = pos 0; is = gap-from _ _ (omega arith) };
  merge_old = λ k a s u kept state other has.
      let more = (gap-is (left a) (left u) has.gap has.is).more in
      record { gap = pos 0; is = gap-from _ _ (omega arith) };
}

chained_holds : (i : Instance) → IsChained (program_of i)
chained_holds i k a b c g h one two three first second =
    let p = gap-is (left a) (left b) g first in
    let q = gap-is (left b) (left c) h second in
    record {
      gap = pos 0;
      is = gap-from _ _ (let m = p.more in let n = q.more in omega arith);
      within = let m = p.zero in let n = q.zero in omega (arith, ints);
    }

rough_holds : (i : Instance) → RoughBounds (program_of i)
rough_holds i = record {
  bounds = λ k s c state run.
      let p = path_packs i k s c run.path run.whole in
      let worth = p.worth in
      let less = packing-le-fill (drop k i.items) c (left s) p.copies p.fits in
      omega (arith, ints);
  last = λ s state. ap (λ (l : List Item). Some (pos (fill (ratio_order l) (left s)))) (drop-length i.items);
}

-- the dynamic program of an instance within the limits meets the laws
pub lawful_program : (i : Instance) → is_small i ≡ true → IsLawful (program_of i)
lawful_program i h = record { states = states_hold i; gaps = gaps_hold i; rough = rough_holds i; sizes = sizes_hold i h }

pub chained_program : (i : Instance) → IsChained (program_of i)
chained_program i = chained_holds i

-- A feasible solution is a packing, and the other way round.

pub record IsPacked (i : Instance) (ds : List ℕ) : Type 0 where
  pub copies : has_copies i.items ds ≡ true
  pub fits : total_weight i.items ds ≤ i.capacity
  pub worth : value_of (program_of i) ds ≡ pos (total_profit i.items ds)

pub solution_packs : (i : Instance) (ds : List ℕ) → IsSolution (program_of i) ds → IsPacked i ds
solution_packs i ds solution =
    let p = path_packs i 0 (pos i.capacity ∷ []) ds solution.prefix (let whole = solution.whole in omega arith) in
    record { copies = p.copies; fits = p.fits; worth = let w = p.worth in omega (arith, ints) }

pub packing_solves : (i : Instance) (ds : List ℕ) → has_copies i.items ds ≡ true → total_weight i.items ds ≤ i.capacity → IsSolutionWith (program_of i) ds (pos (total_profit i.items ds))
packing_solves i ds copies fits =
    let solution : IsSolution (program_of i) ds = record { prefix = packing_paths i 0 (pos i.capacity ∷ []) ds copies fits; whole = copies_all i.items ds copies } in
    record { solution = solution; value = sym (solution_packs i ds solution).worth }

-- the value in the problem's own words is that of the feasible solution, and none where there is none
pub own_words_solve : (i : Instance) (ds : List ℕ) → SolutionGives (program_of i) ds (packed_value i ds)
own_words_solve i ds =
    elim (has_copies i.items ds) as (λ b. has_copies i.items ds ≡ b → SolutionGives (program_of i) ds (cond (b && leb (total_weight i.items ds) i.capacity) (Some (pos (total_profit i.items ds))) None)) [
      | true ↦ λ copies.
          elim (leb (total_weight i.items ds) i.capacity) as (λ b. leb (total_weight i.items ds) i.capacity ≡ b → SolutionGives (program_of i) ds (cond b (Some (pos (total_profit i.items ds))) None)) [
            | true ↦ λ fits. packing_solves i ds copies (leb-true _ _ fits)
            | false ↦ λ heavy. λ solution. let p = (solution_packs i ds solution).fits in absurd (omega (arith, leb-false _ _ heavy, p))
          ] refl
      | false ↦ λ few. λ solution. false≢true (sym few ∙ (solution_packs i ds solution).copies)
    ] refl
