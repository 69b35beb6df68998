use Rattle.std.proofs.Common.{◌≡◌, ℕ, ◌<◌, ◌≤◌, length, get_or, arith, ap, ◌∙◌, sym, subst, refl}
use Rattle.knapsack.specs.declared.instance.Knapsack.{Knapsack}
use Rattle.knapsack.specs.declared.running.Runs.{Runs}
use Rattle.knapsack.specs.Laws.Sizes.{rough_small}
use Rattle.knapsack.specs.Laws.Limits.{is_small-is}
use Rattle.knapsack.specs.Limits.{AreSmall}
use Rattle.knapsack.specs.Placed.{kept_from}
use Rattle.knapsack.specs.Runs.{AreRunsOf}
use Rattle.knapsack.specs.Shown.{instance_in}
use Rattle.knapsack.proofs.Placing.{placed_are_small, filled_is, length-placed_from}
use Rattle.knapsack.proofs.RunLemmas.{kept_are_small}
use Rattle.knapsack.proofs.instance.Knapsack.fill.Goals as goal

-- there are as many layers as items, and one for the end
layers : (m : Knapsack) (k : ℕ) → k ≤ length m.items.items → k < length m.runs.items
layers m k within =
    let order : length m.order.items ≡ length m.items.items = ap length m.ordered ∙ length-placed_from 0 m.items.items in
    omega (arith, m.layered.many)

small_from : (m : Knapsack) (k : ℕ) → AreSmall (kept_from k m.order.items)
small_from m k = kept_are_small k m.order.items (placed_are_small (instance_in m) m.order.items m.small m.ordered)

-- what is read at a layer are its runs
runs_at : (m : Knapsack) (k : ℕ) (runs : Runs) → k ≤ length m.items.items → runs ≡ get_or m.runs.items k runs → AreRunsOf (kept_from k m.order.items) runs
runs_at m k runs within is = subst (AreRunsOf (kept_from k m.order.items)) (sym is) (m.layered.each k runs (layers m k within))

pub index-requires : goal.index-requires
index-requires c = let below = layers c.args.self.now c.args.k c.requires in omega arith

pub filled-requires : goal.filled-requires
filled-requires c =
    let m = c.args.self.now in
    record { items = kept_from c.args.k m.order.items; small = small_from m c.args.k; are = runs_at m c.args.k c.index.result.now c.requires c.index.ensures }

pub returns-clause-value : goal.returns-clause-value
returns-clause-value c =
    let m = c.args.self.now in
    c.filled.ensures (kept_from c.args.k m.order.items) (small_from m c.args.k) (runs_at m c.args.k c.index.result.now c.requires c.index.ensures)
    ∙ filled_is m.items.items m.order.items c.args.k c.args.room c.args.room m.ordered refl

pub returns-clause-small : goal.returns-clause-small
returns-clause-small c =
    let small = is_small-is (instance_in c.args.self.now) c.args.self.now.small in
    let most = rough_small c.args.self.now.items.items c.args.k c.args.room small.items small.count in
    omega (arith, returns-clause-value c, most)
