use Rattle.knapsack.specs.Instance.{Instance}
use Rattle.knapsack.proofs.Placing.{placed_are_small}
use Rattle.knapsack.proofs.instance.Knapsack.new.Goals as goal

pub runs_by_layer-requires : goal.runs_by_layer-requires
runs_by_layer-requires c =
    let i : Instance = record { capacity = c.args.capacity; items = c.args.items.items } in
    rw c.deref-2.ensures.value (placed_are_small i c.in_ok-order.order.items c.requires (rw c.deref.ensures.value at c.in_ok-order.ensures))
