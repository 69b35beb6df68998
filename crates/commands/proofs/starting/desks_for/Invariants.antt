use Rattle.std.proofs.Common.{◌≡◌, ◌≤◌, vec_len, vec_capacity}
use Rattle.std.specs.List.{All}
use Rattle.layer_build.specs.Layers.{IsWidth}
use Rattle.search_workers.specs.Prepared.{IsPreparedDesk}
use Rattle.search_workers.specs.declared.desk.Desk.{Desk}
use Rattle.commands.specs.Desks.{book_for}
use Rattle.commands.proofs.starting.desks_for.Given as goal

abbrev pub invariant-loop-made : goal.invariant-loop-made
invariant-loop-made g l =
    (vec_len l.desks ≡ l._made) × (l._made ≤ l.search.workers) × (l.search.workers ≤ vec_capacity l.desks)
    × All (IsPreparedDesk (g.M.DpModel.meaning (g.M.DpModel.numbers l.model)) l.width) l.desks.items
    × IsWidth (g.M.DpModel.meaning (g.M.DpModel.numbers l.model)) l.width
    × All (λ (desk : Desk). desk.kind ≡ l.search.cutset) l.desks.items
    × All (λ (desk : Desk). desk.book ≡ book_for (g.M.DpModel.meaning (g.M.DpModel.numbers l.model)) l.search) l.desks.items
    × All (λ (desk : Desk). desk.parts ≡ l.search.parts) l.desks.items
