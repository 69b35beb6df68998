use Rattle.std.proofs.Common.{◌≡◌, ◌+◌, ◌∷◌, [], None, replicate, vec_len, vec_capacity}
use Rattle.bound_cover.specs.Exploring.{rest_of}
use Rattle.cover_book.proofs.exploring.start_rows.Given as goal

abbrev pub invariant-layers : goal.invariant-layers
invariant-layers g l = record {
  items : l.rows.items ≡ (record { bound = rest_of l.fn.claim (g.M.DpModel.meaning (g.M.DpModel.numbers l.model)).root_value; words = (g.M.DpModel.meaning (g.M.DpModel.numbers l.model)).root; arcs = None } ∷ []) ∷ replicate l.counter [];
  room : vec_capacity l.rows ≡ l.vars + 1;
  many : vec_len l.rows ≡ l.counter + 1;
}
