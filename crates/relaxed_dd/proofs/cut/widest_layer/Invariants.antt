use Rattle.std.proofs.Common.{◌<◌, ◌≤◌, ◌^◌, ℕ}
use Rattle.relaxed_dd.proofs.cut.widest_layer.Given as goal

abbrev pub invariant-layers : goal.invariant-layers
invariant-layers g l = record {
  wide : l.width ≤ l.widest;
  choices : (k : ℕ) → k < l.k → (g.M.DpModel.meaning (g.M.DpModel.numbers l.model)).choices k ≤ l.widest;
  few : l.width ≤ 2 ^ 24 → l.widest ≤ 2 ^ 24;
}
