use Rattle.std.proofs.Common.{◌≡◌, ◌≢◌, ℕ, ◌<◌, length}
use Rattle.dp_model.specs.Lists.{Each}
use Rattle.layer_nodes.specs.Expanding.{key_in, number_at, IsNumbered}
use Rattle.layer_nodes.specs.Routing.{IsPlain}
use Rattle.layer_nodes.proofs.numbering.number.Given as goal

abbrev pub invariant-keys : goal.invariant-keys
invariant-keys l = record {
  numbered : (j : ℕ) → j < l.i → IsNumbered l.i l.keys l.routes (key_in l.keys j).place;
  others : (p : ℕ) → ((j : ℕ) → j < l.i → (key_in l.keys j).place ≢ p) → number_at l.routes p ≡ number_at l.fn.routes p;
  plain : Each IsPlain l.routes;
  same : length l.routes ≡ length l.fn.routes;
}
