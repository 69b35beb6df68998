use Rattle.std.proofs.Common.{◌≡◌, drop}
use Rattle.layer_candidates.specs.Pruning.{led_by}
use Rattle.layer_candidates.proofs.pruning.is_led.Given as goal

abbrev pub invariant-leaders : goal.invariant-leaders
invariant-leaders g l =
    led_by (g.M.DpModel.meaning (g.M.DpModel.numbers l.model)) l.k l.region l.leaders l.key
    ≡ led_by (g.M.DpModel.meaning (g.M.DpModel.numbers l.model)) l.k l.region (drop l.i l.leaders) l.key
