use Rattle.std.proofs.Common.{w64, arith}
use Rattle.std.proofs.lemmas.Int.{to_z_pos}
use Rattle.tsp_windows.specs.Shown.{instance_in}
use Rattle.tsp_windows.proofs.Printings.{text_is}
use Rattle.tsp_windows.proofs.printing.printed.Goals as goal

pub returns : goal.returns
returns c =
    text_is (instance_in c.args.model.now) _ _ _ _ _ _ _ _ c.new-out.ensures.items c.in_ok-push_number.ensures.items (to_z_pos w64 c.args.model.now.nodes (omega (arith, c.args.model.now.few)))
    c.in_ok-push_text.ensures.items c.in_ok-push_distances.ensures c.deref.ensures.value c.in_ok-push_windows.ensures c.deref-2.ensures.value
