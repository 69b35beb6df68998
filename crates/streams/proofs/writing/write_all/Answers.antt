use Rattle.std.proofs.Common.{arith, length-drop, ◌∙◌}
use Rattle.std.proofs.lemmas.List.{take_rest}
use Rattle.streams.proofs.Counting.{Counts-some_taken}
use Rattle.streams.proofs.Telling.{append_known-again}
use Rattle.streams.proofs.writing.write_all.Goals as goal

pub loop-written-preserved : goal.loop-written-preserved
loop-written-preserved g c =
    let wrote = simp take_rest at c.in-Ok.ensures in
    record {
      in_range = omega (arith, rw length-drop at wrote.bound);
      taken = append_known-again _ _ _ _ _ _ c.loop-written.invariant.taken wrote.bytes;
      no_fault = wrote.faults ∙ c.loop-written.invariant.no_fault;
      no_idle = Counts-some_taken _ _ _ _ c.in-Ok.n-test.1 wrote.idle ∙ c.loop-written.invariant.no_idle;
    }
