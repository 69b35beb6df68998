use Rattle.bound_cover.specs.Clamping.{AreWritable}
use Rattle.cover_book.proofs.thinning.write_rows.Given as goal

abbrev pub invariant-rows : goal.invariant-rows
invariant-rows l = AreWritable l.cover
