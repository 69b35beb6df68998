use Rattle.std.proofs.Common.{None, refl}
use Rattle.cover_text.specs.Texts.{text_in}
use Rattle.cover_join.proofs.Faultless.{texts_long}
use Rattle.cover_join.proofs.joining.fault_of.Goals as goal

pub checks_fault-requires-after_bounds : goal.checks_fault-requires-after_bounds
checks_fault-requires-after_bounds g c κs within = texts_long (text_in c.args.first.now) c.parts_told-of.result c.args.parts.now None c.in-None.ensures refl
