use Rattle.cover_text.proofs.RoundTrip.{sections_read, texts_read}
use Rattle.cover_text.proofs.theory.pushed_is_read.Goals as goal

pub returns-clause-sections : goal.returns-clause-sections
returns-clause-sections c = sections_read

pub returns-clause-texts : goal.returns-clause-texts
returns-clause-texts c = texts_read
