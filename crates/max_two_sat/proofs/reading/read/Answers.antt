use Rattle.std.proofs.Common.{sym, subst}
use Rattle.max_two_sat.specs.Clauses.{Gathered}
use Rattle.max_two_sat.specs.Room.{IsGathering}
use Rattle.max_two_sat.proofs.Gathering.{way-begins}
use Rattle.max_two_sat.proofs.reading.read.Goals as goal

pub read_clauses-requires-clause-under_way : goal.read_clauses-requires-clause-under_way
read_clauses-requires-clause-under_way c =
    subst (λ (g : Gathered). IsGathering c.in_ok-header.header g) (sym c.in_ok-draft.ensures) (way-begins c.in_ok-header.header c.in_ok-header.ensures.variables)

pub of_draft-requires-clause-gathered : goal.of_draft-requires-clause-gathered
of_draft-requires-clause-gathered c = c.in_ok-read_clauses.ensures.gathered
