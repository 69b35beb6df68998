use Rattle.turn.proofs.Order.{no_less-trans}
use Rattle.tests_turn.proofs.boards.found_after.Goals as goal

pub returns-in-Ok-clause-least : goal.returns-in-Ok-clause-least
returns-in-Ok-clause-least g c = no_less-trans _ _ _ c.improve_one.ensures.no_less c.incumbent_found-in-Ok.ensures.least

pub returns-in-Err-GaveBack-clause-least : goal.returns-in-Err-GaveBack-clause-least
returns-in-Err-GaveBack-clause-least g c = no_less-trans _ _ _ c.improve_one.ensures.no_less c.incumbent_found.ensures.least
