use Rattle.std.proofs.Common.{◌+◌, ◌*◌, ◌≤◌, List, length, take, drop, ℤ, subst, sym, ap, ◌∙◌}
use Rattle.row_region.proofs.Live.{front_live, live_row, live_room}
use Rattle.row_region.proofs.region.Region.cells.Goals as goal

pub returns-clause-rows : goal.returns-clause-rows
returns-clause-rows c = λ place row.
    rw (← c.self.view_is) (λ live. ap (λ (l : List ℤ). take c.self.inside.words (drop (place * c.self.inside.words) l)) c.as_slice.ensures.value ∙ live_row _ _ _ _ _ place row c.self.invariant.0.chained (front_live _ _ place row live))

pub returns-clause-fits : goal.returns-clause-fits
returns-clause-fits c = λ place row.
    rw (← c.self.view_is) (λ live. subst (λ (l : List ℤ). place * c.self.inside.words + c.self.inside.words ≤ length l) (sym c.as_slice.ensures.value) (live_room _ _ _ _ _ place row c.self.invariant.0.chained (front_live _ _ place row live)))
