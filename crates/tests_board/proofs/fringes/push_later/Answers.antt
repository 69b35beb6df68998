use Rattle.std.proofs.Common.{◌≡◌, ◌<◌, ◌+◌, List, arith, sym, ap, subst}
use Rattle.dp_model.specs.Lists.{Each}
use Rattle.dp_model.proofs.Members.{Each-then}
use Rattle.fringe.specs.Tickets.{Ticketed}
use Rattle.fringe.specs.Fringe.{FringeView}
use Rattle.fringe.proofs.Pushings.{each-push}
use Rattle.tests_board.proofs.fringes.push_later.Goals as goal

pub returns : goal.returns
returns c =
    let n = c.args.ticket + 1 in
    let P : Ticketed → Type 0 = λ o. o.ticket < n in
    let kept : c.reserve.new.self.open_ones ≡ c.args.fringe.now.open_ones = ap (λ (v : FringeView). v.open_ones) c.in_ok-reserve.ensures.kept in
    let before : Each P c.reserve.new.self.open_ones =
    subst (λ (l : List Ticketed). Each P l) (sym kept) (Each-then (λ (o : Ticketed). o.ticket < c.args.ticket) P c.args.fringe.now.open_ones (λ o k. omega arith) c.requires) in
    subst (λ (l : List Ticketed). Each P l) (sym c.push.ensures.step) (each-push n _ c.reserve.new.self.open_ones (omega arith) before)
