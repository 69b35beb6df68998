use Rattle.turn.specs.Seats.{first_of, seen_of}
use Rattle.search_workers.specs.Seen.{reach_seen}
use Rattle.search_workers.proofs.Offers.{found-reaches}
use Rattle.search_workers.proofs.workers.offering.offer_one.Goals as goal

pub returns-clause-found : goal.returns-clause-found
returns-clause-found g c =
    let t = c.args.crew.now.turn.now in
    let seat = c.improve_one.new.seat in
    let e = c.in_ok-reach.ensures in
    found-reaches (g.M.DpModel.meaning (first_of t).board.numbers) c.args.found c.in-Some.found (seen_of seat) (reach_seen t seat) c.in-Some.is c.requires.held e.better e.above
