use denote.Param.Send.{sendable}
use Rattle.std.proofs.Crossing.{crosses}
use Rattle.cover_pages.proofs.Sent.{book_send}
use Rattle.kept_board.proofs.Sent.{kept_send}
use Rattle.search_workers.proofs.Sent.{seat_send, turn_sync}
use Rattle.std.proofs.Common.{rules, ◌≡◌, subst, sym, ap, ◌∙◌}
use Rattle.turn.specs.Seats.{first_of, number_of}
use Rattle.turn.specs.declared.turn.Seat.{Seat}
use Rattle.kept_board.specs.View.{KeptView}
use Rattle.search_workers.specs.Prepared.{IsPreparedDesk}
use Rattle.search_workers.specs.declared.desk.Desk.{Desk}
use Rattle.search_workers.specs.Ready.{IsReadySeat}
use Rattle.search_workers.specs.Stopped.{HasEndedAt}
use Rattle.search_workers.proofs.Calls.{may_call, have_left, all_right, pairs_map, desks_left, left_long}
use Rattle.search_workers.proofs.workers.together.fan_out.Goals as goal

pub side_by_side-requires-after_bounds : goal.side_by_side-requires-after_bounds
side_by_side-requires-after_bounds g c κs within =
    let t = c.args.turn.now in
    let D : Desk → Type 0 = IsPreparedDesk (g.M.DpModel.meaning (g.M.DpModel.numbers c.args.model.now)) (first_of t).board.board.settings.width in
    may_call _ _ (IsReadySeat t) D (λ s k h d p q ep eq. ((c.requires.numbers, subst (IsReadySeat t) (sym ep) h, subst D (sym eq) d), (search rules, search rules, search rules, search rules, search rules)))
    c.args.seats.now c.args.desks.now c.requires.lengths c.requires.ready c.requires.prepared

pub returns-clause-ready : goal.returns-clause-ready
returns-clause-ready g c =
    let t = c.args.turn.now in
    let Q : Seat (KeptView _) → Seat (KeptView _) → Type 0 = λ a b. IsReadySeat t b × (b.number ≡ a.number) in
    let pairs = have_left _ _ Q (λ a b k l x. (subst (IsReadySeat t) x.seat_left x.call.0, ap number_of (sym x.seat_left) ∙ (x.call.1 ∙ ap number_of x.seat_is))) c.args.seats.now c.side_by_side.new.seats c.args.desks.now c.side_by_side.new.desks c.side_by_side.ensures in
    all_right Q (IsReadySeat t) (λ a b h. h.0) c.args.seats.now c.side_by_side.new.seats pairs

pub returns-clause-seats : goal.returns-clause-seats
returns-clause-seats g c =
    let t = c.args.turn.now in
    let Q : Seat (KeptView _) → Seat (KeptView _) → Type 0 = λ a b. IsReadySeat t b × (b.number ≡ a.number) in
    let pairs = have_left _ _ Q (λ a b k l x. (subst (IsReadySeat t) x.seat_left x.call.0, ap number_of (sym x.seat_left) ∙ (x.call.1 ∙ ap number_of x.seat_is))) c.args.seats.now c.side_by_side.new.seats c.args.desks.now c.side_by_side.new.desks c.side_by_side.ensures in
    pairs_map Q number_of (λ a b h. h.1) c.args.seats.now c.side_by_side.new.seats pairs

pub returns-clause-prepared : goal.returns-clause-prepared
returns-clause-prepared g c =
    let D : Desk → Type 0 = IsPreparedDesk (g.M.DpModel.meaning (g.M.DpModel.numbers c.args.model.now)) (first_of c.args.turn.now).board.board.settings.width in
    desks_left _ _ D (λ s t k l x. subst D x.desk_left x.call.2) c.args.seats.now c.side_by_side.new.seats c.args.desks.now c.side_by_side.new.desks c.side_by_side.ensures

pub returns-clause-desks : goal.returns-clause-desks
returns-clause-desks g c = left_long _ _ c.args.seats.now c.side_by_side.new.seats c.args.desks.now c.side_by_side.new.desks c.side_by_side.ensures

pub side_by_side-requires-send-S : goal.side_by_side-requires-send-S
side_by_side-requires-send-S g c κs within =
    let m = c.type_bounds.send-M in
    let y = c.type_bounds.sync-M in
    let d = c.type_bounds.send-D in
    search (sendable, crosses, kept_send, seat_send, turn_sync) depth 40 fits 4000

pub side_by_side-requires-sync-F : goal.side_by_side-requires-sync-F
side_by_side-requires-sync-F g c κs within =
    let m = c.type_bounds.send-M in
    let y = c.type_bounds.sync-M in
    let d = c.type_bounds.send-D in
    let r = c.type_bounds.sync-R in
    let q = c.type_bounds.sync-G in
    search (sendable, crosses, kept_send, seat_send, turn_sync) depth 40 fits 4000

pub returns-clause-ended : goal.returns-clause-ended
returns-clause-ended g c =
    let t = c.args.turn.now in
    let Q : Seat (KeptView _) → Seat (KeptView _) → Type 0 = λ a b. HasEndedAt t b in
    let pairs = have_left _ _ Q (λ a b k l x. subst (HasEndedAt t) x.seat_left x.call.3) c.args.seats.now c.side_by_side.new.seats c.args.desks.now c.side_by_side.new.desks c.side_by_side.ensures in
    all_right Q (HasEndedAt t) (λ a b h. h) c.args.seats.now c.side_by_side.new.seats pairs

pub side_by_side-requires-send-K : goal.side_by_side-requires-send-K
side_by_side-requires-send-K g c κs within = search (sendable, crosses, book_send) depth 60 fits 8000
