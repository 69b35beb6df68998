use Rattle.std.proofs.Common.{◌+◌, ◌++◌, ◌≡◌, ◌≤◌, length, length-append, ap, ◌∙◌, arith}
use Rattle.board_laws.specs.Board.{full_slots, frontier}
use Rattle.board.specs.View.{BoardView}
use Rattle.board.proofs.Orders.{few}
use Rattle.board.proofs.board.Board.live.Goals as goal

pub overflow_add-result : goal.overflow_add-result
overflow_add-result g c =
    let full = full_slots c.self.inside.slots.items in
    let os = c.self.inside.fringe.open_ones in
    let most : length (full ++ os) ≤ c.self.inside.next_ticket = few c.self.inside.next_ticket (full ++ os) c.self.invariant.board.tickets.distinct c.self.invariant.board.tickets.given in
    let out : c.count_full.result ≡ length full = c.count_full.ensures ∙ ap (λ slots. length (full_slots slots)) c.as_slice.ensures.value in
    omega (arith, most, out, c.len.ensures, length-append full os)

pub returns : goal.returns
returns g c =
    let full = full_slots c.self.inside.slots.items in
    let os = c.self.inside.fringe.open_ones in
    let out : c.count_full.result ≡ length full = c.count_full.ensures ∙ ap (λ slots. length (full_slots slots)) c.as_slice.ensures.value in
    let sum : c.len.result + c.count_full.result ≡ length (full ++ os) = omega (arith, out, c.len.ensures, length-append full os) in
    sum ∙ ap (λ (v : BoardView). length (frontier v.board)) c.self.view_is
