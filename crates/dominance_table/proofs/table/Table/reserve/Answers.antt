use Rattle.std.proofs.Common.{◌≡◌, ◌+◌, ◌-◌, ◌≤◌, length, ap, arith}
use Rattle.std.specs.Prelude.{vec_len}
use Rattle.dominance_table.proofs.Puts.{reserved_room}
use Rattle.dominance_table.proofs.table.Table.reserve.Goals as goal

pub invariant_of-self-2 : goal.invariant_of-self-2
invariant_of-self-2 c =
    let old = c.self.inside in
    let less = c.if-room-self.false in
    let count = c.in-Some.ensures.1 in
    let own = c.len.ensures in
    let most = c.in_ok-reserve-3.ensures.ok in
    let runs = c.in_ok-reserve-3.ensures.runs in
    let room = c.self.invariant.1.0 in
    let now : c.in-Some.room ≡ vec_len old.entries + c.args.rows = omega arith in
    let same = c.in_ok-reserve.ensures.len in
    let links : length c.reserve-3.new.self.runs ≡ length old.groups.runs = ap length runs in
    let left : length c.reserve-3.new.self.runs + (c.in-Some.room - vec_len c.reserve.new.self) ≤ c.reserve-3.new.self.room = grind arith in (
      reserved_room old.words old.limit old.room _ _ _ _ c.args.rows c.in-Some-checked_mul.cells c.in-Some.room _ _ _ _ c.self.invariant.0
          now c.in-Some-checked_mul.ensures.1
          c.in_ok-reserve.ensures.len c.in_ok-reserve.ensures.ok c.in_ok-reserve-2.ensures.len c.in_ok-reserve-2.ensures.ok,
      (left, rw (c.in_ok-reserve.ensures.items, c.in_ok-reserve-3.ensures.runs) c.self.invariant.1.1),
    )
