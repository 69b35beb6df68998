use Rattle.std.proofs.Common.{vec_len, ◌≡◌, ℕ, ◌+◌, ◌*◌, ◌≤◌, List, length, true, sym, ◌∙◌, ap, subst, arith}
use Rattle.dominance_table.specs.declared.entry.Entry.{Entry}
use Rattle.dominance_table.specs.Groups.{HasEnteredRun, group_fold}
use Rattle.dominance_table.specs.Entries.{TableView, HasRunRoom, entry_at}
use Rattle.dominance_table.proofs.Puts.{full_then, full_else, answers_full, answers_put, stays_full, room_left, row_fits, row_put, kept_room, put_step, run_room_more, grouped_more, rising_more}
use Rattle.dominance_table.proofs.table.Table.put_entry.Goals as goal

pub returns-then-len-self-clause-answer : goal.returns-then-len-self-clause-answer
returns-then-len-self-clause-answer c =
    answers_full c.args.self.now (full_then _ _ _ _ _ _ _ c.self.view_is c.self.inside.entries.ok.0 (sym c.len.ensures ∙ c.if-len-self.true))

pub returns-then-len-self-clause-step : goal.returns-then-len-self-clause-step
returns-then-len-self-clause-step c =
    stays_full c.args.self.now _ (full_then _ _ _ _ _ _ _ c.self.view_is c.self.inside.entries.ok.0 (sym c.len.ensures ∙ c.if-len-self.true))

pub enter-requires : goal.enter-requires
enter-requires c =
    let more = room_left _ _ _ _ _ _ _ c.self.view_is c.self.inside.entries.ok.0 (λ e. c.if-len-self.false (c.len.ensures ∙ e)) c.requires.room in
    let room = c.self.invariant.1.0 in omega arith

pub push_reserved-requires : goal.push_reserved-requires
push_reserved-requires c =
    let more = room_left _ _ _ _ _ _ _ c.self.view_is c.self.inside.entries.ok.0 (λ e. c.if-len-self.false (c.len.ensures ∙ e)) c.requires.room in
    let room = c.self.invariant.0.entries in omega arith

pub invariant_of-self : goal.invariant_of-self
invariant_of-self c =
    let words = c.requires.cells ∙ sym (ap (λ (t : TableView). t.words) c.self.view_is) in
    let more = room_left _ _ _ _ _ _ _ c.self.view_is c.self.inside.entries.ok.0 (λ e. c.if-len-self.false (c.len.ensures ∙ e)) c.requires.room in
    let fits = row_fits _ _ _ _ _ _ _ c.self.invariant.0 more in
    let put = row_put c.extend_from_slice.result c.self.inside.words _ _ _ _ _ _ c.extend_from_slice.ensures.succeeds fits words c.extend_from_slice.ensures.items c.extend_from_slice.ensures.len in
    let kept = kept_room _ _ _ _ _ _ _ c.self.invariant.0 more (λ e. c.if-len-self.false (c.len.ensures ∙ e)) in
    let grown = c.extend_from_slice.ensures.capacity in
    let blocks = c.self.invariant.0.blocks in
    let end : c.len-2.result + 1 ≡ length c.self.inside.entries.items + 1 = ap (λ n. n + 1) (c.len-2.ensures ∙ c.self.inside.entries.ok.0) in
    let e = c.args.entry in
    let entered = subst (λ n. HasEnteredRun c.self.inside.groups.runs c.enter.new.self.runs e.depth e.bucket (group_fold e.depth e.bucket) n) end c.enter.ensures.entered in
    let last = subst (λ (l : List Entry). (i : ℕ) → c.rise_with-self-inside.result ≡ true → i + 1 ≡ length l → (entry_at l i).ticket ≤ e.ticket) c.as_slice.ensures.value c.rise_with-self-inside.ensures.last in
    rw (c.push_reserved.ensures.items, c.push_reserved.ensures.len, c.push_reserved.ensures.capacity, put.1) (
      record { some = kept.some; limited = kept.limited; placed = kept.placed; entries = kept.entries; rows = kept.rows; blocks = omega arith },
      (
        subst (λ n. HasRunRoom c.self.inside.room (vec_len c.self.inside.entries + 1) (length c.enter.new.self.runs) n) (sym c.enter.ensures.room)
            (run_room_more _ _ _ _ _ c.self.invariant.1.0 more entered.len),
        (
          grouped_more c.self.inside.entries.items e c.self.inside.groups.runs c.enter.new.self.runs c.self.invariant.1.1.0 entered,
          λ rises. rising_more c.self.inside.entries.items _ (c.self.invariant.1.1.1 (c.rise_with-self-inside.ensures.so_far rises)) (λ i end. last i rises end),
        ),
      ),
    )

pub returns-clause-answer : goal.returns-clause-answer
returns-clause-answer c =
    answers_put c.args.self.now (full_else _ _ _ _ _ _ _ c.self.view_is c.self.inside.entries.ok.0 (λ e. c.if-len-self.false (c.len.ensures ∙ e)))

pub returns-clause-step : goal.returns-clause-step
returns-clause-step c =
    let words = c.requires.cells ∙ sym (ap (λ (t : TableView). t.words) c.self.view_is) in
    let more = room_left _ _ _ _ _ _ _ c.self.view_is c.self.inside.entries.ok.0 (λ e. c.if-len-self.false (c.len.ensures ∙ e)) c.requires.room in
    let fits = row_fits _ _ _ _ _ _ _ c.self.invariant.0 more in
    let put = row_put c.extend_from_slice.result c.self.inside.words _ _ _ _ _ _ c.extend_from_slice.ensures.succeeds fits words c.extend_from_slice.ensures.items c.extend_from_slice.ensures.len in
    let open_now = full_else _ _ _ _ _ _ _ c.self.view_is c.self.inside.entries.ok.0 (λ e. c.if-len-self.false (c.len.ensures ∙ e)) in
    let rows = sym c.self.inside.cells.ok.0 ∙ (c.self.invariant.0.rows ∙ ap (λ n. n * c.self.inside.words) c.self.inside.entries.ok.0) in
    rw (c.push_reserved.ensures.items, c.push_reserved.ensures.len, put.0)
    (put_step c.args.self.now _ _ _ _ _ _ _ c.args.row.now c.self.view_is open_now rows words)
