use Rattle.std.proofs.Common.{List, length, ◌+◌, ◌-◌, ◌^◌, ◌<◌, ◌∙◌, ap, sym, subst, cond, Some, None}
use Rattle.bound_cover.specs.Covers.{CoverRow}
use Rattle.bound_cover.specs.Stored.{AreShort, spans, last_layer, with_row}
use Rattle.bound_cover.proofs.Blocks.{row-added, row-stored, short-row, extended}
use Rattle.bound_cover.proofs.Spans.{Shows, spans-following, begins-following}
use Rattle.bound_cover.proofs.storing.Cover.add_parts.Goals as goal

pub invariant_of-self-2 : goal.invariant_of-self-2
invariant_of-self-2 c =
    let shows : Shows c.args.bound c.args.has_arcs (c.len.result + length c.args.words.now) (c.len-2.result + length c.args.arcs.now) c.in_ok-head.head = λ x y. c.in_ok-head.ensures x y in
    let new = spans-following c.self.inside.heads.items c.in_ok-head.head c.args.bound c.args.has_arcs _ (c.len.result + length c.args.words.now) _ (c.len-2.result + length c.args.arcs.now) c.self.invariant.2 shows in
    let stored = rw (c.self.inside.words.ok.0, c.self.inside.arcs.ok.0) at c.self.invariant.0 in
    let w = extended c.extend_from_slice.result _ _ _ _ c.args.words.now _ c.extend_from_slice.ensures.succeeds c.in_ok-reserve-2.ensures.ok c.extend_from_slice.ensures.items c.extend_from_slice.ensures.len in
    let a = extended c.extend_from_slice-2.result _ _ _ _ c.args.arcs.now _ c.extend_from_slice-2.ensures.succeeds c.in_ok-reserve-3.ensures.ok c.extend_from_slice-2.ensures.items c.extend_from_slice-2.ensures.len in
    let row : CoverRow = record { bound = c.args.bound; words = c.args.words.now; arcs = cond c.args.has_arcs (Some c.args.arcs.now) None } in
    let few = subst (λ (ls : List (List CoverRow)). length (last_layer ls) < 2 ^ 32 - 1) (sym c.self.view_is) c.requires.few in (
      rw (c.push_reserved.ensures.items, c.reserve.ensures.items, new, c.len.ensures, c.len-2.ensures, w.1, a.1, c.reserve-2.ensures.len, c.reserve-3.ensures.len)
          (row-stored _ _ _ _ (length c.args.words.now) (length c.args.arcs.now) c.args.bound c.args.has_arcs c.self.invariant.0),
      rw (c.push_reserved.ensures.items, c.reserve.ensures.items, new, c.len.ensures, c.len-2.ensures, w.0, a.0, c.reserve-2.ensures.items, c.reserve-3.ensures.items, c.reserve-2.ensures.len, c.reserve-3.ensures.len, c.self.inside.words.ok.0, c.self.inside.arcs.ok.0)
          (subst AreShort (sym (row-added c.self.inside.starts.items (spans c.self.inside.heads.items) c.self.inside.words.items c.args.words.now c.self.inside.arcs.items c.args.arcs.now c.args.bound c.args.has_arcs stored)) (short-row _ row c.self.invariant.1 few)),
      rw (c.push_reserved.ensures.items, c.reserve.ensures.items, w.1, a.1, ← c.len.ensures, ← c.len-2.ensures) (begins-following c.self.inside.heads.items c.in_ok-head.head c.args.bound c.args.has_arcs (c.len.result + length c.args.words.now) (c.len-2.result + length c.args.arcs.now) shows),
    )

pub returns-clause-ok : goal.returns-clause-ok
returns-clause-ok c =
    let w = extended c.extend_from_slice.result _ _ _ _ c.args.words.now _ c.extend_from_slice.ensures.succeeds c.in_ok-reserve-2.ensures.ok c.extend_from_slice.ensures.items c.extend_from_slice.ensures.len in
    let a = extended c.extend_from_slice-2.result _ _ _ _ c.args.arcs.now _ c.extend_from_slice-2.ensures.succeeds c.in_ok-reserve-3.ensures.ok c.extend_from_slice-2.ensures.items c.extend_from_slice-2.ensures.len in
    let shows : Shows c.args.bound c.args.has_arcs (c.len.result + length c.args.words.now) (c.len-2.result + length c.args.arcs.now) c.in_ok-head.head = λ x y. c.in_ok-head.ensures x y in
    let new = spans-following c.self.inside.heads.items c.in_ok-head.head c.args.bound c.args.has_arcs _ (c.len.result + length c.args.words.now) _ (c.len-2.result + length c.args.arcs.now) c.self.invariant.2 shows in
    let stored = rw (c.self.inside.words.ok.0, c.self.inside.arcs.ok.0) at c.self.invariant.0 in
    let row : CoverRow = record { bound = c.args.bound; words = c.args.words.now; arcs = cond c.args.has_arcs (Some c.args.arcs.now) None } in
    rw (c.push_reserved.ensures.items, c.reserve.ensures.items, new, c.len.ensures, c.len-2.ensures, w.0, a.0, c.reserve-2.ensures.items, c.reserve-3.ensures.items, c.reserve-2.ensures.len, c.reserve-3.ensures.len, c.self.inside.words.ok.0, c.self.inside.arcs.ok.0)
    (row-added c.self.inside.starts.items (spans c.self.inside.heads.items) c.self.inside.words.items c.args.words.now c.self.inside.arcs.items c.args.arcs.now c.args.bound c.args.has_arcs stored ∙ ap (λ (ls : List (List CoverRow)). with_row ls row) c.self.view_is)
