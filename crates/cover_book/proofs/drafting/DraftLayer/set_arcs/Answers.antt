use Rattle.std.proofs.Common.{List, length, ◌∙◌, ap, refl, arith}
use Rattle.bound_cover.specs.Covers.{CoverRow}
use Rattle.bound_cover.specs.Exploring.{with_arcs_at}
use Rattle.cover_book.specs.Nodes.{with_arcs}
use Rattle.cover_book.proofs.Layers.{arcs-set, arcs-past}
use Rattle.cover_book.proofs.drafting.DraftLayer.set_arcs.Goals as goal

pub returns-then-place-len : goal.returns-then-place-len
returns-then-place-len c =
    arcs-set c.args.place c.args.arcs.items c.self.inside.rows.items _ c.set_arcs.new.self c.index_mut.result.now (let t = c.if-place-len.true in let e = c.len.ensures in let f = c.self.inside.rows.ok.0 in omega arith)
    (c.set_arcs.ensures ∙ ap (with_arcs c.args.arcs.items) c.index_mut.ensures.value) refl
    ∙ ap (with_arcs_at c.args.place c.args.arcs.items) c.self.view_is

pub returns-else-place-len : goal.returns-else-place-len
returns-else-place-len c =
    let same = ap (λ (l : List CoverRow). length l) c.self.view_is in
    arcs-past c.args.place c.args.arcs.items c.args.self.now (let t = c.if-place-len.false in let e = c.len.ensures in let f = c.self.inside.rows.ok.0 in omega arith)
