use Rattle.std.proofs.Common.{◌∙◌, ap, ◌-◌, ◌^◌, ◌<◌, length, subst, sym}
use Rattle.bound_cover.specs.Stored.{spans, last_layer}
use Rattle.bound_cover.specs.Building.{BuilderView, with_open_row}
use Rattle.bound_cover.proofs.Building.{row-built, row-kept}
use Rattle.bound_cover.proofs.Spans.{Shows, spans-following, begins-following}
use Rattle.bound_cover.proofs.storing.building.CoverBuilder.end_row.Goals as goal

pub invariant_of-self-2 : goal.invariant_of-self-2
invariant_of-self-2 c =
    let shows : Shows c.args.bound c.args.has_arcs c.len-words_to.result c.len-arcs_to.result c.in_ok-head.head = λ x y. c.in_ok-head.ensures x y in
    let new = spans-following c.self.inside.heads.items c.in_ok-head.head c.args.bound c.args.has_arcs _ c.len-words_to.result _ c.len-arcs_to.result c.self.invariant.1 shows in
    let few = subst (λ (b : BuilderView). length (last_layer b.cover) < 2 ^ 32 - 1) (sym c.self.view_is) c.requires.few in (
      rw (c.push_reserved.ensures.items, c.reserve.ensures.items, new, c.len-words_to.ensures, c.len-arcs_to.ensures, c.self.inside.words.ok.0, c.self.inside.arcs.ok.0)
          (row-kept c.self.inside.starts.items (spans c.self.inside.heads.items) c.self.inside.words.items c.self.inside.arcs.items c.self.inside.words_from c.self.inside.arcs_from c.self.invariant.0 c.args.bound c.args.has_arcs few),
      rw (c.push_reserved.ensures.items, c.reserve.ensures.items) (begins-following c.self.inside.heads.items c.in_ok-head.head c.args.bound c.args.has_arcs c.len-words_to.result c.len-arcs_to.result shows),
    )

pub returns-clause-ok : goal.returns-clause-ok
returns-clause-ok c =
    let shows : Shows c.args.bound c.args.has_arcs c.len-words_to.result c.len-arcs_to.result c.in_ok-head.head = λ x y. c.in_ok-head.ensures x y in
    let new = spans-following c.self.inside.heads.items c.in_ok-head.head c.args.bound c.args.has_arcs _ c.len-words_to.result _ c.len-arcs_to.result c.self.invariant.1 shows in
    rw (c.push_reserved.ensures.items, c.reserve.ensures.items, new, c.len-words_to.ensures, c.len-arcs_to.ensures, c.self.inside.words.ok.0, c.self.inside.arcs.ok.0)
    (row-built c.self.inside.starts.items (spans c.self.inside.heads.items) c.self.inside.words.items c.self.inside.arcs.items c.self.inside.words_from c.self.inside.arcs_from c.self.invariant.0 c.args.bound c.args.has_arcs ∙ ap (λ (b : BuilderView). with_open_row b c.args.bound c.args.has_arcs) c.self.view_is)
