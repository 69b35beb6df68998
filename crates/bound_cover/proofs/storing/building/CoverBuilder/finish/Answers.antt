use Rattle.std.proofs.Common.{◌≡◌, ◌∙◌, ap, map, take, arith, ℤ, List}
use Rattle.std.specs.Vec.{vec_len}
use Rattle.bound_cover.specs.declared.cover.CoverArc.{CoverArc}
use Rattle.bound_cover.specs.Covers.{CoverRow}
use Rattle.bound_cover.specs.Stored.{spans, row_of, layers_of}
use Rattle.bound_cover.specs.Building.{BuilderView}
use Rattle.bound_cover.proofs.Building.{cover-cut}
use Rattle.bound_cover.proofs.storing.building.CoverBuilder.finish.Goals as goal

pub invariant_of-result : goal.invariant_of-result
invariant_of-result c =
    let cut = cover-cut c.self.inside.starts.items (spans c.self.inside.heads.items) c.self.inside.words.items c.self.inside.arcs.items c.self.inside.words_from c.self.inside.arcs_from c.self.invariant.0 in
    let words : vec_len c.truncate.new.self ≡ c.self.inside.words_from = omega (arith, c.truncate.ensures.len, c.self.inside.words.ok.0, c.self.invariant.0.words_end) in
    let arcs : vec_len c.truncate-2.new.self ≡ c.self.inside.arcs_from = omega (arith, c.truncate-2.ensures.len, c.self.inside.arcs.ok.0, c.self.invariant.0.arcs_end) in
    (rw (words, arcs) c.self.invariant.0.stored, rw (c.truncate.ensures.items, c.truncate-2.ensures.items, cut) c.self.invariant.0.short, rw (words, arcs) c.self.invariant.1)

pub returns : goal.returns
returns c =
    let cut = cover-cut c.self.inside.starts.items (spans c.self.inside.heads.items) c.self.inside.words.items c.self.inside.arcs.items c.self.inside.words_from c.self.inside.arcs_from c.self.invariant.0 in
    ap (λ (l : List ℤ). layers_of c.self.inside.starts.items (map (row_of l c.truncate-2.new.self.items) (spans c.self.inside.heads.items))) c.truncate.ensures.items
    ∙ (ap (λ (l : List CoverArc). layers_of c.self.inside.starts.items (map (row_of (take c.self.inside.words_from c.self.inside.words.items) l) (spans c.self.inside.heads.items))) c.truncate-2.ensures.items
    ∙ (ap (λ (rows : List CoverRow). layers_of c.self.inside.starts.items rows) cut
    ∙ ap (λ (b : BuilderView). b.cover) c.self.view_is))
