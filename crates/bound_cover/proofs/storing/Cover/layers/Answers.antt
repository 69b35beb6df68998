use Rattle.std.proofs.Common.{List, length, map, sym, ◌∙◌, ap, subst}
use Rattle.bound_cover.specs.Covers.{CoverRow}
use Rattle.bound_cover.specs.Stored.{row_of, spans, AreShort}
use Rattle.bound_cover.proofs.Blocks.{length-layers}
use Rattle.bound_cover.proofs.storing.Cover.layers.Goals as goal

pub returns-clause-count : goal.returns-clause-count
returns-clause-count c =
    c.len.ensures ∙ (c.self.inside.starts.ok.0 ∙ (sym (length-layers c.self.inside.starts.items (map (row_of c.self.inside.words.items c.self.inside.arcs.items) (spans c.self.inside.heads.items))) ∙ ap (λ (ls : List (List CoverRow)). length ls) c.self.view_is))

pub returns-clause-short : goal.returns-clause-short
returns-clause-short c = subst AreShort c.self.view_is c.self.invariant.1
