use Rattle.std.proofs.Common.{List, [], ◌∷◌, ◌++◌, ◌∙◌, ap, sym, subst}
use Rattle.bound_cover.specs.Covers.{CoverRow}
use Rattle.bound_cover.specs.Stored.{AreShort, spans}
use Rattle.bound_cover.proofs.Blocks.{layer-added, layer-stored, short-layer}
use Rattle.bound_cover.proofs.Spans.{length-spans}
use Rattle.bound_cover.proofs.storing.Cover.add_layer.Goals as goal

pub invariant_of-self-2 : goal.invariant_of-self-2
invariant_of-self-2 c = rw (c.push_reserved.ensures.items, c.reserve.ensures.items, c.len.ensures, c.self.inside.heads.ok.0, ← length-spans 0 0 c.self.inside.heads.items) (
  layer-stored _ _ _ _ c.self.invariant.0,
  subst AreShort (sym (layer-added c.self.inside.starts.items (spans c.self.inside.heads.items) c.self.inside.words.items c.self.inside.arcs.items)) (short-layer _ c.self.invariant.1),
  c.self.invariant.2,
)

pub returns-clause-ok : goal.returns-clause-ok
returns-clause-ok c =
    rw (c.push_reserved.ensures.items, c.reserve.ensures.items, c.len.ensures, c.self.inside.heads.ok.0, ← length-spans 0 0 c.self.inside.heads.items)
    (layer-added c.self.inside.starts.items (spans c.self.inside.heads.items) c.self.inside.words.items c.self.inside.arcs.items ∙ ap (λ (ls : List (List CoverRow)). ls ++ [] ∷ []) c.self.view_is)
