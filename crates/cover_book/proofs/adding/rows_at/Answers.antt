use Rattle.std.proofs.Common.{List, length, sym, ◌∙◌, ap}
use Rattle.bound_cover.specs.Covers.{CoverRow}
use Rattle.cover_book.proofs.Layers.{layer-get, layer-none}
use Rattle.cover_book.proofs.adding.rows_at.Goals as goal

pub returns-then-depth-rows : goal.returns-then-depth-rows
returns-then-depth-rows c = sym (ap (λ (l : List CoverRow). length l) (layer-none c.args.rows.now c.args.depth c.if-depth-rows.true))

pub returns : goal.returns
returns c = c.len-count.ensures ∙ ap (λ (l : List CoverRow). length l) (c.index-rows-depth.is ∙ sym (layer-get c.args.rows.now c.args.depth c.index-rows-depth.result c.if-depth-rows.false))
