use Rattle.std.proofs.Common.{rules, ◌≡◌, length, sym, ap, ◌∙◌}
use Rattle.wide_layers.specs.Pieces.{PieceView}
use Rattle.wide_layers.proofs.Shown.{length-shown}
use Rattle.wide_layers.proofs.piece.Piece.len.Goals as goal

pub returns : goal.returns
returns c =
    let i = c.self.inside in
    let size : c.len.result ≡ length i.made.items = search rules in
    size ∙ (sym (length-shown i.words i.parents.items i.made.items i.cells.items) ∙ ap (λ (p : PieceView). length p.candidates) c.self.view_is)
