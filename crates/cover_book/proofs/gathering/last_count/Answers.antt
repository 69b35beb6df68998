use Rattle.std.proofs.Common.{◌-◌, ◌∙◌, arith}
use Rattle.cover_book.proofs.Writable.{last-there}
use Rattle.cover_book.proofs.gathering.last_count.Goals as goal

pub returns : goal.returns
returns c =
    c.rows.ensures.count ∙ last-there c.args.cover.now (c.layers-layers.result - 1) (let t = c.if-layers-eq0.false in let e = c.layers-layers.ensures.count in omega arith)
