use Rattle.std.proofs.Common.{subst}
use Rattle.layer_build.specs.Layers.{diagram_of}
use Rattle.exact_cutset.specs.Rows.{HasRowsAt}
use Rattle.exact_cutset.proofs.Copied.{row-there, row-copied}
use Rattle.exact_cutset.proofs.rows.row_of.Goals as goal

pub row-requires-in-Copied : goal.row-requires-in-Copied
row-requires-in-Copied c =
    let copied = subst (HasRowsAt c.args.space.now c.args.depth) c.in-Copied.is c.requires.rows in
    row-there (diagram_of c.args.space.now) c.args.depth c.args.node c.in-Copied.cut.now.rows copied c.requires.place

pub returns-in-Copied : goal.returns-in-Copied
returns-in-Copied c =
    let copied = subst (HasRowsAt c.args.space.now c.args.depth) c.in-Copied.is c.requires.rows in
    row-copied (diagram_of c.args.space.now) c.args.depth c.args.node c.in-Copied.cut.now.rows c.row-in-Copied.result.now copied c.row-in-Copied.ensures
