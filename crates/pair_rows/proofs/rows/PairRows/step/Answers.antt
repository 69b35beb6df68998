use Rattle.std.proofs.Common.{◌+◌, ◌++◌, pos, length, replicate, drop, arith, ap, refl, ◌∙◌}
use Rattle.benefit_rows.specs.Benefits.{sums_of}
use Rattle.pair_rows.specs.Shown.{instance_in}
use Rattle.pair_rows.specs.Pairs.{row_at, rows_of}
use Rattle.pair_rows.proofs.Layers.{decision-few, none-before, row-fits, same-cells, state-of}
use Rattle.pair_rows.proofs.Shifting.{shifts-fit}
use Rattle.pair_rows.proofs.Writing.{step-shifts}
use Rattle.pair_rows.proofs.rows.PairRows.step.Goals as goal

pub shifts-requires : goal.shifts-requires
shifts-requires c = record {
  variable = c.requires.allowed.layer;
  decision = decision-few (instance_in c.args.self.now) c.args.k c.args.d c.args.self.now.kept c.requires.allowed.choice;
}

pub write_step-requires : goal.write_step-requires
write_step-requires c =
    let i = instance_in c.args.self.now in
    let fits = row-fits i c.args.k c.args.s.now c.args.d c.args.self.now.kept c.requires.state c.requires.allowed in
    let own = shifts-fit (row_at (rows_of (length i.units) i.pairs) c.args.k) c.args.k c.args.s.now c.args.d c.shifts.result.now fits c.shifts.ensures in
    record {
      cells = same-cells i c.args.k c.args.s.now c.args.out.now c.args.self.now.kept c.requires.state c.requires.allowed.layer c.requires.cells;
      done = refl;
      entries = own.entries;
      sizes = own.sizes;
      benefits = fits.rank;
    }

pub returns : goal.returns
returns c =
    let i = instance_in c.args.self.now in
    let layer = c.requires.allowed.layer in
    let fits = row-fits i c.args.k c.args.s.now c.args.d c.args.self.now.kept c.requires.state c.requires.allowed in
    let own = shifts-fit (row_at (rows_of (length i.units) i.pairs) c.args.k) c.args.k c.args.s.now c.args.d c.shifts.result.now fits c.shifts.ensures in
    c.write_step.ensures.row ∙ (ap (λ zs. replicate (c.args.k + 1) (pos 0) ++ sums_of (drop (c.args.k + 1) c.args.s.now) zs) c.shifts.ensures
    ∙ step-shifts (row_at (rows_of (length i.units) i.pairs) c.args.k) c.args.s.now c.args.k c.args.d own.below (none-before i c.args.k c.args.s.now (state-of i c.args.k c.args.s.now (omega arith) c.requires.state)))
