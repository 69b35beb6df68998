use Rattle.std.proofs.Common.{◌+ℤ◌, pos, List, ℤ, get_or, length, drop, ◌+◌, ap, sym, ◌∙◌, w64}
use Rattle.std.proofs.lemmas.Int.{to_z-of_z}
use Rattle.benefit_rows.specs.Benefits.{choice_gain}
use Rattle.pair_rows.specs.Shown.{instance_in}
use Rattle.pair_rows.specs.Pairs.{row_at, rows_of}
use Rattle.pair_rows.specs.Shifts.{half_lost, stakes_of}
use Rattle.pair_rows.specs.declared.values.PairValues.{PairValues}
use Rattle.pair_rows.proofs.Layers.{row-fits, decision-few}
use Rattle.pair_rows.proofs.Shifting.{shifts-fit, shared-half, stakes-read, row_gain-cut}
use Rattle.pair_rows.proofs.rows.PairRows.gain.Goals as goal

pub shifts-requires : goal.shifts-requires
shifts-requires c = record {
  variable = c.requires.allowed.layer;
  decision = decision-few (instance_in c.args.self.now) c.args.k c.args.d c.args.self.now.kept c.requires.allowed.choice;
}

pub stakes-requires : goal.stakes-requires
stakes-requires c = record {
  variable = c.requires.allowed.layer;
  decision = decision-few (instance_in c.args.self.now) c.args.k c.args.d c.args.self.now.kept c.requires.allowed.choice;
}

pub step_gain-requires : goal.step_gain-requires
step_gain-requires c =
    let i = instance_in c.args.self.now in
    let row : List PairValues = row_at (rows_of (length i.units) i.pairs) c.args.k in
    let fits = row-fits i c.args.k c.args.s.now c.args.d c.args.self.now.kept c.requires.state c.requires.allowed in
    let own = shifts-fit row c.args.k c.args.s.now c.args.d c.shifts.result.now fits c.shifts.ensures in
    let stakes = stakes-read c.args.d row c.stakes.result fits.positive fits.weight c.stakes.ensures in
    record {
      entries = own.entries;
      sizes = own.sizes;
      benefits = fits.rank;
      stakes_low = rw stakes own.stakes_low;
      stakes_high = rw stakes own.stakes_high;
    }

pub returns : goal.returns
returns c =
    let i = instance_in c.args.self.now in
    let row : List PairValues = row_at (rows_of (length i.units) i.pairs) c.args.k in
    let later : List ℤ = drop (c.args.k + 1) c.args.s.now in
    let fits = row-fits i c.args.k c.args.s.now c.args.d c.args.self.now.kept c.requires.state c.requires.allowed in
    let own = shifts-fit row c.args.k c.args.s.now c.args.d c.shifts.result.now fits c.shifts.ensures in
    let stakes = stakes-read c.args.d row c.stakes.result fits.positive fits.weight c.stakes.ensures in
    let whole = row_gain-cut row c.args.s.now c.args.k c.args.d own.below in
    to_z-of_z w64 c.step_gain.result (record { sfits = c.step_gain.type_inv })
    ∙ (c.step_gain.ensures
    ∙ (ap (λ z. choice_gain (get_or c.args.s.now c.args.k (pos 0)) c.args.d +ℤ half_lost z later c.shifts.result.now) stakes
    ∙ (ap (λ zs. choice_gain (get_or c.args.s.now c.args.k (pos 0)) c.args.d +ℤ half_lost (stakes_of c.args.d row) later zs) c.shifts.ensures
    ∙ (ap (λ z. choice_gain (get_or c.args.s.now c.args.k (pos 0)) c.args.d +ℤ z) (shared-half row later c.args.d own.later) ∙ sym whole))))
