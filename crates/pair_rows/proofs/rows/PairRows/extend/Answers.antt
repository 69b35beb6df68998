use Rattle.std.proofs.Common.{◌+◌, ◌+ℤ◌, ◌++◌, pos, ℕ, ℤ, List, get_or, ◌<◌, ◌≤◌, arith, length, replicate, drop, w64, ap, sym, ◌∙◌, refl}
use Rattle.std.proofs.lemmas.Int.{to_z-of_z}
use Rattle.benefit_rows.specs.Benefits.{choice_gain, rank_of, sums_of}
use Rattle.dp_model.specs.Dp.{IsAllowed}
use Rattle.pair_rows.specs.Shown.{instance_in, program_in}
use Rattle.pair_rows.specs.Pairs.{row_at, rows_of}
use Rattle.pair_rows.specs.Shifts.{half_lost, shifts_of, stakes_of}
use Rattle.pair_rows.specs.declared.values.PairValues.{PairValues}
use Rattle.pair_rows.specs.Laws.Sizes.{rank_of-state}
use Rattle.pair_rows.proofs.Layers.{decision-few, none-before, row-fits, same-cells, state-of}
use Rattle.pair_rows.proofs.Shifting.{shifts-fit, shared-half, stakes-read, rank-stepped, row_gain-cut}
use Rattle.pair_rows.proofs.Writing.{step-shifts}
use Rattle.pair_rows.proofs.rows.PairRows.extend.Goals as goal

under : {k n : ℕ} → k < n → k ≤ n
under h = omega arith

pub shifts-shifts-requires : goal.shifts-shifts-requires
shifts-shifts-requires c = record { variable = c.requires.layer; decision = decision-few (instance_in c.args.self.now) c.args.k c.args.d c.args.self.now.kept c.requires.decision }

pub stakes-stakes-requires : goal.stakes-stakes-requires
stakes-stakes-requires c = record { variable = c.requires.layer; decision = decision-few (instance_in c.args.self.now) c.args.k c.args.d c.args.self.now.kept c.requires.decision }

pub extend_row-requires : goal.extend_row-requires
extend_row-requires c =
    let i = instance_in c.args.self.now in
    let allowed : IsAllowed (program_in c.args.self.now) c.args.k c.args.s.now c.args.d = record { layer = c.requires.layer; choice = c.requires.decision; test = refl } in
    let layer = c.requires.layer in
    let fits = row-fits i c.args.k c.args.s.now c.args.d c.args.self.now.kept c.requires.state allowed in
    let own = shifts-fit (row_at (rows_of (length i.units) i.pairs) c.args.k) c.args.k c.args.s.now c.args.d c.shifts-shifts.result.now fits c.shifts-shifts.ensures in
    let stakes = stakes-read c.args.d (row_at (rows_of (length i.units) i.pairs) c.args.k) c.stakes-stakes.result fits.positive fits.weight c.stakes-stakes.ensures in
    record {
      cells = same-cells i c.args.k c.args.s.now c.args.out.now c.args.self.now.kept c.requires.state layer c.requires.cells;
      done = c.requires.zeros;
      entries = own.entries;
      sizes = own.sizes;
      benefits = fits.rank;
      rank = to_z-of_z w64 c.args.rank c.ranges.rank ∙ (c.requires.rank ∙ rank_of-state i c.args.k c.args.s.now (state-of i c.args.k c.args.s.now (under layer) c.requires.state));
      stakes_low = rw stakes own.stakes_low;
      stakes_high = rw stakes own.stakes_high;
    }

pub returns-clause-row : goal.returns-clause-row
returns-clause-row c _ =
    let i = instance_in c.args.self.now in
    let allowed : IsAllowed (program_in c.args.self.now) c.args.k c.args.s.now c.args.d = record { layer = c.requires.layer; choice = c.requires.decision; test = refl } in
    let layer = c.requires.layer in
    let fits = row-fits i c.args.k c.args.s.now c.args.d c.args.self.now.kept c.requires.state allowed in
    let own = shifts-fit (row_at (rows_of (length i.units) i.pairs) c.args.k) c.args.k c.args.s.now c.args.d c.shifts-shifts.result.now fits c.shifts-shifts.ensures in
    c.extend_row.ensures.row ∙ (ap (λ zs. replicate (c.args.k + 1) (pos 0) ++ sums_of (drop (c.args.k + 1) c.args.s.now) zs) c.shifts-shifts.ensures
    ∙ step-shifts (row_at (rows_of (length i.units) i.pairs) c.args.k) c.args.s.now c.args.k c.args.d own.below (none-before i c.args.k c.args.s.now (state-of i c.args.k c.args.s.now (under layer) c.requires.state)))

pub returns-clause-extended : goal.returns-clause-extended
returns-clause-extended c =
    let i = instance_in c.args.self.now in
    let row : List PairValues = row_at (rows_of (length i.units) i.pairs) c.args.k in
    let later : List ℤ = drop (c.args.k + 1) c.args.s.now in
    let allowed : IsAllowed (program_in c.args.self.now) c.args.k c.args.s.now c.args.d = record { layer = c.requires.layer; choice = c.requires.decision; test = refl } in
    let layer = c.requires.layer in
    let state = state-of i c.args.k c.args.s.now (under layer) c.requires.state in
    let fits = row-fits i c.args.k c.args.s.now c.args.d c.args.self.now.kept c.requires.state allowed in
    let own = shifts-fit row c.args.k c.args.s.now c.args.d c.shifts-shifts.result.now fits c.shifts-shifts.ensures in
    let stakes = stakes-read c.args.d row c.stakes-stakes.result fits.positive fits.weight c.stakes-stakes.ensures in
    let whole = row_gain-cut row c.args.s.now c.args.k c.args.d own.below in
    let sums : List ℤ = sums_of later (shifts_of c.args.d row) in (
      c.extend_row.ensures.gain
          ∙ (ap (λ z. choice_gain (get_or c.args.s.now c.args.k (pos 0)) c.args.d +ℤ half_lost z later c.shifts-shifts.result.now) stakes
          ∙ (ap (λ zs. choice_gain (get_or c.args.s.now c.args.k (pos 0)) c.args.d +ℤ half_lost (stakes_of c.args.d row) later zs) c.shifts-shifts.ensures
          ∙ (ap (λ z. choice_gain (get_or c.args.s.now c.args.k (pos 0)) c.args.d +ℤ z) (shared-half row later c.args.d own.later) ∙ sym whole))),
      c.extend_row.ensures.rank
          ∙ (ap (λ zs. rank_of (sums_of later zs)) c.shifts-shifts.ensures
          ∙ (sym (rank-stepped c.args.k sums) ∙ ap rank_of (step-shifts row c.args.s.now c.args.k c.args.d own.below (none-before i c.args.k c.args.s.now state)))),
    )
