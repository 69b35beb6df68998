use Rattle.std.proofs.Common.{◌≡◌, suc, ◌-◌, take, drop, length, ap, sym, ◌∙◌, arith}
use Rattle.pair_rows.specs.Pairs.{pair_count, entries_before}
use Rattle.pair_rows.specs.Shown.{instance_in}
use Rattle.pair_rows.proofs.Shifting.{shifts-row, cells-length}
use Rattle.pair_rows.proofs.rows.PairRows.shifts.Goals as goal

pub part_of_row-requires : goal.part_of_row-requires
part_of_row-requires c =
    let m = c.args.self.now in
    let many : m.variables ≡ length (instance_in m).units = m.counted in
    record {
      few = omega (arith, m.kept.variables);
      whole = ap length c.as_slice.ensures.value ∙ (cells-length c.args.d (length (instance_in m).units) (instance_in m).pairs c.of_decision.result.now.cells.items c.of_decision.ensures.cells_are m.kept.whole ∙ ap pair_count (sym many));
      variable = omega (arith, c.requires.variable);
    }

pub returns : goal.returns
returns c =
    let m = c.args.self.now in
    let many : m.variables ≡ length (instance_in m).units = m.counted in
    c.part_of_row.ensures
    ∙ (ap (λ n. take (n - suc c.args.k) (drop (entries_before n c.args.k) c.as_slice.result.now)) many
    ∙ (ap (λ zs. take (length (instance_in m).units - suc c.args.k) (drop (entries_before (length (instance_in m).units) c.args.k) zs)) c.as_slice.ensures.value
    ∙ shifts-row c.args.d (length (instance_in m).units) c.args.k (instance_in m).pairs c.of_decision.result.now.cells.items c.requires.variable c.of_decision.ensures.cells_are))
