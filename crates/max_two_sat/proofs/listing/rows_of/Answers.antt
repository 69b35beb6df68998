use Rattle.std.proofs.Common.{◌≡◌, sym, subst, to_z, of_z, w64, arith}
use Rattle.std.proofs.lemmas.Int.{ints}
use Rattle.pair_rows.specs.Instance.{Instance as Rows}
use Rattle.pair_rows.specs.Limits.{IsInstance}
use Rattle.pair_rows.specs.Shown.{instance_of}
use Rattle.max_two_sat.specs.declared.instance.MaxTwoSat.{MaxTwoSat}
use Rattle.max_two_sat.specs.Laws.Listing.{rows-kept}
use Rattle.max_two_sat.specs.Laws.Totals.{parts-small}
use Rattle.max_two_sat.specs.Program.{rows_in}
use Rattle.max_two_sat.specs.Shown.{instance_in}
use Rattle.max_two_sat.proofs.listing.rows_of.Goals as goal

-- the weight of the tautologies is read as it is
read : (m : MaxTwoSat) → to_z w64 (of_z w64 m.tautologies) ≡ m.tautologies
read m = omega (arith, ints, m.kept.tautologies, (parts-small (instance_in m) m.kept).tautologies)

pub listed-requires : goal.listed-requires
listed-requires c = rw (c.deref.ensures.value, c.deref-2.ensures.value, read c.args.model.now) c.args.model.now.kept

pub prepared-requires : goal.prepared-requires
prepared-requires c =
    let is : instance_of c.in_ok-list.list ≡ rows_in (instance_in c.args.model.now) =
    rw (c.deref.ensures.value, c.deref-2.ensures.value, read c.args.model.now) at c.in_ok-list.ensures in
    subst (λ (i : Rows). IsInstance i) (sym is) (rows-kept (instance_in c.args.model.now) c.args.model.now.kept)
