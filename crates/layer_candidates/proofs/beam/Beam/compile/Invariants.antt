use Rattle.layer_candidates.specs.Beaming.{IsBuilt}
use Rattle.layer_candidates.specs.HeldRows.{HasExchanged}
use Rattle.layer_candidates.specs.Members.{member_rows}
use Rattle.layer_candidates.proofs.beam.Beam.compile.Given as goal

abbrev pub invariant-layers : goal.invariant-layers
invariant-layers g l = record {
  built : IsBuilt (g.M.DpModel.meaning (g.M.DpModel.numbers l.model)) l.prefix l.width l.threshold l.k l.self l.region l.reduced;
  exchanged : HasExchanged l.fn.region (member_rows l.fn.self.members.items) l.region (member_rows l.self.members.items);
}
