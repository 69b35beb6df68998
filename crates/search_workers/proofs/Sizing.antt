-- A list with room for the frontier has room for the last exact layer.
use Rattle.std.proofs.Common.{ℕ, ◌*◌, ◌≤◌, arith, mul_comm, le-mul_of_pos_right}
use Rattle.dp_model.specs.Dp.{Dp}
use Rattle.dp_model.specs.declared.cut_kind.CutKind.TheVariants.{LastExactLayer, Frontier}
use Rattle.exact_cutset.specs.Prepared.{IsListPreparedFor}
use Rattle.exact_cutset.specs.Seen.{ChildrenView}

pub last_prepared : (dp : Dp) (w : ℕ) (c : ChildrenView) → 1 ≤ dp.vars → IsListPreparedFor dp w Frontier c → IsListPreparedFor dp w LastExactLayer c
last_prepared dp w c some h = record {
  is_width = h.is_width;
  width = h.width;
  vars = h.vars;
  words = h.words;
  enough = h.enough;
  room = (let most = h.room in let less : c.wide ≤ c.wide * dp.vars = le-mul_of_pos_right c.wide (omega arith) in let same = mul_comm c.wide dp.vars in omega arith);
}
