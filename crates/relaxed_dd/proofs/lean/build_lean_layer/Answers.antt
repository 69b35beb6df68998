use Rattle.std.proofs.Common.{sym, ◌∙◌, ap}
use Rattle.std.specs.Prelude.{is_some}
use Rattle.relaxed_dd.proofs.LeanBuilt.{may-copy, other-way, builds-lean}
use Rattle.relaxed_dd.proofs.lean.build_lean_layer.Goals as goal

pub keep_cut-requires : goal.keep_cut-requires
keep_cut-requires g c =
    let a = c.args in
    let r = c.requires in
    may-copy (g.M.DpModel.meaning (g.M.DpModel.numbers a.model.now)) a.threshold a.space.now c.build_layer.new.space a.cut.now r.some r.below r.narrow r.held r.room r.under_way c.build_layer.ensures

pub returns : goal.returns
returns g c =
    let a = c.args in
    let r = c.requires in
    let whole = other-way (is_some a.space.now.first_reduced) c.is_none-whole.result (ap is_some (sym c.first_reduced.ensures) ∙ c.is_none-whole.ensures) in
    builds-lean (g.M.DpModel.meaning (g.M.DpModel.numbers a.model.now)) a.threshold a.space.now c.build_layer.new.space c.drop_above.new.self c.is_none-whole.result a.cut.now c.keep_cut.new.cut r.some r.room whole c.build_layer.ensures c.keep_cut.ensures c.drop_above.ensures.seen
