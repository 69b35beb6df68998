use Rattle.std.proofs.Common.{[], length, subst}
use Rattle.layer_candidates.specs.Beaming.{IsFirst}
use Rattle.layer_candidates.specs.HeldRows.{HasExchanged}
use Rattle.layer_candidates.specs.Members.{member_rows}
use Rattle.layer_candidates.proofs.HeldRows.{exchange-none, exchange-then}
use Rattle.layer_candidates.proofs.Started.{beam-is, wide-is, paths-whole}
use Rattle.layer_candidates.proofs.beam.Beam.beam.Goals as goal

pub compile-reduced-requires-clause-start : goal.compile-reduced-requires-clause-start
compile-reduced-requires-clause-start g c κs within = c.begin.ensures.built c.args.limits.width c.args.limits.threshold c.requires.layers c.requires.region_room

pub first-value-requires-clause-size : goal.first-value-requires-clause-size
first-value-requires-clause-size g c =
    let dp = g.M.DpModel.meaning (g.M.DpModel.numbers c.args.model.now) in
    let end = c.compile-reduced in
    paths-whole dp c.args.start.prefix.now c.args.limits.width c.args.limits.threshold end.new.self end.new.region end.result end.ensures.built c.requires.prefix (length c.args.out.now) c.requires.cells

pub returns-clause-beam : goal.returns-clause-beam
returns-clause-beam g c =
    let dp = g.M.DpModel.meaning (g.M.DpModel.numbers c.args.model.now) in
    let end = c.compile-reduced in
    subst (λ b. IsFirst b c.first-value.result c.first-value.new.out) (beam-is dp c.args.start.prefix.now c.args.limits.width c.args.limits.threshold end.new.self end.new.region end.result end.ensures.built c.requires.prefix) (c.first-value.ensures end.new.region)

pub returns-clause-reduced : goal.returns-clause-reduced
returns-clause-reduced g c =
    let dp = g.M.DpModel.meaning (g.M.DpModel.numbers c.args.model.now) in
    let end = c.compile-reduced in
    wide-is dp c.args.start.prefix.now c.args.limits.width c.args.limits.threshold end.new.self end.new.region end.result end.ensures.built c.requires.prefix

pub returns-clause-region : goal.returns-clause-region
returns-clause-region g c =
    let old = c.args.region.now in
    let first = c.begin in
    let end = c.compile-reduced in
    let new = c.give_rows.new.region in
    let before = member_rows first.new.self.members.items in
    let held = member_rows end.new.self.members.items in
    exchange-none old new
    (exchange-then old end.new.region new [] held [] (exchange-then old first.new.region end.new.region [] before held first.ensures.exchanged end.ensures.exchanged)
    (subst (λ ms. HasExchanged end.new.region (member_rows ms) new []) c.as_slice.ensures.value c.give_rows.ensures))
