use Rattle.std.proofs.Common.{rules, ◌≡◌, length, vec_len, ap, arith}
use Rattle.layer_build.specs.declared.stack.Stack.{Stack}
use Rattle.layer_build.specs.Stacked.{place_of}
use Rattle.layer_build.proofs.Dropping.{dropped-none, dropped-live, dropped-more, dropped-all}
use Rattle.layer_build.proofs.Walked.{place-held}
use Rattle.layer_build.proofs.stack.drop_above.Goals as goal

pub layers-init : goal.layers-init
layers-init c = dropped-none c.args.stack.now c.args.from c.requires.live

pub place_of-at-requires : goal.place_of-at-requires
place_of-at-requires c =
    let same = ap (λ (s : Stack). s.first) c.layers.invariant.same in
    let small = c.requires.stored.small in
    let last = c.requires.stored.last in
    let first = c.requires.first in
    let from = c.layers.auto.depth in
    let less = c.layers-test.true in
    omega arith

pub index-requires : goal.index-requires
index-requires c =
    let same = c.layers.invariant.same in
    let less = c.layers-test.true in
    let held = place-held c.args.stack.now c.layers.depth c.requires.stored (omega arith) in
    let place = c.place_of-at.ensures in
    let there = ap (λ (s : Stack). place_of s.vars s.first c.layers.depth) same in
    let size = ap (λ (s : Stack). length s.layers.items) same in
    let long : vec_len c.layers.stack.layers ≡ length c.layers.stack.layers.items = search rules in
    omega arith

pub drop_rows-requires : goal.drop_rows-requires
drop_rows-requires c = record {
  live = dropped-live c.args.stack.now c.layers.stack c.args.from c.layers.depth c.place_of-at.result c.index.result.now _ c.layers.invariant c.requires.stored c.layers-test.true (record { place = c.place_of-at.ensures; is = c.index.ensures });
}

pub layers-preserved : goal.layers-preserved
layers-preserved c =
    dropped-more c.args.stack.now c.layers.stack c.args.from c.layers.depth c.place_of-at.result c.index.result.now _ c.drop_rows.new.region c.layers.invariant c.requires.stored c.layers-test.true
    (record { place = c.place_of-at.ensures; is = c.index.ensures }) c.drop_rows.ensures.exchanged

pub returns-clause-same : goal.returns-clause-same
returns-clause-same c = c.layers.invariant.same

pub returns-clause-exchanged : goal.returns-clause-exchanged
returns-clause-exchanged c = dropped-all c.args.stack.now c.layers.stack c.args.from c.layers.depth c.layers.invariant (let end = c.layers-test.false in omega arith)
