use Rattle.std.proofs.Common.{◌≡◌, get_or, to_z, of_z, w64, arith}
use Rattle.std.proofs.lemmas.Int.{ints}
use Rattle.qubo.specs.Laws.Listing.{lists-room}
use Rattle.qubo.proofs.Passes.{no_line, line-at, lists-none-yet, lists-one, lists-done}
use Rattle.qubo.proofs.listing.listed.Goals as goal

pub loop-line-init : goal.loop-line-init
loop-line-init c = lists-none-yet c.args.variables c.args.lines.now _ c.requires.few c.in_ok-list.ensures

pub add_product-requires : goal.add_product-requires
add_product-requires c =
    let l = get_or c.args.lines.now c.loop-line.line-index no_line in
    let line = line-at c.args.variables c.args.lines.now c.loop-line.line-index c.requires.each c.loop-line-test.true in
    let read : to_z w64 (of_z w64 l.weight) ≡ l.weight = omega (arith, ints, line.low, line.high) in
    rw read (lists-room _ c.args.variables c.loop-line.line-index l c.loop-line.invariant.lists (omega (arith, c.requires.count, c.loop-line-test.true)) line)

pub loop-line-preserved : goal.loop-line-preserved
loop-line-preserved c =
    let l = get_or c.args.lines.now c.loop-line.line-index no_line in
    let line = line-at c.args.variables c.args.lines.now c.loop-line.line-index c.requires.each c.loop-line-test.true in
    let read : to_z w64 (of_z w64 l.weight) ≡ l.weight = omega (arith, ints, line.low, line.high) in
    lists-one c.args.variables c.args.lines.now c.loop-line.line-index _ _ _ c.requires.each c.requires.count c.loop-line-test.true (rw read at c.add_product.ensures) c.loop-line.invariant

pub returns : goal.returns
returns c = lists-done c.args.variables c.args.lines.now c.loop-line.line-index _ _ c.loop-line-test.false c.loop-line.invariant
