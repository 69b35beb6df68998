use Rattle.std.proofs.Common.{rules, map}
use Rattle.std.specs.Iterator.Adapters.{zip_first, zip_second}
use Rattle.std.specs.Slice.Iter.{iter_rest}
use Rattle.std.proofs.lemmas.Slice.Zip.{Zip-more, either_empty_from_Zip}
use Rattle.journal_bytes.specs.Views.{child_view}
use Rattle.kept_board.proofs.Recorded.{one-child, no-child}
use Rattle.kept_board.proofs.children.children_of.Goals as goal

pub loop-sub-init : goal.loop-sub-init
loop-sub-init c = search rules

pub loop-sub-preserved : goal.loop-sub-preserved
loop-sub-preserved c =
    let before = c.loop-sub.sub-iterator in
    let rest = c.next.new.self in
    let more = Zip-more before rest c.next.result (c.in-Some.sub, c.in-Some.fate) c.in-Some.is c.next.ensures.steps in
    one-child (map child_view c.loop-sub.children.items) _ _ (iter_rest (zip_first before)) (iter_rest (zip_first rest)) (iter_rest (zip_second before)) (iter_rest (zip_second rest)) c.in-Some.sub.now c.in-Some.fate.now
    more.0 more.1 c.in_ok-push_child.ensures c.loop-sub.invariant

pub returns : goal.returns
returns c =
    let before = c.loop-sub.sub-iterator in
    no-child (map child_view c.loop-sub.children.items) _ (iter_rest (zip_first before)) (iter_rest (zip_second before)) (either_empty_from_Zip before c.next.new.self c.next.result c.in-None.is c.next.ensures.steps) c.loop-sub.invariant
