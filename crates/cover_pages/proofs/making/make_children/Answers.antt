use Rattle.std.proofs.Common.{◌<◌, length, ◌∙◌, arith}
use Rattle.std.proofs.lemmas.Option.{slice_get-get_or}
use Rattle.relaxed_dd.specs.Shown.{layers_of}
use Rattle.cover_pages.proofs.Made.{children-more}
use Rattle.cover_pages.proofs.making.make_children.Goals as goal

pub children-preserved : goal.children-preserved
children-preserved c =
    let ps = c.args.places.now in
    let fs = c.args.fates.now in
    let i = c.children.i in
    let in-places : i < length ps = (let t = c.children-test.true in omega arith) in
    let in-fates : i < length fs = (let e = c.requires.fates in omega arith) in
    record {
      items = children-more (layers_of c.args.diagram.now) ps fs i _ _ c.in_ok-make_child.field-0 c.children.children.items c.push_reserved.new.self.items (slice_get-get_or ps i _ in-places) (slice_get-get_or fs i _ in-fates) c.in_ok-make_child.ensures c.children.invariant.items c.push_reserved.ensures.items;
      room = c.push_reserved.ensures.capacity ∙ c.children.invariant.room;
      many = (let e = c.push_reserved.ensures.len in let m = c.children.invariant.many in omega arith);
    }
