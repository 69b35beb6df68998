use Rattle.std.proofs.Common.{◌<◌, length, pos, arith}
use Rattle.exact_cutset.specs.declared.child.Child.{Child}
use Rattle.exact_cutset.specs.Stored.{shown_subs}
use Rattle.exact_cutset.proofs.Made.{one-made}
use Rattle.exact_cutset.proofs.making.make_subs.Goals as goal

pub places-preserved : goal.places-preserved
places-preserved c =
    let l = c.places in
    let h = l.invariant in
    let a = c.args in
    let less : l.child-index < length a.places.now = (let t = c.places-test.true in omega arith) in
    let none : Child = record { depth = 0; node = 0; value = pos 0; bound = pos 0 } in
    let one = one-made a.words a.places.now l.child-index (shown_subs a.words a.places.now a.rows.now a.paths.now) l.subs.items l.rows_left.now c.split_at.result.1.now l.paths_left.now c.split_at-in-places.result.1.now none
    c.push_reserved.new.self.items c.in_ok-make_sub.field-0 c.split_at.result.0.now c.split_at-in-places.result.0.now less h.made h.rows_are h.paths_are
    c.split_at.ensures.front c.split_at.ensures.back c.split_at-in-places.ensures.front c.split_at-in-places.ensures.back c.in_ok-make_sub.ensures c.push_reserved.ensures.items in
    record {
      made = one.made_is;
      rows_are = one.rows_are;
      paths_are = one.paths_are;
      many = (let e = c.push_reserved.ensures.len in let m = h.many in omega arith);
      room = (let e = c.push_reserved.ensures.capacity in let r = h.room in omega arith);
    }
