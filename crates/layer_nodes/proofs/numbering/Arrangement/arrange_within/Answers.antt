use Rattle.std.proofs.Common.{◌≡◌, ◌-◌, false, length, IsPermutation, sym, ap, subst, ◌∙◌, arith}
use Rattle.std.proofs.lemmas.List.Sorted.{IsPermutation-map, length_permutation}
use Rattle.dp_model.specs.Lists.{Each}
use Rattle.dp_laws.proofs.Restricted.Permutations.{each-permutation}
use Rattle.layer_candidates.specs.declared.key.Key.{Key}
use Rattle.layer_candidates.specs.HeldRows.{held_row}
use Rattle.layer_candidates.specs.KeyOrder.{key_rows}
use Rattle.layer_candidates.specs.Ways.{rows_of}
use Rattle.layer_candidates.proofs.HeldRows.{left-moved}
use Rattle.layer_nodes.specs.declared.extending.MarkedWays.{MarkedWays}
use Rattle.layer_nodes.specs.Expanding.{mark_at, HaveParents}
use Rattle.layer_nodes.specs.Reducing.{HasMergedKeys}
use Rattle.layer_nodes.proofs.Listed.{listed-within, listed-moved}
use Rattle.layer_nodes.proofs.SiftedLayers.{ordered-by, ordered-sifted, ordered-left}
use Rattle.layer_nodes.proofs.numbering.Arrangement.arrange_within.Goals as goal

pub order-requires-clause-parents : goal.order-requires-clause-parents
order-requires-clause-parents g c κs within = subst HaveParents (sym (ap (λ (f : MarkedWays). f.table.ways.items) c.list.ensures.found)) c.requires.parents

pub merge-requires-clause-parents : goal.merge-requires-clause-parents
merge-requires-clause-parents g c κs within = subst HaveParents (sym (ap (λ (f : MarkedWays). f.table.ways.items) c.list.ensures.found)) c.requires.parents

pub returns-then-not-may_merge-clause-arranged : goal.returns-then-not-may_merge-clause-arranged
returns-then-not-may_merge-clause-arranged g c = λ _.
    let dp = g.M.DpModel.meaning (g.M.DpModel.numbers c.args.model.now) in
    let a = c.args in
    let found = a.self.now.found in
    let listed = c.list.new.self.keys.items in
    let ordered = ordered-by (held_row c.list.new.region) listed c.list.new.self.found.table.ways.items found.table.ways.items c.list.new.self.found.marks.items found.marks.items c.order.new.routes.items c.order.new.nodes.items
    c.order.ensures.ordered (ap (λ (f : MarkedWays). f.table.ways.items) c.list.ensures.found) (ap (λ (f : MarkedWays). f.marks.items) c.list.ensures.found) in
    ordered-sifted dp a.k a.threshold a.region.now c.list.new.region found.table.ways.items found.marks.items c.order.new.routes.items c.order.new.nodes.items listed c.requires.held c.list.ensures.keys c.list.ensures.left ordered

pub returns-then-not-may_merge-clause-left : goal.returns-then-not-may_merge-clause-left
returns-then-not-may_merge-clause-left g c = λ _.
    let dp = g.M.DpModel.meaning (g.M.DpModel.numbers c.args.model.now) in
    let a = c.args in
    let found = a.self.now.found in
    let listed = c.list.new.self.keys.items in
    let ordered = ordered-by (held_row c.list.new.region) listed c.list.new.self.found.table.ways.items found.table.ways.items c.list.new.self.found.marks.items found.marks.items c.order.new.routes.items c.order.new.nodes.items
    c.order.ensures.ordered (ap (λ (f : MarkedWays). f.table.ways.items) c.list.ensures.found) (ap (λ (f : MarkedWays). f.marks.items) c.list.ensures.found) in
    ordered-left dp a.k a.threshold a.region.now c.list.new.region found.table.ways.items found.marks.items c.order.new.routes.items c.order.new.nodes.items listed c.requires.held c.list.ensures.keys c.list.ensures.left ordered

pub returns-clause-reduced : goal.returns-clause-reduced
returns-clause-reduced g c = λ _.
    let dp = g.M.DpModel.meaning (g.M.DpModel.numbers c.args.model.now) in
    let a = c.args in
    let ways = a.self.now.found.table.ways.items in
    let marks = a.self.now.found.marks.items in
    let left = c.list.new.region in
    let listed = c.list.new.self.keys.items in
    let keys = c.merge.new.self.keys.items in
    let moved = c.merge.ensures.all in
    let long = length_permutation listed keys moved in
    let wide = c.may_merge.ensures.wide c.if-not-may_merge.false in
    let same_ways = ap (λ (f : MarkedWays). f.table.ways.items) c.list.ensures.found in
    let same_marks = ap (λ (f : MarkedWays). f.marks.items) c.list.ensures.found in
    let h = listed-moved dp a.k left ways listed c.list.ensures.listed keys moved in
    let count = c.merge.ensures.count ∙ ap length same_ways in
    record {
      keys = keys;
      left = left;
      all = subst (λ l. IsPermutation l keys) c.list.ensures.keys moved;
      stay = left-moved a.region.now left (rows_of ways) (key_rows listed) (key_rows keys) (IsPermutation-map (λ (key : Key). key.row) listed keys moved) c.list.ensures.left;
      first = c.merge.ensures.first;
      wide = omega arith;
      inexact = each-permutation listed keys moved (λ (key : Key). mark_at marks key.place ≡ false) (subst (λ ms. Each (λ (key : Key). mark_at ms key.place ≡ false) listed) same_marks (c.may_merge.ensures.inexact c.if-not-may_merge.false));
      free = c.may_merge.ensures.free c.if-not-may_merge.false;
      within = listed-within dp a.k left ways keys h (length c.merge.new.routes.items) (omega arith);
      merged = subst (λ ms. HasMergedKeys dp a.k (a.width - 1) left ways ms keys c.merge.new.region c.merge.new.routes.items c.merge.new.nodes.items) same_marks
          (subst (λ ws. HasMergedKeys dp a.k (a.width - 1) left ws c.list.new.self.found.marks.items keys c.merge.new.region c.merge.new.routes.items c.merge.new.nodes.items) same_ways c.merge.ensures.merged);
    }
