use Rattle.std.proofs.Common.{rules, arith, ◌≡◌, ◌+◌, IsPermutation, sym, ap, subst, ◌∙◌}
use Rattle.dp_model.specs.Lists.{Each}
use Rattle.layer_candidates.specs.declared.key.Key.{Key}
use Rattle.layer_candidates.specs.HeldRows.{HasLeft, held_row}
use Rattle.layer_candidates.specs.KeyOrder.{key_rows}
use Rattle.layer_candidates.specs.Pruning.{unstruck_keys}
use Rattle.layer_candidates.specs.Rows.{HasZeros}
use Rattle.layer_candidates.specs.Ways.{rows_of, way_row}
use Rattle.layer_candidates.proofs.WayTables.{room-kept}
use Rattle.layer_candidates.proofs.Layered.{unstruck-live, unstruck-zeros}
use Rattle.layer_candidates.proofs.candidates.Candidates.list_next.Goals as goal
use Rattle.row_region.specs.Region.{IsLive}

pub sort-requires : goal.sort-requires
sort-requires g c =
    let dp = g.M.DpModel.meaning (g.M.DpModel.numbers c.args.model.now) in
    let a = c.args in
    let e = c.extend_layer in
    let u = c.list_unstruck in
    let ways = e.new.table.ways.items in
    let listed = unstruck_keys dp (a.k + 1) a.threshold e.new.region ways in
    let unstruck : u.new.keys.items ≡ listed = u.ensures.keys ∙ ap (unstruck_keys dp (a.k + 1) a.threshold e.new.region) c.as_slice.ensures.value in
    let struck : HasLeft e.new.region (rows_of ways) u.new.region (key_rows listed) =
    subst (λ ks. HasLeft e.new.region (rows_of ways) u.new.region (key_rows ks)) unstruck (subst (λ l. HasLeft e.new.region (rows_of l) u.new.region (key_rows u.new.keys.items)) c.as_slice.ensures.value u.ensures.left) in
    let live = c.first_live.result in
    record {
      held = subst (Each (λ (key : Key). IsLive u.new.region key.row)) (sym unstruck) (unstruck-live e.new.region u.new.region (rows_of ways) listed struck);
      zeros = subst (Each (λ (key : Key). HasZeros live (held_row u.new.region key.row))) (sym unstruck)
          (unstruck-zeros dp (a.k + 1) a.threshold e.new.region u.new.region ways live e.ensures.exchanged.live.live struck (λ i less. c.first_live.ensures.zeros (way_row e.new.region ways i) (e.ensures.distinct.good i less).state));
    }

pub returns-clause-listed : goal.returns-clause-listed
returns-clause-listed g c =
    let dp = g.M.DpModel.meaning (g.M.DpModel.numbers c.args.model.now) in
    let a = c.args in
    let e = c.extend_layer in
    let u = c.list_unstruck in
    let ways = e.new.table.ways.items in
    let listed = unstruck_keys dp (a.k + 1) a.threshold e.new.region ways in
    let unstruck : u.new.keys.items ≡ listed = u.ensures.keys ∙ ap (unstruck_keys dp (a.k + 1) a.threshold e.new.region) c.as_slice.ensures.value in (
      e.new.region,
      record {
        distinct = e.ensures.distinct;
        list = e.ensures.list;
        few = e.ensures.few;
        exchanged = e.ensures.exchanged;
        struck = subst (λ ks. HasLeft e.new.region (rows_of ways) u.new.region (key_rows ks)) unstruck (subst (λ l. HasLeft e.new.region (rows_of l) u.new.region (key_rows u.new.keys.items)) c.as_slice.ensures.value u.ensures.left);
        all = subst (λ l. IsPermutation l c.sort.new.keys.items) unstruck c.sort.ensures.all;
        sorted = c.sort.ensures.sorted;
      },
    )

pub returns-clause-memory : goal.returns-clause-memory
returns-clause-memory g c = λ words count h.
    let parent = h.parent in let keys = h.keys in let kept = h.kept in let small = h.small in
    let some = c.list_unstruck.ensures.capacity in
    record {
      parent = search rules;
      table = room-kept count count c.args.self.now.table c.extend_layer.new.table c.extend_layer.ensures.room (omega arith) h.table;
      keys = search rules;
      kept = h.kept;
      small = h.small;
    }
