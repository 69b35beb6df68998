use Rattle.std.proofs.Common.{◌≡◌, ◌+◌, ◌∷◌, ◌++◌, [], None, not, set, drop, vec_capacity, vec_len, Vec, Global, sym, ap, ap₂, subst, ◌∙◌, arith}
use Rattle.std.proofs.lemmas.List.{drop_more}
use Rattle.dp_model.specs.Gaps.{is_struck_by}
use Rattle.layer_candidates.specs.declared.key.Key.{Key}
use Rattle.layer_candidates.specs.HeldRows.{HasLeft}
use Rattle.layer_candidates.specs.KeyOrder.{key_at, key_rows}
use Rattle.layer_candidates.specs.Pruning.{struck, IsKeyIn}
use Rattle.layer_candidates.specs.Ways.{rows_of}
use Rattle.layer_candidates.proofs.HeldRows.{left-give}
use Rattle.layer_candidates.proofs.Pruned.{key-of-way, rows-push}
use Rattle.layer_candidates.proofs.Sorted.{table-stays, table-goes}
use Rattle.layer_candidates.proofs.striking.list_unstruck.Goals as goal
use Rattle.layer_candidates.proofs.striking.list_unstruck.Goals.{then-is_struck, else-is_struck}

pub is_struck-requires-clause-key : goal.is_struck-requires-clause-key
is_struck-requires-clause-key g c κs within =
    let dp = g.M.DpModel.meaning (g.M.DpModel.numbers c.args.model.now) in
    let a = c.args in let l = c.ways in
    subst (IsKeyIn dp a.k l.region) (sym c.key_at-key.ensures)
    (key-of-way dp a.k a.region.now l.region a.ways.now l.i (key_rows l.keys.items) c.requires.distinct.good c.requires.held.live c.ways-test.true l.invariant.left.same).0

pub give-requires : goal.give-requires
give-requires g c =
    let dp = g.M.DpModel.meaning (g.M.DpModel.numbers c.args.model.now) in
    let a = c.args in let l = c.ways in
    (subst (IsKeyIn dp a.k l.region) (sym c.key_at-key.ensures)
    (key-of-way dp a.k a.region.now l.region a.ways.now l.i (key_rows l.keys.items) c.requires.distinct.good c.requires.held.live c.ways-test.true l.invariant.left.same).0).live

pub ways-preserved : goal.ways-preserved
ways-preserved g c =
    let dp = g.M.DpModel.meaning (g.M.DpModel.numbers c.args.model.now) in
    let a = c.args in
    let l = c.ways in
    let h = l.invariant in
    let low = h.len in
    let ways = a.ways.now in
    let old = a.region.now in
    let front = key_rows l.keys.items in
    let rest = rows_of (drop (l.i + 1) ways) in
    let p = λ (key : Key). not (struck dp a.k a.threshold old key) in
    let key = key_at ways l.i in
    let row = (key-of-way dp a.k old l.region ways l.i front c.requires.distinct.good c.requires.held.live c.ways-test.true h.left.same).1 in
    let is : c.is_struck.result ≡ struck dp a.k a.threshold old key =
    c.is_struck.ensures ∙ (ap (struck dp a.k a.threshold l.region) c.key_at-key.ensures ∙ ap (λ r. is_struck_by key.value (dp.rough a.k r) a.threshold) row) in
    let left = subst (λ ps. HasLeft old (rows_of ways) l.region (front ++ ps)) (ap rows_of (drop_more ways l.i _ c.ways-test.true)) h.left in
    elim c.if-is_struck.branch [
      | then-is_struck w ↦ record {
        keys = ap (λ (v : Vec Key Global). v.items) w.keys-is ∙ (h.keys ∙ sym (table-goes p (key_at ways) l.i (ap not (sym is ∙ w.if-is_struck.true))));
        left = subst (λ r. HasLeft old (rows_of ways) r (key_rows c.if-is_struck.keys.items ++ rest)) (sym w.region-is)
            (subst (λ (v : Vec Key Global). HasLeft old (rows_of ways) w.give.new.self (key_rows v.items ++ rest)) (sym w.keys-is)
            (left-give old l.region w.give.new.self (rows_of ways) front rest key.row left (w.give.ensures ∙ ap (λ (n : Key). record l.region { rows = set l.region.rows n.row None; spare = l.region.spare + 1 }) c.key_at-key.ensures)));
        len = (let same = ap vec_len w.keys-is in omega arith);
        capacity = ap vec_capacity w.keys-is ∙ h.capacity;
      }
      | else-is_struck w ↦ record {
        keys = ap (λ (v : Vec Key Global). v.items) w.keys-is ∙ (w.push_reserved.ensures.items ∙ (ap₂ (λ ks key. ks ++ key ∷ []) h.keys c.key_at-key.ensures ∙ sym (table-stays p (key_at ways) l.i (ap not (sym is ∙ w.if-is_struck.false)))));
        left = subst (λ r. HasLeft old (rows_of ways) r (key_rows c.if-is_struck.keys.items ++ rest)) (sym w.region-is)
            (subst (λ ks. HasLeft old (rows_of ways) l.region (key_rows ks ++ rest)) (sym (ap (λ (v : Vec Key Global). v.items) w.keys-is ∙ (w.push_reserved.ensures.items ∙ ap (λ key. l.keys.items ++ key ∷ []) c.key_at-key.ensures)))
            (subst (HasLeft old (rows_of ways) l.region) (sym (rows-push l.keys.items key rest)) left));
        len = (let same = ap vec_len w.keys-is in let more = w.push_reserved.ensures.len in omega arith);
        capacity = ap vec_capacity w.keys-is ∙ (w.push_reserved.ensures.capacity ∙ h.capacity);
      }
    ]
