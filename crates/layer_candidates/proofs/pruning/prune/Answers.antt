use Rattle.std.proofs.Common.{rules, ◌≡◌, ◌+◌, ◌-◌, ◌<◌, ◌++◌, [], List, length, take, drop, get_or, vec_capacity, Vec, Global, false, sym, ap, subst, ◌∙◌, arith}
use Rattle.std.proofs.lemmas.List.{take_all, length-drop}
use Rattle.dp_model.specs.Lists.{Each}
use Rattle.dp_model.specs.declared.limits.TheConstants.{MOST_LEADERS}
use Rattle.layer_candidates.specs.declared.key.Key.{Key}
use Rattle.layer_candidates.specs.HeldRows.{AreLive, HasExchanged, HasLeft}
use Rattle.layer_candidates.specs.KeyOrder.{key_rows}
use Rattle.layer_candidates.specs.Pruning.{IsKeyIn, IsOfWay, led_by, ArePruned}
use Rattle.layer_candidates.proofs.HeldRows.{each-here, live-right, left-give, left-front}
use Rattle.layer_candidates.proofs.Pruned.{none, looked, pruned-out, pruned-stays, pruned-full, rows-push, strictly}
use Rattle.layer_candidates.proofs.pruning.prune.Goals as goal
use Rattle.layer_candidates.proofs.pruning.prune.Goals.{then-is_led, else-is_led+else-len-most}

-- a slice to the end
to_end : (keys : List Key) (i : _) → i < length keys → take (length keys - i) (drop i keys) ≡ drop i keys
to_end keys i less = take_all (length keys - i) (drop i keys) (let e = length-drop i keys in omega arith)

pub is_led-requires-clause-leaders : goal.is_led-requires-clause-leaders
is_led-requires-clause-leaders g c κs within =
    let dp = g.M.DpModel.meaning (g.M.DpModel.numbers c.args.model.now) in
    let a = c.args in let l = c.keys in
    let look = looked dp a.k a.most a.region.now l.region a.ways.now a.keys.now l.kept.items l.i c.requires.keys c.requires.ways c.keys-test.true l.invariant.pruned l.invariant.left in
    subst (Each (IsKeyIn dp a.k l.region)) (sym (c.leaders_of.ensures ∙ ap (take MOST_LEADERS) c.as_slice.ensures.value)) look.leading

pub is_led-requires-clause-leader_ways : goal.is_led-requires-clause-leader_ways
is_led-requires-clause-leader_ways g c κs within =
    let dp = g.M.DpModel.meaning (g.M.DpModel.numbers c.args.model.now) in
    let a = c.args in let l = c.keys in
    let look = looked dp a.k a.most a.region.now l.region a.ways.now a.keys.now l.kept.items l.i c.requires.keys c.requires.ways c.keys-test.true l.invariant.pruned l.invariant.left in
    subst (Each (IsOfWay dp a.k l.region a.ways.now)) (sym (c.leaders_of.ensures ∙ ap (take MOST_LEADERS) c.as_slice.ensures.value)) look.leader_ways

pub is_led-requires-clause-key : goal.is_led-requires-clause-key
is_led-requires-clause-key g c κs within =
    let dp = g.M.DpModel.meaning (g.M.DpModel.numbers c.args.model.now) in
    let a = c.args in let l = c.keys in
    let look = looked dp a.k a.most a.region.now l.region a.ways.now a.keys.now l.kept.items l.i c.requires.keys c.requires.ways c.keys-test.true l.invariant.pruned l.invariant.left in
    look.one

pub is_led-requires-clause-way : goal.is_led-requires-clause-way
is_led-requires-clause-way g c κs within =
    let dp = g.M.DpModel.meaning (g.M.DpModel.numbers c.args.model.now) in
    let a = c.args in let l = c.keys in
    let look = looked dp a.k a.most a.region.now l.region a.ways.now a.keys.now l.kept.items l.i c.requires.keys c.requires.ways c.keys-test.true l.invariant.pruned l.invariant.left in
    look.way

pub give-requires : goal.give-requires
give-requires g c =
    let dp = g.M.DpModel.meaning (g.M.DpModel.numbers c.args.model.now) in
    let a = c.args in let l = c.keys in
    (looked dp a.k a.most a.region.now l.region a.ways.now a.keys.now l.kept.items l.i c.requires.keys c.requires.ways c.keys-test.true l.invariant.pruned l.invariant.left).one.live

pub give_rows-requires : goal.give_rows-requires
give_rows-requires g c =
    let a = c.args in let l = c.keys in
    subst (λ keys. AreLive l.region (key_rows keys)) (sym (to_end a.keys.now l.i c.keys-test.true))
    (live-right l.region (key_rows l.kept.items) (key_rows (drop l.i a.keys.now)) l.invariant.left.exchanged.live)

pub returns-then-len-most-clause-pruned : goal.returns-then-len-most-clause-pruned
returns-then-len-most-clause-pruned g c =
    let dp = g.M.DpModel.meaning (g.M.DpModel.numbers c.args.model.now) in
    let a = c.args in
    let l = c.keys in
    let look = looked dp a.k a.most a.region.now l.region a.ways.now a.keys.now l.kept.items l.i c.requires.keys c.requires.ways c.keys-test.true l.invariant.pruned l.invariant.left in
    let test : led_by dp a.k a.region.now (take MOST_LEADERS l.kept.items) (get_or a.keys.now l.i none) ≡ false =
    sym look.led ∙ (sym (c.is_led.ensures ∙ ap (λ (ls : List Key). led_by dp a.k l.region ls (get_or a.keys.now l.i none)) (c.leaders_of.ensures ∙ ap (take MOST_LEADERS) c.as_slice.ensures.value)) ∙ c.if-is_led.false) in
    let full : length l.kept.items ≡ a.most = search rules in
    pruned-full dp a.k a.most a.region.now a.keys.now l.kept.items l.i none l.invariant.pruned c.keys-test.true test full

pub returns-then-len-most-clause-left : goal.returns-then-len-most-clause-left
returns-then-len-most-clause-left g c =
    let a = c.args in let l = c.keys in
    left-front a.region.now l.region c.give_rows.new.region (key_rows a.keys.now) (key_rows l.kept.items) (key_rows (drop l.i a.keys.now)) l.invariant.left
    (subst (λ keys. HasExchanged l.region (key_rows keys) c.give_rows.new.region []) (to_end a.keys.now l.i c.keys-test.true) c.give_rows.ensures)

pub keys-preserved : goal.keys-preserved
keys-preserved g c =
    let dp = g.M.DpModel.meaning (g.M.DpModel.numbers c.args.model.now) in
    let a = c.args in
    let l = c.keys in
    let h = l.invariant in
    let old = a.region.now in
    let keys = a.keys.now in
    let key = get_or keys l.i none in
    let rest = key_rows (drop (l.i + 1) keys) in
    let look = looked dp a.k a.most old l.region a.ways.now keys l.kept.items l.i c.requires.keys c.requires.ways c.keys-test.true h.pruned h.left in
    let is : c.is_led.result ≡ led_by dp a.k old (take MOST_LEADERS l.kept.items) key =
    c.is_led.ensures ∙ (ap (λ (ls : List Key). led_by dp a.k l.region ls key) (c.leaders_of.ensures ∙ ap (take MOST_LEADERS) c.as_slice.ensures.value) ∙ look.led) in
    let one = each-here (IsKeyIn dp a.k old) keys l.i none c.requires.keys c.keys-test.true in
    elim c.if-is_led.branch [
      | then-is_led w ↦ (
          let next = pruned-out dp a.k a.most old keys l.kept.items l.i none h.pruned c.keys-test.true (sym is ∙ w.if-is_led.true) in
          record {
            pruned = subst (λ x. ArePruned dp a.k a.most old keys x (l.i + 1)) (sym (ap (λ (v : Vec Key Global). v.items) w.kept-is)) next;
            left = subst (λ r. HasLeft old (key_rows keys) r (key_rows c.if-is_led.kept.items ++ rest)) (sym w.region-is)
                (subst (λ (v : Vec Key Global). HasLeft old (key_rows keys) w.give.new.self (key_rows v.items ++ rest)) (sym w.kept-is)
                (left-give old l.region w.give.new.self (key_rows keys) (key_rows l.kept.items) rest key.row look.left w.give.ensures));
            kept_capacity = ap vec_capacity w.kept-is ∙ h.kept_capacity;
          })
      | else-is_led+else-len-most w ↦ (
          let count : w.len.result ≡ length l.kept.items = search rules in
          let short : length l.kept.items < a.most = strictly (length l.kept.items) a.most h.pruned.most_stay (λ e. w.if-len-most.false (count ∙ e)) in
          let next = pruned-stays dp a.k a.most old keys l.kept.items l.i none h.pruned c.keys-test.true (sym is ∙ w.if-is_led.false) one short in
          record {
            pruned = subst (λ x. ArePruned dp a.k a.most old keys x (l.i + 1)) (sym (ap (λ (v : Vec Key Global). v.items) w.kept-is ∙ w.push_reserved.ensures.items)) next;
            left = subst (λ r. HasLeft old (key_rows keys) r (key_rows c.if-is_led.kept.items ++ rest)) (sym w.region-is)
                (subst (λ ks. HasLeft old (key_rows keys) l.region (key_rows ks ++ rest)) (sym (ap (λ (v : Vec Key Global). v.items) w.kept-is ∙ w.push_reserved.ensures.items))
                (subst (HasLeft old (key_rows keys) l.region) (sym (rows-push l.kept.items key rest)) look.left));
            kept_capacity = ap vec_capacity w.kept-is ∙ (w.push_reserved.ensures.capacity ∙ h.kept_capacity);
          })
    ]
