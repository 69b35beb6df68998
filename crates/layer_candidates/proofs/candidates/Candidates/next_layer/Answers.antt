use Rattle.std.proofs.Common.{◌≡◌, ◌+◌, ◌<◌, List, ◌++◌, length, map, sym, ap, ap₂, subst, ◌∙◌, length-append, arith}
use Rattle.std.proofs.lemmas.List.{length-map}
use Rattle.dp_model.specs.Lists.{Each}
use Rattle.layer_candidates.specs.declared.key.Key.{Key}
use Rattle.layer_candidates.specs.declared.way.Way.{Way}
use Rattle.layer_candidates.specs.HeldRows.{AreLive, HasExchanged, HasLeft}
use Rattle.layer_candidates.specs.KeyOrder.{key_rows}
use Rattle.layer_candidates.specs.Layering.{HasListed}
use Rattle.layer_candidates.specs.Members.{member_rows, members_as, IsHeldAt}
use Rattle.layer_candidates.specs.Pruning.{IsKeyIn, IsOfWay, HasPruned}
use Rattle.layer_candidates.specs.Steps.{path_at, step_of, entered, AreBackward, IsReachedWithin}
use Rattle.layer_candidates.proofs.Descended.{length-entered, entered-within}
use Rattle.layer_candidates.proofs.Layered.{layer-in, layer-live, layer-of, kept-places, next-list, next-more, next-held, next-exchanged, next-backward}
use Rattle.layer_candidates.proofs.Sorted.{unstruck-length}
use Rattle.layer_candidates.proofs.candidates.Candidates.next_layer.Goals as goal

pub prune-more-requires-clause-keys : goal.prune-more-requires-clause-keys
prune-more-requires-clause-keys g c κs within =
    let dp = g.M.DpModel.meaning (g.M.DpModel.numbers c.args.model.now) in
    let a = c.args in
    let n = c.list_next.new in
    let ways = n.self.table.ways.items in
    let keys = n.self.keys.items in
    let h : HasListed dp a.k a.limits.threshold a.region.now a.members.now.items n.region n.self = subst (λ ms. HasListed dp a.k a.limits.threshold a.region.now ms n.region n.self) c.as_slice.ensures.value c.list_next.ensures.listed in
    subst (Each (IsKeyIn dp (a.k + 1) n.region)) (sym c.as_slice-3.ensures.value) (layer-in dp a.k a.limits.threshold a.region.now h.0 n.region a.members.now.items ways keys h.1)

pub prune-more-requires-clause-ways : goal.prune-more-requires-clause-ways
prune-more-requires-clause-ways g c κs within =
    let dp = g.M.DpModel.meaning (g.M.DpModel.numbers c.args.model.now) in
    let a = c.args in
    let n = c.list_next.new in
    let ways = n.self.table.ways.items in
    let keys = n.self.keys.items in
    let h : HasListed dp a.k a.limits.threshold a.region.now a.members.now.items n.region n.self = subst (λ ms. HasListed dp a.k a.limits.threshold a.region.now ms n.region n.self) c.as_slice.ensures.value c.list_next.ensures.listed in
    subst (λ l. Each (IsOfWay dp (a.k + 1) n.region l) c.as_slice-3.result.now) (sym c.as_slice-2.ensures.value)
    (subst (Each (IsOfWay dp (a.k + 1) n.region ways)) (sym c.as_slice-3.ensures.value) (layer-of dp a.k a.limits.threshold a.region.now h.0 n.region a.members.now.items ways keys h.1))

pub prune-more-requires-clause-held : goal.prune-more-requires-clause-held
prune-more-requires-clause-held g c κs within =
    let dp = g.M.DpModel.meaning (g.M.DpModel.numbers c.args.model.now) in
    let a = c.args in
    let n = c.list_next.new in
    let ways = n.self.table.ways.items in
    let keys = n.self.keys.items in
    let h : HasListed dp a.k a.limits.threshold a.region.now a.members.now.items n.region n.self = subst (λ ms. HasListed dp a.k a.limits.threshold a.region.now ms n.region n.self) c.as_slice.ensures.value c.list_next.ensures.listed in
    subst (λ l. AreLive n.region (key_rows l)) (sym c.as_slice-3.ensures.value) (layer-live dp a.k a.limits.threshold a.region.now h.0 n.region a.members.now.items ways keys h.1)

pub prune-more-requires-clause-kept_room : goal.prune-more-requires-clause-kept_room
prune-more-requires-clause-kept_room g c κs within =
    let dp = g.M.DpModel.meaning (g.M.DpModel.numbers c.args.model.now) in
    let a = c.args in
    let n = c.list_next.new in
    let ways = n.self.table.ways.items in
    let keys = n.self.keys.items in
    let h : HasListed dp a.k a.limits.threshold a.region.now a.members.now.items n.region n.self = subst (λ ms. HasListed dp a.k a.limits.threshold a.region.now ms n.region n.self) c.as_slice.ensures.value c.list_next.ensures.listed in
    let size = ap length c.as_slice-3.ensures.value in
    let less = unstruck-length dp (a.k + 1) a.limits.threshold h.0 ways keys h.1.all in
    let few = h.1.few in
    let hold = (c.list_next.ensures.memory _ _ c.requires.memory).kept in
    omega arith

pub descend-requires-clause-within : goal.descend-requires-clause-within
descend-requires-clause-within g c =
    let dp = g.M.DpModel.meaning (g.M.DpModel.numbers c.args.model.now) in
    let a = c.args in
    let n = c.list_next.new in
    let ways = n.self.table.ways.items in
    let keys = n.self.keys.items in
    let h : HasListed dp a.k a.limits.threshold a.region.now a.members.now.items n.region n.self = subst (λ ms. HasListed dp a.k a.limits.threshold a.region.now ms n.region n.self) c.as_slice.ensures.value c.list_next.ensures.listed in
    let p = c.prune-more in
    let kept = p.new.kept.items in
    let done : HasPruned dp (a.k + 1) a.limits.width n.region keys kept p.result = subst (λ l. HasPruned dp (a.k + 1) a.limits.width n.region l kept p.result) c.as_slice-3.ensures.value p.ensures.pruned in
    let left : HasLeft n.region (key_rows keys) p.new.region (key_rows kept) = subst (λ l. HasLeft n.region (key_rows l) p.new.region (key_rows kept)) c.as_slice-3.ensures.value p.ensures.left in
    subst (λ l. Each (λ (key : Key). key.place < length l) c.as_slice-5.result.now) (sym c.as_slice-4.ensures.value)
    (subst (Each (λ (key : Key). key.place < length ways)) (sym c.as_slice-5.ensures.value) (kept-places dp a.k a.limits.threshold a.region.now h.0 n.region a.members.now.items ways keys h.1 a.limits.width p.new.region kept p.result done left a.steps.now.items))

pub returns-clause-list : goal.returns-clause-list
returns-clause-list g c = λ prefix.
    let dp = g.M.DpModel.meaning (g.M.DpModel.numbers c.args.model.now) in
    let a = c.args in
    let n = c.list_next.new in
    let ways = n.self.table.ways.items in
    let keys = n.self.keys.items in
    let h : HasListed dp a.k a.limits.threshold a.region.now a.members.now.items n.region n.self = subst (λ ms. HasListed dp a.k a.limits.threshold a.region.now ms n.region n.self) c.as_slice.ensures.value c.list_next.ensures.listed in
    let p = c.prune-more in
    let kept = p.new.kept.items in
    let done : HasPruned dp (a.k + 1) a.limits.width n.region keys kept p.result = subst (λ l. HasPruned dp (a.k + 1) a.limits.width n.region l kept p.result) c.as_slice-3.ensures.value p.ensures.pruned in
    let left : HasLeft n.region (key_rows keys) p.new.region (key_rows kept) = subst (λ l. HasLeft n.region (key_rows l) p.new.region (key_rows kept)) c.as_slice-3.ensures.value p.ensures.left in
    let size = length a.steps.now.items in
    let members : c.descend.new.members.items ≡ entered ways size kept = c.descend.ensures.members ∙ ap₂ (λ (w : List Way) l. entered w size l) c.as_slice-4.ensures.value c.as_slice-5.ensures.value in
    let steps : c.descend.new.steps.items ≡ a.steps.now.items ++ map (step_of ways) kept = c.descend.ensures.steps ∙ ap₂ (λ (w : List Way) l. a.steps.now.items ++ map (step_of w) l) c.as_slice-4.ensures.value c.as_slice-5.ensures.value in
    ap₂ (λ ss ms. members_as (path_at prefix ss) p.new.region ms) steps members ∙ next-list dp a.k a.limits.threshold a.region.now h.0 n.region a.members.now.items ways keys h.1 a.limits.width p.new.region kept p.result done left a.steps.now.items c.requires.reached prefix

pub returns-clause-more : goal.returns-clause-more
returns-clause-more g c = λ prefix.
    let dp = g.M.DpModel.meaning (g.M.DpModel.numbers c.args.model.now) in
    let a = c.args in
    let n = c.list_next.new in
    let ways = n.self.table.ways.items in
    let keys = n.self.keys.items in
    let h : HasListed dp a.k a.limits.threshold a.region.now a.members.now.items n.region n.self = subst (λ ms. HasListed dp a.k a.limits.threshold a.region.now ms n.region n.self) c.as_slice.ensures.value c.list_next.ensures.listed in
    let p = c.prune-more in
    let kept = p.new.kept.items in
    let done : HasPruned dp (a.k + 1) a.limits.width n.region keys kept p.result = subst (λ l. HasPruned dp (a.k + 1) a.limits.width n.region l kept p.result) c.as_slice-3.ensures.value p.ensures.pruned in
    let left : HasLeft n.region (key_rows keys) p.new.region (key_rows kept) = subst (λ l. HasLeft n.region (key_rows l) p.new.region (key_rows kept)) c.as_slice-3.ensures.value p.ensures.left in
    next-more dp a.k a.limits.threshold a.region.now h.0 n.region a.members.now.items ways keys h.1 a.limits.width p.new.region kept p.result done left a.steps.now.items prefix

pub returns-clause-held : goal.returns-clause-held
returns-clause-held g c =
    let dp = g.M.DpModel.meaning (g.M.DpModel.numbers c.args.model.now) in
    let a = c.args in
    let n = c.list_next.new in
    let ways = n.self.table.ways.items in
    let keys = n.self.keys.items in
    let h : HasListed dp a.k a.limits.threshold a.region.now a.members.now.items n.region n.self = subst (λ ms. HasListed dp a.k a.limits.threshold a.region.now ms n.region n.self) c.as_slice.ensures.value c.list_next.ensures.listed in
    let p = c.prune-more in
    let kept = p.new.kept.items in
    let done : HasPruned dp (a.k + 1) a.limits.width n.region keys kept p.result = subst (λ l. HasPruned dp (a.k + 1) a.limits.width n.region l kept p.result) c.as_slice-3.ensures.value p.ensures.pruned in
    let left : HasLeft n.region (key_rows keys) p.new.region (key_rows kept) = subst (λ l. HasLeft n.region (key_rows l) p.new.region (key_rows kept)) c.as_slice-3.ensures.value p.ensures.left in
    let size = length a.steps.now.items in
    let members : c.descend.new.members.items ≡ entered ways size kept = c.descend.ensures.members ∙ ap₂ (λ (w : List Way) l. entered w size l) c.as_slice-4.ensures.value c.as_slice-5.ensures.value in
    subst (Each (IsHeldAt dp (a.k + 1) p.new.region)) (sym members) (next-held dp a.k a.limits.threshold a.region.now h.0 n.region a.members.now.items ways keys h.1 a.limits.width p.new.region kept p.result done left a.steps.now.items)

pub returns-clause-exchanged : goal.returns-clause-exchanged
returns-clause-exchanged g c =
    let dp = g.M.DpModel.meaning (g.M.DpModel.numbers c.args.model.now) in
    let a = c.args in
    let n = c.list_next.new in
    let ways = n.self.table.ways.items in
    let keys = n.self.keys.items in
    let h : HasListed dp a.k a.limits.threshold a.region.now a.members.now.items n.region n.self = subst (λ ms. HasListed dp a.k a.limits.threshold a.region.now ms n.region n.self) c.as_slice.ensures.value c.list_next.ensures.listed in
    let p = c.prune-more in
    let kept = p.new.kept.items in
    let done : HasPruned dp (a.k + 1) a.limits.width n.region keys kept p.result = subst (λ l. HasPruned dp (a.k + 1) a.limits.width n.region l kept p.result) c.as_slice-3.ensures.value p.ensures.pruned in
    let left : HasLeft n.region (key_rows keys) p.new.region (key_rows kept) = subst (λ l. HasLeft n.region (key_rows l) p.new.region (key_rows kept)) c.as_slice-3.ensures.value p.ensures.left in
    let size = length a.steps.now.items in
    let members : c.descend.new.members.items ≡ entered ways size kept = c.descend.ensures.members ∙ ap₂ (λ (w : List Way) l. entered w size l) c.as_slice-4.ensures.value c.as_slice-5.ensures.value in
    subst (λ ms. HasExchanged a.region.now (member_rows a.members.now.items) p.new.region (member_rows ms)) (sym members) (next-exchanged dp a.k a.limits.threshold a.region.now h.0 n.region a.members.now.items ways keys h.1 a.limits.width p.new.region kept p.result done left a.steps.now.items)

pub returns-clause-reached : goal.returns-clause-reached
returns-clause-reached g c =
    let a = c.args in
    let ways = c.list_next.new.self.table.ways.items in
    let p = c.prune-more in
    let kept = p.new.kept.items in
    let size = length a.steps.now.items in
    let members : c.descend.new.members.items ≡ entered ways size kept = c.descend.ensures.members ∙ ap₂ (λ (w : List Way) l. entered w size l) c.as_slice-4.ensures.value c.as_slice-5.ensures.value in
    let steps : c.descend.new.steps.items ≡ a.steps.now.items ++ map (step_of ways) kept = c.descend.ensures.steps ∙ ap₂ (λ (w : List Way) l. a.steps.now.items ++ map (step_of w) l) c.as_slice-4.ensures.value c.as_slice-5.ensures.value in
    let count = ap length steps ∙ length-append a.steps.now.items (map (step_of ways) kept) in
    let same = length-map kept (step_of ways) in
    subst (Each (IsReachedWithin (length c.descend.new.steps.items))) (sym members) (entered-within ways size (length c.descend.new.steps.items) kept (omega arith))

pub returns-clause-few : goal.returns-clause-few
returns-clause-few g c =
    let a = c.args in
    let ways = c.list_next.new.self.table.ways.items in
    let p = c.prune-more in
    let kept = p.new.kept.items in
    let size = length a.steps.now.items in
    let members : c.descend.new.members.items ≡ entered ways size kept = c.descend.ensures.members ∙ ap₂ (λ (w : List Way) l. entered w size l) c.as_slice-4.ensures.value c.as_slice-5.ensures.value in
    let count = ap length members ∙ length-entered ways size kept in
    let most = p.ensures.pruned.most_stay in
    omega arith

pub returns-clause-steps : goal.returns-clause-steps
returns-clause-steps g c =
    let a = c.args in
    let ways = c.list_next.new.self.table.ways.items in
    let p = c.prune-more in
    let kept = p.new.kept.items in
    let size = length a.steps.now.items in
    let members : c.descend.new.members.items ≡ entered ways size kept = c.descend.ensures.members ∙ ap₂ (λ (w : List Way) l. entered w size l) c.as_slice-4.ensures.value c.as_slice-5.ensures.value in
    let steps : c.descend.new.steps.items ≡ a.steps.now.items ++ map (step_of ways) kept = c.descend.ensures.steps ∙ ap₂ (λ (w : List Way) l. a.steps.now.items ++ map (step_of w) l) c.as_slice-4.ensures.value c.as_slice-5.ensures.value in
    let count = ap length members ∙ length-entered ways size kept in
    let all = ap length steps ∙ length-append a.steps.now.items (map (step_of ways) kept) in
    let same = length-map kept (step_of ways) in
    omega arith

pub returns-clause-backward : goal.returns-clause-backward
returns-clause-backward g c = λ back.
    let dp = g.M.DpModel.meaning (g.M.DpModel.numbers c.args.model.now) in
    let a = c.args in
    let n = c.list_next.new in
    let ways = n.self.table.ways.items in
    let keys = n.self.keys.items in
    let h : HasListed dp a.k a.limits.threshold a.region.now a.members.now.items n.region n.self = subst (λ ms. HasListed dp a.k a.limits.threshold a.region.now ms n.region n.self) c.as_slice.ensures.value c.list_next.ensures.listed in
    let p = c.prune-more in
    let kept = p.new.kept.items in
    let done : HasPruned dp (a.k + 1) a.limits.width n.region keys kept p.result = subst (λ l. HasPruned dp (a.k + 1) a.limits.width n.region l kept p.result) c.as_slice-3.ensures.value p.ensures.pruned in
    let left : HasLeft n.region (key_rows keys) p.new.region (key_rows kept) = subst (λ l. HasLeft n.region (key_rows l) p.new.region (key_rows kept)) c.as_slice-3.ensures.value p.ensures.left in
    let steps : c.descend.new.steps.items ≡ a.steps.now.items ++ map (step_of ways) kept = c.descend.ensures.steps ∙ ap₂ (λ (w : List Way) l. a.steps.now.items ++ map (step_of w) l) c.as_slice-4.ensures.value c.as_slice-5.ensures.value in
    subst AreBackward (sym steps) (next-backward dp a.k a.limits.threshold a.region.now h.0 n.region a.members.now.items ways keys h.1 a.limits.width p.new.region kept p.result done left a.steps.now.items c.requires.reached back)

pub returns-clause-memory : goal.returns-clause-memory
returns-clause-memory g c = λ words count has.
    let h = c.list_next.ensures.memory words count has in
    let kept = c.prune-more.ensures.kept_capacity in
    let few = h.kept in
    record {
      parent = h.parent;
      table = h.table;
      keys = h.keys;
      kept = omega arith;
      small = h.small;
    }
