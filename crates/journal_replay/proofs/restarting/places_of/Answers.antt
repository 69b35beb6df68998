use Rattle.std.proofs.Common.{◌≡◌, ◌+◌, ◌∷◌, drop, map, sym, ◌∙◌, ap, subst, arith}
use Rattle.std.proofs.lemmas.List.{drop_more, drop_all}
use Rattle.journal_bytes.specs.Views.{listed_view}
use Rattle.journal_replay.specs.Places.{PlaceGives}
use Rattle.journal_replay.proofs.Listing.{ListsOn, lists-all, lists-more}
use Rattle.journal_replay.proofs.restarting.places_of.Goals as goal

pub loop-one-preserved : goal.loop-one-preserved
loop-one-preserved g c =
    let dp = g.M.DpModel.meaning (g.M.DpModel.numbers c.args.model.now) in
    let l = c.loop-one in
    let listed = c.args.listed.now in
    let one = c.one-item.result in
    let rest = map listed_view (drop (l.one-index + 1) listed) in
    let all = map listed_view listed in
    let p = c.in-Some.place in
    let front : drop l.one-index listed ≡ one ∷ drop (l.one-index + 1) listed = drop_more listed l.one-index one (omega arith) ∙ (λ i. sym c.one-item.is i ∷ drop (l.one-index + 1) listed) in
    let on = subst (λ os. ListsOn dp l.least c.args.next l.places.items os all) (ap (map listed_view) front) l.invariant.on in
    record {
      on = subst (λ ps. ListsOn dp (p.ticket + 1) c.args.next ps rest all) (sym c.in_ok-push.ensures.items) (lists-more dp l.least c.args.next l.places.items (listed_view one) rest all p on (subst (PlaceGives dp l.least c.args.next (listed_view one)) c.in-Some.is c.in_ok-place.ensures));
      cells = c.place_of.auto.spare ∙ l.invariant.cells;
    }

pub returns : goal.returns
returns g c =
    let dp = g.M.DpModel.meaning (g.M.DpModel.numbers c.args.model.now) in
    let l = c.loop-one in
    let all = map listed_view c.args.listed.now in
    lists-all dp l.least c.args.next l.places.items all
    (subst (λ os. ListsOn dp l.least c.args.next l.places.items os all) (ap (map listed_view) (drop_all l.one-index c.args.listed.now c.loop-one-test.false)) l.invariant.on)
