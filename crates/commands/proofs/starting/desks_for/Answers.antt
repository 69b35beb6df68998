use Rattle.std.proofs.Common.{◌≡◌, List, arith, subst, sym}
use Rattle.std.proofs.lemmas.List.Elements.{All-push}
use Rattle.std.specs.List.{All}
use Rattle.search_workers.specs.Prepared.{IsPreparedDesk}
use Rattle.search_workers.specs.declared.desk.Desk.{Desk}
use Rattle.commands.specs.Desks.{book_for}
use Rattle.commands.proofs.starting.desks_for.Goals as goal

pub loop-made-preserved : goal.loop-made-preserved
loop-made-preserved g c =
    let dp = g.M.DpModel.meaning (g.M.DpModel.numbers c.args.model.now) in
    let D : Desk → Type 0 = IsPreparedDesk dp c.args.width in
    let K : Desk → Type 0 = λ desk. desk.kind ≡ c.args.search.cutset in
    let B : Desk → Type 0 = λ desk. desk.book ≡ book_for dp c.args.search in
    let P : Desk → Type 0 = λ desk. desk.parts ≡ c.args.search.parts in
    let i = c.loop-made.invariant in
    let made = c.in_ok-desk_for in
    let e = c.push_reserved-in-loop-made.ensures in (
      omega (arith, i.0, e.len),
      omega (arith, c.loop-made-test.true, c.loop-made.auto),
      omega (arith, i.2, e.capacity),
      subst (λ (xs : List Desk). All D xs) (sym {A = List Desk} e.items) (All-push D c.loop-made.desks.items made.field-0 i.3 made.ensures.desk),
      i.4,
      subst (λ (xs : List Desk). All K xs) (sym {A = List Desk} e.items) (All-push K c.loop-made.desks.items made.field-0 i.5 made.ensures.kind),
      subst (λ (xs : List Desk). All B xs) (sym {A = List Desk} e.items) (All-push B c.loop-made.desks.items made.field-0 i.6 made.ensures.book),
      subst (λ (xs : List Desk). All P xs) (sym {A = List Desk} e.items) (All-push P c.loop-made.desks.items made.field-0 i.7 made.ensures.parts),
    )
