use Rattle.std.proofs.Common.{◌≡◌, ◌-◌, ℕ, suc, sym, subst, arith, add-one}
use Rattle.row_region.specs.Layout.{IsSound}
use Rattle.row_region.specs.Popping.{HasPopped}
use Rattle.row_region.proofs.Live.{first_free, given_room, popped_fresh, popped_given}
use Rattle.row_region.proofs.free_list.FreeList.pop.Goals as goal

pub next-self-requires-clause-within : goal.next-self-requires-clause-within
next-self-requires-clause-within c =
    let h = given_room _ _ _ _ _ _ _ c.requires.sound c.if-self-eq0.false in
    let a = c.args.cells.now.ok.0 in let s = c.requires.sound.chained.positive in
    omega arith

pub next-self-requires-clause-positive : goal.next-self-requires-clause-positive
next-self-requires-clause-positive c = (first_free _ _ _ _ _ c.requires.sound.chained c.if-self-eq0.false).positive

pub next-self-requires-clause-small : goal.next-self-requires-clause-small
next-self-requires-clause-small c = (first_free _ _ _ _ _ c.requires.sound.chained c.if-self-eq0.false).small

pub returns-then-self-eq0-clause-popped : goal.returns-then-self-eq0-clause-popped
returns-then-self-eq0-clause-popped c =
    let list = c.args.self.now in
    let none = c.if-self-eq0.true in
    rw (none, add-one list.fresh) (popped_fresh c.args.cells.now.items c.args.words list.made c.args.count list.fresh list.first (subst (IsSound c.args.cells.now.items c.args.words list.made c.args.count list.fresh list.first) none c.requires.sound) (c.requires.ready none))

pub returns-else-self-eq0-clause-popped : goal.returns-else-self-eq0-clause-popped
returns-else-self-eq0-clause-popped c =
    let cells = c.args.cells.now.items in
    let list = c.args.self.now in
    let some = c.if-self-eq0.false in
    let more : list.given ≡ suc (list.given - 1) = omega arith in
    let popped = popped_given cells c.args.words list.made c.args.count list.fresh list.first (list.given - 1) (subst (IsSound cells c.args.words list.made c.args.count list.fresh list.first) more c.requires.sound) in
    subst (λ (g : ℕ). HasPopped cells c.args.words list.made c.args.count list.fresh list.first g list.first list.fresh c.next-self.result (list.given - 1)) (sym more)
    (subst (λ (n : ℕ). HasPopped cells c.args.words list.made c.args.count list.fresh list.first (suc (list.given - 1)) list.first list.fresh n (list.given - 1)) (sym c.next-self.ensures) popped)
