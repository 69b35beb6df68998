use Rattle.std.proofs.Common.{rules, ◌≡◌, ◌+◌, length, List, Option, ◌∙◌, ap, subst, arith}
use Rattle.std.proofs.lemmas.List.{length-map}
use Rattle.row_region.specs.Region.{RegionView}
use Rattle.fringe.specs.Tickets.{Ticketed}
use Rattle.fringe.specs.Slots.{AreIndexed, in_slot, key_of, opened}
use Rattle.fringe.proofs.Stores.{stored_longer}
use Rattle.fringe.proofs.growing.more_slots.Goals as goal

pub returns-clause-stored : goal.returns-clause-stored
returns-clause-stored c =
    let s = c.args.store.now in
    let h = c.requires.stored in
    let kept = c.in_ok-reserve.ensures.items in
    let grown = c.in_ok-grow.ensures.ok in
    let rows : c.rows-rows.result ≡ length s.slots.items = c.rows-rows.ensures.rows ∙ ap length h.keyed ∙ length-map s.slots.items key_of in
    stored_longer s.words s.spare c.max-more.result s.slots.items c.push_empty.new.slots.items s.keys c.grow.new.self s.ranks s.index c.in_ok-index.index h
    (λ i. c.push_empty.ensures.slots i ∙ ap (λ (l : List (Option Ticketed)). in_slot l i) kept)
    (c.push_empty.ensures.keys ∙ (search rules))
    (c.push_empty.ensures.len ∙ ap (λ (l : List (Option Ticketed)). length l + c.max-more.result) kept)
    (ap (λ (v : RegionView). v.rows) grown) (ap (λ (v : RegionView). v.words) grown) (ap (λ (v : RegionView). v.spare) grown)
    (subst (λ (l : List (Option Ticketed)). AreIndexed l c.in_ok-index.index.nodes) (c.as_slice.ensures.value ∙ kept) c.in_ok-index.ensures.entered)
    (let a = c.in_ok-index.ensures.room in let x = c.saturating_add-slots.ensures in let y = c.saturating_add-room.ensures in let w = c.in_ok-reserve.ensures.ok in let v = c.reserve.new.self.small in let m = c.rows-rows.ensures.most in let len = s.slots.ok.0 in omega arith)

pub returns-clause-opened : goal.returns-clause-opened
returns-clause-opened c = c.push_empty.ensures.opened ∙ ap opened c.in_ok-reserve.ensures.items
