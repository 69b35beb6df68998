use Rattle.std.proofs.Common.{rules, ◌≡◌, ℕ, ℤ, ◌<◌, ◌∷◌, ◌++◌, [], List, drop, length, take, sym, ap, subst, ◌∙◌, inl, arith}
use Rattle.std.proofs.lemmas.List.{with_items_is}
use Rattle.layer_candidates.specs.declared.way.Way.{Way}
use Rattle.layer_candidates.specs.HeldRows.{held_row}
use Rattle.layer_candidates.specs.Table.{HaveHash, IsRowFound, IsPlaced}
use Rattle.layer_candidates.specs.Ways.{rows_of, way_row, all_reached, bettered, AreJoined}
use Rattle.layer_candidates.proofs.Joined.{zeros-same, pushed-joined, pushed-list, rows-bettered, length-bettered, bettered-before, bettered-joined, bettered-list, strict}
use Rattle.layer_candidates.proofs.table.WayTable.take_in.Goals as goal

-- what was found, in the words of the arguments
found : (region : _) (live : ℕ) (ways : List Way) (row new : List ℤ) (place : ℕ) → new ≡ drop live row
    → IsRowFound (way_row region ways) live (length ways) new place → IsRowFound (way_row region ways) live (length ways) (drop live row) place
found region live ways row new place is h = subst (λ (n : List ℤ). IsRowFound (way_row region ways) live (length ways) n place) is h

pub find-place-requires-clause-hash : goal.find-place-requires-clause-hash
find-place-requires-clause-hash c =
    let a = c.args in
    subst (λ (n : List ℤ). HaveHash (way_row a.region.now a.self.now.ways.items) a.self.now.live (length a.self.now.ways.items) n a.way.hash a.self.now.hashes.items) (sym c.live_cells_of-new.ensures) c.requires.hash

pub returns-then-place-count-clause-joined : goal.returns-then-place-count-clause-joined
returns-then-place-count-clause-joined c = λ dp k j one.
    let a = c.args in
    let ways = a.self.now.ways.items in
    let row = held_row a.region.now a.way.row in
    let size : c.len-count.result ≡ length ways = search rules in
    let h = found a.region.now a.self.now.live ways row c.live_cells_of-new.result.now c.find-place.result c.live_cells_of-new.ensures c.find-place.ensures in
    let items : c.push_reserved.new.self.items ≡ ways ++ a.way ∷ [] = c.push_reserved.ensures.items ∙ ap (λ v. v.items ++ a.way ∷ []) c.enter.ensures.ways in
    subst (λ v. AreJoined dp k (way_row a.region.now c.push_reserved.new.self.items) v c.push_reserved.new.self.items c.enter.new.self.hashes.items c.enter.new.self.heads.items c.enter.new.self.next.items) (sym c.enter.ensures.live)
    (subst (λ l. AreJoined dp k (way_row a.region.now l) a.self.now.live l c.enter.new.self.hashes.items c.enter.new.self.heads.items c.enter.new.self.next.items) (sym items)
    (pushed-joined a.region.now ways a.way dp k a.self.now.live a.self.now.hashes.items a.self.now.heads.items a.self.now.next.items c.enter.new.self.hashes.items c.enter.new.self.heads.items c.enter.new.self.next.items (let hold = c.requires.room.ways.hashes_hold in omega arith) c.enter.ensures.hashes (h.none (c.if-place-count.true ∙ size)) j one
    c.enter.ensures.table))

pub returns-then-place-count-clause-list : goal.returns-then-place-count-clause-list
returns-then-place-count-clause-list c = λ paths apart.
    let a = c.args in
    let ways = a.self.now.ways.items in
    let size : c.len-count.result ≡ length ways = search rules in
    let h = found a.region.now a.self.now.live ways (held_row a.region.now a.way.row) c.live_cells_of-new.result.now c.find-place.result c.live_cells_of-new.ensures c.find-place.ensures in
    let items : c.push_reserved.new.self.items ≡ ways ++ a.way ∷ [] = c.push_reserved.ensures.items ∙ ap (λ v. v.items ++ a.way ∷ []) c.enter.ensures.ways in
    ap (λ l. all_reached paths (way_row a.region.now l) l) items ∙ pushed-list a.region.now ways a.way a.self.now.live (h.none (c.if-place-count.true ∙ size)) paths

less_of : (c : goal.After-self-1) → c.find-place.result < length c.args.self.now.ways.items
less_of c =
    let a = c.args in
    let ways = a.self.now.ways.items in
    let size : c.len-count.result ≡ length ways = search rules in
    let h = found a.region.now a.self.now.live ways (held_row a.region.now a.way.row) c.live_cells_of-new.result.now c.find-place.result c.live_cells_of-new.ensures c.find-place.ensures in
    strict c.find-place.result (length ways) h.within (λ e. c.if-place-count.false (e ∙ sym size))

same_of : (c : goal.After-self-1) → way_row c.args.region.now c.args.self.now.ways.items c.find-place.result ≡ held_row c.args.region.now c.args.way.row
same_of c =
    let a = c.args in
    let h = found a.region.now a.self.now.live a.self.now.ways.items (held_row a.region.now a.way.row) c.live_cells_of-new.result.now c.find-place.result c.live_cells_of-new.ensures c.find-place.ensures in
    zeros-same a.self.now.live _ _ (c.requires.zeros c.find-place.result (less_of c)) c.requires.new_zeros (h.same (less_of c))

items_of : (c : goal.After-self-1) → take c.args.self.now.ways.len (c.better.new.ways ++ drop (length c.better.new.ways) c.args.self.now.ways.items) ≡ bettered c.args.self.now.ways.items c.find-place.result c.args.way
items_of c =
    let a = c.args in
    let is : c.better.new.ways ≡ bettered a.self.now.ways.items c.find-place.result a.way = search rules in
    let count = length-bettered (way_row a.region.now a.self.now.ways.items) a.self.now.ways.items a.way (held_row a.region.now a.way.row) c.find-place.result in
    let whole : length c.better.new.ways ≡ a.self.now.ways.len = ap length is ∙ (count ∙ search rules) in
    with_items_is a.self.now.ways c.better.new.ways whole ∙ is

pub returns-else-place-count-clause-joined : goal.returns-else-place-count-clause-joined
returns-else-place-count-clause-joined c = λ dp k j one.
    let a = c.args in
    subst (λ l. AreJoined dp k (way_row a.region.now l) a.self.now.live l a.self.now.hashes.items a.self.now.heads.items a.self.now.next.items) (sym (items_of c))
    (bettered-joined a.region.now a.self.now.ways.items a.way c.find-place.result (less_of c) (same_of c) dp k a.self.now.live a.self.now.hashes.items a.self.now.heads.items a.self.now.next.items j one)

pub returns-else-place-count-clause-list : goal.returns-else-place-count-clause-list
returns-else-place-count-clause-list c = λ paths apart.
    let a = c.args in
    ap (λ l. all_reached paths (way_row a.region.now l) l) (items_of c) ∙ bettered-list a.region.now a.self.now.ways.items a.way c.find-place.result (less_of c) (same_of c) paths apart

pub returns-else-place-count-clause-place : goal.returns-else-place-count-clause-place
returns-else-place-count-clause-place c =
    let a = c.args in
    let less = less_of c in
    let count = length-bettered (way_row a.region.now a.self.now.ways.items) a.self.now.ways.items a.way (held_row a.region.now a.way.row) c.find-place.result in
    subst (λ (l : List Way). IsPlaced (way_row a.region.now l) (length a.self.now.ways.items) (length l) (held_row a.region.now a.way.row) c.find-place.result) (sym (items_of c)) (record {
      same = bettered-before a.region.now a.self.now.ways.items a.way c.find-place.result less (same_of c) c.find-place.result less ∙ same_of c;
      grown = inl (less, count);
    })

pub returns-else-place-count-clause-old : goal.returns-else-place-count-clause-old
returns-else-place-count-clause-old c = λ less.
    let a = c.args in
    ap rows_of (items_of c) ∙ rows-bettered (way_row a.region.now a.self.now.ways.items) a.self.now.ways.items a.way (held_row a.region.now a.way.row) c.find-place.result less
