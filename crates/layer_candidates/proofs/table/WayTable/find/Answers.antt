use Rattle.std.proofs.Common.{rules, ◌≡◌, ◌≢◌, ℕ, ◌-◌, ◌<◌, length, get_or, refl, ap, subst, ◌∙◌, arith}
use Rattle.std.proofs.lemmas.List.{get_or_read_under}
use Rattle.layer_candidates.specs.Rows.{live_at}
use Rattle.layer_candidates.specs.Table.{slot_of}
use Rattle.layer_candidates.specs.Ways.{way_row}
use Rattle.layer_candidates.proofs.Tops.{search_starts, search_steps, search_smaller, true_false}
use Rattle.layer_candidates.proofs.table.WayTable.find.Goals as goal

pub chain-init : goal.chain-init
chain-init c =
    let a = c.args in
    let t = a.self.now in
    let size : c.len.result ≡ length t.heads.items = search rules in
    let at : c.slot.result ≡ slot_of a.hash (length t.heads.items) = c.slot.ensures.slot ∙ ap (slot_of a.hash) size in
    let first : c.slot.result < length t.heads.items = subst (λ (n : ℕ). c.slot.result < n) size c.slot.ensures.within in
    let less : slot_of a.hash (length t.heads.items) < length t.heads.items = subst (λ (k : ℕ). k < length t.heads.items) at first in
    let head : c.index.result.now ≡ get_or t.heads.items c.slot.result 0 = get_or_read_under t.heads.items c.slot.result (length t.heads.items) c.index.result.now 0 c.index.ensures first refl in
    rw (head, at) (search_starts (way_row a.region.now t.ways.items) t.live (length t.ways.items) a.new.now a.hash t.hashes.items t.heads.items t.next.items c.requires.table less)

pub chain-smaller : goal.chain-smaller
chain-smaller c =
    let a = c.args in
    let t = a.self.now in
    let within = c.chain.invariant.within in
    let some = c.chain-test.true in
    let size = c.requires.table.next_size in
    let next : c.index-in-chain.result.now ≡ get_or t.next.items (c.chain.i - 1) 0 = get_or_read_under t.next.items (c.chain.i - 1) (length t.next.items) c.index-in-chain.result.now 0 c.index-in-chain.ensures (omega arith) refl in
    rw next (search_smaller (way_row a.region.now t.ways.items) t.live (length t.ways.items) a.new.now a.hash t.hashes.items t.heads.items t.next.items c.chain.i c.requires.table c.chain.invariant c.chain-test.true)

pub chain-preserved : goal.chain-preserved
chain-preserved c =
    let a = c.args in
    let t = a.self.now in
    let within = c.chain.invariant.within in
    let some = c.chain-test.true in
    let size = c.requires.table.next_size in
    let next : c.index-in-chain.result.now ≡ get_or t.next.items (c.chain.i - 1) 0 = get_or_read_under t.next.items (c.chain.i - 1) (length t.next.items) c.index-in-chain.result.now 0 c.index-in-chain.ensures (omega arith) refl in
    let other : live_at (way_row a.region.now t.ways.items) t.live (c.chain.i - 1) ≢ a.new.now = λ e. true_false c.is_at.result (c.is_at.ensures.1 e) c.if-is_at.false in
    rw next (search_steps (way_row a.region.now t.ways.items) t.live (length t.ways.items) a.new.now a.hash t.hashes.items t.heads.items t.next.items c.chain.i c.requires.table c.chain.invariant c.chain-test.true other)
