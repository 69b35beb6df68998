use Rattle.std.proofs.Common.{rules, ◌≡◌, ℕ, ◌<◌, length, get_or, refl, ap, subst, ◌∙◌, add-one}
use Rattle.std.proofs.lemmas.List.{get_or_read_under}
use Rattle.layer_candidates.specs.Table.{slot_of}
use Rattle.layer_candidates.proofs.Tops.{inserted}
use Rattle.layer_candidates.proofs.table.WayTable.enter.Goals as goal

pub returns-clause-table : goal.returns-clause-table
returns-clause-table c = λ t.
    let a = c.args in
    let t0 = a.self.now in
    let size : c.len.result ≡ length t0.heads.items = search rules in
    let count : c.len-count.result ≡ length t0.ways.items = search rules in
    let at : c.slot-at.result ≡ slot_of a.hash (length t0.heads.items) = c.slot-at.ensures.slot ∙ ap (slot_of a.hash) size in
    let first : c.slot-at.result < length t0.heads.items = subst (λ (n : ℕ). c.slot-at.result < n) size c.slot-at.ensures.within in
    let less : slot_of a.hash (length t0.heads.items) < length t0.heads.items = subst (λ (k : ℕ). k < length t0.heads.items) at first in
    let before : c.index.result.now ≡ get_or t0.heads.items c.slot-at.result 0 = get_or_read_under t0.heads.items c.slot-at.result (length t0.heads.items) c.index.result.now 0 c.index.ensures first refl in
    rw (before, at, count, add-one (length t0.ways.items)) (inserted (length t0.ways.items) a.hash t0.hashes.items t0.heads.items t0.next.items t c.requires.hashes c.requires.next less)
