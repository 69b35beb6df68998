use Rattle.std.proofs.Common.{◌≡◌, ◌+◌, ◌-◌, ◌*◌, ℤ, pos, List, ◌++◌, length, replicate, Option, None, arith, sym, ap, ◌∙◌, subst}
use Rattle.std.proofs.lemmas.List.{length-append, length-replicate}
use Rattle.std.proofs.Math.Nat.{suc-mul}
use Rattle.row_region.specs.Layout.{slots, HasFreeChain}
use Rattle.row_region.proofs.Chains.{longer_chained, longer_slots}
use Rattle.row_region.proofs.free_list.FreeList.make_ready.Goals as goal

pub returns-then-self-clause-made : goal.returns-then-self-clause-made
returns-then-self-clause-made c = λ sound.
    let cells = c.args.cells.now.items in
    let words = c.args.words in
    let list = c.args.self.now in
    let fresh = list.fresh in
    let first = list.first in
    let given = list.given in
    let same = c.add_row.ensures.cells in
    let more = replicate words (pos 0) in
    let some = c.requires.some in
    let none = c.if-self-eq0.true in
    let last = c.if-self.true in
    let within = sound.within in
    let size : length c.add_row.new.cells.items ≡ (list.made + 1) * words =
    (let a = ap length same in let b = length-append cells more in let d = length-replicate words (pos 0) in let e = sound.size in let n = suc-mul list.made words in omega arith) in
    record {
      sound = record {
        chained = subst (λ (l : List ℤ). HasFreeChain l words fresh first given) (sym same) (longer_chained cells more words fresh sound.chained.positive sound.chained.room first given sound.chained);
        within = omega arith;
        enough = omega arith;
        few = sound.few;
        size = size;
      };
      places = ap (λ (l : List (Option (List ℤ))). l ++ replicate (c.args.count - fresh) None)
          (ap (λ (l : List ℤ). slots l words fresh first given) same ∙ longer_slots cells more words fresh sound.chained.positive sound.chained.room first given sound.chained);
    }
