use Rattle.std.proofs.Common.{◌≡◌, ℕ, Some, arith, inl, inr, sym, subst}
use Rattle.std.proofs.lemmas.Bool.{cases_eq}
use Rattle.fringe.specs.Slots.{IsIndexed, in_slot, own_fold}
use Rattle.fringe.proofs.reindexing.reindex.Goals as goal

pub loop-slot-preserved : goal.loop-slot-preserved
loop-slot-preserved c =
    let i = c.loop-slot.invariant in
    let e = c.enter_slot.ensures in
    record {
      room = (let a = i.room in let b = e.room in omega arith);
      len = (let a = i.len in let b = e.len in omega arith);
      entered = λ s o less at. elim (cases_eq s c.loop-slot.slot) [
        | inl same ↦ subst (λ (n : ℕ). IsIndexed c.enter_slot.new.index.nodes n (own_fold o)) (sym same) (e.entered o (subst (λ (n : ℕ). in_slot c.args.slots.now n ≡ Some o) same at))
        | inr other ↦ e.kept s _ (i.entered s o (omega arith) at)
      ];
    }
