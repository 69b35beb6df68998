use Rattle.std.proofs.Common.{◌≡◌, ℕ, ◌+◌, length, take, Option, Some, None, inl, inr, refl, sym, ◌∙◌, ap, subst, arith, Contains}
use Rattle.std.proofs.lemmas.Bool.{cases_eq}
use Rattle.fringe.specs.Tickets.{Ticketed}
use Rattle.fringe.specs.Slots.{in_slot, opened, rank_of}
use Rattle.fringe.proofs.Lengths.{some_count, none_count, taken_count}
use Rattle.fringe.proofs.reranking.rerank.Goals as goal

pub rank_slot-requires : goal.rank_slot-requires
rank_slot-requires c o at =
    let i = c.loop-slot.invariant in
    let slots = c.args.slots.now in
    let one = some_count slots c.loop-slot.slot o at in
    let most = taken_count slots (c.loop-slot.slot + 1) in
    let len = i.len in let room = i.room in let all = c.requires.room in let kept = c.clear.ensures.room in
    omega arith

pub loop-slot-preserved : goal.loop-slot-preserved
loop-slot-preserved c =
    let i = c.loop-slot.invariant in
    let e = c.rank_slot.ensures in
    let slots = c.args.slots.now in
    let slot = c.loop-slot.slot in
    let new = c.rank_slot.new.ranks in
    let len : (x : Option Ticketed) → in_slot slots slot ≡ x → new.len ≡ length (opened (take (slot + 1) slots)) =
    λ x. elim x as (λ x. in_slot slots slot ≡ x → new.len ≡ length (opened (take (slot + 1) slots))) [
      | None ↦ λ at. e.none at ∙ (i.len ∙ sym (none_count slots slot at))
      | Some o ↦ λ at. e.more o at ∙ (ap (λ n. n + 1) i.len ∙ sym (some_count slots slot o at))
    ] in
    record {
      room = (let a = i.room in let b = e.room in omega arith);
      len = len (in_slot slots slot) refl;
      ranked = λ s o less at. elim (cases_eq s slot) as (λ _. Contains new.ranks (rank_of s o)) [
        | inl same ↦ subst (λ (n : ℕ). Contains new.ranks (rank_of n o)) (sym same) (e.ranked o (subst (λ (n : ℕ). in_slot slots n ≡ Some o) same at))
        | inr other ↦ e.kept (rank_of s o) (i.ranked s o (omega arith) at)
      ];
    }
