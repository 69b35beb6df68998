-- One more entry.
use Rattle.std.proofs.Common.{ℕ, List, length, ◌∙◌, ap, arith}
use Rattle.fringe.specs.declared.index.Node.{Node}
use Rattle.fringe.specs.Index.{HasEntered}
use Rattle.fringe.specs.Slots.{IsIndexed}

pub entered_more : (old new : List Node) (fold slot s h : ℕ) → HasEntered old new fold slot → IsIndexed old s h → IsIndexed new s h
entered_more old new fold slot s h more e = record {
  place = e.place;
  within = (let a = more.len in let b = e.within in omega arith);
  slot_is = ap (λ (n : Node). n.slot) (more.kept e.place e.within) ∙ e.slot_is;
  fold_is = ap (λ (n : Node). n.fold) (more.kept e.place e.within) ∙ e.fold_is;
}

pub entered_here : (old new : List Node) (fold slot : ℕ) → HasEntered old new fold slot → IsIndexed new slot fold
entered_here old new fold slot more = record {
  place = length old;
  within = (let a = more.len in omega arith);
  slot_is = more.slot_is;
  fold_is = more.fold_is;
}
