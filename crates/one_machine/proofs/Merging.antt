-- States of a machine may be merged in any order.
use Rattle.std.proofs.Common.{◌≡◌, List, length, sym, ap, ◌∙◌, subst}
use Rattle.node_sets.specs.Sets.{words_for}
use Rattle.dp_model.specs.Laws.{MergesInAnyOrder}
use Rattle.pending_rows.specs.Pending.{shown, row_for, joined}
use Rattle.pending_rows.proofs.Joining.{joined-swapped, joined-regrouped, shown-joined}
use Rattle.one_machine.specs.Instance.{Job, numbers_of, instance_of}
use Rattle.one_machine.specs.Program.{program_of, program}
use Rattle.one_machine.specs.Laws.Program.{state-gives}

pub any_order_program : (jobs : List Job) → MergesInAnyOrder (program_of jobs)
any_order_program jobs = record {
  swapped = λ k a b one two. ap (row_for (words_for (length jobs))) (joined-swapped (shown (words_for (length jobs)) a) (shown (words_for (length jobs)) b));
  regrouped = λ k a b c one two three.
      let s = shown (words_for (length jobs)) a in
      let t = shown (words_for (length jobs)) b in
      let u = shown (words_for (length jobs)) c in
      let p = (state-gives (length jobs) k a one.test).bounded in
      let q = (state-gives (length jobs) k b two.test).bounded in
      let r = (state-gives (length jobs) k c three.test).bounded in
      ap (row_for (words_for (length jobs)))
      (ap (λ x. joined x u) (shown-joined (length jobs) s t p q) ∙ joined-regrouped s t u ∙ sym (ap (joined s) (shown-joined (length jobs) t u q r)));
}

pub any_order_numbers : (jobs : List Job) → instance_of (numbers_of jobs) ≡ jobs → MergesInAnyOrder (program (numbers_of jobs))
any_order_numbers jobs spelled = subst (λ (l : List Job). MergesInAnyOrder (program_of l)) (sym spelled) (any_order_program jobs)
