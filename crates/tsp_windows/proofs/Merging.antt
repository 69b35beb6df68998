-- States of a tour may be merged in any order.
use Rattle.std.proofs.Common.{◌≡◌, ℕ, Bool, sym, ap, ap₂, ◌∙◌, subst}
use Rattle.std.proofs.Math.Bool.{or_comm, or_assoc}
use Rattle.std.proofs.Math.Path.{fun_ext}
use Rattle.node_sets.specs.Sets.{words_for}
use Rattle.dp_model.specs.Laws.{MergesInAnyOrder}
use Rattle.pending_rows.specs.Pending.{Pending}
use Rattle.pending_rows.proofs.Joining as row_laws
use Rattle.tsp_windows.specs.Instance.{Instance, numbers_of, instance_of}
use Rattle.tsp_windows.specs.States.{TourState, shown, row_for, joined}
use Rattle.tsp_windows.specs.Program.{program_of, program}
use Rattle.tsp_windows.specs.Laws.States.{IsWithinNodes, shown-row_for}
use Rattle.tsp_windows.specs.Laws.Moves.{joined-bounded}
use Rattle.tsp_windows.specs.Laws.Program.{state_row-gives}

-- states with the same positions and the same that is pending are one
same_state : (a b : TourState) → a.positions ≡ b.positions → a.pending ≡ b.pending → a ≡ b
same_state a b positions pending =
    ap₂ (λ (p : ℕ → Bool) (r : Pending). let t : TourState = record { positions = p; pending = r } in t) positions pending

joined-swapped : (a b : TourState) → joined a b ≡ joined b a
unfolding joined
joined-swapped a b =
    same_state (joined a b) (joined b a) (fun_ext (λ v. or_comm (a.positions v) (b.positions v))) (row_laws.joined-swapped a.pending b.pending)

joined-regrouped : (a b c : TourState) → joined (joined a b) c ≡ joined a (joined b c)
unfolding joined
joined-regrouped a b c =
    same_state (joined (joined a b) c) (joined a (joined b c))
    (fun_ext (λ v. or_assoc (a.positions v) (b.positions v) (c.positions v))) (row_laws.joined-regrouped a.pending b.pending c.pending)

shown-joined : (n : ℕ) (a b : TourState) → IsWithinNodes n a → IsWithinNodes n b → shown (words_for n) (row_for (words_for n) (joined a b)) ≡ joined a b
shown-joined n a b p q = shown-row_for n (joined a b) (joined-bounded n a b p q)

pub any_order_program : (i : Instance) → MergesInAnyOrder (program_of i)
any_order_program i = record {
  swapped = λ k a b one two. ap (row_for (words_for i.nodes)) (joined-swapped (shown (words_for i.nodes) a) (shown (words_for i.nodes) b));
  regrouped = λ k a b c one two three.
      let s = shown (words_for i.nodes) a in
      let t = shown (words_for i.nodes) b in
      let u = shown (words_for i.nodes) c in
      let p = (state_row-gives i.nodes a one.test).bounded in
      let q = (state_row-gives i.nodes b two.test).bounded in
      let r = (state_row-gives i.nodes c three.test).bounded in
      ap (row_for (words_for i.nodes))
      (ap (λ x. joined x u) (shown-joined i.nodes s t p q) ∙ joined-regrouped s t u ∙ sym (ap (joined s) (shown-joined i.nodes t u q r)));
}

pub any_order_numbers : (i : Instance) → instance_of (numbers_of i) ≡ i → MergesInAnyOrder (program (numbers_of i))
any_order_numbers i spelled = subst (λ (j : Instance). MergesInAnyOrder (program_of j)) (sym spelled) (any_order_program i)
