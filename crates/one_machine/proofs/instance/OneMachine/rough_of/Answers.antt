use Rattle.std.proofs.Common.{rules, ◌≡◌, ℕ, ◌≤◌, ℤ, pos, neg_ℤ, ◌-ℤ◌, List, length, ap, ap₂, ◌∙◌, arith, FitsSigned, to_z, of_z, w64}
use Rattle.std.proofs.lemmas.Int.{ints, to_z-of_z}
use Rattle.node_sets.specs.Sums.{sum_below}
use Rattle.node_sets.specs.Sets.{has, words_for}
use Rattle.pending_rows.specs.Pending.{must_of, shown}
use Rattle.pending_rows.proofs.Written.{time_cell}
use Rattle.one_machine.specs.OwnWords.{penalty}
use Rattle.one_machine.proofs.instance.OneMachine.rough_of.Goals as goal

negated : (p q : ℕ) → p ≡ q → p ≤ 101000000000000 → to_z w64 (of_z w64 (pos 0 -ℤ to_z w64 p)) ≡ neg_ℤ (pos q)
negated p q e small =
    let fits : FitsSigned w64 (pos 0 -ℤ pos q) = omega (arith, ints) in
    rw (time_cell p q e (omega arith)) (to_z-of_z w64 (pos 0 -ℤ pos q) fits ∙ (let z : pos 0 -ℤ pos q ≡ neg_ℤ (pos q) = omega (arith, ints) in z))

pub returns : goal.returns
unfolding shown
returns c =
    let many : c.len.result ≡ length c.args.self.now.jobs.items = search rules in
    negated _ _ (c.penalties.ensures.value ∙ ap₂ (λ (r : List ℤ) (t : ℕ). sum_below (length c.args.self.now.jobs.items) (has r) (penalty c.args.self.now.jobs.items t))
    (c.parts_of.ensures.must ∙ ap (λ n. must_of (words_for n) c.args.s.now) many) c.time-time.ensures.value) c.penalties.ensures.small
