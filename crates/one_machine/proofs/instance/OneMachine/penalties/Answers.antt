use Rattle.std.proofs.Common.{ℕ, ◌+◌, ◌*◌, ◌≤◌, List, ℤ, length, sym, ap₂, ◌∙◌, arith}
use Rattle.node_sets.specs.Sums.{sum_below}
use Rattle.node_sets.specs.Sets.{has}
use Rattle.node_sets.proofs.Below.{sum_below-le, sum_below-next, sum_below-skip}
use Rattle.pending_rows.proofs.RowStates.{inside_set}
use Rattle.one_machine.specs.Instance.{Job}
use Rattle.one_machine.specs.OwnWords.{penalty}
use Rattle.one_machine.specs.Laws.Limits.{IsSmallInstance, is_small-is, penalty-most}
use Rattle.one_machine.proofs.instance.OneMachine.penalties.Goals as goal

-- what this many first members cost
most : (jobs : List Job) (members : List ℤ) (from time : ℕ) → IsSmallInstance jobs → time ≤ 10000000 → sum_below from (has members) (penalty jobs time) ≤ from * 1010000000000
most jobs members from time small early = sum_below-le from (has members) (penalty jobs time) 1010000000000 (λ v l. penalty-most jobs time v small early)

pub overflow_add-total : goal.overflow_add-total
overflow_add-total c =
    let m = c.args.self.now in
    let sum = most m.jobs.items c.args.members.now c.members.rest.from c.args.time (is_small-is m.jobs.items m.small) c.requires.early in
    record { fits = omega (arith, sum, c.members.invariant.total, c.members.invariant.from, c.penalty-total.ensures.small, m.few) }

pub members-preserved : goal.members-preserved
members-preserved c =
    let jobs = c.args.self.now.jobs.items in
    let next = rw c.members.invariant.row at c.in-Some.ensures.next in
    let inside = inside_set (length c.args.self.now.jobs.items) c.args.members.now c.in-Some.job c.requires.set next.passes in
    record {
      row = c.in-Some.ensures.row ∙ c.members.invariant.row;
      from = rw c.in-Some.ensures.from (omega (arith, inside));
      total = rw c.in-Some.ensures.from (ap₂ ◌+◌ c.members.invariant.total c.penalty-total.ensures.value
          ∙ sym (sum_below-next c.members.rest.from c.in-Some.job (has c.args.members.now) (penalty c.args.self.now.jobs.items c.args.time) next.reached next.skipped next.passes));
    }

pub returns-clause-value : goal.returns-clause-value
returns-clause-value c =
    let none = rw c.members.invariant.row at c.in_default.ensures.none in
    c.members.invariant.total ∙ sym (sum_below-skip c.members.rest.from (length c.args.self.now.jobs.items) (has c.args.members.now) (penalty c.args.self.now.jobs.items c.args.time) c.members.invariant.from (λ v a b. none v a))

pub returns-clause-small : goal.returns-clause-small
returns-clause-small c =
    let m = c.args.self.now in
    let sum = most m.jobs.items c.args.members.now c.members.rest.from c.args.time (is_small-is m.jobs.items m.small) c.requires.early in
    omega (arith, sum, c.members.invariant.total, c.members.invariant.from, m.few)
