use Rattle.std.proofs.Common.{◌≡◌, ◌+◌, nat_le, sym, ap, ap₂, ◌∙◌, arith}
use Rattle.node_sets.specs.Sets.{words_for}
use Rattle.tsp_windows.specs.Instance.{closing}
use Rattle.std.specs.Prelude.{unwrap_or}
use Rattle.tsp_windows.specs.States.{shown}
use Rattle.tsp_windows.specs.Shown.{instance_in}
use Rattle.tsp_windows.proofs.Following.{in_time_is, in_time_at, in_time_small, none_left, some_left}
use Rattle.tsp_windows.proofs.StateLemmas.{return_elsewhere, return_no, return_some, return_alone, return_nowhere}
use Rattle.tsp_windows.proofs.instance.TspWindows.returned.Goals as goal

pub returns-then-rank-ne0-clause-allowed : goal.returns-then-rank-ne0-clause-allowed
returns-then-rank-ne0-clause-allowed c =
    sym (return_no (instance_in c.args.self.now) (shown (words_for c.args.self.now.nodes) c.args.s.now) c.args.to
    (some_left c.args.self.now.nodes (words_for c.args.self.now.nodes) c.args.s.now c.args.rank c.requires.rank c.if-rank-ne0.true))

pub returns-in-Some-clause-allowed : goal.returns-in-Some-clause-allowed
returns-in-Some-clause-allowed c =
    in_time_is _ _ c.in_time.ensures
    ∙ ap (λ at. nat_le at (closing (instance_in c.args.self.now) c.args.to)) (ap₂ ◌+◌ c.time_of-time.ensures.value c.from.ensures)
    ∙ return_some (instance_in c.args.self.now) (shown (words_for c.args.self.now.nodes) c.args.s.now) c.args.to c.in-Some.way c.if-to-ne0.false
    (none_left c.args.self.now.nodes (words_for c.args.self.now.nodes) c.args.s.now c.args.rank c.args.self.now.few c.requires.rank c.if-rank-ne0.false)
    (sym c.leg.ensures ∙ c.in-Some.is)

pub returns-then-to-ne0-clause-allowed : goal.returns-then-to-ne0-clause-allowed
returns-then-to-ne0-clause-allowed c = sym (return_elsewhere (instance_in c.args.self.now) (shown (words_for c.args.self.now.nodes) c.args.s.now) c.args.to c.if-to-ne0.true)

pub overflow_add-time : goal.overflow_add-time
overflow_add-time c = omega (arith, c.time_of-time.ensures.early, c.from.ensures)

pub in_time-requires-clause-small : goal.in_time-requires-clause-small
in_time-requires-clause-small c = omega (arith, c.time_of-time.ensures.early, c.from.ensures)

pub in_time-requires-then-self-eq1-clause-small : goal.in_time-requires-then-self-eq1-clause-small
in_time-requires-then-self-eq1-clause-small c = omega (arith, c.time_of-time.ensures.early)

pub returns-in-Some-clause-arrival : goal.returns-in-Some-clause-arrival
returns-in-Some-clause-arrival c =
    in_time_at _ _ _ c.in_time.ensures
    (ap₂ ◌+◌ c.time_of-time.ensures.value (c.from.ensures ∙ ap (λ o. unwrap_or o 0) (sym c.in-Some.is ∙ c.leg.ensures)))

pub returns-in-Some-clause-small : goal.returns-in-Some-clause-small
returns-in-Some-clause-small c = in_time_small _ _ c.in_time.ensures (omega (arith, c.time_of-time.ensures.early, c.from.ensures))

pub returns-then-self-eq1-clause-allowed : goal.returns-then-self-eq1-clause-allowed
returns-then-self-eq1-clause-allowed c =
    in_time_is _ _ c.in_time-then-self-eq1.ensures
    ∙ ap (λ at. nat_le at (closing (instance_in c.args.self.now) c.args.to)) c.time_of-time.ensures.value
    ∙ return_alone (instance_in c.args.self.now) (shown (words_for c.args.self.now.nodes) c.args.s.now) c.args.to c.if-to-ne0.false
    (none_left c.args.self.now.nodes (words_for c.args.self.now.nodes) c.args.s.now c.args.rank c.args.self.now.few c.requires.rank c.if-rank-ne0.false)
    (sym c.leg.ensures ∙ c.in-None.is) c.if-self-eq1.true

pub returns-then-self-eq1-clause-arrival : goal.returns-then-self-eq1-clause-arrival
returns-then-self-eq1-clause-arrival c =
    let same : c.time_of-time.result ≡ c.time_of-time.result + 0 = omega arith in
    in_time_at _ _ _ c.in_time-then-self-eq1.ensures (same ∙ ap₂ ◌+◌ c.time_of-time.ensures.value (ap (λ o. unwrap_or o 0) (sym c.in-None.is ∙ c.leg.ensures)))

pub returns-then-self-eq1-clause-small : goal.returns-then-self-eq1-clause-small
returns-then-self-eq1-clause-small c = in_time_small _ _ c.in_time-then-self-eq1.ensures (omega (arith, c.time_of-time.ensures.early))

pub returns-else-self-eq1-clause-allowed : goal.returns-else-self-eq1-clause-allowed
returns-else-self-eq1-clause-allowed c =
    sym (return_nowhere (instance_in c.args.self.now) (shown (words_for c.args.self.now.nodes) c.args.s.now) c.args.to (sym c.leg.ensures ∙ c.in-None.is) c.if-self-eq1.false)
