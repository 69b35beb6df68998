use Rattle.std.proofs.Common.{◌≡◌, ◌∙◌, sym, w64, to_z, of_z, rules}
use Rattle.answers.proofs.Conclusions.{over_distance}
use Rattle.answers.proofs.concluding.outcome_of.Goals as goal

pub returns-then-is_explored-clause-ends : goal.returns-then-is_explored-clause-ends
returns-then-is_explored-clause-ends g c = λ own agrees. c.explored.ensures.ends own agrees c.args.search.budget

pub explored-requires-clause-distance : goal.explored-requires-clause-distance
explored-requires-clause-distance g c κs within =
    let read : to_z w64 (of_z w64 c.args.search.within) ≡ c.args.search.within = search rules in
    read ∙ sym (over_distance _ _ _ _ c.requires.over)
