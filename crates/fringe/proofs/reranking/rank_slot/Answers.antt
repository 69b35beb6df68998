use Rattle.std.proofs.Common.{rules, ◌≡◌, ◌∷◌, Some, refl, ◌∙◌, ap, subst, arith, Contains}
use Rattle.std.proofs.lemmas.List.Sorted.{Contains-permutation}
use Rattle.fringe.specs.declared.rank.Rank.{Rank}
use Rattle.fringe.specs.Slots.{in_slot, rank_of}
use Rattle.fringe.proofs.Filters.{Contains-cons}
use Rattle.fringe.proofs.reranking.rank_slot.Goals as goal

pub returns-in-Some-clause-ranked : goal.returns-in-Some-clause-ranked
returns-in-Some-clause-ranked c o at =
    let there : in_slot c.args.slots.now c.args.slot ≡ Some c.in-Some.one.now = search rules in
    let same : c.in-Some.one.now ≡ o = cc in
    let rank : c.rank_of.result ≡ rank_of c.args.slot o = c.rank_of.ensures ∙ ap (rank_of c.args.slot) same in
    subst (λ (r : Rank). Contains c.push.new.self.ranks r) rank
    (Contains-permutation (c.rank_of.result ∷ c.args.ranks.now.ranks) c.push.new.self.ranks c.rank_of.result c.push.ensures.ranks (0, omega arith, refl))

pub returns-in-Some-clause-kept : goal.returns-in-Some-clause-kept
returns-in-Some-clause-kept c r has =
    Contains-permutation (c.rank_of.result ∷ c.args.ranks.now.ranks) c.push.new.self.ranks r c.push.ensures.ranks (Contains-cons c.rank_of.result r c.args.ranks.now.ranks has)
