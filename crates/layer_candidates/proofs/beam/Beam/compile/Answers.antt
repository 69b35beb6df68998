use Rattle.std.proofs.Common.{◌≡◌, ◌+◌, ◌-◌, ◌<◌, ◌≤◌, ◌^◌, ℕ, Bool, ◌||◌, ◌&&◌, length, vec_capacity, sym, ap, subst, ◌∙◌, arith}
use Rattle.dp_model.specs.Laws.{IsLawful}
use Rattle.layer_candidates.specs.Beaming.{IsBuilt, IsNext, most_at, is_between}
use Rattle.layer_candidates.specs.Members.{member_rows}
use Rattle.layer_candidates.proofs.Built.{may-descend, built-next, depth}
use Rattle.layer_candidates.proofs.HeldRows.{exchange-self, exchange-then}
use Rattle.layer_candidates.proofs.beam.Beam.compile.Given as given
use Rattle.layer_candidates.proofs.beam.Beam.compile.Goals as goal

laws_of : (g : given.Over) (m : g.row.M.Denot) → IsLawful (g.M.DpModel.meaning (g.M.DpModel.numbers m))
laws_of g m = (g.met.M.DpModel g.world.𝓛 g.world.𝓜 g.world.𝓡 ((λ s x. x), (λ x. x), (λ x. x), λ x. x)).lawful m

pub descend-more-requires-clause-near : goal.descend-more-requires-clause-near
descend-more-requires-clause-near g c κs within =
    let dp = g.M.DpModel.meaning (g.M.DpModel.numbers c.args.model.now) in
    let low : c.layers.k < dp.vars = (let e = c.vars-vars.ensures in let t = c.layers-test.true in omega arith) in
    (may-descend dp (laws_of g c.args.model.now) c.args.prefix.now c.args.width c.args.threshold c.layers.k c.layers.self c.layers.region c.layers.reduced c.layers.invariant.built c.requires.prefix low).near

pub descend-more-requires-clause-memory : goal.descend-more-requires-clause-memory
descend-more-requires-clause-memory g c κs within =
    let dp = g.M.DpModel.meaning (g.M.DpModel.numbers c.args.model.now) in
    let low : c.layers.k < dp.vars = (let e = c.vars-vars.ensures in let t = c.layers-test.true in omega arith) in
    (may-descend dp (laws_of g c.args.model.now) c.args.prefix.now c.args.width c.args.threshold c.layers.k c.layers.self c.layers.region c.layers.reduced c.layers.invariant.built c.requires.prefix low).memory

pub descend-more-requires-clause-spare : goal.descend-more-requires-clause-spare
descend-more-requires-clause-spare g c κs within =
    let dp = g.M.DpModel.meaning (g.M.DpModel.numbers c.args.model.now) in
    let low : c.layers.k < dp.vars = (let e = c.vars-vars.ensures in let t = c.layers-test.true in omega arith) in
    (may-descend dp (laws_of g c.args.model.now) c.args.prefix.now c.args.width c.args.threshold c.layers.k c.layers.self c.layers.region c.layers.reduced c.layers.invariant.built c.requires.prefix low).spare

pub descend-more-requires-clause-members_room : goal.descend-more-requires-clause-members_room
descend-more-requires-clause-members_room g c κs within =
    let dp = g.M.DpModel.meaning (g.M.DpModel.numbers c.args.model.now) in
    let low : c.layers.k < dp.vars = (let e = c.vars-vars.ensures in let t = c.layers-test.true in omega arith) in
    let most : c.most_at-most.result ≡ most_at dp (length c.args.prefix.now + (c.layers.k - length c.args.prefix.now)) (length c.args.prefix.now) c.args.width = c.most_at-most.ensures ∙ ap (λ (j : ℕ). most_at dp j (length c.args.prefix.now) c.args.width) (depth (length c.args.prefix.now) c.layers.k c.layers.invariant.built.deep) in
    subst (λ (n : ℕ). n ≤ vec_capacity c.layers.self.members) (sym most) (may-descend dp (laws_of g c.args.model.now) c.args.prefix.now c.args.width c.args.threshold c.layers.k c.layers.self c.layers.region c.layers.reduced c.layers.invariant.built c.requires.prefix low).members_room

pub descend-more-requires-clause-steps_room : goal.descend-more-requires-clause-steps_room
descend-more-requires-clause-steps_room g c κs within =
    let dp = g.M.DpModel.meaning (g.M.DpModel.numbers c.args.model.now) in
    let low : c.layers.k < dp.vars = (let e = c.vars-vars.ensures in let t = c.layers-test.true in omega arith) in
    let most : c.most_at-most.result ≡ most_at dp (length c.args.prefix.now + (c.layers.k - length c.args.prefix.now)) (length c.args.prefix.now) c.args.width = c.most_at-most.ensures ∙ ap (λ (j : ℕ). most_at dp j (length c.args.prefix.now) c.args.width) (depth (length c.args.prefix.now) c.layers.k c.layers.invariant.built.deep) in
    subst (λ (n : ℕ). length c.layers.self.steps.items + n ≤ vec_capacity c.layers.self.steps) (sym most) (may-descend dp (laws_of g c.args.model.now) c.args.prefix.now c.args.width c.args.threshold c.layers.k c.layers.self c.layers.region c.layers.reduced c.layers.invariant.built c.requires.prefix low).steps_room

pub descend-more-requires-clause-small : goal.descend-more-requires-clause-small
descend-more-requires-clause-small g c κs within =
    let dp = g.M.DpModel.meaning (g.M.DpModel.numbers c.args.model.now) in
    let low : c.layers.k < dp.vars = (let e = c.vars-vars.ensures in let t = c.layers-test.true in omega arith) in
    let most : c.most_at-most.result ≡ most_at dp (length c.args.prefix.now + (c.layers.k - length c.args.prefix.now)) (length c.args.prefix.now) c.args.width = c.most_at-most.ensures ∙ ap (λ (j : ℕ). most_at dp j (length c.args.prefix.now) c.args.width) (depth (length c.args.prefix.now) c.layers.k c.layers.invariant.built.deep) in
    subst (λ (n : ℕ). length c.layers.self.steps.items + n < 2 ^ 32) (sym most) (may-descend dp (laws_of g c.args.model.now) c.args.prefix.now c.args.width c.args.threshold c.layers.k c.layers.self c.layers.region c.layers.reduced c.layers.invariant.built c.requires.prefix low).small

pub layers-preserved : goal.layers-preserved
layers-preserved g c =
    let dp = g.M.DpModel.meaning (g.M.DpModel.numbers c.args.model.now) in
    let a = c.args in
    let l = c.layers in
    let low : l.k < dp.vars = (let e = c.vars-vars.ensures in let t = c.layers-test.true in omega arith) in
    let most : c.most_at-most.result ≡ most_at dp (length a.prefix.now + (l.k - length a.prefix.now)) (length a.prefix.now) a.width = c.most_at-most.ensures ∙ ap (λ (j : ℕ). most_at dp j (length a.prefix.now) a.width) (depth (length a.prefix.now) l.k l.invariant.built.deep) in
    let next = built-next dp (laws_of g a.model.now) a.prefix.now a.width a.threshold l.k l.self l.region l.reduced l.invariant.built c.requires.prefix low c.descend-more.new.self c.descend-more.new.region c.descend-more.result
    (subst (λ (n : ℕ). IsNext dp l.k a.threshold n l.self l.region c.descend-more.new.self c.descend-more.new.region c.descend-more.result) most c.descend-more.ensures) in
    let flag : c.or_both-reduced.result ≡ (l.reduced || (c.descend-more.result && is_between l.k (length a.prefix.now) dp.vars)) =
    c.or_both-reduced.ensures ∙ ap (λ (b : Bool). l.reduced || (c.descend-more.result && b)) (c.is_between.ensures ∙ ap (is_between l.k (length a.prefix.now)) c.vars-vars.ensures) in
    record {
      built = subst (IsBuilt dp a.prefix.now a.width a.threshold (l.k + 1) c.descend-more.new.self c.descend-more.new.region) (sym flag) next;
      exchanged = exchange-then a.region.now l.region c.descend-more.new.region (member_rows a.self.now.members.items) (member_rows l.self.members.items) (member_rows c.descend-more.new.self.members.items) l.invariant.exchanged c.descend-more.ensures.exchanged;
    }

pub layers-init : goal.layers-init
layers-init g c = record { built = c.requires.start; exchanged = exchange-self c.args.region.now (member_rows c.args.self.now.members.items) c.requires.start.live }

pub returns-clause-built : goal.returns-clause-built
returns-clause-built g c =
    let dp = g.M.DpModel.meaning (g.M.DpModel.numbers c.args.model.now) in
    let a = c.args in
    let l = c.layers in
    let end : l.k ≡ dp.vars = (let e = c.vars-vars.ensures in let t = c.layers-test.false in let f = l.auto.k-end in let s = c.requires.shorter in omega arith) in
    subst (λ (k : ℕ). IsBuilt dp a.prefix.now a.width a.threshold k l.self l.region l.reduced) end l.invariant.built
