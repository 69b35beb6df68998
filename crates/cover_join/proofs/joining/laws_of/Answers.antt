use Rattle.cover_join.proofs.joining.laws_of.Goals as goal

pub returns : goal.returns
returns g c = (g.met.M.DpModel g.world.𝓛 g.world.𝓜 g.world.𝓡 ((λ s x. x), (λ x. x), (λ x. x), λ x. x)).lawful c.args.model.now
