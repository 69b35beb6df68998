use Rattle.std.proofs.Common.{ℕ, List, is_some, sym, ap, ◌∙◌, subst}
use Rattle.std.specs.Vec.{with_items}
use Rattle.dp_model.specs.Laws.{IsLawful}
use Rattle.dp_model.specs.Subproblem.{SubView}
use Rattle.dp_laws.specs.Restricted.Beams.{wide}
use Rattle.layer_build.specs.Layers.{SpaceView, AreEnough}
use Rattle.layer_build.proofs.Held.{rows-for-beam, rows-same}
use Rattle.layer_build.proofs.Memory.{other-layers}
use Rattle.layer_build.proofs.workspace.Workspace.beam.Given as given
use Rattle.layer_build.proofs.workspace.Workspace.beam.Goals as goal

laws_of : (g : given.Over) (m : g.row.M.Denot) → IsLawful (g.M.DpModel.meaning (g.M.DpModel.numbers m))
laws_of g m = (g.met.M.DpModel g.world.𝓛 g.world.𝓜 g.world.𝓡 ((λ s x. x), (λ x. x), (λ x. x), λ x. x)).lawful m

pub beam-requires-clause-region_room : goal.beam-requires-clause-region_room
beam-requires-clause-region_room g c κs within =
    let dp = g.M.DpModel.meaning (g.M.DpModel.numbers c.args.model.now) in
    let i = c.self.inside in
    let p = c.requires.prepared in
    let enough = subst (λ (s : SpaceView). AreEnough dp s.width dp.vars s.room) (sym c.self.view_is) p.enough in
    rows-for-beam dp (laws_of g c.args.model.now) i.words i.width i.held i.stack enough c.self.invariant.rows

pub invariant_of-self : goal.invariant_of-self
invariant_of-self g c =
    let dp = g.M.DpModel.meaning (g.M.DpModel.numbers c.args.model.now) in
    let i = c.self.inside in let h = c.self.invariant in
    let p = c.requires.prepared in
    let long = (with_items i.path c.beam.new.out).ok.0 in
    record {
      stack = record { small = h.stack.small; first = h.stack.first; last = h.stack.last; rooms = h.stack.rooms; newest_words = h.stack.newest_words; top = h.stack.top };
      rows = rows-same i.words i.width i.held i.stack c.beam.new.region c.beam.ensures.region h.rows;
      first = h.first;
      prefix_fits = h.prefix_fits;
      expands = h.expands;
      redirects_fit = h.redirects_fit;
      path = sym long ∙ (i.path.ok.0 ∙ h.path);
      depths = h.depths;
      has_layers = λ other words vars choices. other-layers dp other i.words i.stack.vars i.width i.choices.items c.beam.new.self c.beam.ensures.layers
          (ap (λ (s : SpaceView). s.words) c.self.view_is ∙ p.words) (ap (λ (s : SpaceView). s.vars) c.self.view_is ∙ p.vars) (ap (λ (s : SpaceView). s.choices) c.self.view_is ∙ p.choices) words vars choices;
    }

pub returns-clause-reduced : goal.returns-clause-reduced
returns-clause-reduced g c =
    let dp = g.M.DpModel.meaning (g.M.DpModel.numbers c.args.model.now) in
    c.beam.ensures.reduced ∙ (ap (λ (p : List ℕ). is_some (wide dp p c.self.inside.width c.args.threshold)) (c.as_slice.ensures.value ∙ ap (λ (s : SubView). s.subproblem.decisions) c.sub.view_is)
    ∙ ap (λ (s : SpaceView). is_some (wide dp c.args.sub.now.subproblem.decisions s.width c.args.threshold)) c.self.view_is)
