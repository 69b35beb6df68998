use Rattle.layer_candidates.proofs.Started.{layers-same, members-of}
use Rattle.layer_candidates.proofs.beam.Beam.descend.Goals as goal

pub next_layer-requires-clause-members : goal.next_layer-requires-clause-members
next_layer-requires-clause-members g c κs within =
    let dp = g.M.DpModel.meaning (g.M.DpModel.numbers c.args.model.now) in
    let a = c.args in
    members-of dp a.k a.region.now a.self.now.members.items c.requires.held c.requires.near

pub returns : goal.returns
returns g c =
    let dp = g.M.DpModel.meaning (g.M.DpModel.numbers c.args.model.now) in
    let n = c.next_layer in
    record {
      list = n.ensures.list;
      more_stay = n.ensures.more;
      held = n.ensures.held;
      exchanged = n.ensures.exchanged;
      reached_by = n.ensures.reached;
      few = n.ensures.few;
      steps = n.ensures.steps;
      backward = n.ensures.backward;
      has_room = λ w h. layers-same dp w c.args.self.now _ h n.ensures.memory n.ensures.members_capacity n.ensures.steps_capacity;
    }
