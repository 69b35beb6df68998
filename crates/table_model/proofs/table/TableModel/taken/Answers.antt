use Rattle.std.proofs.Common.{◌≡◌, ap, ◌∙◌}
use Rattle.table_model.specs.Shown.{table_shown}
use Rattle.table_model.specs.Table.{LayerTable, layer_at, transition_at}
use Rattle.table_model.proofs.Along.{taken_next, taken_small}
use Rattle.table_model.proofs.table.TableModel.taken.Goals as goal

pub returns-clause-next : goal.returns-clause-next
returns-clause-next c =
    let m = c.args.self.now in
    let is : c.transition.result ≡ transition_at (layer_at m.layers.items c.args.k) c.args.s c.args.d = c.transition.ensures ∙ ap (λ (l : LayerTable). transition_at l c.args.s c.args.d) c.layer.ensures in
    taken_next (table_shown m) (record { root_value = m.small; some = m.some; few = m.few; layers = m.layered }) c.args.k c.args.s c.args.d c.requires.layer c.requires.state c.transition.result is

pub returns-clause-small : goal.returns-clause-small
returns-clause-small c =
    let m = c.args.self.now in
    let is : c.transition.result ≡ transition_at (layer_at m.layers.items c.args.k) c.args.s c.args.d = c.transition.ensures ∙ ap (λ (l : LayerTable). transition_at l c.args.s c.args.d) c.layer.ensures in
    taken_small (table_shown m) (record { root_value = m.small; some = m.some; few = m.few; layers = m.layered }) c.args.k c.args.s c.args.d c.requires.layer c.requires.state c.transition.result is
