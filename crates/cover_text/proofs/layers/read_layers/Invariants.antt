use Rattle.std.proofs.Common.{◌≡◌, ◌-◌, []}
use Rattle.std.specs.Prelude.{codes}
use Rattle.cover_text.specs.Grammar.{until, stands}
use Rattle.cover_text.specs.Sections.{layer_at}
use Rattle.cover_text.proofs.layers.read_layers.Given as goal

abbrev pub invariant-loop : goal.invariant-loop
invariant-loop l = record {
  reads : until (stands (codes "end")) (layer_at l.most) (l.most - l.counter) l.cover.cover l.tokens ≡ until (stands (codes "end")) (layer_at l.most) l.most l.initial.cover.cover l.initial.tokens;
  words : l.cover.words ≡ [];
  arcs : l.cover.arcs ≡ [];
}
