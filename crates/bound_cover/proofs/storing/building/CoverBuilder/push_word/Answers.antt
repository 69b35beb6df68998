use Rattle.std.proofs.Common.{◌∙◌, ap, w64}
use Rattle.std.proofs.lemmas.Int.{to_z-of_z}
use Rattle.bound_cover.specs.Stored.{spans}
use Rattle.bound_cover.specs.Building.{BuilderView, with_word}
use Rattle.bound_cover.proofs.Building.{word-built, word-kept}
use Rattle.bound_cover.proofs.storing.building.CoverBuilder.push_word.Goals as goal

pub invariant_of-self-2 : goal.invariant_of-self-2
invariant_of-self-2 c = (rw (c.push_reserved.ensures.items, c.reserve.ensures.items, to_z-of_z w64 c.args.word c.ranges.word) (word-kept c.self.inside.starts.items (spans c.self.inside.heads.items) c.self.inside.words.items c.self.inside.arcs.items c.self.inside.words_from c.self.inside.arcs_from c.self.invariant.0 c.args.word), c.self.invariant.1)

pub returns-clause-ok : goal.returns-clause-ok
returns-clause-ok c = rw (c.push_reserved.ensures.items, c.reserve.ensures.items, to_z-of_z w64 c.args.word c.ranges.word) (word-built c.self.inside.starts.items (spans c.self.inside.heads.items) c.self.inside.words.items c.self.inside.arcs.items c.self.inside.words_from c.self.inside.arcs_from c.self.invariant.0 c.args.word ∙ ap (λ (b : BuilderView). with_word b c.args.word) c.self.view_is)
