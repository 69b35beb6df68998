use Rattle.std.proofs.Common.{◌∙◌, ◌≡◌, sym, length, subst, arith}
use Rattle.bound_cover.specs.Exploring.{layer_of}
use Rattle.bound_cover.specs.Stored.{AreShort, spans}
use Rattle.bound_cover.proofs.Blocks.{short_at}
use Rattle.bound_cover.proofs.Reading.{count-is}
use Rattle.bound_cover.proofs.Spans.{length-spans}
use Rattle.bound_cover.proofs.storing.Cover.rows.Goals as goal

pub returns-clause-count : goal.returns-clause-count
returns-clause-count c =
    count-is c.args.self.now c.self.inside.starts.items c.as_slice.result.now (spans c.self.inside.heads.items) c.self.inside.words.items c.self.inside.arcs.items c.args.layer c.len.result c.count_of.result
    c.self.view_is c.self.invariant.0.starts_rise c.as_slice.ensures.value (c.len.ensures ∙ (c.self.inside.heads.ok.0 ∙ sym (length-spans 0 0 c.self.inside.heads.items))) c.count_of.ensures

pub returns-clause-small : goal.returns-clause-small
returns-clause-small c =
    let count : c.count_of.result ≡ length (layer_of c.args.self.now c.args.layer) =
    count-is c.args.self.now c.self.inside.starts.items c.as_slice.result.now (spans c.self.inside.heads.items) c.self.inside.words.items c.self.inside.arcs.items c.args.layer c.len.result c.count_of.result
    c.self.view_is c.self.invariant.0.starts_rise c.as_slice.ensures.value (c.len.ensures ∙ (c.self.inside.heads.ok.0 ∙ sym (length-spans 0 0 c.self.inside.heads.items))) c.count_of.ensures in
    let few = short_at c.args.self.now (subst AreShort c.self.view_is c.self.invariant.1) c.args.layer in
    omega arith
