use Rattle.std.proofs.Common.{Some, option_map, sym, ◌∙◌, ap}
use Rattle.bound_cover.specs.Covers.{CoverRow}
use Rattle.bound_cover.specs.Stored.{row_of, spans}
use Rattle.bound_cover.proofs.Reading.{row-none, row-some}
use Rattle.bound_cover.proofs.Spans.{length-spans}
use Rattle.bound_cover.proofs.storing.Cover.row.Goals as goal

pub returns-in-None : goal.returns-in-None
returns-in-None c =
    row-none c.args.self.now c.self.inside.starts.items c.as_slice.result.now (spans c.self.inside.heads.items) c.self.inside.words.items c.self.inside.arcs.items c.args.layer c.args.place c.len.result c.place_of.result
    c.self.view_is c.self.invariant.0.starts_rise c.as_slice.ensures.value (c.len.ensures ∙ (c.self.inside.heads.ok.0 ∙ sym (length-spans 0 0 c.self.inside.heads.items))) c.place_of.ensures c.in-None.is

pub returns-in-None-span_at : goal.returns-in-None-span_at
returns-in-None-span_at c =
    ap (option_map (row_of c.self.inside.words.items c.self.inside.arcs.items)) (sym c.in-None-span_at.is)
    ∙ row-some c.args.self.now c.self.inside.starts.items c.as_slice.result.now (spans c.self.inside.heads.items) (spans c.as_slice-in-Some.result.now) c.self.inside.words.items c.self.inside.arcs.items c.args.layer c.args.place c.len.result c.in-Some.place c.place_of.result c.span_at.result
    c.self.view_is c.self.invariant.0.starts_rise c.as_slice.ensures.value (c.len.ensures ∙ (c.self.inside.heads.ok.0 ∙ sym (length-spans 0 0 c.self.inside.heads.items))) c.place_of.ensures c.in-Some.is (ap spans c.as_slice-in-Some.ensures.value) c.span_at.ensures

pub returns-in-Some-span_at : goal.returns-in-Some-span_at
returns-in-Some-span_at c =
    ap (λ (r : CoverRow). Some r) c.view_of.ensures
    ∙ (ap (λ w. Some (row_of w c.as_slice-in-Some-span_at-2.result.now c.in-Some-span_at.span)) c.as_slice-in-Some-span_at.ensures.value
    ∙ (ap (λ a. Some (row_of c.self.inside.words.items a c.in-Some-span_at.span)) c.as_slice-in-Some-span_at-2.ensures.value
    ∙ (ap (option_map (row_of c.self.inside.words.items c.self.inside.arcs.items)) (sym c.in-Some-span_at.is)
    ∙ row-some c.args.self.now c.self.inside.starts.items c.as_slice.result.now (spans c.self.inside.heads.items) (spans c.as_slice-in-Some.result.now) c.self.inside.words.items c.self.inside.arcs.items c.args.layer c.args.place c.len.result c.in-Some.place c.place_of.result c.span_at.result
    c.self.view_is c.self.invariant.0.starts_rise c.as_slice.ensures.value (c.len.ensures ∙ (c.self.inside.heads.ok.0 ∙ sym (length-spans 0 0 c.self.inside.heads.items))) c.place_of.ensures c.in-Some.is (ap spans c.as_slice-in-Some.ensures.value) c.span_at.ensures)))
