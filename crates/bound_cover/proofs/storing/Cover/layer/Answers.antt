use Rattle.std.proofs.Common.{◌≡◌, ◌∙◌, length, ap}
use Rattle.bound_cover.specs.Stored.{start_at, count_at}
use Rattle.bound_cover.proofs.Reading.{layer-is, layer-end}
use Rattle.bound_cover.proofs.storing.Cover.layer.Goals as goal

pub invariant_of-result : goal.invariant_of-result
invariant_of-result c =
    let starts = c.self.inside.starts.items in
    let heads = c.self.inside.heads.items in
    let many : c.len-rows.result ≡ length heads = c.len-rows.ensures ∙ c.self.inside.heads.ok.0 in
    let first : c.start_of.result ≡ start_at starts (length heads) c.args.layer =
    c.start_of.ensures ∙ (ap (λ s. start_at s c.len-rows.result c.args.layer) c.as_slice-4.ensures.value ∙ ap (λ n. start_at starts n c.args.layer) many) in
    let count : c.count_of.result ≡ count_at starts (length heads) c.args.layer =
    c.count_of.ensures ∙ (ap (λ s. count_at s c.len-rows.result c.args.layer) c.as_slice-5.ensures.value ∙ ap (λ n. count_at starts n c.args.layer) many) in
    rw (c.as_slice.ensures.value, c.as_slice-2.ensures.value, c.as_slice-3.ensures.value, ← c.self.inside.words.ok.0, ← c.self.inside.arcs.ok.0)
    (layer-end starts heads c.args.layer c.start_of.result c.count_of.result c.self.invariant.0.starts_rise first count, c.self.invariant.0.within)

pub returns : goal.returns
returns c =
    let starts = c.self.inside.starts.items in
    let heads = c.self.inside.heads.items in
    let many : c.len-rows.result ≡ length heads = c.len-rows.ensures ∙ c.self.inside.heads.ok.0 in
    let first : c.start_of.result ≡ start_at starts (length heads) c.args.layer =
    c.start_of.ensures ∙ (ap (λ s. start_at s c.len-rows.result c.args.layer) c.as_slice-4.ensures.value ∙ ap (λ n. start_at starts n c.args.layer) many) in
    let count : c.count_of.result ≡ count_at starts (length heads) c.args.layer =
    c.count_of.ensures ∙ (ap (λ s. count_at s c.len-rows.result c.args.layer) c.as_slice-5.ensures.value ∙ ap (λ n. count_at starts n c.args.layer) many) in
    rw (c.as_slice.ensures.value, c.as_slice-2.ensures.value, c.as_slice-3.ensures.value)
    (layer-is c.args.self.now starts heads c.self.inside.words.items c.self.inside.arcs.items c.args.layer c.start_of.result c.count_of.result c.self.view_is c.self.invariant.0.starts_rise first count)
