use Rattle.std.proofs.Common.{◌≡◌, ◌∙◌, length, ap, List, ℕ}
use Rattle.answers.proofs.Covered.{whole-made}
use Rattle.answers.proofs.covering.cover_text.Goals as goal

pub returns-clause-text : goal.returns-clause-text
returns-clause-text g c =
    let cover = c.in_ok-cover.cover in
    let passes = c.in_ok-cover.ensures.passes c.requires.holds c.requires.reachable in
    let instance : List ℕ = g.P.Problem.theory.canonical (g.P.DpModel.numbers c.args.model.now) in
    let same : c.in_ok-instance.instance.items ≡ instance = c.in_ok-instance.ensures.text in
    let h1 = c.in_ok-push_head.ensures in
    let h2 = c.in_ok-extend_from_slice.ensures.items in
    let h3 = c.in_ok-push_cover.ensures.pushed in
    let h4 = c.len.ensures in
    let h5 = c.as_slice.ensures.value in
    let h6 = c.new-text.ensures.items in
    record {
      cover = cover;
      passes = passes;
      written = c.in_ok-push_cover.ensures.written c.in_ok-cover.ensures.writable;
      printed = whole-made c.args.subject.name c.args.subject.part c.len.result instance c.new-text.result.items c.push_head.new.out.items c.as_slice.result.now c.extend_from_slice.new.self.items c.push_cover.new.out.items cover h6 h1 h2 h3 (h5 ∙ same) (h4 ∙ (c.in_ok-instance.instance.ok.0 ∙ ap length same));
    }
