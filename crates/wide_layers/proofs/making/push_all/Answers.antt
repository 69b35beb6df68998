use Rattle.std.proofs.Common.{◌≡◌, [], ◌∷◌, ◌++◌, append_assoc, refl, sym, ap, ◌∙◌, arith}
use Rattle.std.proofs.lemmas.List.{append-nil}
use Rattle.dp_model.specs.Decisions.{below}
use Rattle.wide_layers.specs.Candidates.{candidates_by}
use Rattle.wide_layers.proofs.Right.{by-none, by-next}
use Rattle.wide_layers.proofs.making.push_all.Goals as goal

pub decisions-init : goal.decisions-init
decisions-init g c =
    let dp = g.M.DpModel.meaning (g.M.DpModel.numbers c.args.model.now) in
    let a = c.args in let first = c.next_choice-decision in
    let within = first.ensures.within in
    let choices = c.choices-choices.ensures in
    record {
      candidates = sym (ap (λ l. a.piece.now.candidates ++ l) (by-none dp a.k a.parent.place a.parent.state.now first.result first.ensures.on first.ensures.skipped) ∙ append-nil a.piece.now.candidates);
      right = λ was. was;
      words = refl;
      within = omega arith;
    }

pub decisions-preserved : goal.decisions-preserved
decisions-preserved g c =
    let dp = g.M.DpModel.meaning (g.M.DpModel.numbers c.args.model.now) in
    let a = c.args in let l = c.decisions in let e = c.in_ok-push_by.ensures in let after = c.next_choice-decision-in-decisions in
    let old = a.piece.now.candidates in
    let mine = candidates_by dp a.k a.parent.place a.parent.state.now (below l.decision) in
    let one = candidates_by dp a.k a.parent.place a.parent.state.now (l.decision ∷ []) in
    let within = after.ensures.within in
    let choices = c.choices-choices.ensures in
    record {
      candidates = e.ok ∙ (ap (λ cs. cs ++ one) l.invariant.candidates ∙ (append_assoc old mine one ∙ ap (λ cs. old ++ cs) (sym (by-next dp a.k a.parent.place a.parent.state.now l.decision after.result after.ensures.on after.ensures.skipped))));
      right = λ was. e.right (l.invariant.right was);
      words = e.words ∙ l.invariant.words;
      within = omega arith;
    }

pub returns-clause-ok : goal.returns-clause-ok
returns-clause-ok g c =
    let dp = g.M.DpModel.meaning (g.M.DpModel.numbers c.args.model.now) in
    let a = c.args in let l = c.decisions in
    let past = c.decisions-test.false in
    let within = l.invariant.within in
    let choices = c.choices-choices.ensures in
    let all : l.decision ≡ dp.choices a.k = omega arith in
    l.invariant.candidates ∙ ap (λ n. a.piece.now.candidates ++ candidates_by dp a.k a.parent.place a.parent.state.now (below n)) all
