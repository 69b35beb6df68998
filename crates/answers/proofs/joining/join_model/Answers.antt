use Rattle.std.proofs.Common.{subst}
use Rattle.cover_join.specs.Joining.{Fails, join_fault, texts_in}
use Rattle.cover_text.specs.Texts.{text_in}
use Rattle.answers.proofs.joining.join_model.Goals as goal

pub returns : goal.returns
returns g c =
    let texts = texts_in c.args.texts.now in
    c.join_refused.ensures (g.P.DpModel.meaning (g.P.DpModel.numbers c.args.model)) (g.P.Problem.theory.own_value (g.P.DpModel.numbers c.args.model)) (text_in c.args.first.now) texts
    (subst (λ m. Fails c.in-Err.error (join_fault (g.P.DpModel.meaning (g.P.DpModel.numbers m)) texts)) c.in-Ok.ensures.ok c.in-Err.ensures.refused)
