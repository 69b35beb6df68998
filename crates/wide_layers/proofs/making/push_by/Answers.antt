use Rattle.std.proofs.Common.{◌++◌, refl, sym, ap, subst, ◌∙◌}
use Rattle.std.proofs.lemmas.List.{append-nil}
use Rattle.dp_model.proofs.Members.{Each-append}
use Rattle.wide_layers.specs.Candidates.{IsMade, IsRight}
use Rattle.wide_layers.specs.Pieces.{PieceView, AreRight}
use Rattle.wide_layers.proofs.Right.{made-by, by-refused, ok-then, on-either}
use Rattle.wide_layers.proofs.making.push_by.Goals as goal

pub returns-clause-ok : goal.returns-clause-ok
returns-clause-ok g c =
    let dp = g.M.DpModel.meaning (g.M.DpModel.numbers c.args.model.now) in
    let a = c.args in let told = c.in-Some.ensures in let e = c.in-Some.extended in
    let made : IsMade dp a.k a.parent.state.now a.decision e.gain e.rank c.extend.new.out = record { allowed = sym told.allowed; gain_is = told.extended.0; row_is = told.row refl; rank_is = told.extended.1 } in
    ok-then c.push.result c.push.ensures.ok (λ h. ap (λ (p : PieceView). p.candidates) h ∙ ap (λ l. a.piece.now.candidates ++ l) (made-by dp a.k a.parent.place a.parent.state.now a.decision e.gain e.rank c.extend.new.out made))

pub returns-clause-right : goal.returns-clause-right
returns-clause-right g c =
    let dp = g.M.DpModel.meaning (g.M.DpModel.numbers c.args.model.now) in
    let a = c.args in let told = c.in-Some.ensures in let e = c.in-Some.extended in
    let made : IsMade dp a.k a.parent.state.now a.decision e.gain e.rank c.extend.new.out = record { allowed = sym told.allowed; gain_is = told.extended.0; row_is = told.row refl; rank_is = told.extended.1 } in
    on-either c.push.result c.push.ensures.ok c.push.ensures.err
    (λ h was. subst (AreRight dp a.k) (sym h) (Each-append (IsRight dp a.k) a.piece.now.candidates _ was (made, tt)))
    (λ h was. subst (AreRight dp a.k) (sym h) was)

pub returns-clause-words : goal.returns-clause-words
returns-clause-words g c =
    on-either c.push.result c.push.ensures.ok c.push.ensures.err (λ h. ap (λ (p : PieceView). p.words) h) (λ h. ap (λ (p : PieceView). p.words) h)

pub returns-in_default-clause-ok : goal.returns-in_default-clause-ok
returns-in_default-clause-ok g c =
    let dp = g.M.DpModel.meaning (g.M.DpModel.numbers c.args.model.now) in
    let a = c.args in
    sym (ap (λ l. a.piece.now.candidates ++ l) (by-refused dp a.k a.parent.place a.parent.state.now a.decision (sym c.in_default.ensures.allowed)) ∙ append-nil a.piece.now.candidates)
