use Rattle.std.proofs.Common.{◌≡◌, ℕ, suc, ◌+◌, ◌-◌, ◌<◌, ◌≤◌, ℤ, List, ◌++◌, length, sym, ap, ap₂, subst, ◌∙◌, arith}
use Rattle.dp_model.specs.Gaps.{IsStateOf}
use Rattle.dp_model.specs.Lists.{Each}
use Rattle.layer_build.specs.Layers.{last_depth, last_layer}
use Rattle.wide_layers.specs.Candidates.{state_at, candidates_of, candidates_from, IsRight}
use Rattle.wide_layers.specs.Pieces.{PieceView}
use Rattle.wide_layers.proofs.Lasts.{state-within}
use Rattle.wide_layers.proofs.Right.{right-from}
use Rattle.wide_layers.proofs.making.make.Goals as goal

pub parents-init : goal.parents-init
parents-init g c =
    let dp = g.M.DpModel.meaning (g.M.DpModel.numbers c.args.model.now) in
    let none : c.args.from - c.args.from ≡ 0 = omega arith in
    record {
      candidates = ap (λ (p : PieceView). p.candidates) c.clear.ensures ∙ sym (ap (candidates_from dp c.last_depth-k.result (state_at (last_layer c.args.space.now.layers)) c.args.from) none);
      words = ap (λ (p : PieceView). p.words) c.clear.ensures ∙ c.words.ensures;
    }

pub parent_at-parent-requires-clause-within : goal.parent_at-parent-requires-clause-within
parent_at-parent-requires-clause-within g c κs within =
    let t = c.parents-test.true in let most = c.requires.within in omega (arith, t, most)

pub push_all-requires-clause-layer : goal.push_all-requires-clause-layer
push_all-requires-clause-layer g c κs within = let e = c.last_depth-k.ensures in let low = c.requires.below in omega (arith, e, low)

pub push_all-requires-clause-state : goal.push_all-requires-clause-state
push_all-requires-clause-state g c κs within =
    let dp = g.M.DpModel.meaning (g.M.DpModel.numbers c.args.model.now) in
    let s = c.args.space.now in
    let less : c.parents.i < length (last_layer s.layers) = (let t = c.parents-test.true in let most = c.requires.within in omega (arith, t, most)) in
    let state = state-within dp (last_depth s) (last_layer s.layers) c.parents.i c.requires.under_way.within.states less in
    subst (λ k. IsStateOf dp k c.parent_at-parent.result.state.now) (sym c.last_depth-k.ensures) (subst (IsStateOf dp (last_depth s)) (sym c.parent_at-parent.ensures.state) state)

pub push_all-requires-clause-size : goal.push_all-requires-clause-size
push_all-requires-clause-size g c κs within =
    let dp = g.M.DpModel.meaning (g.M.DpModel.numbers c.args.model.now) in
    let s = c.args.space.now in
    let less : c.parents.i < length (last_layer s.layers) = (let t = c.parents-test.true in let most = c.requires.within in omega (arith, t, most)) in
    let state = state-within dp (last_depth s) (last_layer s.layers) c.parents.i c.requires.under_way.within.states less in
    c.requires.under_way.lawful.sizes.cells (last_depth s) c.parent_at-parent.result.state.now (subst (IsStateOf dp (last_depth s)) (sym c.parent_at-parent.ensures.state) state)

pub push_all-requires-clause-rank : goal.push_all-requires-clause-rank
push_all-requires-clause-rank g c κs within =
    let dp = g.M.DpModel.meaning (g.M.DpModel.numbers c.args.model.now) in
    c.parent_at-parent.ensures.rank ∙ ap (λ k. dp.rank k c.parent_at-parent.result.state.now) (sym c.last_depth-k.ensures)

pub parents-preserved : goal.parents-preserved
parents-preserved g c =
    let dp = g.M.DpModel.meaning (g.M.DpModel.numbers c.args.model.now) in
    let a = c.args in let l = c.parents in let e = c.in_ok-push_all.ensures in let p = c.parent_at-parent in
    let k = c.last_depth-k.result in
    let state = state_at (last_layer a.space.now.layers) in
    let from : a.from ≤ l.i = l.auto.i in
    let at : l.i ≡ a.from + (l.i - a.from) = omega (arith, from) in
    let next : suc (l.i - a.from) ≡ l.i + 1 - a.from = omega (arith, from) in
    record {
      candidates = e.ok ∙ (ap (λ cs. cs ++ candidates_of dp k p.result.place p.result.state.now) l.invariant.candidates
          ∙ (ap₂ (λ (n : ℕ) (s : List ℤ). candidates_from dp k state a.from (l.i - a.from) ++ candidates_of dp k n s) (p.ensures.place ∙ at) (p.ensures.state ∙ ap state at)
          ∙ ap (candidates_from dp k state a.from) next));
      words = e.words ∙ l.invariant.words;
    }

pub returns-clause-ok : goal.returns-clause-ok
returns-clause-ok g c =
    let dp = g.M.DpModel.meaning (g.M.DpModel.numbers c.args.model.now) in
    let a = c.args in let l = c.parents in
    let state = state_at (last_layer a.space.now.layers) in
    let test = c.parents-test.false in
    let end = l.auto.i-end in
    let all : l.i - a.from ≡ a.to - a.from = omega arith in
    l.invariant.candidates ∙ ap₂ (λ (k n : ℕ). candidates_from dp k state a.from n) c.last_depth-k.ensures all

pub returns-clause-right : goal.returns-clause-right
returns-clause-right g c =
    let dp = g.M.DpModel.meaning (g.M.DpModel.numbers c.args.model.now) in
    let a = c.args in let l = c.parents in
    let state = state_at (last_layer a.space.now.layers) in
    subst (λ k. Each (IsRight dp k) l.piece.candidates) c.last_depth-k.ensures
    (subst (Each (IsRight dp c.last_depth-k.result)) (sym l.invariant.candidates) (right-from dp c.last_depth-k.result state a.from (l.i - a.from)))

pub returns-in_err-push_all-clause-right : goal.returns-in_err-push_all-clause-right
returns-in_err-push_all-clause-right g c =
    let dp = g.M.DpModel.meaning (g.M.DpModel.numbers c.args.model.now) in
    let a = c.args in let l = c.parents in
    let k = c.last_depth-k.result in
    let state = state_at (last_layer a.space.now.layers) in
    subst (λ k. Each (IsRight dp k) c.push_all.new.piece.candidates) c.last_depth-k.ensures
    (c.push_all.ensures.right (subst (Each (IsRight dp k)) (sym l.invariant.candidates) (right-from dp k state a.from (l.i - a.from))))
