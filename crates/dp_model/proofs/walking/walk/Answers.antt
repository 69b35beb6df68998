use Rattle.std.proofs.Common.{◌≡◌, length, ℕ, ◌+◌, ◌<◌, List, get_or, ℤ, ◌+ℤ◌, FitsSigned, to_z, of_z, w64, sym, ◌∙◌, ap, subst, arith}
use Rattle.std.proofs.lemmas.Int.{ints, to_z-of_z}
use Rattle.dp_model.specs.Dp.{Dp}
use Rattle.dp_model.specs.Laws.{IsLawful}
use Rattle.dp_model.specs.Decided.{IsDecided}
use Rattle.dp_model.proofs.Walks.{IsWalkedTo, walked_none, walked_state, walked_state_of, walked_fits, walked_more, walked_allowed}
use Rattle.dp_model.proofs.walking.walk.Given as given
use Rattle.dp_model.proofs.walking.walk.Goals as goal

laws_of : (g : given.Over) (m : g.row.M.Denot) → IsLawful (g.M.DpModel.meaning (g.M.DpModel.numbers m))
laws_of g m = (g.met.M.DpModel g.world.𝓛 g.world.𝓜 g.world.𝓡 ((λ s x. x), (λ x. x), (λ x. x), λ x. x)).lawful m

pub steps-init : goal.steps-init
steps-init g c =
    let dp = g.M.DpModel.meaning (g.M.DpModel.numbers c.args.model.now) in
    let small = (laws_of g c.args.model.now).sizes.root_value in
    let is = c.root_value-value.ensures in
    let fits : FitsSigned w64 c.root_value-value.result = omega (arith, ints) in
    let many = c.vars.ensures in
    let none = walked_none dp c.args.decisions.now (omega arith) in
    subst (λ v. IsWalkedTo dp c.args.decisions.now 0 c.root.new.out v) (sym (to_z-of_z w64 _ fits ∙ is)) (subst (λ s. IsWalkedTo dp c.args.decisions.now 0 s dp.root_value) (sym c.root.ensures) none)

pub decide-requires-clause-state : goal.decide-requires-clause-state
decide-requires-clause-state g c κs within = walked_state _ (laws_of g c.args.model.now) _ _ _ _ c.steps.invariant

pub returns-in_err-gained : goal.returns-in_err-gained
returns-in_err-gained g c = rw c.from_residual.ensures (λ whole. c.in_err-gained.ensures (walked_allowed _ c.args.decisions.now c.steps.k c.steps.out _ c.steps-test.true c.steps.invariant whole))

-- what a decision that was taken gains, as the code adds it
gained_is : (dp : Dp) → IsLawful dp → (ds : List ℕ) (k : ℕ) (s : List ℤ) (v : ℤ) → IsWalkedTo dp ds k s v
    → (d : ℕ) (after : List ℤ) (gained : ℤ) → IsDecided dp k s d after gained → to_z w64 (of_z w64 gained) ≡ dp.gain k s d
gained_is dp laws ds k s v w d after gained taken =
    let small = laws.sizes.gain k s d (walked_state_of dp laws ds k s v w) taken.allowed in
    let is = taken.gain in
    let fits : FitsSigned w64 gained = omega (arith, ints) in
    to_z-of_z w64 _ fits ∙ taken.gain

pub overflow_add-value : goal.overflow_add-value
overflow_add-value g c =
    let laws = laws_of g c.args.model.now in
    let taken = c.in_ok-gained.ensures in
    subst (λ z. FitsSigned w64 (to_z w64 c.steps.value-bits +ℤ z)) (sym (gained_is _ laws _ _ _ _ c.steps.invariant _ _ _ taken))
    (walked_fits _ laws _ _ _ _ _ c.steps.invariant taken.allowed)

-- the walk as the code goes on with it
walked_on : (dp : Dp) → IsLawful dp → (ds : List ℕ) (k : ℕ) (s after : List ℤ) (v gained : ℤ) → k < length ds → IsWalkedTo dp ds k s v
    → IsDecided dp k s (get_or ds k 0) after gained → IsWalkedTo dp ds (k + 1) after (to_z w64 (of_z w64 (v +ℤ to_z w64 (of_z w64 gained))))
walked_on dp laws ds k s after v gained more w taken =
    let d = get_or ds k 0 in
    let sum : v +ℤ to_z w64 (of_z w64 gained) ≡ v +ℤ dp.gain k s d = ap (λ z. v +ℤ z) (gained_is dp laws ds k s v w d after gained taken) in
    let fits = walked_fits dp laws ds k s v d w taken.allowed in
    let value = ap (λ z. to_z w64 (of_z w64 z)) sum ∙ to_z-of_z w64 _ fits in
    subst (λ z. IsWalkedTo dp ds (k + 1) after z) (sym value)
    (subst (λ r. IsWalkedTo dp ds (k + 1) r (v +ℤ dp.gain k s d)) (sym taken.row) (walked_more dp ds k s v more w taken.allowed))

pub steps-preserved : goal.steps-preserved
steps-preserved g c = walked_on _ (laws_of g c.args.model.now) _ _ _ _ _ _ c.steps-test.true c.steps.invariant c.in_ok-gained.ensures
