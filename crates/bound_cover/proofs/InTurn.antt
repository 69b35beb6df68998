-- Layers that are tested in turn have the verdict of all of them.
use Rattle.std.proofs.Common.{◌≡◌, ℕ, suc, ◌+◌, ◌-◌, nat_eq, nat_lt, ℤ, Bool, true, false, cond, List, [], ◌∷◌, ◌++◌, length, Option, Some, None, refl, ◌∙◌, ap, arith}
use Rattle.dp_model.specs.Dp.{Dp}
use Rattle.bound_cover.specs.declared.cover.Why.{Why}
use Rattle.bound_cover.specs.declared.cover.Why.TheVariants.{Layers}
use Rattle.bound_cover.specs.declared.layer_tests.LayerTests.{LayerTests}
use Rattle.bound_cover.specs.Covers.{CoverRow}
use Rattle.bound_cover.specs.Exploring.{layer_of}
use Rattle.bound_cover.specs.InTurn.{layer_fault, last_rows_fault, begun_with, begun, taken, all_taken, concluded}
use Rattle.bound_cover.specs.Tests.{first_of}
use Rattle.bound_cover.specs.Verdicts.{rows_fault, layers_fault, cover_fault, solution_fault, claim_of, verdict_of, verdict}

first-assoc : (a b c : Option Why) → first_of (first_of a b) c ≡ first_of a (first_of b c)
first-assoc None b c = refl
first-assoc (Some why) b c = refl

first-alone : (a : Option Why) → a ≡ first_of a None
first-alone None = refl
first-alone (Some why) = refl

-- this many came
pub count-taken : (dp : Dp) (t : LayerTests) (layers : List (List CoverRow)) → (all_taken dp t layers).count ≡ t.count + length layers
count-taken dp t [] = omega arith
count-taken dp t (layer ∷ layers) = count-taken dp (taken dp t (layer ∷ [])) layers ∙ omega arith

-- a further one comes last
pub taken-last : (dp : Dp) (t : LayerTests) (layers : List (List CoverRow)) (layer : List CoverRow) → all_taken dp t (layers ++ layer ∷ []) ≡ taken dp (all_taken dp t layers) (layer ∷ [])
taken-last dp t [] layer = refl
taken-last dp t (next ∷ layers) layer = taken-last dp (taken dp t (next ∷ [])) layers layer

-- all that come fail first where the layers from the one at hand on do
following : (dp : Dp) (k : ℕ) (t : LayerTests) (layers : List (List CoverRow)) → t.count ≡ suc k → k + length layers ≡ dp.vars
    → first_of (all_taken dp t layers).why (last_rows_fault dp (layer_of (all_taken dp t layers).here 0)) ≡ first_of t.why (layers_fault dp k (layer_of t.here 0 ∷ layers))
following dp k t [] one long =
    let last : dp.vars ≡ k = omega arith in
    ap (first_of t.why) (ap (λ n. rows_fault dp n [] 0 (layer_of t.here 0)) last ∙ first-alone (rows_fault dp k [] 0 (layer_of t.here 0)))
following dp k t (layer ∷ layers) one long =
    let later : nat_eq t.count 0 ≡ false = grind arith in
    let back : t.count - 1 ≡ k = omega arith in
    let few : nat_lt k dp.vars ≡ true = grind arith in
    let fault : layer_fault dp t.claim t.count (layer_of t.here 0) layer ≡ rows_fault dp k layer 0 (layer_of t.here 0) = rw (later, back, few) refl in
    following dp (k + 1) (taken dp t (layer ∷ [])) layers (omega arith) (omega arith)
    ∙ (ap (λ why. first_of (first_of t.why why) (layers_fault dp (k + 1) (layer ∷ layers))) fault
    ∙ first-assoc t.why (rows_fault dp k layer 0 (layer_of t.here 0)) (layers_fault dp (k + 1) (layer ∷ layers)))

-- from the first layer on
from-first : (dp : Dp) (why : Option Why) (claim : Option ℤ) (layer : List CoverRow) (more : List (List CoverRow)) → length more ≡ dp.vars
    → first_of (all_taken dp (begun_with why claim) (layer ∷ more)).why (last_rows_fault dp (layer_of (all_taken dp (begun_with why claim) (layer ∷ more)).here 0)) ≡ first_of why (cover_fault dp claim (layer ∷ more))
from-first dp None claim layer more long = following dp 0 (taken dp (begun_with None claim) (layer ∷ [])) more refl (omega arith)
from-first dp (Some why) claim layer more long = following dp 0 (taken dp (begun_with (Some why) claim) (layer ∷ [])) more refl (omega arith)

pub none-yet : (why : Option Why) (claim : Option ℤ) → (begun_with why claim).count ≡ 0
none-yet None claim = refl
none-yet (Some why) claim = refl

of-all : (dp : Dp) (why : Option Why) (claim : Option ℤ) (layers : List (List CoverRow)) (long : Bool) → nat_eq (length layers) (dp.vars + 1) ≡ long
    → cond long (first_of (all_taken dp (begun_with why claim) layers).why (last_rows_fault dp (layer_of (all_taken dp (begun_with why claim) layers).here 0))) (Some Layers)
    ≡ cond long (first_of why (cover_fault dp claim layers)) (Some Layers)
of-all dp why claim layers false is = refl
of-all dp why claim [] true is = absurd (grind arith)
of-all dp why claim (layer ∷ more) true is = from-first dp why claim layer more (grind arith)

-- layers that come one after another have the verdict of the cover that they make
pub concluded-is : (dp : Dp) (best : Option ℤ) (within : ℤ) (x : List ℕ) (layers : List (List CoverRow)) → concluded dp (all_taken dp (begun dp best within x) layers) ≡ verdict dp best within x layers
concluded-is dp best within x layers =
    let why = solution_fault dp best x in
    let claim = claim_of best within in
    let count : (all_taken dp (begun_with why claim) layers).count ≡ length layers = count-taken dp (begun_with why claim) layers ∙ (let none = none-yet why claim in omega arith) in
    ap verdict_of
    (ap (λ n. cond (nat_eq n (dp.vars + 1)) (first_of (all_taken dp (begun_with why claim) layers).why (last_rows_fault dp (layer_of (all_taken dp (begun_with why claim) layers).here 0))) (Some Layers)) count
    ∙ of-all dp why claim layers (nat_eq (length layers) (dp.vars + 1)) refl)
