-- The clauses of a canonical text, added one after another, make the instance.
use Rattle.std.proofs.Common.{◌≡◌, ℕ, zero, suc, ◌+◌, ◌<◌, ℤ, pos, ◌+ℤ◌, ◌≤ℤ◌, Bool, true, false, List, [], ◌∷◌, ◌++◌, length, get_or, set, take, drop, refl, arith, ap, sym, ◌∙◌, append_assoc}
use Rattle.std.specs.Prelude.{IsTrue, fold, int_lt, replicate, if◌then◌else◌}
use Rattle.std.proofs.lemmas.Int.{ints}
use Rattle.std.proofs.lemmas.List.{length-append, length-drop, length-take-le, replicate-append-replicate, take-append-drop}
use Rattle.std.proofs.lemmas.List.Sums.{fold-append}
use Rattle.std.proofs.lemmas.Bool.{and_parts}
use Rattle.dp_model.specs.NumberLaws.{int_lt-is_not}
use Rattle.max_two_sat.specs.declared.clause.Literals.{Literals}
use Rattle.max_two_sat.specs.declared.clause.Literals.TheVariants.{One, Two}
use Rattle.max_two_sat.specs.declared.weights.UnitWeights.{UnitWeights}
use Rattle.max_two_sat.specs.declared.weights.PairWeights.{PairWeights}
use Rattle.pair_problem.specs.Adding.{place_of}
use Rattle.max_two_sat.specs.Clauses.{empty_instance, heavier_unit, heavier_pair, with_clause}
use Rattle.max_two_sat.specs.Instance.{Instance, no_pair, no_unit}
use Rattle.pair_rows.specs.Pairs.{rows_of, pair_count, entries_before}
use Rattle.max_two_sat.specs.Limits.{IsWithinLimits, PairIsPositive, UnitIsPositive, pairs_are_positive, units_are_positive, pair_is_positive, unit_is_positive}
use Rattle.max_two_sat.specs.Laws.Limits.{unit-positive, pair-positive}
use Rattle.max_two_sat.specs.Lines.{Clause, clause_where, clauses_of, literal, tautology_lines, unit_lines, units_lines, pair_lines, row_lines, rows_lines}
use Rattle.pair_rows.specs.Laws.Pairs.{entries_before-more, all-drop, all-take}
use Rattle.max_two_sat.proofs.Gathering.{two-in-order}

abbrev pub add_to : Instance → Clause → Instance
add_to i x = with_clause i x.weight x.literals

abbrev pub instance_with : ℤ → List UnitWeights → List PairWeights → Instance
instance_with t us ps = record { tautologies = t; units = us; pairs = ps }

-- an entry in the middle

get-middle : {X : Type 0} (done more : List X) (x d : X) → get_or (done ++ x ∷ more) (length done) d ≡ x
get-middle [] more x d = refl
get-middle (y ∷ done) more x d = get-middle done more x d

set-middle : {X : Type 0} (done more : List X) (x y : X) → set (done ++ x ∷ more) (length done) y ≡ done ++ y ∷ more
set-middle [] more x y = refl
set-middle (z ∷ done) more x y = ap (λ zs. z ∷ zs) (set-middle done more x y)

plus-zero : (z : ℤ) → z +ℤ pos 0 ≡ z
plus-zero z = omega (arith, ints)

zero-plus : (z : ℤ) → pos 0 +ℤ z ≡ z
zero-plus z = omega (arith, ints)

-- a clause where it has weight, or nothing
line-added : (i : Instance) (w : ℤ) (literals : Literals) (next : Instance) → pos 0 ≤ℤ w → with_clause i w literals ≡ next → (w ≡ pos 0 → i ≡ next) → fold add_to i (clause_where w literals) ≡ next
line-added i w literals next low added none =
    elim (int_lt (pos 0) w) as (λ t. int_lt (pos 0) w ≡ t → fold add_to i (if t then record { weight = w; literals = literals } ∷ [] else []) ≡ next) [
      | true ↦ λ e. added
      | false ↦ λ e. none (omega (arith, ints, int_lt-is_not (pos 0) w e))
    ] refl

-- units

heavier_unit-none : (u : UnitWeights) (sign : Bool) → heavier_unit u sign (pos 0) ≡ u
heavier_unit-none u true = ap (λ z. let v : UnitWeights = record { positive = z; negative = u.negative } in v) (plus-zero u.positive)
heavier_unit-none u false = ap (λ z. let v : UnitWeights = record { positive = u.positive; negative = z } in v) (plus-zero u.negative)

unit-added : (t : ℤ) (done more : List UnitWeights) (u : UnitWeights) (ps : List PairWeights) (sign : Bool) (w : ℤ) → pos 0 ≤ℤ w →
    fold add_to (instance_with t (done ++ u ∷ more) ps) (clause_where w (One (literal (length done) sign))) ≡ instance_with t (done ++ heavier_unit u sign w ∷ more) ps
unit-added t done more u ps sign w low =
    line-added (instance_with t (done ++ u ∷ more) ps) w (One (literal (length done) sign)) (instance_with t (done ++ heavier_unit u sign w ∷ more) ps) low
    (ap (λ us. instance_with t us ps)
    (ap (λ v. set (done ++ u ∷ more) (length done) (heavier_unit v sign w)) (get-middle done more u no_unit) ∙ set-middle done more u (heavier_unit u sign w)))
    (λ none. ap (λ v. instance_with t (done ++ v ∷ more) ps) (sym (ap (heavier_unit u sign) none ∙ heavier_unit-none u sign)))

unit-made : (u : UnitWeights) → heavier_unit (heavier_unit no_unit true u.positive) false u.negative ≡ u
unit-made u =
    ap (λ z. let v : UnitWeights = record { positive = z; negative = pos 0 +ℤ u.negative } in v) (zero-plus u.positive) ∙
    ap (λ z. let v : UnitWeights = record { positive = u.positive; negative = z } in v) (zero-plus u.negative)

unit-lines-added : (t : ℤ) (done more : List UnitWeights) (u : UnitWeights) (ps : List PairWeights) → UnitIsPositive u →
    fold add_to (instance_with t (done ++ no_unit ∷ more) ps) (unit_lines (length done) u) ≡ instance_with t (done ++ u ∷ more) ps
unit-lines-added t done more u ps here =
    fold-append add_to (instance_with t (done ++ no_unit ∷ more) ps) (clause_where u.positive (One (literal (length done) true))) (clause_where u.negative (One (literal (length done) false))) ∙
    (ap (λ i. fold add_to i (clause_where u.negative (One (literal (length done) false)))) (unit-added t done more no_unit ps true u.positive here.positive) ∙
    (unit-added t done more (heavier_unit no_unit true u.positive) ps false u.negative here.negative ∙ ap (λ v. instance_with t (done ++ v ∷ more) ps) (unit-made u)))

units-added : (us : List UnitWeights) (t : ℤ) (done : List UnitWeights) (ps : List PairWeights) → IsTrue (units_are_positive us) →
    fold add_to (instance_with t (done ++ replicate (length us) no_unit) ps) (units_lines (length done) us) ≡ instance_with t (done ++ us) ps
units-added [] t done ps h = refl
units-added (u ∷ us) t done ps h =
    let v : ℕ = length done in
    let next : length (done ++ u ∷ []) ≡ v + 1 = length-append done (u ∷ []) in
    let rest = units-added us t (done ++ u ∷ []) ps (and_parts (unit_is_positive u) _ h).1 in
    let turned : instance_with t (done ++ u ∷ replicate (length us) no_unit) ps ≡ instance_with t ((done ++ u ∷ []) ++ replicate (length us) no_unit) ps =
    ap (λ xs. instance_with t xs ps) (sym (append_assoc done (u ∷ []) (replicate (length us) no_unit))) in
    fold-append add_to (instance_with t (done ++ no_unit ∷ replicate (length us) no_unit) ps) (unit_lines v u) (units_lines (v + 1) us) ∙
    (ap (λ i. fold add_to i (units_lines (v + 1) us)) (unit-lines-added t done (replicate (length us) no_unit) u ps (unit-positive u (and_parts _ _ h).0) ∙ turned) ∙
    (ap (λ m. fold add_to (instance_with t ((done ++ u ∷ []) ++ replicate (length us) no_unit) ps) (units_lines m us)) (sym next) ∙
    (rest ∙ ap (λ xs. instance_with t xs ps) (append_assoc done (u ∷ []) us))))

-- pairs

heavier_pair-none : (p : PairWeights) (s r : Bool) → heavier_pair p s r (pos 0) ≡ p
heavier_pair-none p true true = ap (λ z. let q : PairWeights = record { both = z; first = p.first; second = p.second; neither = p.neither } in q) (plus-zero p.both)
heavier_pair-none p true false = ap (λ z. let q : PairWeights = record { both = p.both; first = z; second = p.second; neither = p.neither } in q) (plus-zero p.first)
heavier_pair-none p false true = ap (λ z. let q : PairWeights = record { both = p.both; first = p.first; second = z; neither = p.neither } in q) (plus-zero p.second)
heavier_pair-none p false false = ap (λ z. let q : PairWeights = record { both = p.both; first = p.first; second = p.second; neither = z } in q) (plus-zero p.neither)

pair-added : (t : ℤ) (us : List UnitWeights) (done more : List PairWeights) (p : PairWeights) (i j : ℕ) (s r : Bool) (w : ℤ) → pos 0 ≤ℤ w → i < j → place_of (length us) i j ≡ length done →
    fold add_to (instance_with t us (done ++ p ∷ more)) (clause_where w (Two (literal i s) (literal j r))) ≡ instance_with t us (done ++ heavier_pair p s r w ∷ more)
pair-added t us done more p i j s r w low less place =
    line-added (instance_with t us (done ++ p ∷ more)) w (Two (literal i s) (literal j r)) (instance_with t us (done ++ heavier_pair p s r w ∷ more)) low
    (two-in-order (instance_with t us (done ++ p ∷ more)) w (literal i s) (literal j r) less ∙
    ap (λ ps. instance_with t us ps)
    (ap (λ m. set (done ++ p ∷ more) m (heavier_pair (get_or (done ++ p ∷ more) m no_pair) s r w)) place ∙
    (ap (λ q. set (done ++ p ∷ more) (length done) (heavier_pair q s r w)) (get-middle done more p no_pair) ∙ set-middle done more p (heavier_pair p s r w))))
    (λ none. ap (λ q. instance_with t us (done ++ q ∷ more)) (sym (ap (heavier_pair p s r) none ∙ heavier_pair-none p s r)))

pair-made : (p : PairWeights) →
    heavier_pair (heavier_pair (heavier_pair (heavier_pair no_pair true true p.both) true false p.first) false true p.second) false false p.neither ≡ p
pair-made p =
    ap (λ z. let q : PairWeights = record { both = z; first = pos 0 +ℤ p.first; second = pos 0 +ℤ p.second; neither = pos 0 +ℤ p.neither } in q) (zero-plus p.both) ∙
    (ap (λ z. let q : PairWeights = record { both = p.both; first = z; second = pos 0 +ℤ p.second; neither = pos 0 +ℤ p.neither } in q) (zero-plus p.first) ∙
    (ap (λ z. let q : PairWeights = record { both = p.both; first = p.first; second = z; neither = pos 0 +ℤ p.neither } in q) (zero-plus p.second) ∙
    ap (λ z. let q : PairWeights = record { both = p.both; first = p.first; second = p.second; neither = z } in q) (zero-plus p.neither)))

four-added : (i : Instance) (a b d e : List Clause) → fold add_to i (a ++ (b ++ (d ++ e))) ≡ fold add_to (fold add_to (fold add_to (fold add_to i a) b) d) e
four-added i a b d e =
    fold-append add_to i a (b ++ (d ++ e)) ∙ (fold-append add_to (fold add_to i a) b (d ++ e) ∙ fold-append add_to (fold add_to (fold add_to i a) b) d e)

pair-lines-added : (t : ℤ) (us : List UnitWeights) (done more : List PairWeights) (p : PairWeights) (i j : ℕ) → PairIsPositive p → i < j → place_of (length us) i j ≡ length done →
    fold add_to (instance_with t us (done ++ no_pair ∷ more)) (pair_lines i j p) ≡ instance_with t us (done ++ p ∷ more)
pair-lines-added t us done more p i j here less place =
    let a : List Clause = clause_where p.both (Two (literal i true) (literal j true)) in
    let b : List Clause = clause_where p.first (Two (literal i true) (literal j false)) in
    let d : List Clause = clause_where p.second (Two (literal i false) (literal j true)) in
    let e : List Clause = clause_where p.neither (Two (literal i false) (literal j false)) in
    let one : PairWeights = heavier_pair no_pair true true p.both in
    let two : PairWeights = heavier_pair one true false p.first in
    let three : PairWeights = heavier_pair two false true p.second in
    four-added (instance_with t us (done ++ no_pair ∷ more)) a b d e ∙
    (ap (λ x. fold add_to (fold add_to (fold add_to x b) d) e) (pair-added t us done more no_pair i j true true p.both here.both less place) ∙
    (ap (λ x. fold add_to (fold add_to x d) e) (pair-added t us done more one i j true false p.first here.first less place) ∙
    (ap (λ x. fold add_to x e) (pair-added t us done more two i j false true p.second here.second less place) ∙
    (pair-added t us done more three i j false false p.neither here.neither less place ∙ ap (λ q. instance_with t us (done ++ q ∷ more)) (pair-made p)))))

row-added : (ps : List PairWeights) (t : ℤ) (us : List UnitWeights) (done more : List PairWeights) (i j : ℕ) → IsTrue (pairs_are_positive ps) → i < j → place_of (length us) i j ≡ length done →
    fold add_to (instance_with t us (done ++ (replicate (length ps) no_pair ++ more))) (row_lines i j ps) ≡ instance_with t us (done ++ (ps ++ more))
row-added [] t us done more i j h less place = refl
row-added (p ∷ ps) t us done more i j h less place =
    let rest : List PairWeights = replicate (length ps) no_pair ++ more in
    let next : place_of (length us) i (j + 1) ≡ length (done ++ p ∷ []) = omega (arith, length-append done (p ∷ [])) in
    let turned : instance_with t us (done ++ p ∷ rest) ≡ instance_with t us ((done ++ p ∷ []) ++ rest) = ap (λ xs. instance_with t us xs) (sym (append_assoc done (p ∷ []) rest)) in
    fold-append add_to (instance_with t us (done ++ no_pair ∷ rest)) (pair_lines i j p) (row_lines i (j + 1) ps) ∙
    (ap (λ x. fold add_to x (row_lines i (j + 1) ps)) (pair-lines-added t us done rest p i j (pair-positive p (and_parts _ _ h).0) less place ∙ turned) ∙
    (row-added ps t us (done ++ p ∷ []) more i (j + 1) (and_parts (pair_is_positive p) _ h).1 (omega arith) next ∙
    ap (λ xs. instance_with t us xs) (append_assoc done (p ∷ []) (ps ++ more))))

rows-added : (m : ℕ) (ps : List PairWeights) (t : ℤ) (us : List UnitWeights) (done : List PairWeights) (i : ℕ) → IsTrue (pairs_are_positive ps) → length ps ≡ pair_count m → i + m ≡ length us → entries_before (length us) i ≡ length done →
    fold add_to (instance_with t us (done ++ replicate (length ps) no_pair)) (rows_lines i (rows_of m ps)) ≡ instance_with t us (done ++ ps)
rows-added zero [] t us done i h whole ends place = refl
rows-added zero (p ∷ ps) t us done i h whole ends place = absurd (omega arith)
rows-added (suc m) ps t us done i h whole ends place =
    let row : List PairWeights = take m ps in
    let below : List PairWeights = drop m ps in
    let short : length row ≡ m = length-take-le m ps (omega arith) in
    let left = length-drop m ps in
    let parts : replicate (length ps) no_pair ≡ replicate (length row) no_pair ++ replicate (length below) no_pair =
    ap (λ m. replicate m no_pair) (let e : length ps ≡ length row + length below = omega arith in e) ∙ sym (replicate-append-replicate (length row) (length below) no_pair) in
    let first : place_of (length us) i (i + 1) ≡ length done = omega arith in
    let next : entries_before (length us) (i + 1) ≡ length (done ++ row) =
    ap (entries_before (length us)) (let e : i + 1 ≡ suc i = omega arith in e) ∙ (let e : entries_before (length us) (suc i) ≡ length (done ++ row) = omega (arith, entries_before-more (length us) i (omega arith), length-append done row) in e) in
    ap (λ xs. fold add_to (instance_with t us (done ++ xs)) (row_lines i (i + 1) row ++ rows_lines (i + 1) (rows_of m below))) parts ∙
    (fold-append add_to (instance_with t us (done ++ (replicate (length row) no_pair ++ replicate (length below) no_pair))) (row_lines i (i + 1) row) (rows_lines (i + 1) (rows_of m below)) ∙
    (ap (λ x. fold add_to x (rows_lines (i + 1) (rows_of m below)))
    (row-added row t us done (replicate (length below) no_pair) i (i + 1) (all-take pair_is_positive m ps h) (omega arith) first ∙
    ap (λ xs. instance_with t us xs) (sym (append_assoc done row (replicate (length below) no_pair)))) ∙
    (rows-added m below t us (done ++ row) (i + 1) (all-drop pair_is_positive m ps h) (omega arith) (omega arith) next ∙
    ap (λ xs. instance_with t us xs) (append_assoc done row below ∙ ap (λ xs. done ++ xs) (take-append-drop m ps)))))

tautology-added : (t : ℤ) (us : List UnitWeights) (ps : List PairWeights) → pos 0 ≤ℤ t → fold add_to (instance_with (pos 0) us ps) (tautology_lines t) ≡ instance_with t us ps
tautology-added t us ps low =
    line-added (instance_with (pos 0) us ps) t (Two (literal 0 true) (literal 0 false)) (instance_with t us ps) low
    (ap (λ z. instance_with z us ps) (zero-plus t))
    (λ none. ap (λ z. instance_with z us ps) (sym none))

-- all clauses together
pub clauses-added : (i : Instance) → IsWithinLimits i → fold add_to (empty_instance (length i.units)) (clauses_of i) ≡ i
unfolding clauses_of
clauses-added i kept =
    let n : ℕ = length i.units in
    let us : List UnitWeights = replicate n no_unit in
    let ps : List PairWeights = replicate (length i.pairs) no_pair in
    let count : replicate (pair_count n) no_pair ≡ ps = ap (λ m. replicate m no_pair) (sym kept.whole) in
    let u : List Clause = units_lines 0 i.units in
    let r : List Clause = rows_lines 0 (rows_of n i.pairs) in
    ap (λ xs. fold add_to (instance_with (pos 0) us xs) (tautology_lines i.tautologies ++ (u ++ r))) count ∙
    (fold-append add_to (instance_with (pos 0) us ps) (tautology_lines i.tautologies) (u ++ r) ∙
    (ap (λ x. fold add_to x (u ++ r)) (tautology-added i.tautologies us ps kept.tautologies) ∙
    (fold-append add_to (instance_with i.tautologies us ps) u r ∙
    (ap (λ x. fold add_to x r) (units-added i.units i.tautologies [] ps kept.units) ∙
    rows-added n i.pairs i.tautologies i.units [] 0 kept.pairs kept.whole (omega arith) refl))))
