-- Printing line by line.
use Rattle.std.proofs.Common.{◌≡◌, ℕ, suc, ◌+◌, ◌<◌, ◌≤◌, true, false, List, [], ◌++◌, length, drop, get_or, arith, ap, sym, ◌∙◌, append_assoc, append-nil}
use Rattle.std.specs.List.{flat_map}
use Rattle.std.proofs.lemmas.List.{drop_more, drop_all}
use Rattle.std.proofs.lemmas.List.Concat.{flat_map-append}
use Rattle.max_two_sat.specs.declared.clause.Literals.TheVariants.{Two}
use Rattle.max_two_sat.specs.declared.weights.UnitWeights.{UnitWeights}
use Rattle.max_two_sat.specs.declared.weights.PairWeights.{PairWeights}
use Rattle.max_two_sat.specs.Instance.{Instance, no_pair, no_unit}
use Rattle.pair_rows.specs.Pairs.{rows_of, row_at}
use Rattle.max_two_sat.specs.Lines.{Clause, clause_where, literal, clauses_of, tautology_lines, unit_lines, units_lines, pair_lines, row_lines, rows_lines}
use Rattle.max_two_sat.specs.Printed.{line_of, text_of, first_line_of}
use Rattle.pair_rows.specs.Laws.Pairs.{drop-rows}

-- one more part is printed
part-printed : (out part rest whole : List ℕ) (made : List ℕ) → made ≡ out ++ part → out ++ (part ++ rest) ≡ whole → made ++ rest ≡ whole
part-printed out part rest whole made is before = rw is (append_assoc out part rest ∙ before)

pub units-printed : (us : List UnitWeights) (v : ℕ) (out made whole : List ℕ) → v < length us → made ≡ out ++ flat_map line_of (unit_lines v (get_or us v no_unit)) →
    out ++ flat_map line_of (units_lines v (drop v us)) ≡ whole → made ++ flat_map line_of (units_lines (v + 1) (drop (v + 1) us)) ≡ whole
units-printed us v out made whole h is before =
    let cut : units_lines v (drop v us) ≡ unit_lines v (get_or us v no_unit) ++ units_lines (v + 1) (drop (v + 1) us) = ap (units_lines v) (drop_more us v no_unit h) in
    let split : flat_map line_of (units_lines v (drop v us)) ≡ flat_map line_of (unit_lines v (get_or us v no_unit)) ++ flat_map line_of (units_lines (v + 1) (drop (v + 1) us)) =
    ap (flat_map line_of) cut ∙ flat_map-append line_of (unit_lines v (get_or us v no_unit)) (units_lines (v + 1) (drop (v + 1) us)) in
    part-printed out _ _ whole made is (ap (λ bytes. out ++ bytes) (sym split) ∙ before)

pub units-all-printed : (us : List UnitWeights) (v : ℕ) (out whole : List ℕ) → length us ≤ v → out ++ flat_map line_of (units_lines v (drop v us)) ≡ whole → out ≡ whole
units-all-printed us v out whole h before =
    let none : drop v us ≡ [] = drop_all v us h in
    sym (append-nil out) ∙ rw none at before

pub row-printed : (ps : List PairWeights) (i j k : ℕ) (out made whole : List ℕ) → k < length ps → made ≡ out ++ flat_map line_of (pair_lines i (j + k) (get_or ps k no_pair)) →
    out ++ flat_map line_of (row_lines i (j + k) (drop k ps)) ≡ whole → made ++ flat_map line_of (row_lines i (j + (k + 1)) (drop (k + 1) ps)) ≡ whole
row-printed ps i j k out made whole h is before =
    let next : (j + k) + 1 ≡ j + (k + 1) = omega arith in
    let cut : row_lines i (j + k) (drop k ps) ≡ pair_lines i (j + k) (get_or ps k no_pair) ++ row_lines i ((j + k) + 1) (drop (k + 1) ps) = ap (row_lines i (j + k)) (drop_more ps k no_pair h) in
    let split : flat_map line_of (row_lines i (j + k) (drop k ps)) ≡ flat_map line_of (pair_lines i (j + k) (get_or ps k no_pair)) ++ flat_map line_of (row_lines i ((j + k) + 1) (drop (k + 1) ps)) =
    ap (flat_map line_of) cut ∙ flat_map-append line_of (pair_lines i (j + k) (get_or ps k no_pair)) (row_lines i ((j + k) + 1) (drop (k + 1) ps)) in
    let more : made ++ flat_map line_of (row_lines i ((j + k) + 1) (drop (k + 1) ps)) ≡ whole = part-printed out _ _ whole made is (ap (λ bytes. out ++ bytes) (sym split) ∙ before) in
    ap (λ m. made ++ flat_map line_of (row_lines i m (drop (k + 1) ps))) (sym next) ∙ more

pub row-all-printed : (ps : List PairWeights) (i j k : ℕ) (out whole : List ℕ) → length ps ≤ k → out ++ flat_map line_of (row_lines i (j + k) (drop k ps)) ≡ whole → out ≡ whole
row-all-printed ps i j k out whole h before =
    let none : drop k ps ≡ [] = drop_all k ps h in
    sym (append-nil out) ∙ rw none at before

pub rows-printed : (rows : List (List PairWeights)) (k : ℕ) (out made whole : List ℕ) → k < length rows → made ≡ out ++ flat_map line_of (row_lines k (k + 1) (row_at rows k)) →
    out ++ flat_map line_of (rows_lines k (drop k rows)) ≡ whole → made ++ flat_map line_of (rows_lines (k + 1) (drop (k + 1) rows)) ≡ whole
rows-printed rows k out made whole h is before =
    let one : suc k ≡ k + 1 = omega arith in
    let cut : rows_lines k (drop k rows) ≡ row_lines k (k + 1) (row_at rows k) ++ rows_lines (k + 1) (drop (suc k) rows) = ap (rows_lines k) (drop-rows rows k h) in
    let split : flat_map line_of (rows_lines k (drop k rows)) ≡ flat_map line_of (row_lines k (k + 1) (row_at rows k)) ++ flat_map line_of (rows_lines (k + 1) (drop (suc k) rows)) =
    ap (flat_map line_of) cut ∙ flat_map-append line_of (row_lines k (k + 1) (row_at rows k)) (rows_lines (k + 1) (drop (suc k) rows)) in
    let more : made ++ flat_map line_of (rows_lines (k + 1) (drop (suc k) rows)) ≡ whole = part-printed out _ _ whole made is (ap (λ bytes. out ++ bytes) (sym split) ∙ before) in
    ap (λ m. made ++ flat_map line_of (rows_lines (k + 1) (drop m rows))) (sym one) ∙ more

pub rows-all-printed : (rows : List (List PairWeights)) (k : ℕ) (out whole : List ℕ) → length rows ≤ k → out ++ flat_map line_of (rows_lines k (drop k rows)) ≡ whole → out ≡ whole
rows-all-printed rows k out whole h before =
    let none : drop k rows ≡ [] = drop_all k rows h in
    sym (append-nil out) ∙ rw none at before

-- the whole text
pub text-printed : (i : Instance) (start first tautologies units rows : List ℕ) → start ≡ [] → first ≡ start ++ first_line_of i →
    tautologies ≡ first ++ flat_map line_of (tautology_lines i.tautologies) → units ≡ tautologies ++ flat_map line_of (units_lines 0 i.units) →
    rows ≡ units ++ flat_map line_of (rows_lines 0 (rows_of (length i.units) i.pairs)) → rows ≡ text_of i
unfolding clauses_of
text-printed i start first tautologies units rows none first_is tautologies_is units_is rows_is =
    let inner : flat_map line_of (units_lines 0 i.units ++ rows_lines 0 (rows_of (length i.units) i.pairs)) ≡ flat_map line_of (units_lines 0 i.units) ++ flat_map line_of (rows_lines 0 (rows_of (length i.units) i.pairs)) =
    flat_map-append line_of (units_lines 0 i.units) (rows_lines 0 (rows_of (length i.units) i.pairs)) in
    let outer = flat_map-append line_of (tautology_lines i.tautologies) (units_lines 0 i.units ++ rows_lines 0 (rows_of (length i.units) i.pairs)) in
    rw (rows_is, units_is, tautologies_is, first_is, none, outer, inner) (simp append_assoc)

-- one clause

four-parts : (start one two three four : List ℕ) (a b d e : List Clause) → one ≡ start ++ flat_map line_of a → two ≡ one ++ flat_map line_of b → three ≡ two ++ flat_map line_of d → four ≡ three ++ flat_map line_of e →
    four ≡ start ++ flat_map line_of (a ++ (b ++ (d ++ e)))
four-parts start one two three four a b d e one_is two_is three_is four_is =
    rw (four_is, three_is, two_is, one_is, flat_map-append line_of a (b ++ (d ++ e)), flat_map-append line_of b (d ++ e), flat_map-append line_of d e) (simp append_assoc)

-- the four clauses of a pair, and the two of a variable
pub pair-printed : (i j : ℕ) (p : PairWeights) (start one two three four : List ℕ) →
    one ≡ start ++ flat_map line_of (clause_where p.both (Two (literal i true) (literal j true))) →
    two ≡ one ++ flat_map line_of (clause_where p.first (Two (literal i true) (literal j false))) →
    three ≡ two ++ flat_map line_of (clause_where p.second (Two (literal i false) (literal j true))) →
    four ≡ three ++ flat_map line_of (clause_where p.neither (Two (literal i false) (literal j false))) →
    four ≡ start ++ flat_map line_of (pair_lines i j p)
pair-printed i j p start one two three four one_is two_is three_is four_is =
    let a : List Clause = clause_where p.both (Two (literal i true) (literal j true)) in
    let b : List Clause = clause_where p.first (Two (literal i true) (literal j false)) in
    let d : List Clause = clause_where p.second (Two (literal i false) (literal j true)) in
    let e : List Clause = clause_where p.neither (Two (literal i false) (literal j false)) in
    four-parts start one two three four a b d e one_is two_is three_is four_is

pub two-printed : (start one two : List ℕ) (a b : List Clause) → one ≡ start ++ flat_map line_of a → two ≡ one ++ flat_map line_of b → two ≡ start ++ flat_map line_of (a ++ b)
two-printed start one two a b one_is two_is = rw (two_is, one_is, flat_map-append line_of a b) (append_assoc start (flat_map line_of a) (flat_map line_of b))
