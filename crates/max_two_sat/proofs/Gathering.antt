-- What a clause more keeps.
use Rattle.std.proofs.Common.{◌≡◌, ℕ, zero, suc, ◌+◌, ◌^◌, ◌<◌, ◌≤◌, ℤ, pos, ◌+ℤ◌, ◌≤ℤ◌, Bool, true, false, List, [], ◌∷◌, length, get_or, set, refl, arith, ap, sym, ◌∙◌, eq-eqb, to_z, of_z, w64}
use Rattle.std.specs.Prelude.{IsTrue, ◌==◌, nat_lt, int_lt, replicate, if◌then◌else◌}
use Rattle.std.specs.List.{list_all}
use Rattle.std.proofs.lemmas.Bool.Decides.{nat_tests}
use Rattle.std.proofs.lemmas.Int.{ints}
use Rattle.std.proofs.lemmas.List.{length-replicate, length-set}
use Rattle.std.proofs.lemmas.Bool.{and_parts, and_from}
use Rattle.std.proofs.lemmas.List.Sums.{sum_by-set}
use Rattle.std.proofs.lemmas.List.Folds.{sum_by-replicate}
use Rattle.dp_model.specs.NumberLaws.{int_le-from}
use Rattle.max_two_sat.specs.declared.clause.Literal.{Literal}
use Rattle.max_two_sat.specs.declared.clause.Literals.{Literals}
use Rattle.max_two_sat.specs.declared.clause.Literals.TheVariants.{Empty, One, Two}
use Rattle.max_two_sat.specs.declared.header.Header.{Header}
use Rattle.max_two_sat.specs.declared.header.Form.{Form}
use Rattle.max_two_sat.specs.declared.header.Form.TheVariants.{Plain, Weighted}
use Rattle.max_two_sat.specs.declared.weights.UnitWeights.{UnitWeights}
use Rattle.max_two_sat.specs.declared.weights.PairWeights.{PairWeights}
use Rattle.pair_problem.specs.Adding.{place_of}
use Rattle.max_two_sat.specs.Clauses.{FitsLiteral, FitsLiterals, Gathered, gathered_with, nothing_gathered, heavier_unit, heavier_pair, same_sign, with_clause, with_two, with_pair, with_tautology, with_unit}
use Rattle.max_two_sat.specs.Instance.{Instance, unit_total, pair_total, units_total, pairs_total, no_pair, no_unit}
use Rattle.pair_rows.specs.Pairs.{pair_count, total_by}
use Rattle.max_two_sat.specs.Limits.{PairIsPositive, UnitIsPositive, pairs_are_positive, units_are_positive, pair_is_positive, unit_is_positive}
use Rattle.max_two_sat.specs.Lines.{line_count, pair_weighing, unit_weighing, weighs}
use Rattle.max_two_sat.specs.Room.{FormGives, FormKeeps, HasClauseRoom, IsGathered, IsGathering}
use Rattle.pair_rows.specs.Laws.Pairs.{entries_before-more, entries_before-most}
use Rattle.max_two_sat.specs.Laws.Totals.{units_total-positive, pairs_total-positive}
use Rattle.max_two_sat.proofs.Entries.{pair-at, unit-at}

-- the place of a pair
pub place-inside : (n i j : ℕ) → i < j → j < n → place_of n i j < pair_count n
place-inside n i j h g = omega (arith, entries_before-more n i (omega arith), entries_before-most n (suc i))

-- what is known of a clause for which there is room
pub record RoomLeaves (i : Instance) (weight : ℤ) : Type 0 where
  pub low : pos 0 ≤ℤ weight
  pub high : weight ≤ℤ pos (2 ^ 48)
  pub tautologies_low : pos 0 ≤ℤ i.tautologies
  pub tautologies : (i.tautologies +ℤ weight) ≤ℤ pos (2 ^ 48)
  pub units : (units_total i.units +ℤ weight) ≤ℤ pos (2 ^ 48)
  pub pairs : (pairs_total i.pairs +ℤ weight) ≤ℤ pos (2 ^ 48)

pub room-leaves : (i : Instance) (weight : ℤ) → HasClauseRoom i weight → RoomLeaves i weight
room-leaves i weight room =
    let units = units_total-positive i.units room.units in
    let pairs = pairs_total-positive i.pairs room.pairs in
    record {
      low = room.low;
      high = omega (arith, ints, room.total, room.tautologies, room.low);
      tautologies_low = room.tautologies;
      tautologies = omega (arith, ints, room.total, room.tautologies, room.low);
      units = omega (arith, ints, room.total, room.tautologies, room.low);
      pairs = omega (arith, ints, room.total, room.tautologies, room.low);
    }

-- one entry replaced

pub record EntryPut (X : Type 0) (number : X → ℤ) (test : X → Bool) (xs : List X) (k : ℕ) (x none : X) : Type 0 where
  pub weight : total_by number (set xs k x) +ℤ number (get_or xs k none) ≡ total_by number xs +ℤ number x
  pub positive : IsTrue (list_all test xs) → IsTrue (test x) → IsTrue (list_all test (set xs k x))

pub entry-put : {X : Type 0} (number : X → ℤ) (test : X → Bool) (xs : List X) (k : ℕ) (x none : X) → k < length xs → EntryPut X number test xs k x none
entry-put number test [] k x none h = absurd (omega arith)
entry-put number test (y ∷ xs) zero x none h = record {
  weight = omega (arith, ints);
  positive = λ all one. and_from (test x) _ one (and_parts (test y) _ all).1;
}
entry-put number test (y ∷ xs) (suc k) x none h =
    let rest = entry-put number test xs k x none (omega arith) in
    record {
      weight = omega (arith, ints, rest.weight);
      positive = λ all one. and_from (test y) _ (and_parts _ _ all).0 (rest.positive (and_parts (test y) _ all).1 one);
    }

-- a weight is above zero or not
pub weighs-most : (z : ℤ) → weighs z ≤ 1
weighs-most z = elim (int_lt (pos 0) z) as (λ b. (if b then 1 else 0) ≤ 1) [ true ↦ omega arith | false ↦ omega arith ]

-- an entry that got heavier

pub heavier_unit-total : (u : UnitWeights) (sign : Bool) (w : ℤ) → unit_total (heavier_unit u sign w) ≡ unit_total u +ℤ w
heavier_unit-total u true w = omega (arith, ints)
heavier_unit-total u false w = omega (arith, ints)

pub heavier_unit-lines : (u : UnitWeights) (sign : Bool) (w : ℤ) →
    unit_weighing (heavier_unit u sign w) ≤ unit_weighing u + 1
heavier_unit-lines u true w = omega (arith, weighs-most (u.positive +ℤ w))
heavier_unit-lines u false w = omega (arith, weighs-most (u.negative +ℤ w))

pub heavier_unit-positive : (u : UnitWeights) (sign : Bool) (w : ℤ) → UnitIsPositive u → pos 0 ≤ℤ w → IsTrue (unit_is_positive (heavier_unit u sign w))
heavier_unit-positive u true w here low = and_from _ _ (int_le-from (pos 0) (u.positive +ℤ w) (omega (arith, ints, here.positive))) (int_le-from (pos 0) u.negative here.negative)
heavier_unit-positive u false w here low = and_from _ _ (int_le-from (pos 0) u.positive here.positive) (int_le-from (pos 0) (u.negative +ℤ w) (omega (arith, ints, here.negative)))

pub heavier_pair-total : (p : PairWeights) (s t : Bool) (w : ℤ) → pair_total (heavier_pair p s t w) ≡ pair_total p +ℤ w
heavier_pair-total p true true w = omega (arith, ints)
heavier_pair-total p true false w = omega (arith, ints)
heavier_pair-total p false true w = omega (arith, ints)
heavier_pair-total p false false w = omega (arith, ints)

pub heavier_pair-lines : (p : PairWeights) (s t : Bool) (w : ℤ) →
    pair_weighing (heavier_pair p s t w) ≤ pair_weighing p + 1
heavier_pair-lines p true true w = omega (arith, weighs-most (p.both +ℤ w))
heavier_pair-lines p true false w = omega (arith, weighs-most (p.first +ℤ w))
heavier_pair-lines p false true w = omega (arith, weighs-most (p.second +ℤ w))
heavier_pair-lines p false false w = omega (arith, weighs-most (p.neither +ℤ w))

positive-of : (a b c d : ℤ) → pos 0 ≤ℤ a → pos 0 ≤ℤ b → pos 0 ≤ℤ c → pos 0 ≤ℤ d → IsTrue (pair_is_positive (record { both = a; first = b; second = c; neither = d }))
positive-of a b c d h1 h2 h3 h4 = and_from _ _ (and_from _ _ (int_le-from (pos 0) a h1) (int_le-from (pos 0) b h2)) (and_from _ _ (int_le-from (pos 0) c h3) (int_le-from (pos 0) d h4))

pub heavier_pair-positive : (p : PairWeights) (s t : Bool) (w : ℤ) → PairIsPositive p → pos 0 ≤ℤ w → IsTrue (pair_is_positive (heavier_pair p s t w))
heavier_pair-positive p true true w here low = positive-of (p.both +ℤ w) p.first p.second p.neither (omega (arith, ints, here.both)) here.first here.second here.neither
heavier_pair-positive p true false w here low = positive-of p.both (p.first +ℤ w) p.second p.neither here.both (omega (arith, ints, here.first)) here.second here.neither
heavier_pair-positive p false true w here low = positive-of p.both p.first (p.second +ℤ w) p.neither here.both here.first (omega (arith, ints, here.second)) here.neither
heavier_pair-positive p false false w here low = positive-of p.both p.first p.second (p.neither +ℤ w) here.both here.first here.second (omega (arith, ints, here.neither))

-- what an instance with a clause more keeps
pub record Keeps (i next : Instance) (w : ℤ) : Type 0 where
  pub units_count : length next.units ≡ length i.units
  pub pairs_count : length next.pairs ≡ length i.pairs
  pub tautologies : pos 0 ≤ℤ next.tautologies
  pub units : IsTrue (units_are_positive next.units)
  pub pairs : IsTrue (pairs_are_positive next.pairs)
  pub weight : (next.tautologies +ℤ (units_total next.units +ℤ pairs_total next.pairs)) ≤ℤ ((i.tautologies +ℤ (units_total i.units +ℤ pairs_total i.pairs)) +ℤ w)
  pub lines : line_count next ≤ line_count i + 1
  pub some : weighs next.tautologies ≤ length next.units

keeps-unit : (i : Instance) (w : ℤ) (a : Literal) → HasClauseRoom i w → weighs i.tautologies ≤ length i.units → FitsLiteral (length i.units) a → Keeps i (with_unit i w a) w
keeps-unit i w a room some fits =
    let old : UnitWeights = get_or i.units a.variable no_unit in
    let there = unit-at i.units a.variable no_unit fits room.units in
    let put = entry-put unit_total unit_is_positive i.units a.variable (heavier_unit old a.positive w) no_unit fits in
    let counted = sum_by-set unit_weighing i.units a.variable (heavier_unit old a.positive w) no_unit fits in
    let count = length-set {A = UnitWeights} i.units a.variable (heavier_unit old a.positive w) in
    record {
      units_count = count;
      pairs_count = refl;
      tautologies = room.tautologies;
      units = put.positive room.units (heavier_unit-positive old a.positive w there room.low);
      pairs = room.pairs;
      weight = omega (arith, ints, put.weight, heavier_unit-total old a.positive w);
      lines = omega (arith, counted, heavier_unit-lines old a.positive w);
      some = omega (arith, count);
    }

keeps-pair : (i : Instance) (w : ℤ) (a b : Literal) → HasClauseRoom i w → weighs i.tautologies ≤ length i.units → a.variable < b.variable → FitsLiteral (length i.units) b → Keeps i (with_pair i w a b) w
keeps-pair i w a b room some less fits =
    let place : ℕ = place_of (length i.units) a.variable b.variable in
    let inside : place < length i.pairs = omega (arith, place-inside (length i.units) a.variable b.variable less fits, room.whole) in
    let old : PairWeights = get_or i.pairs place no_pair in
    let there = pair-at i.pairs place no_pair inside room.pairs in
    let put = entry-put pair_total pair_is_positive i.pairs place (heavier_pair old a.positive b.positive w) no_pair inside in
    let counted = sum_by-set pair_weighing i.pairs place (heavier_pair old a.positive b.positive w) no_pair inside in
    record {
      units_count = refl;
      pairs_count = length-set {A = PairWeights} i.pairs place (heavier_pair old a.positive b.positive w);
      tautologies = room.tautologies;
      units = room.units;
      pairs = put.positive room.pairs (heavier_pair-positive old a.positive b.positive w there room.low);
      weight = omega (arith, ints, put.weight, heavier_pair-total old a.positive b.positive w);
      lines = omega (arith, counted, heavier_pair-lines old a.positive b.positive w);
      some = some;
    }

keeps-tautology : (i : Instance) (w : ℤ) → HasClauseRoom i w → 0 < length i.units → Keeps i (with_tautology i w) w
keeps-tautology i w room some = record {
  units_count = refl;
  pairs_count = refl;
  tautologies = omega (arith, ints, room.tautologies, room.low);
  units = room.units;
  pairs = room.pairs;
  weight = omega (arith, ints);
  lines = omega (arith, weighs-most (i.tautologies +ℤ w));
  some = omega (arith, weighs-most (i.tautologies +ℤ w));
}

keeps-two : (i : Instance) (w : ℤ) (a b : Literal) → HasClauseRoom i w → weighs i.tautologies ≤ length i.units → FitsLiteral (length i.units) a → FitsLiteral (length i.units) b → Keeps i (with_two i w a b) w
keeps-two i w a b room some first second =
    elim (a.variable == b.variable) as (λ t. (a.variable == b.variable) ≡ t →
    Keeps i (if t then (if same_sign a.positive b.positive then with_unit i w a else with_tautology i w) else (if nat_lt a.variable b.variable then with_pair i w a b else with_pair i w b a)) w) [
      | true ↦ λ same.
          elim (same_sign a.positive b.positive) as (λ t. Keeps i (if t then with_unit i w a else with_tautology i w) w) [
            | true ↦ keeps-unit i w a room some first
            | false ↦ keeps-tautology i w room (omega arith)
          ]
      | false ↦ λ other.
          elim (nat_lt a.variable b.variable) as (λ t. nat_lt a.variable b.variable ≡ t → Keeps i (if t then with_pair i w a b else with_pair i w b a) w) [
            | true ↦ λ less. keeps-pair i w a b room some (grind (arith, nat_tests)) second
            | false ↦ λ more. keeps-pair i w b a room some (grind (arith, nat_tests)) first
          ] refl
    ] refl

pub keeps : (i : Instance) (w : ℤ) (literals : Literals) → HasClauseRoom i w → weighs i.tautologies ≤ length i.units → FitsLiterals (length i.units) literals → Keeps i (with_clause i w literals) w
keeps i w Empty room some fits = record {
  units_count = refl;
  pairs_count = refl;
  tautologies = room.tautologies;
  units = room.units;
  pairs = room.pairs;
  weight = omega (arith, ints, room.low);
  lines = omega arith;
  some = some;
}
keeps i w (One a) room some fits = keeps-unit i w a room some fits
keeps i w (Two a b) room some fits = keeps-two i w a b room some fits.0 fits.1

-- a draft with a clause more

pub total-low : (g : Gathered) → IsGathered g → pos 0 ≤ℤ g.total
total-low g kept =
    omega (arith, ints, kept.weight, kept.tautologies, units_total-positive g.instance.units kept.units, pairs_total-positive g.instance.pairs kept.pairs)

room-for : (g : Gathered) (w : ℤ) → IsGathered g → pos 0 ≤ℤ w → (g.total +ℤ w) ≤ℤ pos (2 ^ 48) → HasClauseRoom g.instance w
room-for g w kept low most = record {
  variables = kept.variables;
  whole = kept.whole;
  tautologies = kept.tautologies;
  units = kept.units;
  pairs = kept.pairs;
  low = low;
  total = omega (arith, ints, kept.weight);
}

gathered-more : (g : Gathered) (w : ℤ) (literals : Literals) → IsGathered g → (g.total +ℤ w) ≤ℤ pos (2 ^ 48) → Keeps g.instance (with_clause g.instance w literals) w → IsGathered (gathered_with g w literals)
gathered-more g w literals kept most next = record {
  variables = omega (arith, next.units_count, kept.variables);
  whole = next.pairs_count ∙ (kept.whole ∙ ap pair_count (sym next.units_count));
  tautologies = next.tautologies;
  units = next.units;
  pairs = next.pairs;
  weight = omega (arith, ints, next.weight, kept.weight);
  total = most;
  lines = omega (arith, next.lines, kept.lines);
  some = next.some;
}

form-more : (form : Form) (g : Gathered) (w : ℤ) (literals : Literals) → FormKeeps form g → FormGives form g.total w → FormKeeps form (gathered_with g w literals)
form-more Plain g w literals keep gives = omega (arith, ints)
form-more (Weighted top) g w literals keep gives = tt

-- the weight of a clause fits

record WeightFits (g : Gathered) (w : ℤ) : Type 0 where
  low : pos 0 ≤ℤ w
  most : (g.total +ℤ w) ≤ℤ pos (2 ^ 48)

weight-fits : (form : Form) (g : Gathered) (w : ℤ) → g.clauses < 2 ^ 20 → FormKeeps form g → FormGives form g.total w → WeightFits g w
weight-fits Plain g w few keep gives = record { low = omega (arith, ints); most = omega (arith, ints) }
weight-fits (Weighted top) g w few keep gives = record { low = gives.0; most = gives.1 }

-- a clause that was read may be added, and leaves what is gathered under way
pub record ClauseFits (h : Header) (g : Gathered) (w : ℤ) (literals : Literals) : Type 0 where
  pub read : to_z w64 (of_z w64 w) ≡ w
  pub room : HasClauseRoom g.instance w
  pub total : (g.total +ℤ w) ≤ℤ pos (2 ^ 48)
  pub after : IsGathering h (gathered_with g w literals)

pub clause-fits : (h : Header) (g : Gathered) (w : ℤ) (literals : Literals) → IsGathering h g → g.clauses < 2 ^ 20 → FormGives h.form (to_z w64 (of_z w64 g.total)) w → FitsLiterals h.variables literals →
    ClauseFits h g w literals
clause-fits h g w literals way few gives fits =
    let low = total-low g way.gathered in
    let most = way.gathered.total in
    let total_read : to_z w64 (of_z w64 g.total) ≡ g.total = omega (arith, ints) in
    let given : FormGives h.form g.total w = rw total_read at gives in
    let weight = weight-fits h.form g w few way.form given in
    let room = room-for g w way.gathered weight.low weight.most in
    let next : Keeps g.instance (with_clause g.instance w literals) w = keeps g.instance w literals room way.gathered.some (rw way.variables fits) in
    record {
      read = omega (arith, ints, weight.low, weight.most);
      room = room;
      total = weight.most;
      after = record {
        gathered = gathered-more g w literals way.gathered weight.most next;
        form = form-more h.form g w literals way.form given;
        variables = next.units_count ∙ way.variables;
      };
    }

-- nothing is gathered at first

total-none : {X : Type 0} (number : X → ℤ) (x : X) → number x ≡ pos 0 → (n : ℕ) → total_by number (replicate n x) ≡ pos 0
total-none number x e zero = refl
total-none number x e (suc n) = omega (arith, ints, total-none number x e n)

all-none : {X : Type 0} (test : X → Bool) (x : X) → IsTrue (test x) → (n : ℕ) → IsTrue (list_all test (replicate n x))
all-none test x e zero = refl
all-none test x e (suc n) = and_from (test x) _ e (all-none test x e n)

nothing-gathered : (n : ℕ) → n ≤ 1024 → IsGathered (nothing_gathered n)
nothing-gathered n h = record {
  variables = omega (arith, length-replicate n no_unit);
  whole = length-replicate (pair_count n) no_pair ∙ ap pair_count (sym (length-replicate n no_unit));
  tautologies = omega (arith, ints);
  units = all-none unit_is_positive no_unit refl n;
  pairs = all-none pair_is_positive no_pair refl (pair_count n);
  weight = omega (arith, ints, total-none unit_total no_unit refl n, total-none pair_total no_pair refl (pair_count n));
  total = omega (arith, ints);
  lines = omega (arith, sum_by-replicate unit_weighing n no_unit, sum_by-replicate pair_weighing (pair_count n) no_pair);
  some = omega arith;
}

form-first : (form : Form) (n : ℕ) → FormKeeps form (nothing_gathered n)
form-first Plain n = refl
form-first (Weighted top) n = tt

-- a clause with two literals, case by case

pub two-opposite : (i : Instance) (w : ℤ) (a b : Literal) → a.variable ≡ b.variable → same_sign a.positive b.positive ≡ false → with_two i w a b ≡ with_tautology i w
two-opposite i w a b same sign =
    let one : (a.variable == b.variable) ≡ true = eq-eqb a.variable b.variable same in
    rw (one, sign) refl

pub two-in-order : (i : Instance) (w : ℤ) (a b : Literal) → a.variable < b.variable → with_two i w a b ≡ with_pair i w a b
two-in-order i w a b less =
    let other : (a.variable == b.variable) ≡ false = grind (arith, nat_tests) in
    let first : nat_lt a.variable b.variable ≡ true = grind (arith, nat_tests) in
    rw (other, first) refl

pub way-begins : (h : Header) → h.variables ≤ 1024 → IsGathering h (nothing_gathered h.variables)
way-begins h few = record {
  gathered = nothing-gathered h.variables few;
  form = form-first h.form h.variables;
  variables = length-replicate h.variables no_unit;
}
