-- Clauses that are drawn one after another.
use Rattle.std.proofs.Common.{◌≡◌, ◌∙◌, ℕ, ◌+◌, ◌*◌, ◌%◌, ◌^◌, ◌<◌, ◌≤◌, ℤ, pos, ◌+ℤ◌, ◌≤ℤ◌, sym, ap, subst, arith, None, to_z, of_z, w64}
use Rattle.std.proofs.lemmas.Int.{ints}
use Rattle.draws.specs.Draws.{steps}
use Rattle.draws.proofs.Steps.{steps_more, steps_none}
use Rattle.max_two_sat.specs.declared.clause.Literals.{Literals}
use Rattle.max_two_sat.specs.declared.header.Header.{Header}
use Rattle.max_two_sat.specs.declared.header.Form.TheVariants.{Weighted}
use Rattle.max_two_sat.specs.Clauses.{FitsLiterals, Gathered, gathered_with, nothing_gathered}
use Rattle.max_two_sat.specs.Room.{HasClauseRoom}
use Rattle.max_two_sat.specs.Generating.{IsDrawing, after_clause, clause_drawn, with_clause_drawn}
use Rattle.max_two_sat.proofs.Gathering.{clause-fits, total-low, way-begins}

abbrev header : ℕ → Header
header n = record { variables = n; clauses = 3 * n; form = Weighted None }

-- a clause of a weight from 1 to 10 may be added
pub record Fits (n : ℕ) (g : Gathered) (w : ℕ) (literals : Literals) : Type 0 where
  pub room : HasClauseRoom g.instance (pos w)
  pub total : (g.total +ℤ pos w) ≤ℤ pos (2 ^ 48)
  pub low : pos 0 ≤ℤ g.total
  pub after : IsDrawing n (gathered_with g (pos w) literals)

round_trip : (z : ℤ) → pos 0 ≤ℤ z → z ≤ℤ pos (2 ^ 48) → to_z w64 (of_z w64 z) ≡ z
round_trip z low high = grind (arith, ints)

pub fits : (n : ℕ) (g : Gathered) (w : ℕ) (literals : Literals) → IsDrawing n g → g.clauses < 3072 → w ≤ 10 → FitsLiterals n literals → Fits n g w literals
fits n g w literals d few light here =
    let low = total-low g d.under_way.gathered in
    let most = d.light in
    let same = round_trip g.total low d.under_way.gathered.total in
    let next : (to_z w64 (of_z w64 g.total) +ℤ pos w) ≤ℤ pos (2 ^ 48) = subst (λ z. (z +ℤ pos w) ≤ℤ pos (2 ^ 48)) (sym same) (omega (arith, ints)) in
    let f = clause-fits (header n) g (pos w) literals d.under_way (omega arith) (omega (arith, ints), next) here in
    record { room = f.room; total = f.total; low = low; after = record { under_way = f.after; light = omega (arith, ints) } }

-- the same after the clause, whose weight is a word of 64 bits
pub drawn_after : (n : ℕ) (g more : Gathered) (z : ℤ) (r : ℕ) (literals : Literals) → IsDrawing n g → g.clauses < 3072 → z ≡ pos (1 + r % 10) → FitsLiterals n literals
    → more ≡ gathered_with g (to_z w64 (of_z w64 z)) literals → IsDrawing n more
drawn_after n g more z r literals d few from here is =
    let light : 1 + r % 10 ≤ 10 = grind arith in
    let same : to_z w64 (of_z w64 z) ≡ pos (1 + r % 10) = round_trip z (grind (arith, ints)) (grind (arith, ints)) ∙ from in
    subst (IsDrawing n) (sym (is ∙ ap (λ w. gathered_with g w literals) same)) (fits n g (1 + r % 10) literals d few light here).after

-- this many clauses are drawn from the seed, and these draws are left
pub record AreDrawn (n seed k x : ℕ) (g : Gathered) : Type 0 where
  pub drawn : steps (with_clause_drawn n) k (nothing_gathered n) seed ≡ (g, x)
  pub drawing : IsDrawing n g
  pub count : g.clauses ≡ k

pub none_drawn : (n seed x : ℕ) (g : Gathered) → n ≤ 1024 → x ≡ seed → g ≡ nothing_gathered n → AreDrawn n seed 0 x g
none_drawn n seed x g few from none = record {
  drawn = steps_none (with_clause_drawn n) (nothing_gathered n) seed ∙ (λ i. (sym none i, sym from i));
  drawing = subst (IsDrawing n) (sym none) (record { under_way = way-begins (header n) few; light = omega (arith, ints) });
  count = ap (λ g. g.clauses) none;
}

pub one_more : (n seed k x y : ℕ) (g more : Gathered) → AreDrawn n seed k x g → more ≡ clause_drawn n g x → y ≡ after_clause x → IsDrawing n more → more.clauses ≡ g.clauses + 1
    → AreDrawn n seed (k + 1) y more
one_more n seed k x y g more d is following drawing counted = record {
  drawn = steps_more (with_clause_drawn n) k (nothing_gathered n) g more seed x y d.drawn (λ i. (sym is i, sym following i));
  drawing = drawing;
  count = let c = d.count in omega (arith, counted);
}
