-- The variables and pairs that the lines list keep to the limits, and give what the lines weigh.
use Rattle.std.proofs.Common.{◌≡◌, ℕ, ◌+◌, ◌*◌, ◌^◌, ◌<◌, ◌≤◌, pos, neg_ℤ, ◌+ℤ◌, ◌≤ℤ◌, List, [], ◌∷◌, length, Bool, true, false, arith, refl, ap, ◌∙◌, sym, subst, cond, leb-true, ltb-true, Some, None}
use Rattle.std.specs.Prelude.{◌&&◌, ◌==◌, nat_lt, fold}
use Rattle.std.specs.List.{list_all}
use Rattle.std.proofs.lemmas.Int.{ints, clamps}
use Rattle.std.proofs.lemmas.Bool.{and_parts, eqb-true}
use Rattle.std.proofs.lemmas.List.{length-replicate}
use Rattle.benefit_rows.specs.Benefits.{size_of}
use Rattle.dp_model.specs.NumberLaws.{int_le-is}
use Rattle.dp_model.specs.Solution.{SolutionGives}
use Rattle.pair_rows.specs.Instance.{Instance, no_unit}
use Rattle.pair_rows.specs.Limits.{IsInstance}
use Rattle.pair_rows.specs.Laws.Solutions.{begins-binary, own_value-agrees}
use Rattle.pair_rows.specs.OwnWords as plain
use Rattle.pair_rows.specs.Program.{program_of}
use Rattle.pair_problem.specs.Adding.{nothing_of}
use Rattle.pair_problem.specs.Laws.Kept.{most_of-nothing, nothing-kept, value_of-nothing}
use Rattle.pair_problem.specs.Laws.Products.{products, product-weighs}
use Rattle.pair_problem.specs.Room.{most_of, HasRoom}
use Rattle.qubo.specs.declared.line.Line.{Line}
use Rattle.qubo.specs.Quadratic.{Quadratic, IsQuadratic, is_line}
use Rattle.qubo.specs.OwnWords.{lines_value, is_assignment, own_value}
use Rattle.qubo.specs.Program.{with_line, rows_in}
use Rattle.qubo.specs.Lines.{IsLine}

pub is_line-is : (n : ℕ) (l : Line) → is_line n l ≡ true → IsLine n l
is_line-is n l h =
    let order = and_parts _ _ h in
    let within = and_parts _ _ order.1 in
    let size = and_parts _ _ within.1 in
    record { order = leb-true _ _ order.0; within = ltb-true _ _ within.0; low = int_le-is _ _ size.0; high = int_le-is _ _ size.1 }

-- after k lines of n variables
pub record Lists (i : Instance) (n k : ℕ) : Type 0 where
  pub kept : IsInstance i
  pub count : length i.units ≡ n
  pub first : i.first ≡ 2
  pub most : most_of i ≤ℤ pos (250000000 * k)
  pub low : neg_ℤ (pos (250000000 * k)) ≤ℤ i.constant
  pub high : i.constant ≤ℤ pos 0

pub lists-none : (n : ℕ) → n ≤ 1024 → Lists (nothing_of n) n 0
lists-none n few = record {
  kept = nothing-kept n few;
  count = length-replicate n no_unit;
  first = refl;
  most = omega (arith, ints, most_of-nothing n);
  low = omega (arith, ints);
  high = omega (arith, ints);
}

-- one line more

pub lists-room : (i : Instance) (n k : ℕ) (l : Line) → Lists i n k → k < 2 ^ 20 → IsLine n l → HasRoom i l.first l.second l.weight
lists-room i n k l so_far few line =
    let size : size_of l.weight ≤ℤ pos 250000000 = omega (arith, ints, clamps, line.low, line.high) in
    record {
      kept = so_far.kept;
      order = line.order;
      within = omega (arith, so_far.count, line.within);
      small = omega (arith, ints);
      most = omega (arith, ints, so_far.most);
      low = omega (arith, ints, so_far.low);
    }

pub lists-more : (i : Instance) (n k : ℕ) (l : Line) → Lists i n k → k < 2 ^ 20 → IsLine n l → Lists (with_line i l) n (k + 1)
lists-more i n k l so_far few line =
    let next = products i l.first l.second l.weight (lists-room i n k l so_far few line) in
    let size : size_of l.weight ≤ℤ pos 250000000 = omega (arith, ints, clamps, line.low, line.high) in
    record {
      kept = next.kept;
      count = next.count ∙ so_far.count;
      first = next.first ∙ so_far.first;
      most = omega (arith, ints, so_far.most, next.most);
      low = omega (arith, ints, clamps, so_far.low, next.constant, line.low);
      high = omega (arith, ints, clamps, so_far.high, next.constant);
    }

-- all lines

lists-all : (ls : List Line) (i : Instance) (n k : ℕ) → Lists i n k → k + length ls ≤ 2 ^ 20 → list_all (is_line n) ls ≡ true → Lists (fold with_line i ls) n (k + length ls)
lists-all [] i n k so_far few each = subst (λ m. Lists i n m) (omega arith) so_far
lists-all (l ∷ ls) i n k so_far few each =
    let parts = and_parts _ _ each in
    let next = lists-more i n k l so_far (omega arith) (is_line-is n l parts.0) in
    subst (λ m. Lists (fold with_line (with_line i l) ls) n m) (omega arith) (lists-all ls (with_line i l) n (k + 1) next (omega arith) parts.1)

lines-weigh : (ls : List Line) (i : Instance) (n k : ℕ) (xs : List ℕ) → Lists i n k → k + length ls ≤ 2 ^ 20 → list_all (is_line n) ls ≡ true → length xs ≡ n →
    list_all (λ x. nat_lt x 2) xs ≡ true → plain.value_of_all (fold with_line i ls) xs ≡ plain.value_of_all i xs +ℤ lines_value xs ls
lines-weigh [] i n k xs so_far few each whole binary = omega (arith, ints)
lines-weigh (l ∷ ls) i n k xs so_far few each whole binary =
    let parts = and_parts _ _ each in
    let line = is_line-is n l parts.0 in
    let next = lists-more i n k l so_far (omega arith) line in
    let one = product-weighs i l.first l.second l.weight xs (lists-room i n k l so_far (omega arith) line) (omega (arith, so_far.count)) binary in
    omega (arith, ints, lines-weigh ls (with_line i l) n (k + 1) xs next (omega arith) parts.1 whole binary)

lists-lines : (q : Quadratic) → IsQuadratic q → Lists (rows_in q) q.variables (0 + length q.lines)
lists-lines q h = lists-all q.lines (nothing_of q.variables) q.variables 0 (lists-none q.variables h.few) (omega (arith, h.count)) h.each

pub rows-kept : (q : Quadratic) → IsQuadratic q → IsInstance (rows_in q)
rows-kept q h = (lists-lines q h).kept

-- the same assignments, of the same value

test-same : (q : Quadratic) → IsQuadratic q → (xs : List ℕ) → is_assignment q xs ≡ plain.is_assignment (rows_in q) xs
test-same q h xs =
    let lists = lists-lines q h in
    ap (λ n. (length xs == n) && list_all (λ x. nat_lt x 2) xs) (sym lists.count)
    ∙ (ap (λ b. (length xs == length (rows_in q).units) && b) (begins-binary xs)
    ∙ ap (λ f. (length xs == length (rows_in q).units) && (plain.begins_within f xs && plain.are_binary xs)) (sym lists.first))

value-same : (q : Quadratic) → IsQuadratic q → (xs : List ℕ) → is_assignment q xs ≡ true → lines_value xs q.lines ≡ plain.value_of_all (rows_in q) xs
value-same q h xs e =
    let parts = and_parts (length xs == q.variables) (list_all (λ x. nat_lt x 2) xs) e in
    let whole : length xs ≡ q.variables = eqb-true _ _ parts.0 in
    omega (arith, ints, lines-weigh q.lines (nothing_of q.variables) q.variables 0 xs (lists-none q.variables h.few) (omega (arith, h.count)) h.each whole parts.1, value_of-nothing q.variables xs)

solves-by : (q : Quadratic) → IsQuadratic q → (xs : List ℕ) (b : Bool) → is_assignment q xs ≡ b → SolutionGives (program_of (rows_in q)) xs (cond b (Some (plain.value_of_all (rows_in q) xs)) None)
    → SolutionGives (program_of (rows_in q)) xs (cond b (Some (lines_value xs q.lines)) None)
solves-by q h xs true e agrees = record { solution = agrees.solution; value = value-same q h xs e ∙ agrees.value }
solves-by q h xs false e agrees = agrees

-- the assignments are the feasible solutions of the program, with the sum of the lines as their value
pub own_words_solve : (q : Quadratic) → IsQuadratic q → (xs : List ℕ) → SolutionGives (program_of (rows_in q)) xs (own_value q xs)
own_words_solve q h xs =
    solves-by q h xs (is_assignment q xs) refl
    (subst (λ b. SolutionGives (program_of (rows_in q)) xs (cond b (Some (plain.value_of_all (rows_in q) xs)) None)) (sym (test-same q h xs)) (own_value-agrees (rows_in q) xs (rows-kept q h)))
