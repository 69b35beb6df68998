-- One line more of a pass over the lines.
use Rattle.std.proofs.Common.{◌≡◌, ℕ, ◌+◌, ◌*◌, ◌^◌, ◌<◌, ◌≤◌, ◌++◌, ℤ, pos, neg_ℤ, ◌+ℤ◌, ◌≤ℤ◌, Bool, true, false, cond, ◌&&◌, List, length, drop, get_or, arith, refl, ap, ◌∙◌, sym, append_assoc, append-nil}
use Rattle.std.specs.Prelude.{fold}
use Rattle.std.specs.List.{list_all, flat_map}
use Rattle.std.proofs.lemmas.Int.{ints}
use Rattle.std.proofs.lemmas.List.{drop_more, drop_all}
use Rattle.pair_rows.specs.Laws.Pairs.{all-at}
use Rattle.pair_rows.specs.Instance.{Instance}
use Rattle.qubo.specs.declared.line.Line.{Line}
use Rattle.qubo.specs.Quadratic.{is_line}
use Rattle.qubo.specs.OwnWords.{is_one, line_value, lines_value}
use Rattle.qubo.specs.Printing.{line_text}
use Rattle.qubo.specs.Program.{with_line}
use Rattle.qubo.specs.Lines.{IsLine}
use Rattle.pair_problem.specs.Adding.{nothing_of}
use Rattle.qubo.specs.Laws.Listing.{is_line-is, Lists, lists-none, lists-more}

abbrev pub no_line : Line
no_line = record { first = 0; second = 0; weight = pos 0 }

pub line-at : (n : ℕ) (ls : List Line) (i : ℕ) → list_all (is_line n) ls ≡ true → i < length ls → IsLine n (get_or ls i no_line)
line-at n ls i each h = is_line-is n (get_or ls i no_line) (all-at (is_line n) ls i no_line h each)

-- what is printed

pub lined : (ls : List Line) (i : ℕ) (before after whole : List ℕ) → i < length ls → after ≡ before ++ line_text (get_or ls i no_line)
    → whole ≡ before ++ flat_map line_text (drop i ls) → whole ≡ after ++ flat_map line_text (drop (i + 1) ls)
lined ls i before after whole h pushed so_far =
    let line : List ℕ = line_text (get_or ls i no_line) in
    let rest : List ℕ = flat_map line_text (drop (i + 1) ls) in
    let cut : flat_map line_text (drop i ls) ≡ line ++ rest = ap (flat_map line_text) (drop_more ls i no_line h) in
    rw cut at so_far ∙ (sym (append_assoc before line rest) ∙ ap (λ bytes. bytes ++ rest) (sym pushed))

pub all-lined : (ls : List Line) (i : ℕ) (out whole : List ℕ) → length ls ≤ i → whole ≡ out ++ flat_map line_text (drop i ls) → out ≡ whole
all-lined ls i out whole h so_far = sym (append-nil out) ∙ sym (rw (drop_all i ls h) at so_far)

-- what is added up: the sum so far with that of the lines that are left, and its size

pub record Sums (xs : List ℕ) (ls : List Line) (i : ℕ) (total : ℤ) : Type 0 where
  pub so_far : total +ℤ lines_value xs (drop i ls) ≡ lines_value xs ls
  pub low : neg_ℤ (pos (250000000 * i)) ≤ℤ total
  pub high : total ≤ℤ pos (250000000 * i)

pub sums-none : (xs : List ℕ) (ls : List Line) → Sums xs ls 0 (pos 0)
sums-none xs ls = record { so_far = omega (arith, ints); low = omega (arith, ints); high = omega (arith, ints) }

pub record LineBounds (value : ℤ) : Type 0 where
  pub low : neg_ℤ (pos 250000000) ≤ℤ value
  pub high : value ≤ℤ pos 250000000

line_value-bounds : (b : Bool) (w : ℤ) → LineBounds w → LineBounds (cond b w (pos 0))
line_value-bounds true w h = h
line_value-bounds false w h = record { low = omega (arith, ints); high = omega (arith, ints) }

pub bounds-at : (xs : List ℕ) (ls : List Line) (i : ℕ) → list_all (is_line (length xs)) ls ≡ true → i < length ls → LineBounds (line_value xs (get_or ls i no_line))
bounds-at xs ls i each h =
    let l = get_or ls i no_line in
    let line = line-at (length xs) ls i each h in
    line_value-bounds (is_one xs l.first && is_one xs l.second) l.weight (record { low = line.low; high = line.high })

pub sums-more : (xs : List ℕ) (ls : List Line) (i : ℕ) (total value : ℤ) → list_all (is_line (length xs)) ls ≡ true → i < length ls → value ≡ line_value xs (get_or ls i no_line)
    → Sums xs ls i total → Sums xs ls (i + 1) (total +ℤ value)
sums-more xs ls i total value each h is sums =
    let cut : lines_value xs (drop i ls) ≡ line_value xs (get_or ls i no_line) +ℤ lines_value xs (drop (i + 1) ls) = ap (lines_value xs) (drop_more ls i no_line h) in
    let bounds = bounds-at xs ls i each h in
    record {
      so_far = omega (arith, ints, sums.so_far);
      low = omega (arith, ints, sums.low, bounds.low);
      high = omega (arith, ints, sums.high, bounds.high);
    }

pub sums-done : (xs : List ℕ) (ls : List Line) (i : ℕ) (total : ℤ) → length ls ≤ i → Sums xs ls i total → total ≡ lines_value xs ls
sums-done xs ls i total h sums =
    let none : lines_value xs (drop i ls) ≡ pos 0 = ap (lines_value xs) (drop_all i ls h) in
    omega (arith, ints, sums.so_far)

-- what is listed: the instance so far, to which the lines that are left are added

pub record ListsSoFar (n : ℕ) (ls : List Line) (k : ℕ) (i whole : Instance) : Type 0 where
  pub lists : Lists i n k
  pub rest : fold with_line i (drop k ls) ≡ whole

pub lists-one : (n : ℕ) (ls : List Line) (k : ℕ) (i next whole : Instance) → list_all (is_line n) ls ≡ true → length ls ≤ 2 ^ 20 → k < length ls →
    next ≡ with_line i (get_or ls k no_line) → ListsSoFar n ls k i whole → ListsSoFar n ls (k + 1) next whole
lists-one n ls k i next whole each few h is so_far = record {
  lists = rw is (lists-more i n k (get_or ls k no_line) so_far.lists (omega arith) (line-at n ls k each h));
  rest = rw is (sym (ap (fold with_line i) (drop_more ls k no_line h)) ∙ so_far.rest);
}

pub lists-none-yet : (n : ℕ) (ls : List Line) (first : Instance) → n ≤ 1024 → first ≡ nothing_of n → ListsSoFar n ls 0 first (fold with_line (nothing_of n) ls)
lists-none-yet n ls first few is = record { lists = rw is (lists-none n few); rest = rw is refl }

pub lists-done : (n : ℕ) (ls : List Line) (k : ℕ) (i whole : Instance) → length ls ≤ k → ListsSoFar n ls k i whole → i ≡ whole
lists-done n ls k i whole h so_far = sym (ap (fold with_line i) (drop_all k ls h)) ∙ so_far.rest
