-- The canonical text of an instance is read as that instance.
use Rattle.std.proofs.Common.{◌≡◌, ℕ, ◌+◌, ◌-◌, ◌≤◌, ◌^◌, ℤ, pos, negsuc, neg_ℤ, ◌≤ℤ◌, true, List, [], ◌∷◌, ◌++◌, length, refl, sym, ap, ap₂, ◌∙◌, subst, arith, append_assoc, append-nil}
use Rattle.std.specs.Prelude.{Result, Ok, fold, flat_map, nat_abs}
use Rattle.std.specs.List.{list_all}
use Rattle.std.proofs.lemmas.Bool.{and_parts}
use Rattle.std.proofs.lemmas.Int.{ints}
use Rattle.tokens.specs.Text.{TextState, text_start, after_token}
use Rattle.tokens.specs.Decimal.{decimal_of}
use Rattle.tokens.specs.Grammar.{times}
use Rattle.tokens.specs.Printed.{IsBefore, ReadsPart}
use Rattle.tokens.specs.declared.comment.Comment.TheVariants.{Never}
use Rattle.tokens.specs.declared.instance_error.InstanceError.{InstanceError}
use Rattle.tokens.proofs.Printing.{before_start, passes_natural, passes_number, finishes}
use Rattle.tokens.proofs.Repeats.{fold_pushes, times_reads}
use Rattle.qubo.specs.declared.line.Line.{Line}
use Rattle.qubo.specs.Quadratic.{Quadratic, IsQuadratic, is_line}
use Rattle.qubo.specs.Lines.{IsLine}
use Rattle.qubo.specs.Laws.Listing.{is_line-is}
use Rattle.qubo.specs.Reading.{line_after, instance_at, instance_text}
use Rattle.qubo.specs.Printing.{line_text, text_of}

-- a weight has at most nine digits
pub weight-short : (w : ℤ) → neg_ℤ (pos 250000000) ≤ℤ w → w ≤ℤ pos 250000000 → nat_abs w ≤ 250000000
weight-short (pos n) low high = omega (arith, ints)
weight-short (negsuc n) low high = omega (arith, ints)

line_before : (l : Line) (tail : List ℕ) →
    line_text l ++ tail ≡ decimal_of (pos (l.first + 1)) ++ (32 ∷ (decimal_of (pos (l.second + 1)) ++ (32 ∷ (decimal_of l.weight ++ (10 ∷ tail)))))
line_before l tail = simp append_assoc

-- a printed line is read
reads_line : (n : ℕ) (l : Line) (made : List Line) (tail : List ℕ) (s : TextState) → n ≤ 1024 → IsLine n l → IsBefore (line_text l ++ tail) s → ReadsPart (line_after n) made (made ++ (l ∷ [])) tail s
unfolding line_after
reads_line n l made tail s few line before =
    let ahead = subst (λ (bytes : List ℕ). IsBefore bytes s) (line_before l tail) before in
    let first = passes_natural (l.first + 1) 1 n 32 _ s (omega arith) (omega (arith, line.order, line.within)) (omega arith) refl ahead in
    let t = after_token s in
    let second = passes_natural (l.second + 1) (l.first + 1) n 32 _ t (omega (arith, line.order)) (omega (arith, line.within)) (omega arith) refl first.before in
    let u = after_token t in
    let weight = passes_number l.weight (neg_ℤ (pos 250000000)) (pos 250000000) 10 tail u (omega (arith, weight-short l.weight line.low line.high)) line.low line.high refl second.before in
    let first_back : l.first + 1 - 1 ≡ l.first = omega arith in
    let second_back : l.second + 1 - 1 ≡ l.second = omega arith in
    record {
      following = after_token u;
      read =
          rw (first.value, second.value, weight.value)
          (ap₂ (λ (a b : ℕ). let r : Result (List Line × TextState) InstanceError = Ok (made ++ record { first = a; second = b; weight = l.weight } ∷ [], after_token u) in r) first_back second_back);
      before = weight.before;
      comment_is = weight.comment_is ∙ (second.comment_is ∙ first.comment_is);
    }

text_before : (q : Quadratic) → text_of q ≡ decimal_of (pos q.variables) ++ 32 ∷ (decimal_of (pos (length q.lines)) ++ 10 ∷ flat_map line_text q.lines)
text_before q = simp append_assoc

-- the lines are read
reads_lines : (n : ℕ) (ls : List Line) (s : TextState) → n ≤ 1024 → list_all (is_line n) ls ≡ true → IsBefore (flat_map line_text ls ++ []) s →
    ReadsPart (times (line_after n) (length ls)) [] (fold (λ lines l. lines ++ (l ∷ [])) [] ls) [] s
reads_lines n ls s few each before =
    times_reads (line_after n) line_text (λ lines l. lines ++ (l ∷ [])) s.comment (λ made xs. list_all (is_line n) xs ≡ true)
    (λ l rest made tail t held same ahead. let parts = and_parts _ _ held in (reads_line n l made tail t few (is_line-is n l parts.0) ahead, parts.1))
    ls [] [] s each refl before

-- the canonical text is read as the instance
pub reads_back : (q : Quadratic) → IsQuadratic q → instance_text (text_of q) ≡ Ok q
unfolding instance_at
reads_back q h =
    let lines = flat_map line_text q.lines in
    let s = text_start Never (text_of q) in
    let variables = passes_natural q.variables 0 1024 32 (decimal_of (pos (length q.lines)) ++ (10 ∷ lines)) s (omega arith) h.few (omega arith) refl (subst (λ (bytes : List ℕ). IsBefore bytes s) (text_before q) (before_start Never (text_of q))) in
    let t = after_token s in
    let count = passes_natural (length q.lines) 0 (2 ^ 20) 10 lines t (omega arith) h.count (omega arith) refl variables.before in
    let u = after_token t in
    let ahead = subst (λ (bytes : List ℕ). IsBefore bytes u) (sym (append-nil lines)) count.before in
    let read = reads_lines q.variables q.lines u h.few h.each ahead in
    let ends = finishes read.following read.before in
    rw (variables.value, count.value, read.read, ends)
    (ap (λ (ls : List Line). let r : Result Quadratic InstanceError = Ok (record { variables = q.variables; lines = ls }) in r) (fold_pushes q.lines []))
