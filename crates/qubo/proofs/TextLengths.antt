-- The canonical text is short.
use Rattle.std.proofs.Common.{◌≡◌, ℕ, ◌+◌, ◌^◌, ◌≤◌, true, length, arith, length-append}
use Rattle.std.specs.List.{list_all}
use Rattle.std.proofs.lemmas.Bool.{and_parts}
use Rattle.std.proofs.lemmas.Fmt.{length-decimal-le}
use Rattle.tokens.proofs.Lengths.{number_short, parts_short}
use Rattle.qubo.specs.declared.line.Line.{Line}
use Rattle.qubo.specs.Quadratic.{Quadratic, IsQuadratic, is_line}
use Rattle.qubo.specs.Lines.{IsLine}
use Rattle.qubo.specs.Laws.Listing.{is_line-is}
use Rattle.qubo.specs.Printing.{line_text, text_of}
use Rattle.qubo.proofs.RoundTrip.{weight-short}

line_short : (n : ℕ) (l : Line) → n ≤ 1024 → IsLine n l → length (line_text l) ≤ 32
line_short n l few line =
    let order = line.order in
    let within = line.within in
    let weight = weight-short l.weight line.low line.high in
    let a = length-decimal-le 4 (l.first + 1) (omega arith) (omega arith) (omega arith) in
    let b = length-decimal-le 4 (l.second + 1) (omega arith) (omega arith) (omega arith) in
    let w = number_short 9 l.weight (omega arith) (omega arith) (omega arith) in
    simp length-append (omega arith)

pub text_short : (q : Quadratic) → IsQuadratic q → length (text_of q) ≤ 2 ^ 30
text_short q h =
    let few = h.few in
    let many = h.count in
    let variables = length-decimal-le 4 q.variables (omega arith) (omega arith) (omega arith) in
    let count = length-decimal-le 7 (length q.lines) (omega arith) (omega arith) (omega arith) in
    let lines = parts_short line_text 32 (λ ls. list_all (is_line q.variables) ls ≡ true)
    (λ l ls held. let parts = and_parts _ _ held in (line_short q.variables l few (is_line-is q.variables l parts.0), parts.1)) q.lines h.each in
    simp length-append (omega arith)
