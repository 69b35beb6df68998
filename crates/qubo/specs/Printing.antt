-- The canonical text of an instance.
use Rattle.std.specs.Prelude.{◌+◌, pos, List, ◌++◌, length, ℕ}
use Rattle.std.specs.List.{flat_map}
use Rattle.tokens.specs.Decimal.{ended, spaced}
use Rattle.qubo.specs.declared.line.Line.{Line}
use Rattle.qubo.specs.Quadratic.{Quadratic}

-- a line, with variables from 1
abbrev pub line_text : Line → List ℕ
line_text l = spaced (l.first + 1) ++ (spaced (l.second + 1) ++ ended l.weight)

-- how many variables and lines, then the lines
abbrev pub text_of : Quadratic → List ℕ
text_of q = spaced q.variables ++ (ended (pos (length q.lines)) ++ flat_map line_text q.lines)
