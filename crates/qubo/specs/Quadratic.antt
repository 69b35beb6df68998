-- Quadratic functions of variables that are 0 or 1.
use Rattle.std.specs.Prelude.{◌≡◌, ℕ, ◌^◌, ℤ, pos, neg_ℤ, unsigned_abs, Bool, true, ◌&&◌, nat_le, nat_lt, int_le, List, [], ◌∷◌, ◌≤◌, length}
use Rattle.std.specs.List.{list_all}
use Rattle.qubo.specs.declared.line.Line.{Line}

-- variables are counted from 0, and a line has two of them and a weight
pub record Quadratic : Type 0 where
  pub variables : ℕ
  pub lines : List Line

-- a line of two of n variables, of which the second is the first or a later one, with a weight of at most 250,000,000 in size
abbrev pub is_line : ℕ → Line → Bool
is_line n l = nat_le l.first l.second && (nat_lt l.second n && (int_le (neg_ℤ (pos 250000000)) l.weight && int_le l.weight (pos 250000000)))

-- at most 1,024 variables, and at most 2^20 lines
pub record IsQuadratic (q : Quadratic) : Type 0 where
  pub few : q.variables ≤ 1024
  pub count : length q.lines ≤ 2 ^ 20
  pub each : list_all (is_line q.variables) q.lines ≡ true

-- the numbers of the lines: variables and weight of each
abbrev pub line_numbers : List Line → List ℤ
line_numbers [] = []
line_numbers (l ∷ ls) = pos l.first ∷ (pos l.second ∷ (l.weight ∷ line_numbers ls))

-- the numbers of an instance: how many variables, then those of the lines
abbrev pub numbers_of : Quadratic → List ℤ
numbers_of q = pos q.variables ∷ line_numbers q.lines

-- the lines that a list of numbers spells
unfoldable pub lines_of : List ℤ → List Line
lines_of (a ∷ (b ∷ (w ∷ rest))) = record { first = unsigned_abs a; second = unsigned_abs b; weight = w } ∷ lines_of rest
lines_of _ = []

-- the instance that a list of numbers spells
abbrev pub instance_of : List ℤ → Quadratic
instance_of [] = record { variables = 0; lines = [] }
instance_of (n ∷ rest) = record { variables = unsigned_abs n; lines = lines_of rest }
