-- Maximum cut as a dynamic program: that of the vertices and pairs with the weight across them. Layer k puts vertex k on side S (0)
-- or T (1). A state has for each later vertex the net benefit of putting it on T, and zero for each vertex that has its side.
use Rattle.std.specs.Prelude.{ℕ, ℤ, pos, List, map, replicate}
use Rattle.benefit_rows.specs.Benefits.{above_zero, below_zero, size_of}
use Rattle.dp_model.specs.Dp.{Dp}
use Rattle.pair_rows.specs.declared.values.PairValues.{PairValues}
use Rattle.pair_rows.specs.Instance.{Instance, no_unit}
use Rattle.pair_rows.specs.Program.{program_of}
use Rattle.max_cut.specs.Graph.{Graph, instance_of, negatives_of}

-- this many zeros
abbrev pub zeros : ℕ → List ℤ
zeros n = replicate n (pos 0)

-- what the sides of two vertices give beyond the weight between them where it is negative: the weight across, or what a negative weight spares
abbrev pub pair_values : ℤ → PairValues
pair_values w = record { no_no = below_zero w; no_yes = above_zero w; yes_no = above_zero w; yes_yes = below_zero w; most = size_of w }

-- the vertices and pairs of a graph, with vertex 0 on S
abbrev pub rows_in : Graph → Instance
rows_in g = record { constant = negatives_of g.weights; first = 1; units = replicate g.vertices no_unit; pairs = map pair_values g.weights }

-- what the numbers of an instance list
abbrev pub listed : List ℤ → Instance
listed numbers = rows_in (instance_of numbers)

-- the program that they spell
abbrev pub program : List ℤ → Dp
program numbers = program_of (listed numbers)
