-- Steps of an exploration in memory.
use Rattle.std.specs.Prelude.{◌≡◌, ℕ, ◌-◌, ◌<◌, ◌≤◌, ℤ, List, [], ◌++◌, length, IsSome, Option, Some, None}
use Rattle.dp_model.specs.Dp.{Dp}
use Rattle.dp_laws.specs.Diagrams.Nodes.{DdLayers, node_at}
use Rattle.dp_laws.specs.Diagrams.Seen.{IsDiagram}
use Rattle.relaxed_dd.specs.Shown.{layer_in, last_of}
use Rattle.bound_cover.specs.Covers.{CoverRow}
use Rattle.bound_cover.specs.Exploring.{layer_of, Waiting, waiting_in, waiting_after, explored}
use Rattle.cover_book.specs.declared.waiting.WaitingRow.{WaitingRow}
use Rattle.cover_book.specs.Adding.{last_needed, IsCutWithin}
use Rattle.cover_book.specs.Waits.{waiting_row, AreOwnAt}

-- the rows that wait after a diagram is put in, of its last exact layer
abbrev pub waits_after : Option ℤ → DdLayers → List (List CoverRow) → Option ℕ → List Waiting
waits_after claim d rows None = []
waits_after claim d rows (Some depth) = waiting_in claim (length (layer_of rows (depth - 1))) (layer_in d (depth - 1))

-- the last exact layer, just above the first reduced one, is one of the diagram's, and its nodes stand for prefixes
pub record HasOwnCut (dp : Dp) (d : DdLayers) (depth : ℕ) : Type 0 where
  pub positive : 1 ≤ depth
  pub first : d.first ≤ depth - 1
  pub last : depth - 1 ≤ last_of d
  pub own : AreOwnAt dp d (depth - 1)

-- the nodes at the cut, where there is one, are prefixes of their own
abbrev pub CutIsOwn : Dp → DdLayers → Option ℕ → Type 0
CutIsOwn dp d None = Unit {0}
CutIsOwn dp d (Some depth) = HasOwnCut dp d depth

-- a diagram of the row's prefix, with the claim as threshold
pub record IsDiagramFor (dp : Dp) (claim : Option ℤ) (row : WaitingRow) (d : DdLayers) : Type 0 where
  pub width : ℕ
  pub shorter : length row.sub.subproblem.decisions < dp.vars
  pub diagram : IsDiagram dp row.sub.subproblem.decisions width claim d

-- a diagram for the row that waits
abbrev pub IsDiagramAt : Dp → Option ℤ → Option WaitingRow → DdLayers → Type 0
IsDiagramAt dp claim None d = ⊥
IsDiagramAt dp claim (Some row) d = IsDiagramFor dp claim row d

-- the diagram can be put into a cover of the program
pub record CanPut (dp : Dp) (claim : Option ℤ) (d : DdLayers) : Type 0 where
  pub own : CutIsOwn dp d d.first_reduced
  pub root : IsSome (node_at d d.first 0)
  pub cut : IsCutWithin d d.first_reduced
  pub deep : d.first < dp.vars
  pub first : d.first ≤ last_needed claim d d.first_reduced
  pub last : last_needed claim d d.first_reduced ≤ last_of d
  pub low : last_of d ≡ dp.vars

-- the diagram stands in the cover, for the row that waits at the place
pub record IsPutIn (dp : Dp) (claim : Option ℤ) (row : Waiting) (d : DdLayers) (rows : List (List CoverRow)) (waiting : List Waiting) (new : List (List CoverRow)) (new_waiting : List Waiting) : Type 0 where
  pub cover : new ≡ explored dp claim row d rows
  pub rest : new_waiting ≡ waiting ++ waiting_after claim row d rows d.first_reduced

-- the diagram is put in for the row that waits
abbrev pub IsPutAt : Dp → Option ℤ → Option WaitingRow → DdLayers → List (List CoverRow) → List Waiting → List (List CoverRow) → List Waiting → Type 0
IsPutAt dp claim None d rows waiting new new_waiting = ⊥
IsPutAt dp claim (Some row) d rows waiting new new_waiting = IsPutIn dp claim (waiting_row row) d rows waiting new new_waiting
