-- The diagram on a desk, and the book that collects it.
use Rattle.std.specs.Prelude.{◌≡◌, length, Option, Some, None}
use Rattle.dp_model.specs.Dp.{Dp}
use Rattle.dp_model.specs.declared.cut_kind.CutKind.{CutKind}
use Rattle.dp_laws.specs.Diagrams.Cutsets.{children_at}
use Rattle.layer_build.specs.Layers.{SpaceView, diagram_of}
use Rattle.relaxed_dd.specs.Shown.{IsRelaxed}
use Rattle.exact_cutset.specs.Seen.{ChildrenView}
use Rattle.cover_pages.specs.Books.{BookView, IsBookOf}

-- the workspace holds a relaxed diagram of the program, and the list has the places of its children of a kind
pub record HoldsDiagram (dp : Dp) (space : SpaceView) (cutset : ChildrenView) : Type 0 where
  pub held : space.held ≡ length space.prefix
  pub relaxed : IsRelaxed dp space.width (diagram_of space)
  pub kind : CutKind
  pub places : cutset.places ≡ children_at dp (diagram_of space) kind

-- a book, where there is one, has diagrams of the program alone
abbrev pub MayBeBook : Dp → Option BookView → Type 0
MayBeBook dp None = Unit {0}
MayBeBook dp (Some book) = IsBookOf dp book
