-- Books of pages.
use Rattle.std.specs.Prelude.{◌≡◌, ℕ, List, [], ◌∷◌, ◌++◌, map, sum_by}
use Rattle.dp_model.specs.Dp.{Dp}
use Rattle.dp_model.specs.Lists.{Each}
use Rattle.dp_model.specs.declared.cut_kind.CutKind.{CutKind}
use Rattle.dp_laws.specs.Diagrams.Nodes.{DdLayers}
use Rattle.dp_laws.specs.Diagrams.Cutsets.{ChildAt, children_at}
use Rattle.relaxed_dd.specs.Shown.{IsRelaxed}
use Rattle.board_laws.specs.declared.fate.Fate.{Fate}
use Rattle.cover_pages.specs.declared.pages.Place.{Place}
use Rattle.cover_pages.specs.Pages.{PageView, page_of, size_of}

-- how many cells a row has, how many words the pages have at most, and the pages
pub record BookView : Type 0 where
  pub words : ℕ
  pub limit : ℕ
  pub pages : List PageView

-- how many words the pages have
abbrev pub kept_in : BookView → ℕ
kept_in book = sum_by (size_of book.words) book.pages

-- with a further page
abbrev pub with_page : BookView → PageView → BookView
with_page book page = record book { pages = book.pages ++ page ∷ [] }

-- the places of children
abbrev pub places_of : List ChildAt → List Place
places_of cs = map (λ (c : ChildAt). record { depth = c.depth; node = c.place }) cs

-- the page is that of a relaxed diagram of the program, with its children of a kind
pub record IsPageOf (dp : Dp) (page : PageView) : Type 0 where
  pub diagram : DdLayers
  pub width : ℕ
  pub relaxed : IsRelaxed dp width diagram
  pub kind : CutKind
  pub fates : List Fate
  pub is : page ≡ page_of page.head.ticket diagram (places_of (children_at dp diagram kind)) fates

-- the rows are those of the program, and each page is that of one of its diagrams
pub record IsBookOf (dp : Dp) (book : BookView) : Type 0 where
  pub words : book.words ≡ dp.words
  pub pages : Each (IsPageOf dp) book.pages
