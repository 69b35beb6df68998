-- The desks of the workers.
use Rattle.std.specs.Prelude.{◌≡◌, ℕ, ◌/◌, List, [], Option, option_map, option_to_list, vec_len, Vec, Result, Ok, Err}
use Rattle.std.specs.List.{All, flat_map}
use Rattle.std.specs.declared.alloc.Global.{Global}
use Rattle.dp_model.specs.Dp.{Dp}
use Rattle.cover_pages.specs.Books.{BookView}
use Rattle.layer_build.specs.Layers.{IsWidth}
use Rattle.layer_build.specs.declared.workspace.PrepareError.{PrepareError}
use Rattle.layer_build.specs.declared.workspace.PrepareError.TheVariants.{Width, OutOfMemory}
use Rattle.search_workers.specs.Collected.{MayBeBook}
use Rattle.search_workers.specs.Prepared.{IsPreparedDesk}
use Rattle.search_workers.specs.declared.desk.Desk.{Desk}
use Rattle.solver_words.specs.declared.job.JobSettings.{JobSettings}

-- the book of a worker at the start of a search: an empty one where a cover is asked for, for its share of the words
abbrev pub book_for : Dp → JobSettings → Option BookView
book_for dp search = option_map (λ words. record { words = dp.words; limit = words / search.workers; pages = [] }) search.cover_words

-- a desk for each worker, of a width that is positive and fits, with the children, the book and the parts of layers that are asked for
pub record AreCrew (dp : Dp) (w : ℕ) (search : JobSettings) (desks : Vec Desk Global) : Type 0 where
  pub count : vec_len desks ≡ search.workers
  pub prepared : All (IsPreparedDesk dp w) desks.items
  pub kinds : All (λ (desk : Desk). desk.kind ≡ search.cutset) desks.items
  pub books : All (λ (desk : Desk). desk.book ≡ book_for dp search) desks.items
  pub parts : All (λ (desk : Desk). desk.parts ≡ search.parts) desks.items
  pub fits : IsWidth dp w

-- such desks; a width is refused exactly where it is not positive or does not fit, and memory runs out only where it fits
abbrev pub AreAllDesks : Dp → ℕ → JobSettings → Result (Vec Desk Global) PrepareError → Type 0
AreAllDesks dp w search (Ok desks) = AreCrew dp w search desks
AreAllDesks dp w search (Err Width) = IsWidth dp w → ⊥
AreAllDesks dp w search (Err OutOfMemory) = IsWidth dp w

-- the books of desks, in order
abbrev pub books_in : List Desk → List BookView
books_in desks = flat_map (λ (desk : Desk). option_to_list desk.book) desks

-- the book of each desk, where it has one, has diagrams of the program alone
abbrev pub HaveBooksOf : Dp → List Desk → Type 0
HaveBooksOf dp desks = All (λ (desk : Desk). MayBeBook dp desk.book) desks
