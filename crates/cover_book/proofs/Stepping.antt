-- An exploration goes on: the row that waited is explored, and the others wait.
use Rattle.std.proofs.Common.{◌≡◌, ℕ, zero, suc, ◌+◌, ◌-◌, ◌<◌, ◌≤◌, ℤ, List, [], ◌∷◌, ◌++◌, length, drop, slice_get, Option, Some, None, option_map, refl, sym, ◌∙◌, ap, subst, arith}
use Rattle.std.proofs.lemmas.List.{drop_all, length-map, length-append, length-replicate}
use Rattle.std.proofs.lemmas.Option.{slice_get-map, none-some, same_Some}
use Rattle.dp_model.specs.Dp.{Dp}
use Rattle.dp_model.specs.Laws.{IsLawful}
use Rattle.dp_model.specs.Best.{best}
use Rattle.dp_model.specs.Subproblem.{Subproblem, IsOwn}
use Rattle.dp_model.proofs.Solutions.{best-is_best}
use Rattle.dp_laws.specs.Diagrams.Nodes.{DdLayers}
use Rattle.bound_cover.specs.Covers.{CoverRow}
use Rattle.bound_cover.specs.Exploring.{HoldsAll, layer_of, Waiting, waiting_in, waiting_after, start_cover, start_waiting}
use Rattle.bound_cover.specs.DraftRows.{IsDraft}
use Rattle.bound_cover.specs.Clamping.{clamped_layers, AreWritable, IsReachable}
use Rattle.bound_cover.specs.Verdicts.{checked_rows}
use Rattle.bound_cover.proofs.Drafts.{stays-draft, whole-draft, start-is-draft, best-holds}
use Rattle.bound_cover.proofs.Clamps.{clamped-passes, clamped-writable}
use Rattle.bound_cover.proofs.Reachable.{best-reachable}
use Rattle.bound_cover.proofs.Placing.{explored-long}
use Rattle.cover_book.specs.declared.waiting.WaitingRow.{WaitingRow}
use Rattle.cover_book.specs.Adding.{with_root_arcs, AreAdded, last_needed}
use Rattle.cover_book.specs.Waits.{waiting_row, waiting_of, AreOwn}
use Rattle.cover_book.specs.Steps.{waits_after, IsDiagramAt, IsPutAt}
use Rattle.cover_book.specs.UnderWay.{IsOnTheWay}
use Rattle.cover_book.proofs.Putting.{layer-here, put}
use Rattle.cover_book.proofs.Owning.{cut-within}
use Rattle.cover_book.proofs.Layers.{drop-at}

-- what waits after a diagram is put in
waits-as : (dp : Dp) (claim : Option ℤ) (q : Waiting) (d : DdLayers) (rows : List (List CoverRow)) → d.first ≡ length q.prefix → (o : Option ℕ) → waits_after claim d rows o ≡ waiting_after claim q d rows o
waits-as dp claim q d rows first None = refl
waits-as dp claim q d rows first (Some depth) =
    ap (waiting_in claim (length (layer_of rows (depth - 1)))) (layer-here d (depth - 1) ∙ ap (λ n. layer_of d.layers (depth - 1 - n)) first)

-- it is put in
pub puts-in : (dp : Dp) (claim : Option ℤ) (o : Option WaitingRow) (place : ℕ) (d : DdLayers) (rows start new : List (List CoverRow)) (waiting new_waiting : List Waiting) → IsDiagramAt dp claim o d → option_map (λ (r : WaitingRow). r.place) o ≡ Some place → length rows ≡ dp.vars + 1
    → start ≡ with_root_arcs d place rows → AreAdded dp claim d (last_needed claim d d.first_reduced + 1) start new → new_waiting ≡ waiting ++ waits_after claim d rows d.first_reduced → IsPutAt dp claim o d rows waiting new new_waiting
puts-in dp claim None place d rows start new waiting new_waiting is at long s a n = absurd is
puts-in dp claim (Some r) place d rows start new waiting new_waiting is at long s a n =
    let q = waiting_row r in
    let h = is.diagram in
    let same : r.place ≡ place = (let e : Some r.place ≡ Some place = at in grind arith) in
    record {
      cover = put dp claim q d rows start new long h.first is.shorter (cut-within dp q.prefix is.width claim d is.shorter h) (s ∙ ap (λ p. with_root_arcs d p rows) (sym same)) a;
      rest = n ∙ ap (λ l. waiting ++ l) (waits-as dp claim q d rows h.first d.first_reduced);
    }

-- ---- the loop

drop-more : {X : Type 0} (xs ys : List X) (i : ℕ) → i ≤ length xs → drop i (xs ++ ys) ≡ drop i xs ++ ys
drop-more xs ys zero low = refl
drop-more [] ys (suc i) low = absurd (omega arith)
drop-more (x ∷ xs) ys (suc i) low = drop-more xs ys i (omega arith)

pub one-more : (dp : Dp) → IsLawful dp → (claim : Option ℤ) (next : ℕ) (o : Option WaitingRow) (d : DdLayers) (rows new : List (List CoverRow)) (waiting new_waiting : List WaitingRow) → slice_get waiting next ≡ o → next < length waiting → IsOnTheWay dp claim next rows waiting
    → IsDiagramAt dp claim o d → IsPutAt dp claim o d rows (waiting_of waiting) new (waiting_of new_waiting) → AreOwn dp new_waiting → IsOnTheWay dp claim (next + 1) new new_waiting
one-more dp laws claim next None d rows new waiting new_waiting at less h is s own = absurd s
one-more dp laws claim next (Some r) d rows new waiting new_waiting at less h is s own =
    let q = waiting_row r in
    let after = waiting_after claim q d rows d.first_reduced in
    let was = waiting_of waiting in
    let count : length was ≡ length waiting = length-map waiting waiting_row in
    let here : slice_get was next ≡ Some q = slice_get-map waiting_row waiting next ∙ ap (option_map waiting_row) at in
    let split : drop next was ≡ q ∷ drop (next + 1) was = drop-at was next q here in
    let rest : drop (next + 1) (waiting_of new_waiting) ≡ drop (next + 1) was ++ after = ap (drop (next + 1)) s.rest ∙ drop-more was after (next + 1) (omega arith) in
    let many : length (waiting_of new_waiting) ≡ length was + length after = ap (λ l. length l) s.rest ∙ length-append was after in
    let all : length (waiting_of new_waiting) ≡ length new_waiting = length-map new_waiting waiting_row in
    record {
      few = omega arith;
      long = ap (λ l. length l) s.cover ∙ explored-long dp claim q d rows;
      own = own;
      draft = λ most.
          subst (λ l. IsDraft dp claim new l) (sym rest)
          (subst (λ c. IsDraft dp claim c (drop (next + 1) was ++ after)) (sym s.cover)
          (stays-draft dp claim is.width rows q (drop (next + 1) was) d (record { laws = laws; most = most; draft = subst (λ l. IsDraft dp claim rows l) split (h.draft most); diagram = is.diagram })));
    }

-- nothing waits
pub none-waits : (dp : Dp) (claim : Option ℤ) (next : ℕ) (rows : List (List CoverRow)) (waiting : List WaitingRow) → length waiting ≤ next → IsOnTheWay dp claim next rows waiting → HoldsAll dp claim → checked_rows dp claim rows ≡ None
none-waits dp claim next rows waiting end h most =
    let count : length (waiting_of waiting) ≡ length waiting = length-map waiting waiting_row in
    whole-draft dp claim rows (subst (λ l. IsDraft dp claim rows l) (drop_all next (waiting_of waiting) (omega arith)) (h.draft most))

-- an exploration begins
pub starts : (dp : Dp) → IsLawful dp → (claim : Option ℤ) (rows : List (List CoverRow)) (waiting : List WaitingRow) → rows ≡ start_cover dp claim → waiting_of waiting ≡ start_waiting dp → AreOwn dp waiting → IsOnTheWay dp claim 0 rows waiting
starts dp laws claim rows waiting r w own = record {
  few = omega arith;
  long = ap (λ (l : List (List CoverRow)). length l) r ∙ (let e = length-replicate {A = List CoverRow} dp.vars [] in omega arith);
  own = own;
  draft = λ most. subst (λ l. IsDraft dp claim rows l) (sym w) (subst (λ c. IsDraft dp claim c (start_waiting dp)) (sym r) (start-is-draft dp laws claim most));
}

-- where a diagram is for the row that waits, one does
pub is-there : (dp : Dp) (claim : Option ℤ) (waiting : List WaitingRow) (next : ℕ) (d : DdLayers) → IsDiagramAt dp claim (slice_get waiting next) d → next < length waiting
is-there dp claim [] next d is = absurd is
is-there dp claim (w ∷ waiting) zero d is = omega arith
is-there dp claim (w ∷ waiting) (suc next) d is = let h = is-there dp claim waiting next d is in omega arith

pub own-at : (dp : Dp) (waiting : List WaitingRow) (next : ℕ) (s : Subproblem) → AreOwn dp waiting → option_map (λ (w : WaitingRow). w.sub.subproblem) (slice_get waiting next) ≡ Some s → IsOwn dp s
own-at dp [] next s own e = absurd (none-some s e)
own-at dp (w ∷ waiting) zero s own e = subst (IsOwn dp) (same_Some w.sub.subproblem s e) own.0
own-at dp (w ∷ waiting) (suc next) s own e = own-at dp waiting next s own.1 e

pub next-none : (waiting : List WaitingRow) (next : ℕ) → length waiting ≤ next → None ≡ option_map (λ (w : WaitingRow). w.sub.subproblem) (slice_get waiting next)
next-none [] next end = refl
next-none (w ∷ waiting) zero end = absurd (omega arith)
next-none (w ∷ waiting) (suc next) end = next-none waiting next (omega arith)

is-past : (waiting : List WaitingRow) (next : ℕ) → option_map (λ (w : WaitingRow). w.sub.subproblem) (slice_get waiting next) ≡ None → length waiting ≤ next
is-past [] next e = omega arith
is-past (w ∷ waiting) zero e = absurd (none-some w.sub.subproblem (sym e))
is-past (w ∷ waiting) (suc next) e = let h = is-past waiting next e in omega arith

-- an exploration ends
pub passes-last : (dp : Dp) → IsLawful dp → (claim : Option ℤ) (next : ℕ) (rows cover : List (List CoverRow)) (waiting : List WaitingRow) → IsOnTheWay dp claim next rows waiting → option_map (λ (w : WaitingRow). w.sub.subproblem) (slice_get waiting next) ≡ None → cover ≡ clamped_layers dp 0 rows
    → HoldsAll dp claim → IsReachable claim → checked_rows dp claim cover ≡ None
passes-last dp laws claim next rows cover waiting h none c most reach =
    ap (checked_rows dp claim) c ∙ clamped-passes dp laws claim reach rows (none-waits dp claim next rows waiting (is-past waiting next none) h most)

pub passes-best : (dp : Dp) → IsLawful dp → (claim : Option ℤ) (next : ℕ) (rows cover : List (List CoverRow)) (waiting : List WaitingRow) → IsOnTheWay dp claim next rows waiting → option_map (λ (w : WaitingRow). w.sub.subproblem) (slice_get waiting next) ≡ None → cover ≡ clamped_layers dp 0 rows
    → claim ≡ best dp → checked_rows dp claim cover ≡ None
passes-best dp laws claim next rows cover waiting h none c is =
    passes-last dp laws claim next rows cover waiting h none c (subst (HoldsAll dp) (sym is) (best-holds dp (best dp) (best-is_best dp))) (subst IsReachable (sym is) (best-reachable dp laws))

pub writes : (dp : Dp) → IsLawful dp → (rows cover : List (List CoverRow)) → length rows ≡ dp.vars + 1 → cover ≡ clamped_layers dp 0 rows → AreWritable cover
writes dp laws rows cover long c = subst AreWritable (sym c) (clamped-writable dp 0 laws.sizes.vars rows (omega arith))
