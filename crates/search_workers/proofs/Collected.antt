-- A relaxed diagram can be put into a book, and the book stays one of the program.
use Rattle.std.proofs.Common.{◌≡◌, ℕ, zero, suc, ◌+◌, ◌<◌, IsTrue, List, [], ◌∷◌, ◌++◌, length, slice_get, take, Option, Some, None, option_map, unwrap_or, refl, sym, ◌∙◌, ap, arith}
use Rattle.dp_model.specs.Dp.{Dp}
use Rattle.dp_model.specs.Laws.{IsLawful, IsChained}
use Rattle.dp_model.specs.Lists.{Each}
use Rattle.dp_model.specs.declared.cut_kind.CutKind.{CutKind}
use Rattle.dp_model.proofs.Members.{Each-then}
use Rattle.dp_laws.specs.Diagrams.Nodes.{DdNode, DdLayers}
use Rattle.dp_laws.specs.Diagrams.Cutsets.{ChildAt, children_at}
use Rattle.dp_laws.specs.Diagrams.Placed.{IsChildPlaced}
use Rattle.dp_laws.proofs.Diagrams.Placed.{placed}
use Rattle.dp_laws.proofs.Diagrams.Walks.{keeps-at}
use Rattle.dp_model.proofs.Members.{each-of-all}
use Rattle.relaxed_dd.specs.Shown.{IsRelaxed}
use Rattle.exact_cutset.proofs.Cuts.{seen, last-is}
use Rattle.board_laws.specs.declared.fate.Fate.{Fate}
use Rattle.cover_pages.specs.declared.pages.Place.{Place}
use Rattle.cover_pages.specs.Books.{BookView, IsBookOf, IsPageOf, places_of, with_page}
use Rattle.cover_pages.specs.Pages.{CanKeep, IsExactPlace, page_of}

-- what holds of the element at each place holds of each element
each-by-place : {X : Type 0} (P : X → Type 0) (xs : List X) → ((i : ℕ) (x : X) → slice_get xs i ≡ Some x → P x) → Each P xs
each-by-place P [] all = tt
each-by-place P (x ∷ xs) all = (all 0 x refl, each-by-place P xs (λ i y e. all (suc i) y e))

-- the place of an element is below the length
place-below : {X : Type 0} (xs : List X) (i : ℕ) (x : X) → slice_get xs i ≡ Some x → i < length xs
place-below [] i x e = absurd (let none : None ≡ Some x = e in cc)
place-below (y ∷ ys) zero x e = omega arith
place-below (y ∷ ys) (suc i) x e = let below = place-below ys i x e in omega arith

-- the rows of a relaxed diagram have as many cells as the program says, and a depth has 32 bits
pub can-keep : (dp : Dp) → IsLawful dp → IsChained dp → (w : ℕ) (d : DdLayers) → IsRelaxed dp w d → CanKeep dp.words d
can-keep dp laws chained w d r =
    let h = seen dp laws chained w d r in
    let deep = h.depth in
    let short = r.shorter in
    let few = laws.sizes.vars in
    let last = last-is dp laws chained w d r in
    record {
      some = omega arith;
      low = omega arith;
      cells = each-by-place (Each (λ (n : DdNode). length n.row ≡ dp.words)) d.layers (λ m layer at.
          let keeps = (keeps-at dp r.prefix w r.threshold (length r.prefix) m d.layers h.layer layer at).keeps in
          let below = place-below d.layers m layer at in
          Each-then (λ (n : DdNode). IsTrue (dp.is_state (length r.prefix + m) n.row)) (λ (n : DdNode). length n.row ≡ dp.words) layer
          (λ n state. laws.sizes.cells (length r.prefix + m) n.row (record { layer = omega arith; test = state })) keeps.states);
    }

exact-here : (dp : Dp) (d : DdLayers) (cs : List ChildAt) → Each (IsChildPlaced dp d) cs → Each (IsExactPlace d) (places_of cs)
exact-here dp d [] all = tt
exact-here dp d (c ∷ cs) all =
    let below = all.0.below in
    (record { node = all.0.node; is = all.0.is; exact = all.0.exact; first = omega arith }, exact-here dp d cs all.1)

-- the children of a relaxed diagram stand at exact nodes
pub exact-places : (dp : Dp) → IsLawful dp → IsChained dp → (w : ℕ) (d : DdLayers) → IsRelaxed dp w d → (kind : CutKind) → Each (IsExactPlace d) (places_of (children_at dp d kind))
exact-places dp laws chained w d r kind =
    exact-here dp d (children_at dp d kind)
    (each-of-all (IsChildPlaced dp d) (children_at dp d kind) (λ c has. placed dp r.prefix w r.threshold d kind r.shorter (seen dp laws chained w d r) c has))

each-and : {X : Type 0} (P : X → Type 0) (xs : List X) (x : X) → Each P xs → P x → Each P (xs ++ x ∷ [])
each-and P [] x all p = (p, tt)
each-and P (y ∷ ys) x all p = (all.0, each-and P ys x all.1 p)

-- a book with a further page of the program is one of the program
pub book-with : (dp : Dp) (book : BookView) → IsBookOf dp book → (w ticket : ℕ) (d : DdLayers) → IsRelaxed dp w d → (kind : CutKind) (fates : List Fate)
    → IsBookOf dp (with_page book (page_of ticket d (places_of (children_at dp d kind)) fates))
book-with dp book b w ticket d r kind fates = record {
  words = b.words;
  pages = each-and (IsPageOf dp) book.pages (page_of ticket d (places_of (children_at dp d kind)) fates) b.pages
      (record { diagram = d; width = w; relaxed = r; kind = kind; fates = fates; is = refl });
}

-- the depth and the place of a child
abbrev place_of : ChildAt → ℕ × ℕ
place_of c = (c.depth, c.place)

-- one more of the children's places
place-added : (cs : List ChildAt) (i : ℕ) (place : ℕ × ℕ) → option_map place_of (slice_get cs i) ≡ Some place
    → places_of (take (suc i) cs) ≡ places_of (take i cs) ++ record { depth = place.0; node = place.1 } ∷ []
place-added [] i place e = absurd (let none : None ≡ Some place = e in cc)
place-added (c ∷ cs) zero place e =
    let same : place_of c ≡ place = ap (λ (p : Option (ℕ × ℕ)). unwrap_or p place) e in
    ap (λ (p : ℕ × ℕ). record { depth = p.0; node = p.1 } ∷ []) same
place-added (c ∷ cs) (suc i) place e = ap (λ (ps : List Place). record { depth = c.depth; node = c.place } ∷ ps) (place-added cs i place e)

pub places-more : (cs : List ChildAt) (i : ℕ) (place : ℕ × ℕ) (places more : List Place) → option_map place_of (slice_get cs i) ≡ Some place
    → places ≡ places_of (take i cs) → more ≡ places ++ record { depth = place.0; node = place.1 } ∷ [] → more ≡ places_of (take (i + 1) cs)
places-more cs i place places more e had added = added ∙ (ap (λ (ps : List Place). ps ++ record { depth = place.0; node = place.1 } ∷ []) had ∙ (sym (place-added cs i place e) ∙ ap (λ n. places_of (take n cs)) (let next : suc i ≡ i + 1 = omega arith in next)))
