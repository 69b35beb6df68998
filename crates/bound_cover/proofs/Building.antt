-- What a cover that grows shows after a word, an arc or a row is added.
use Rattle.std.proofs.Common.{◌≡◌, ℕ, ◌+◌, ◌-◌, ◌^◌, ◌<◌, ◌≤◌, ℤ, Bool, cond, List, [], ◌∷◌, ◌++◌, length, map, take, drop, Option, Some, None, refl, sym, ◌∙◌, ap, subst, arith, length-append, length-drop}
use Rattle.std.proofs.lemmas.List.{drop_all, take_all, drop-append-le, length-map, length-take-le, take-append-drop}
use Rattle.std.specs.List.{slice_range}
use Rattle.dp_model.specs.Lists.{Each}
use Rattle.bound_cover.specs.declared.cover.CoverArc.{CoverArc}
use Rattle.bound_cover.specs.declared.storing.Span.{Span}
use Rattle.bound_cover.specs.Covers.{CoverRow}
use Rattle.bound_cover.specs.Stored.{row_of, layers_of, last_layer, IsWithin, RiseTo, AreShort, IsStored, with_row}
use Rattle.bound_cover.specs.Building.{built, IsBuilt, with_word, with_arc, with_layer, open_row, with_open_row}
use Rattle.bound_cover.proofs.Blocks.{head_after, layer-added, layer-stored, layers-row, length-layers, map-following, range-front, row-stored, short-layer, short-row}

-- a word after those of all rows is in none of them
words-kept : (words more : List ℤ) (arcs : List CoverArc) (heads : List Span) (w a : ℕ) → w ≤ length words → Each (IsWithin w a) heads → map (row_of (words ++ more) arcs) heads ≡ map (row_of words arcs) heads
words-kept words more arcs [] w a low h = refl
words-kept words more arcs (head ∷ heads) w a low h =
    let end = h.0.words_end in
    let same = range-front words more head.words_from head.words_to h.0.words_rise (omega arith) in
    let first : row_of (words ++ more) arcs head ≡ row_of words arcs head = ap (λ l. record { bound = head.bound; words = l; arcs = cond head.has_arcs (Some (slice_range arcs head.arcs_from head.arcs_to)) None }) same in
    ap (λ r. r ∷ map (row_of (words ++ more) arcs) heads) first ∙ ap (λ rs. row_of words arcs head ∷ rs) (words-kept words more arcs heads w a low h.1)

-- nor is an arc
arcs-kept : (words : List ℤ) (arcs more : List CoverArc) (heads : List Span) (w a : ℕ) → a ≤ length arcs → Each (IsWithin w a) heads → map (row_of words (arcs ++ more)) heads ≡ map (row_of words arcs) heads
arcs-kept words arcs more [] w a low h = refl
arcs-kept words arcs more (head ∷ heads) w a low h =
    let end = h.0.arcs_end in
    let same = range-front arcs more head.arcs_from head.arcs_to h.0.arcs_rise (omega arith) in
    let first : row_of words (arcs ++ more) head ≡ row_of words arcs head = ap (λ l. record { bound = head.bound; words = slice_range words head.words_from head.words_to; arcs = cond head.has_arcs (Some l) None }) same in
    ap (λ r. r ∷ map (row_of words (arcs ++ more)) heads) first ∙ ap (λ rs. row_of words arcs head ∷ rs) (arcs-kept words arcs more heads w a low h.1)

to-the-end : {X : Type 0} (from : ℕ) (xs : List X) → slice_range xs from (length xs) ≡ drop from xs
to-the-end from xs = take_all (length xs - from) (drop from xs) (let long = length-drop from xs in omega arith)

row-ended : (starts : List ℕ) (heads : List Span) (words : List ℤ) (arcs : List CoverArc) (w a : ℕ) (bound : Option ℤ) (has_arcs : Bool) → IsStored starts heads w a
    → layers_of starts (map (row_of words arcs) (heads ++ head_after bound has_arcs w (length words) a (length arcs) ∷ []))
    ≡ with_row (layers_of starts (map (row_of words arcs) heads)) (record { bound = bound; words = drop w words; arcs = cond has_arcs (Some (drop a arcs)) None })
row-ended starts heads words arcs w a bound has_arcs h =
    let show = row_of words arcs in
    let head = head_after bound has_arcs w (length words) a (length arcs) in
    let new : CoverRow = record { bound = bound; words = drop w words; arcs = cond has_arcs (Some (drop a arcs)) None } in
    let shown : show head ≡ new =
    ap (λ l. record { bound = bound; words = l; arcs = cond has_arcs (Some (slice_range arcs a (length arcs))) None }) (to-the-end w words)
    ∙ ap (λ l. record { bound = bound; words = drop w words; arcs = cond has_arcs (Some l) None }) (to-the-end a arcs) in
    let rises = subst (λ n. RiseTo starts n) (sym (length-map heads show)) h.starts_rise in
    ap (layers_of starts) (map-following show heads head ∙ ap (λ r. map show heads ++ r ∷ []) shown) ∙ layers-row starts (map show heads) new rises

module _ (starts : List ℕ) (heads : List Span) (words : List ℤ) (arcs : List CoverArc) (w a : ℕ) (is : IsBuilt starts heads words arcs w a) where
  -- a further word
  pub word-built : (word : ℤ) → built starts heads (words ++ word ∷ []) arcs w a ≡ with_word (built starts heads words arcs w a) word
  word-built word =
      ap (λ rs. record { cover = layers_of starts rs; words = drop w (words ++ word ∷ []); arcs = drop a arcs }) (words-kept words (word ∷ []) arcs heads w a is.words_end is.stored.within)
      ∙ ap (λ l. record { cover = layers_of starts (map (row_of words arcs) heads); words = l; arcs = drop a arcs }) (drop-append-le w words (word ∷ []) is.words_end)

  pub word-kept : (word : ℤ) → IsBuilt starts heads (words ++ word ∷ []) arcs w a
  word-kept word = record {
    stored = is.stored;
    short = subst (λ rs. AreShort (layers_of starts rs)) (sym (words-kept words (word ∷ []) arcs heads w a is.words_end is.stored.within)) is.short;
    words_end = (let long = length-append words (word ∷ []) in let low = is.words_end in omega arith);
    arcs_end = is.arcs_end;
  }

  -- a further arc
  pub arc-built : (arc : CoverArc) → built starts heads words (arcs ++ arc ∷ []) w a ≡ with_arc (built starts heads words arcs w a) arc
  arc-built arc =
      ap (λ rs. record { cover = layers_of starts rs; words = drop w words; arcs = drop a (arcs ++ arc ∷ []) }) (arcs-kept words arcs (arc ∷ []) heads w a is.arcs_end is.stored.within)
      ∙ ap (λ l. record { cover = layers_of starts (map (row_of words arcs) heads); words = drop w words; arcs = l }) (drop-append-le a arcs (arc ∷ []) is.arcs_end)

  pub arc-kept : (arc : CoverArc) → IsBuilt starts heads words (arcs ++ arc ∷ []) w a
  arc-kept arc = record {
    stored = is.stored;
    short = subst (λ rs. AreShort (layers_of starts rs)) (sym (arcs-kept words arcs (arc ∷ []) heads w a is.arcs_end is.stored.within)) is.short;
    words_end = is.words_end;
    arcs_end = (let long = length-append arcs (arc ∷ []) in let low = is.arcs_end in omega arith);
  }

  -- a further layer
  pub layer-built : built (starts ++ length heads ∷ []) heads words arcs w a ≡ with_layer (built starts heads words arcs w a)
  layer-built = ap (λ (ls : List (List CoverRow)). record { cover = ls; words = drop w words; arcs = drop a arcs }) (layer-added starts heads words arcs)

  pub layer-kept : IsBuilt (starts ++ length heads ∷ []) heads words arcs w a
  layer-kept = record {
    stored = layer-stored starts heads w a is.stored;
    short = subst AreShort (sym (layer-added starts heads words arcs)) (short-layer _ is.short);
    words_end = is.words_end;
    arcs_end = is.arcs_end;
  }

  -- the open row is ended
  pub row-built : (bound : Option ℤ) (has_arcs : Bool) → built starts (heads ++ head_after bound has_arcs w (length words) a (length arcs) ∷ []) words arcs (length words) (length arcs) ≡ with_open_row (built starts heads words arcs w a) bound has_arcs
  row-built bound has_arcs =
      ap (λ (ls : List (List CoverRow)). record { cover = ls; words = drop (length words) words; arcs = drop (length arcs) arcs }) (row-ended starts heads words arcs w a bound has_arcs is.stored)
      ∙ (ap (λ l. record { cover = with_row (layers_of starts (map (row_of words arcs) heads)) (open_row (built starts heads words arcs w a) bound has_arcs); words = l; arcs = drop (length arcs) arcs }) (drop_all (length words) words (omega arith))
      ∙ ap (λ l. record { cover = with_row (layers_of starts (map (row_of words arcs) heads)) (open_row (built starts heads words arcs w a) bound has_arcs); words = []; arcs = l }) (drop_all (length arcs) arcs (omega arith)))

  pub row-kept : (bound : Option ℤ) (has_arcs : Bool) → length (last_layer (layers_of starts (map (row_of words arcs) heads))) < 2 ^ 32 - 1 → IsBuilt starts (heads ++ head_after bound has_arcs w (length words) a (length arcs) ∷ []) words arcs (length words) (length arcs)
  row-kept bound has_arcs few = record {
    stored = (let low = is.words_end in let arcs_low = is.arcs_end in let up : w + (length words - w) ≡ length words = omega arith in let arcs_up : a + (length arcs - a) ≡ length arcs = omega arith in
        rw (up, arcs_up) at (row-stored starts heads w a (length words - w) (length arcs - a) bound has_arcs is.stored));
    short = subst AreShort (sym (row-ended starts heads words arcs w a bound has_arcs is.stored)) (short-row _ (open_row (built starts heads words arcs w a) bound has_arcs) is.short few);
    words_end = omega arith;
    arcs_end = omega arith;
  }

  pub layers-built : length starts ≡ length (built starts heads words arcs w a).cover
  layers-built = sym (length-layers starts (map (row_of words arcs) heads))

-- without what was added to the open row it shows the same
pub cover-cut : (starts : List ℕ) (heads : List Span) (words : List ℤ) (arcs : List CoverArc) (w a : ℕ) → IsBuilt starts heads words arcs w a
    → map (row_of (take w words) (take a arcs)) heads ≡ map (row_of words arcs) heads
cover-cut starts heads words arcs w a is =
    let w_long : length (take w words) ≡ w = length-take-le w words is.words_end in
    let a_long : length (take a arcs) ≡ a = length-take-le a arcs is.arcs_end in
    sym (subst (λ (l : List ℤ). map (row_of l arcs) heads ≡ map (row_of (take w words) arcs) heads) (take-append-drop w words) (words-kept (take w words) (drop w words) arcs heads w a (omega arith) is.stored.within)
    ∙ subst (λ (l : List CoverArc). map (row_of (take w words) l) heads ≡ map (row_of (take w words) (take a arcs)) heads) (take-append-drop a arcs) (arcs-kept (take w words) (take a arcs) (drop a arcs) heads w a (omega arith) is.stored.within))
