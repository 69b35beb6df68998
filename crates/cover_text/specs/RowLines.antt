-- The line of a row: BOUND ; WORDS, or BOUND ; WORDS ; ARCS.
use Rattle.std.specs.Prelude.{ℕ, ◌-◌, ◌^◌, List, [], ◌∷◌, ◌++◌, ℤ, pos, neg_ℤ, Bool, ◌||◌, cond, codes, Option, Some, None, Result, Ok, Err}
use Rattle.tokens.specs.Text.{TextState, ends_line}
use Rattle.bound_cover.specs.Covers.{CoverRow}
use Rattle.bound_cover.specs.Stored.{with_row}
use Rattle.bound_cover.specs.declared.cover.CoverArc.{CoverArc}
use Rattle.cover_text.specs.Grammar.{CoverError, number_then, word_then, part_then, passed_then, until, stands, fixed_at, early_end, small_at}

-- the bound: none, or a number from -2^62 to 2^62
unfoldable pub bound_at : TextState → Result (Option ℤ × TextState) CoverError
bound_at s =
    cond (stands (codes "none") s)
    (word_then s (λ _ t. Ok (None, t)))
    (number_then (neg_ℤ (pos (2 ^ 62))) (pos (2 ^ 62)) s (λ z t. Ok (Some z, t)))

-- the semicolon after the bound, on its line
unfoldable pub semicolon_at : TextState → Result TextState CoverError
semicolon_at s = cond (ends_line s) (Err (early_end s)) (fixed_at (codes ";") s)

-- whether the words end here: at the line's end, and before a semicolon
abbrev pub ends_words : TextState → Bool
ends_words s = ends_line s || stands (codes ";") s

-- a word of the state, any number of 64 bits, after those before it
unfoldable pub state_word_at : List ℤ → TextState → Result (List ℤ × TextState) CoverError
state_word_at words s = number_then (neg_ℤ (pos (2 ^ 63))) (pos (2 ^ 63 - 1)) s (λ z t. Ok (words ++ z ∷ [], t))

-- the target of an arc, on the line of its decision: a row's number, or r
unfoldable pub target_at : TextState → Result (Option ℕ × TextState) CoverError
target_at s =
    cond (ends_line s) (Err (early_end s))
    (cond (stands (codes "r") s) (word_then s (λ _ t. Ok (None, t))) (part_then (small_at s) (λ row t. Ok (Some row, t))))

-- an arc after those before it
unfoldable pub arc_at : List CoverArc → TextState → Result (List CoverArc × TextState) CoverError
arc_at arcs s =
    part_then (small_at s) (λ d t.
    part_then (target_at t) (λ target u.
    Ok (arcs ++ record { decision = d; target = target } ∷ [], u)))

-- the arc part after a second semicolon, where the line goes on
unfoldable pub arcs_at : ℕ → TextState → Result (Option (List CoverArc) × TextState) CoverError
arcs_at most s =
    cond (ends_line s) (Ok (None, s))
    (passed_then (fixed_at (codes ";") s) (λ t.
    part_then (until ends_line arc_at most [] t) (λ arcs u.
    Ok (Some arcs, u))))

-- the line of a row that has at most this many words and arcs, put into the last layer
unfoldable pub row_into : ℕ → List (List CoverRow) → TextState → Result (List (List CoverRow) × TextState) CoverError
row_into most layers s =
    part_then (bound_at s) (λ bound t.
    passed_then (semicolon_at t) (λ u.
    part_then (until ends_words state_word_at most [] u) (λ words v.
    part_then (arcs_at most v) (λ arcs w.
    Ok (with_row layers (record { bound = bound; words = words; arcs = arcs }), w)))))
