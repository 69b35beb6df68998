-- The row of a node, part by part.
use Rattle.std.proofs.Common.{◌≡◌, ℕ, zero, suc, ◌+◌, ◌<◌, ℤ, Bool, true, false, not, nat_lt, ◌&&◌, List, [], ◌∷◌, ◌++◌, length, map, take, slice_get, Option, Some, None, IsSome, option_map, option_and_then, refl, sym, ◌∙◌, ap, arith}
use Rattle.std.proofs.lemmas.List.{map_more, take_all}
use Rattle.std.proofs.lemmas.Option.{none-some, same_Some, get_or_from_slice_get, slice_get_within}
use Rattle.dp_model.specs.Dp.{Dp}
use Rattle.dp_laws.specs.declared.arc.DdArc.{DdArc}
use Rattle.dp_laws.specs.Diagrams.Nodes.{DdNode}
use Rattle.bound_cover.specs.declared.cover.CoverArc.{CoverArc}
use Rattle.bound_cover.specs.Covers.{CoverRow}
use Rattle.bound_cover.specs.Exploring.{rest_of, greater_of, claim_of, leads_above, moved, has_arcs, row_for, is_deep, is_last_exact}
use Rattle.bound_cover.specs.Tests.{is_at_most}
use Rattle.dp_model.specs.Numbers.{add_some}
use Rattle.cover_book.specs.Nodes.{row_with, arcs_in}

some-at : {X : Type 0} (xs : List X) (i : ℕ) → i < length xs → IsSome (slice_get xs i)
some-at [] i less = absurd (omega arith)
some-at (x ∷ xs) zero less = refl
some-at (x ∷ xs) (suc i) less = some-at xs i (omega arith)

pub arc-there : (o : Option DdNode) (i n : ℕ) → option_map (λ (m : DdNode). length m.arcs) o ≡ Some n → i < n → IsSome (option_and_then (λ (m : DdNode). slice_get m.arcs i) o)
arc-there None i n e less = absurd (none-some n e)
arc-there (Some m) i n e less = let long = same_Some (length m.arcs) n e in some-at m.arcs i (omega arith)

-- one arc more is moved
pub next-moved : (before : ℕ) (o : Option DdNode) (i : ℕ) (arc : DdArc) (a : CoverArc) (old new : List CoverArc) → option_and_then (λ (m : DdNode). slice_get m.arcs i) o ≡ Some arc → a ≡ moved before arc → old ≡ map (moved before) (take i (arcs_in o)) → new ≡ old ++ a ∷ []
    → new ≡ map (moved before) (take (i + 1) (arcs_in o))
next-moved before None i arc a old new at is h n = absurd (none-some arc at)
next-moved before (Some m) i arc a old new at is h n =
    let more = map_more (moved before) m.arcs i arc (slice_get_within m.arcs i arc at) in
    let here = get_or_from_slice_get m.arcs i arc arc at in
    n ∙ (ap (λ l. l ++ a ∷ []) h ∙ (ap (λ x. map (moved before) (take i m.arcs) ++ x ∷ []) (is ∙ ap (moved before) (sym here)) ∙ sym more))

-- what a row claims

-- the row with its arcs, and without
