-- What stays settled, and what a cover settles.
use Rattle.std.proofs.Common.{ℕ, ℤ, ◌≤ℤ◌, List, Option, Some, None, inl, inr, ◌⊎◌, arith}
use Rattle.std.proofs.lemmas.Int.{ints}
use Rattle.dp_model.specs.Dp.{Dp}
use Rattle.dp_model.specs.Laws.{IsLawful}
use Rattle.dp_model.specs.Numbers.{AtMost, OptionAtMost}
use Rattle.dp_model.specs.Prefixes.{IsPrefix, value_of}
use Rattle.bound_cover.specs.Covers.{CoverRow}
use Rattle.frontier_parts.specs.CoversBelow.{IsCoverBelow}
use Rattle.frontier_parts.proofs.Covered.{cover_bounds}
use Rattle.frontier_parts.specs.Settled.{Settled, IsSettled}

at_most_later : (z : ℤ) (inc later : Option ℤ) → OptionAtMost inc later → AtMost z inc → AtMost z later
at_most_later z None later h k = absurd k
at_most_later z (Some a) None h k = absurd h
at_most_later z (Some a) (Some b) h k = let up : a ≤ℤ b = h in let low : z ≤ℤ a = k in let sum : z ≤ℤ b = omega (arith, ints) in sum

-- what is settled beside an incumbent is settled beside a greater one
pub settled_later : (dp : Dp) (inc later : Option ℤ) (part : Settled) → OptionAtMost inc later → IsSettled dp inc part → IsSettled dp later part
settled_later dp inc later part up is = record {
  shown = is.shown;
  held = λ x h. elim (is.held x h) as (λ _. AtMost (value_of dp x) part.best ⊎ AtMost (value_of dp x) later) [ inl own ↦ inl own | inr old ↦ inr (at_most_later (value_of dp x) inc later up old) ];
}

-- a cover below a prefix whose claim is the incumbent settles it: nothing below is more
pub covered_settles : (dp : Dp) → IsLawful dp → (inc : Option ℤ) (p : List ℕ) (layers : List (List CoverRow)) (place : ℕ) → IsPrefix dp p → IsCoverBelow dp inc p layers place → IsSettled dp inc (record { prefix = p; best = None })
covered_settles dp laws inc p layers place prefix is = record { shown = tt; held = λ x h. inr (cover_bounds dp laws inc p prefix layers place is x h) }
