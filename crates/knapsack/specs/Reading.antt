-- The grammar of an instance's text.
use Rattle.std.specs.Prelude.{ℕ, ◌^◌, List, [], ◌∷◌, ◌++◌, Result, Ok, Err, if◌then◌else◌}
use Rattle.tokens.specs.Text.{TextState, text_start, ends_line, place_of}
use Rattle.tokens.specs.Grammar.{part_then, times, end_then}
use Rattle.tokens.specs.Naturals.{natural_then}
use Rattle.tokens.specs.declared.instance_error.InstanceError.{InstanceError}
use Rattle.tokens.specs.declared.comment.Comment.TheVariants.{Never}
use Rattle.tokens.specs.declared.instance_error.InstanceFault.TheVariants.{Trailing}
use Rattle.knapsack.specs.declared.item.Item.{Item}
use Rattle.knapsack.specs.Instance.{Instance}

-- what is read where the line ends; a token that is left on it is trailing
abbrev pub line_end_then : {B : Type 0} → TextState → Result B InstanceError → Result B InstanceError
line_end_then s outcome = if ends_line s then outcome else Err (record { fault = Trailing; place = place_of s })

-- the copies of an item: one where the line ends after the weight, else a number that is the last token of the line
unfoldable pub copies_at : TextState → Result (ℕ × TextState) InstanceError
copies_at s = if ends_line s then Ok (1, s) else natural_then 0 1000 s (λ c t. line_end_then t (Ok (c, t)))

-- an item after others: profit, weight and copies
unfoldable pub item_after : List Item → TextState → Result (List Item × TextState) InstanceError
item_after items s =
    natural_then 0 1000000000 s (λ p t.
    natural_then 0 1000000000 t (λ w u.
    part_then (copies_at u) (λ c v.
    Ok (items ++ record { profit = p; weight = w; copies = c } ∷ [], v))))

-- the whole text: how many items, the capacity, and the items
unfoldable pub instance_at : TextState → Result Instance InstanceError
instance_at s =
    natural_then 0 1000 s (λ count t.
    natural_then 0 (2 ^ 40) t (λ capacity u.
    part_then (times item_after count [] u) (λ items v.
    end_then v (Ok (record { capacity = capacity; items = items })))))

-- the instance that the bytes spell, or the first fault with its place
abbrev pub instance_text : List ℕ → Result Instance InstanceError
instance_text bytes = instance_at (text_start Never bytes)
