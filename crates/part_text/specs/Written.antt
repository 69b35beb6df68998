-- What a single token writes: a part, a digest.
use Rattle.std.specs.Prelude.{ℕ, List, [], ◌∷◌, length, take, drop, not, ◌==◌, nat_le, cond, Option, Some, None, option_map, Result, Ok, Err}
use Rattle.std.specs.List.{prefix_len}
use Rattle.std.specs.Option.{option_and_then}
use Rattle.std.specs.Result.{result_ok}
use Rattle.hex.specs.Hex.{decode_sized, encode_lower}
use Rattle.tokens.specs.Text.{TextState, is_at_end, text_start}
use Rattle.tokens.specs.declared.comment.Comment.TheVariants.{Never}
use Rattle.tokens.specs.declared.count.TheConstants.{MOST_DIGITS}
use Rattle.problem_names.specs.ModelNames.{word_same}
use Rattle.problem_names.specs.declared.part.PartNumber.{PartNumber}
use Rattle.part_text.specs.Grammar.{InstanceError, small_at}

-- a number after which nothing stands
abbrev pub alone : Result (ℕ × TextState) InstanceError → Option ℕ
alone (Ok (n, t)) = cond (is_at_end t) (Some n) None
alone (Err e) = None

-- the number of 32 bits that at most MOST_DIGITS bytes write
unfoldable pub small_written : List ℕ → Option ℕ
small_written bytes = cond (nat_le (length bytes) MOST_DIGITS) (alone (small_at (text_start Never bytes))) None

-- how many bytes stand before the first slash (47)
abbrev pub slash_place : List ℕ → ℕ
slash_place word = prefix_len (λ b. not (b == 47)) word

-- the part of two numbers, of which the second one stands after a slash
abbrev pub part_between : List ℕ → List ℕ → Option PartNumber
part_between before [] = None
part_between before (slash ∷ after) = option_and_then (λ (index : ℕ). option_map (λ (of : ℕ). record { index = index; of = of }) (small_written after)) (small_written before)

-- the part that a word I/K writes
unfoldable pub part_written : List ℕ → Option PartNumber
part_written word = part_between (take (slash_place word) word) (drop (slash_place word) word)

-- the digest that 64 lower-case hexadecimal digits write
unfoldable pub digest_written : List ℕ → Option (List ℕ)
digest_written word = option_and_then (λ digest. cond (word_same (encode_lower digest) word) (Some digest) None) (result_ok (decode_sized word 32))
