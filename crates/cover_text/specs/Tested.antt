-- The sections of a cover, each tested with the one before it as it is read.
use Rattle.std.specs.Prelude.{ℕ, ℤ, List, [], length, codes, Option, Result, Ok}
use Rattle.tokens.specs.Text.{TextState, text_start}
use Rattle.tokens.specs.declared.comment.Comment.TheVariants.{Never}
use Rattle.dp_model.specs.Dp.{Dp}
use Rattle.bound_cover.specs.InTurn.{begun, taken, concluded}
use Rattle.bound_cover.specs.declared.cover.Verdict.{Verdict}
use Rattle.bound_cover.specs.declared.layer_tests.LayerTests.{LayerTests}
use Rattle.cover_text.specs.Grammar.{CoverError, part_then, passed_then, end_then, until, stands, fixed_at}
use Rattle.cover_text.specs.Sections.{numbered_at}

-- the section of the next layer, which is read alone
unfoldable pub tested_at : Dp → ℕ → LayerTests → TextState → Result (LayerTests × TextState) CoverError
tested_at dp most tests s = part_then (numbered_at most tests.count [] s) (λ next t. Ok (taken dp tests next, t))

-- the verdict after all sections of a text, then end and nothing else
unfoldable pub tested_sections : Dp → Option ℤ → ℤ → List ℕ → List ℕ → Result Verdict CoverError
tested_sections dp best within x bytes =
    part_then (until (stands (codes "end")) (tested_at dp (length bytes)) (length bytes) (begun dp best within x) (text_start Never bytes)) (λ tests t.
    passed_then (fixed_at (codes "end") t) (λ u.
    end_then u (Ok (concluded dp tests))))
