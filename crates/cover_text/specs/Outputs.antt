-- A whole output as it is printed: the report, perhaps the counts, the lines of the cover, the instance, and the sections.
use Rattle.std.specs.Prelude.{◌≡◌, ℕ, ◌<◌, ◌^◌, ℤ, pos, int_lt, cond, List, [], ◌∷◌, ◌++◌, length, flat_map, codes, decimal, Option, Some, None, Ok}
use Rattle.bound_cover.specs.Covers.{CoverRow}
use Rattle.tokens.specs.Decimal.{decimal_of, after_spaces}
use Rattle.dp_model.specs.Distances.{IsDistance}
use Rattle.dp_model.specs.Lists.{Each}
use Rattle.problem_names.specs.ModelNames as names
use Rattle.problem_names.specs.Parts.{MayBePart}
use Rattle.problem_names.specs.declared.ModelName.{ModelName}
use Rattle.problem_names.specs.declared.part.PartNumber.{PartNumber}
use Rattle.cover_text.specs.Heads.{ClaimView}
use Rattle.cover_text.specs.Printed.{printed_cover}
use Rattle.cover_text.specs.Texts.{text_of}
use Rattle.cover_text.specs.Written.{IsWord, IsWritten}

-- lines, each of which ends with LF
abbrev pub printed_lines : List (List ℕ) → List ℕ
printed_lines lines = flat_map (λ text. text ++ 10 ∷ []) lines

-- the first line of a report with a solution, by how far a better one may be
abbrev pub proved_text : ℤ → List ℕ
proved_text within = cond (int_lt (pos 0) within) (codes "proved within" ++ 32 ∷ decimal_of within) (codes "proved")

-- the lines of a report
abbrev pub claim_lines : Option ℤ → ℤ → List ℕ → List (List ℕ)
claim_lines None within x = codes "infeasible" ∷ []
claim_lines (Some value) within x = proved_text within ∷ (codes "value" ++ 32 ∷ decimal_of value) ∷ (codes "assignment" ++ after_spaces x) ∷ []

-- how many subproblems were taken, and how many of them finished
pub record CountsView : Type 0 where
  pub taken : ℕ
  pub finished : ℕ

-- their lines, where they are told
abbrev pub counts_lines : Option CountsView → List (List ℕ)
counts_lines None = []
counts_lines (Some counts) = (codes "taken" ++ 32 ∷ decimal counts.taken) ∷ (codes "finished" ++ 32 ∷ decimal counts.finished) ∷ []

-- the line of a part, where a part is meant
abbrev pub part_lines : Option PartNumber → List (List ℕ)
part_lines None = []
part_lines (Some part) = (codes "part" ++ 32 ∷ (decimal part.index ++ 32 ∷ decimal part.of)) ∷ []

-- the lines of a cover before its instance, which has this number of bytes
abbrev pub cover_lines : ModelName → Option PartNumber → ℕ → List (List ℕ)
cover_lines model part size = (codes "cover" ++ 32 ∷ names.text_of model) ∷ (part_lines part ++ (codes "instance" ++ 32 ∷ decimal size) ∷ [])

-- the cover of an instance: its lines, the instance, and the sections
abbrev pub printed_whole : ModelName → Option PartNumber → List ℕ → List (List CoverRow) → List ℕ
printed_whole model part instance cover = printed_lines (cover_lines model part (length instance)) ++ (instance ++ printed_cover cover)

-- the report with its counts, and the cover after it
abbrev pub printed_output : ClaimView → Option CountsView → ModelName → Option PartNumber → List ℕ → List (List CoverRow) → List ℕ
printed_output claim counts model part instance cover =
    printed_lines (claim_lines claim.best claim.within claim.assignment) ++ (printed_lines (counts_lines counts) ++ printed_whole model part instance cover)

-- a value of 64 bits with a distance and decisions of 32 bits; where there is none there are no decisions, and the distance is 0
abbrev pub IsToldClaim : Option ℤ → ℤ → List ℕ → Type 0
IsToldClaim None within x = (within ≡ pos 0) × (x ≡ [])
IsToldClaim (Some value) within x = IsWord value × IsDistance within × Each (λ d. d < 2 ^ 32) x

-- counts of 64 bits
pub record AreToldCounts (counts : CountsView) : Type 0 where
  pub taken : counts.taken < 2 ^ 64
  pub finished : counts.finished < 2 ^ 64

-- counts that may be told, or none
abbrev pub MayBeCounts : Option CountsView → Type 0
MayBeCounts None = Unit {0}
MayBeCounts (Some counts) = AreToldCounts counts

-- a whole output that is printed is read as what was printed
abbrev pub OutputsAreRead : Type 0
OutputsAreRead = (claim : ClaimView) (counts : Option CountsView) (model : ModelName) (part : Option PartNumber) (instance : List ℕ) (cover : List (List CoverRow))
    → IsToldClaim claim.best claim.within claim.assignment → MayBeCounts counts → MayBePart part → length instance < 2 ^ 32 → IsWritten cover
    → text_of (printed_output claim counts model part instance cover) ≡ Ok (record { model = model; part = part; best = claim.best; within = claim.within; assignment = claim.assignment; instance = instance; cover = cover })
