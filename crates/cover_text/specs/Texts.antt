-- The whole text: the lines before the instance, the instance, the sections.
use Rattle.std.specs.Prelude.{ℕ, ◌-◌, List, length, take, ℤ, Option, Result, Ok, Err}
use Rattle.dp_model.specs.Dp.{Dp}
use Rattle.tokens.specs.declared.place.Place.{Place}
use Rattle.problem_names.specs.declared.ModelName.{ModelName}
use Rattle.problem_names.specs.declared.part.PartNumber.{PartNumber}
use Rattle.bound_cover.specs.Covers.{CoverRow}
use Rattle.bound_cover.specs.Verdicts.{verdict}
use Rattle.bound_cover.specs.declared.cover.Verdict.{Verdict}
use Rattle.cover_text.specs.declared.cover_text.CoverText.{CoverText}
use Rattle.cover_text.specs.declared.cover_text.OpenCover.{OpenCover}
use Rattle.cover_text.specs.Grammar.{CoverError}
use Rattle.cover_text.specs.Sections.{sections_at}
use Rattle.cover_text.specs.Heads.{head_at}
use Rattle.cover_text.specs.Instances.{parted, end_place, moved}

-- what a text of a cover holds
pub record CoverTextView : Type 0 where
  pub model : ModelName
  pub part : Option PartNumber
  pub best : Option ℤ
  pub within : ℤ
  pub assignment : List ℕ
  pub instance : List ℕ
  pub cover : List (List CoverRow)

-- a text as its readers see it
abbrev pub text_in : CoverText → CoverTextView
text_in t = record { model = t.model; part = t.part; best = t.best; within = t.within; assignment = t.assignment.items; instance = t.instance.items; cover = t.cover }

-- what was read goes on
abbrev pub and_then : {A B : Type 0} → Result A CoverError → (A → Result B CoverError) → Result B CoverError
and_then (Ok x) more = more x
and_then (Err e) more = Err e

-- the fault of a part that begins at the origin
abbrev pub moved_by : {A : Type 0} → Place → Result A CoverError → Result A CoverError
moved_by origin (Ok x) = Ok x
moved_by origin (Err e) = Err (moved origin e)

-- the sections after this many bytes
unfoldable pub cover_after : List ℕ → List ℕ → Result (List (List CoverRow)) CoverError
cover_after before following = moved_by (end_place before) (sections_at following)

-- a text up to its sections, and the sections
pub record OpenView : Type 0 where
  pub model : ModelName
  pub part : Option PartNumber
  pub best : Option ℤ
  pub within : ℤ
  pub assignment : List ℕ
  pub instance : List ℕ
  pub before : List ℕ
  pub following : List ℕ

-- an open cover as its readers see it
abbrev pub opened_in : OpenCover → OpenView
opened_in o = record { model = o.model; part = o.part; best = o.best; within = o.within; assignment = o.assignment.items; instance = o.instance.now; before = o.before.now; following = o.following.now }

-- what stands before the sections, or its first fault
unfoldable pub opened : List ℕ → Result OpenView CoverError
opened bytes =
    and_then (head_at bytes) (λ head.
    and_then (parted bytes head.size.line head.size.bytes) (λ parts.
    Ok (record { model = head.model; part = head.part; best = head.claim.best; within = head.claim.within; assignment = head.claim.assignment; instance = parts.0; before = take (length bytes - length parts.1) bytes; following = parts.1 })))

-- what the text holds where its sections are this cover
abbrev pub held_with : OpenView → List (List CoverRow) → CoverTextView
held_with o cover = record { model = o.model; part = o.part; best = o.best; within = o.within; assignment = o.assignment; instance = o.instance; cover = cover }

-- the verdict on the sections, or their first fault
abbrev pub verdict_after : Dp → OpenView → Result Verdict CoverError
verdict_after dp o = and_then (cover_after o.before o.following) (λ cover. Ok (verdict dp o.best o.within o.assignment cover))

-- what a text holds, or its first fault
unfoldable pub text_of : List ℕ → Result CoverTextView CoverError
text_of bytes = and_then (opened bytes) (λ o. and_then (cover_after o.before o.following) (λ cover. Ok (held_with o cover)))
