-- When texts of parts are joined, and what they become.
use Rattle.std.specs.Prelude.{◌≡◌, ℕ, ◌+◌, ◌%◌, nat_eq, pos, Bool, false, cond, ◌&&◌, List, [], ◌∷◌, length, map, filter, Option, Some, None}
use Rattle.std.specs.Option.{option_or}
use Rattle.dp_model.specs.Dp.{Dp}
use Rattle.dp_model.specs.Decisions.{below}
use Rattle.std.specs.Ordering.{int_eq}
use Rattle.problem_names.specs.ModelNames.{byte_of, word_same}
use Rattle.problem_names.specs.declared.part.PartNumber.{PartNumber}
use Rattle.parts.specs.Part.{part_program}
use Rattle.bound_cover.specs.Verdicts.{verdict}
use Rattle.bound_cover.specs.declared.cover.CoverArc.{CoverArc}
use Rattle.bound_cover.specs.declared.cover.Verdict.{Verdict}
use Rattle.bound_cover.specs.declared.cover.Verdict.TheVariants as verdicts
use Rattle.cover_text.specs.declared.cover_text.CoverText.{CoverText}
use Rattle.cover_text.specs.Texts.{CoverTextView, text_in}
pub use Rattle.cover_join.specs.declared.join_error.JoinError.{JoinError}
use Rattle.cover_join.specs.declared.join_error.JoinError.TheVariants as causes
use Rattle.cover_join.specs.Joined.{PartAnswer, joined, joined_target}

-- what a text tells of its part
abbrev pub answer_of : CoverTextView → PartAnswer
answer_of t = record { best = t.best; assignment = t.assignment; layers = t.cover }

-- the texts as their readers see them
abbrev pub texts_in : List CoverText → List CoverTextView
texts_in ts = map text_in ts

-- what the texts tell
abbrev pub answers_in : List CoverText → List PartAnswer
answers_in ts = map answer_of (texts_in ts)

-- whether the part with the number i is meant, of this number of parts
abbrev pub is_part : ℕ → ℕ → Option PartNumber → Bool
is_part of i None = false
is_part of i (Some part) = nat_eq part.index i && nat_eq part.of of

-- whether a text may stand at the place i: it is of the part with that number, and its distance is 0
abbrev pub is_in_order : ℕ → ℕ → CoverTextView → Bool
is_in_order of i t = is_part of i t.part && int_eq t.within (pos 0)

-- whether a text has the problem and the instance of the first one
abbrev pub is_of_instance : CoverTextView → CoverTextView → Bool
is_of_instance first t = nat_eq (byte_of t.model) (byte_of first.model) && word_same t.instance first.instance

-- the fault of the text at the place i
abbrev pub place_fault : CoverTextView → ℕ → ℕ → CoverTextView → Option JoinError
place_fault first of i t = cond (is_in_order of i t) (cond (is_of_instance first t) None (Some (causes.Instance i))) (Some (causes.Order i))

-- the first fault of the texts from the place i on, where there is to be one text for each of the parts
abbrev pub places_fault : CoverTextView → ℕ → ℕ → List CoverTextView → Option JoinError
places_fault first of i [] = cond (nat_eq i of) None (Some (causes.Order i))
places_fault first of i (t ∷ ts) = cond (nat_eq i of) (Some (causes.Order i)) (option_or (place_fault first of i t) (places_fault first of (i + 1) ts))

-- how many parts a text tells of: none where it is of a whole problem
abbrev pub parts_told : Option PartNumber → ℕ
parts_told None = 0
parts_told (Some part) = part.of

-- the refusal of the part with the number i
abbrev pub refusal : ℕ → Verdict → Option JoinError
refusal i verdicts.Accepted = None
refusal i (verdicts.Refused why) = Some (causes.Refused i why)

-- the refusal of what is told of the part with the number i, without a distance
unfoldable pub part_fault : Dp → ℕ → ℕ → PartAnswer → Option JoinError
part_fault dp of i p = refusal i (verdict (part_program dp i of) p.best (pos 0) p.assignment p.layers)

-- the first refusal of the parts from the number i on
abbrev pub checks_fault : Dp → ℕ → ℕ → List PartAnswer → Option JoinError
checks_fault dp of i [] = None
checks_fault dp of i (p ∷ ps) = option_or (part_fault dp of i p) (checks_fault dp of (i + 1) ps)

-- the first fault of texts: of the places, and then of the checks; the first text tells how many parts there are
unfoldable pub first_fault : Dp → CoverTextView → List CoverTextView → Option JoinError
first_fault dp first ts = option_or (places_fault first (parts_told first.part) 0 ts) (checks_fault dp (parts_told first.part) 0 (map answer_of ts))

-- the same of all texts; without texts it is that of the place 0
abbrev pub join_fault : Dp → List CoverTextView → Option JoinError
join_fault dp [] = Some (causes.Order 0)
join_fault dp (first ∷ ts) = first_fault dp first (first ∷ ts)

-- the text of the whole problem with this answer
abbrev pub whole_text : CoverTextView → PartAnswer → CoverTextView
whole_text first p =
    record { model = first.model; part = None; best = p.best; within = pos 0; assignment = p.assignment; instance = first.instance; cover = p.layers }

-- the text that is made of texts of parts, of which there is at least one
abbrev pub joined_text : Dp → CoverTextView → List CoverTextView → CoverTextView
joined_text dp first ts = whole_text first (joined dp (answer_of first) (map answer_of ts))

abbrev pub IsJoined : Dp → List CoverTextView → CoverTextView → Type 0
IsJoined dp [] t = ⊥
IsJoined dp (first ∷ ts) t = t ≡ joined_text dp first ts

-- an error is the first fault; want of memory may come anywhere
abbrev pub Fails : JoinError → Option JoinError → Type 0
Fails causes.OutOfMemory fault = Unit {0}
Fails (causes.Order i) fault = fault ≡ Some (causes.Order i)
Fails (causes.Instance i) fault = fault ≡ Some (causes.Instance i)
Fails (causes.Refused i why) fault = fault ≡ Some (causes.Refused i why)

-- the arcs of the joined root for the decisions below c
abbrev pub arcs_below : Dp → List PartAnswer → ℕ → List CoverArc
arcs_below dp ps c = map (λ d. record { decision = d; target = joined_target dp d (d % length ps) 0 ps }) (filter (dp.allowed 0 dp.root) (below c))
