-- The printed texts.
use Rattle.std.specs.Prelude.{ℕ, ◌^◌, ◌<◌, ℤ, pos, int_lt, codes, Bool, true, false, cond, List, [], ◌∷◌, ◌++◌, Option, Some, None, Vec}
use Rattle.std.specs.List.{flat_map}
use Rattle.std.specs.Fmt.{decimal}
use Rattle.std.specs.declared.alloc.Global.{Global}
use Rattle.tokens.specs.Decimal.{decimal_of}
use Rattle.tokens.specs.declared.instance_error.InstanceError.{InstanceError}
use Rattle.tokens.specs.declared.instance_error.InstanceFault.{InstanceFault}
use Rattle.tokens.specs.declared.place.Place.{Place}
use Rattle.tokens.specs.declared.instance_error.InstanceFault.TheVariants.{NotNumber, OutOfRange, EndOfText, Trailing, NotAscii, Count, Limit, ThreeLiterals, Hard, Vertex, Window, Word}
use Rattle.problem_theory.specs.declared.refusal.InstanceRefusal.{InstanceRefusal}
use Rattle.problem_theory.specs.declared.refusal.InstanceRefusal.TheVariants.{Text, Table}
use Rattle.table_refusal.specs.Laws.{number_of}
use Rattle.table_refusal.specs.declared.failure.Failure.{Failure}
use Rattle.table_refusal.specs.declared.refusal.TableError.{TableError}
use Rattle.table_refusal.specs.declared.refusal.TableError.TheVariants as tables
use Rattle.bound_cover.specs.declared.cover.Why.{Why}
use Rattle.bound_cover.specs.declared.cover.Why.TheVariants as whys
use Rattle.bound_cover.specs.declared.cover.Verdict.{Verdict}
use Rattle.bound_cover.specs.declared.cover.Verdict.TheVariants as verdicts
use Rattle.dp_model.specs.Solution.{Solution}
use Rattle.journal_file.specs.declared.error.JournalError.{JournalError}
use Rattle.journal_file.specs.declared.error.JournalError.TheVariants as journals
use Rattle.hex.specs.Hex.{encode_lower}
use Rattle.solver_report.specs.declared.answer.Stop.{Stop}
use Rattle.solver_report.specs.declared.answer.Stop.TheVariants.{Budget, Memory, Journal}
use Rattle.solver_words.specs.declared.words_error.WordsError.{WordsError}
use Rattle.solver_words.specs.declared.words_error.WordsError.TheVariants as errors
use Rattle.solver_report.specs.declared.answer.Outcome.{Outcome}
use Rattle.solver_report.specs.declared.answer.Outcome.TheVariants.{Proved, Infeasible, Stopped}
use Rattle.solver_report.specs.declared.answer.Counts.{Counts}
use Rattle.solver_report.specs.declared.answer.JoinRefusal.{JoinRefusal}
use Rattle.solver_report.specs.declared.answer.JoinRefusal.TheVariants as joins
use Rattle.solver_report.specs.declared.answer.SearchedPart.{SearchedPart}
use Rattle.solver_report.specs.declared.answer.PartOutcome.{PartOutcome}
use Rattle.solver_report.specs.declared.answer.PartOutcome.TheVariants as outcomes
use Rattle.solver_report.specs.declared.answer.ReportRefusal.{ReportRefusal}
use Rattle.solver_report.specs.declared.answer.ReportRefusal.TheVariants as reports
use Rattle.solver_report.specs.declared.answer.Answer.{Answer}
use Rattle.solver_report.specs.declared.answer.Answer.TheVariants as answers

abbrev pub line : List ℕ → List ℕ
line text = text ++ 10 ∷ []

-- a word and a number on a line
abbrev pub number_line : List ℕ → ℤ → List ℕ
number_line word z = line (word ++ 32 ∷ decimal_of z)

-- each number after a space
abbrev pub spaced : List ℕ → List ℕ
spaced ds = flat_map (λ d. 32 ∷ decimal_of (pos d)) ds

abbrev pub assignment_line : List ℕ → List ℕ
assignment_line ds = line (codes "assignment" ++ spaced ds)

abbrev pub solution_lines : Solution → List ℕ
solution_lines best = number_line (codes "value") best.value ++ assignment_line best.decisions

abbrev pub incumbent_lines : Option Solution → List ℕ
incumbent_lines None = line (codes "value none")
incumbent_lines (Some best) = solution_lines best

abbrev pub stop_line : Stop → List ℕ
stop_line Budget = line (codes "stopped budget")
stop_line Memory = line (codes "stopped memory")
stop_line Journal = line (codes "stopped journal")

abbrev pub fault_word : InstanceFault → List ℕ
fault_word NotNumber = codes "not-number"
fault_word OutOfRange = codes "out-of-range"
fault_word EndOfText = codes "end-of-text"
fault_word Trailing = codes "trailing"
fault_word NotAscii = codes "not-ascii"
fault_word Count = codes "count"
fault_word Limit = codes "limit"
fault_word ThreeLiterals = codes "three-literals"
fault_word Hard = codes "hard"
fault_word Vertex = codes "vertex"
fault_word Window = codes "window"
fault_word Word = codes "word"

abbrev pub place_words : Place → List ℕ
place_words p = decimal_of (pos p.line) ++ 32 ∷ decimal_of (pos p.column)

-- a fault of a text, after what the text is of
abbrev pub fault_line : List ℕ → InstanceError → List ℕ
fault_line subject e = line (subject ++ fault_word e.fault ++ 32 ∷ place_words e.place)

-- the law whose test fails, the layer, and the first and the second number
abbrev pub failure_numbers : Failure → List ℕ
failure_numbers f = number_of f.law ∷ f.layer ∷ f.first ∷ f.second ∷ []

-- why a document is no table
abbrev pub table_words : TableError → List ℕ
table_words tables.Json = codes "json"
table_words (tables.Shape None) = codes "shape"
table_words (tables.Shape (Some layer)) = codes "shape" ++ spaced (layer ∷ [])
table_words (tables.Law f) = codes "law" ++ spaced (failure_numbers f)

-- why a text spells no instance
abbrev pub refusal_line : InstanceRefusal → List ℕ
refusal_line (Text e) = fault_line (codes "instance ") e
refusal_line (Table e) = line (codes "table " ++ table_words e)

-- the test of a cover that fails, and where
abbrev pub why_words : Why → List ℕ
why_words whys.Layers = codes "layers"
why_words whys.Assignment = codes "assignment"
why_words whys.Value = codes "value"
why_words whys.Root = codes "root"
why_words (whys.Row layer row) = codes "row" ++ spaced (layer ∷ row ∷ [])
why_words (whys.Rough layer row) = codes "rough" ++ spaced (layer ∷ row ∷ [])
why_words (whys.Target layer row decision) = codes "target" ++ spaced (layer ∷ row ∷ decision ∷ [])
why_words (whys.Arc layer row decision) = codes "arc" ++ spaced (layer ∷ row ∷ decision ∷ [])
why_words (whys.Terminal row) = codes "terminal" ++ spaced (row ∷ [])

abbrev pub verdict_line : Verdict → List ℕ
verdict_line verdicts.Accepted = line (codes "accepted")
verdict_line (verdicts.Refused why) = line (codes "refused " ++ why_words why)

-- why outputs are not joined; the numbers are places of outputs, and a cover is refused as a check refuses it
abbrev pub join_line : JoinRefusal → List ℕ
join_line (joins.Order index) = number_line (codes "parts order") (pos index)
join_line (joins.Instance index) = number_line (codes "parts instance") (pos index)
join_line (joins.Refused index why) = codes "part" ++ spaced (index ∷ []) ++ (32 ∷ verdict_line (verdicts.Refused why))

-- the first line of a report with a solution, by how far a better one may be
abbrev pub proved_line : ℤ → List ℕ
proved_line within = cond (int_lt (pos 0) within) (number_line (codes "proved within") within) (line (codes "proved"))

abbrev pub outcome_lines : Outcome → List ℕ
outcome_lines (Proved best within) = proved_line within ++ solution_lines best
outcome_lines Infeasible = line (codes "infeasible")
outcome_lines (Stopped stop incumbent bound) = stop_line stop ++ incumbent_lines incumbent ++ number_line (codes "bound") bound

-- whether a search went to its end
abbrev pub is_final : Outcome → Bool
is_final (Proved best within) = true
is_final Infeasible = true
is_final (Stopped stop incumbent bound) = false

-- the value that is told
abbrev pub value_told : Outcome → Option ℤ
value_told (Proved best within) = Some best.value
value_told Infeasible = None
value_told (Stopped stop incumbent bound) = None

-- how far a better solution may be above it
abbrev pub distance_told : Outcome → ℤ
distance_told (Proved best within) = within
distance_told Infeasible = pos 0
distance_told (Stopped stop incumbent bound) = pos 0

-- a word and a count on a line
abbrev pub count_line : List ℕ → ℕ → List ℕ
count_line word n = line (word ++ 32 ∷ decimal n)

-- counts have 64 bits
abbrev pub AreSized : Option Counts → Type 0
AreSized None = Unit {0}
AreSized (Some counts) = (counts.taken < 2 ^ 64) × (counts.finished < 2 ^ 64)

-- the counts, where they are asked for
abbrev pub count_lines : Option Counts → List ℕ
count_lines None = []
count_lines (Some counts) = count_line (codes "taken") counts.taken ++ count_line (codes "finished") counts.finished

-- the part that was searched: its number of this number of parts, and the digest of the journal that was split
abbrev pub part_lines : SearchedPart → List ℕ
part_lines p = line (codes "part " ++ (decimal p.index ++ 47 ∷ decimal p.of)) ++ line (codes "journal " ++ encode_lower p.digest)

-- the first line of the report of a part that is settled, by how far a better solution of it may be above the value
abbrev pub settled_line : ℤ → List ℕ
settled_line within = cond (int_lt (pos 0) within) (number_line (codes "settled within") within) (line (codes "settled"))

-- the report of a part that is settled
abbrev pub settled_lines : SearchedPart → Option Solution → ℤ → List ℕ
settled_lines p best within = settled_line within ++ (part_lines p ++ incumbent_lines best)

-- the report of a part whose search ended early
abbrev pub open_lines : SearchedPart → Stop → Option Solution → ℤ → List ℕ
open_lines p stop incumbent bound = stop_line stop ++ (part_lines p ++ (incumbent_lines incumbent ++ number_line (codes "bound") bound))

abbrev pub part_outcome_lines : SearchedPart → PartOutcome → List ℕ
part_outcome_lines p (outcomes.Settled best within) = settled_lines p best within
part_outcome_lines p (outcomes.Stopped stop incumbent bound) = open_lines p stop incumbent bound

-- why reports are not joined; the number is the place of a report
abbrev pub report_refusal_line : ReportRefusal → List ℕ
report_refusal_line (reports.Order index) = count_line (codes "reports order") index
report_refusal_line (reports.Journal index) = count_line (codes "reports journal") index
report_refusal_line (reports.Distance index) = count_line (codes "reports distance") index
report_refusal_line (reports.Value index) = count_line (codes "reports value") index

-- the cover after a report, or that memory ran out for it
abbrev pub text_after : Option (Vec ℕ Global) → List ℕ
text_after None = line (codes "out of memory")
text_after (Some cover) = cover.items

abbrev pub words_line : WordsError → List ℕ
words_line errors.Usage = line (codes "words usage")
words_line errors.Model = line (codes "words model")
words_line (errors.Number option) = line (codes "words number " ++ option.now)
words_line errors.Cutset = line (codes "words cutset")
words_line errors.OutOfMemory = line (codes "out of memory")

-- why a journal is not begun, or why its search does not go on; an offset counts the bytes of the file before what is refused
abbrev pub journal_line : JournalError → List ℕ
journal_line journals.Disk = line (codes "disk fault")
journal_line journals.NotBegun = line (codes "journal not-begun")
journal_line journals.Exists = line (codes "journal exists")
journal_line (journals.Damaged offset) = count_line (codes "journal damaged") offset
journal_line (journals.Malformed offset) = count_line (codes "journal malformed") offset
journal_line (journals.Version found) = count_line (codes "journal version") found
journal_line (journals.NoSolution offset) = count_line (codes "journal no-solution") offset
journal_line journals.OutOfMemory = line (codes "out of memory")

-- the text of an answer
abbrev pub report : Answer → List ℕ
report (answers.Searched outcome counts) = outcome_lines outcome ++ count_lines counts
report (answers.Covered outcome counts cover) = outcome_lines outcome ++ (count_lines counts ++ text_after cover)
report (answers.Digest digest) = line (encode_lower digest)
report (answers.Drawn text) = text.items
report (answers.Checked verdict) = verdict_line verdict
report (answers.Refused e) = refusal_line e
report (answers.CoverRefused e) = fault_line (codes "cover ") e
report (answers.PartsRefused refusal) = join_line refusal
report (answers.PartFile bytes) = bytes.items
report (answers.PartSearched part outcome counts) = part_outcome_lines part outcome ++ count_lines counts
report (answers.ReportRefused e) = fault_line (codes "report ") e
report (answers.ReportsRefused refusal) = report_refusal_line refusal
report answers.PartTooLarge = line (codes "part too-long")
report answers.TooLong = line (codes "input too-long")
report answers.Width = line (codes "width")
report (answers.Words e) = words_line e
report (answers.Journal e) = journal_line e
report answers.ReadFault = line (codes "read fault")
report answers.OutOfMemory = line (codes "out of memory")

abbrev pub outcome_status : Outcome → ℕ
outcome_status (Proved best within) = 0
outcome_status Infeasible = 1
outcome_status (Stopped stop incumbent bound) = 2

-- want of memory for the cover after a report goes before what the report says
abbrev pub covered_status : Outcome → Option (Vec ℕ Global) → ℕ
covered_status outcome None = 8
covered_status outcome (Some cover) = outcome_status outcome

abbrev pub words_status : WordsError → ℕ
words_status errors.OutOfMemory = 8
words_status _ = 4

abbrev pub journal_status : JournalError → ℕ
journal_status journals.Disk = 10
journal_status journals.OutOfMemory = 8
journal_status _ = 5

abbrev pub verdict_status : Verdict → ℕ
verdict_status verdicts.Accepted = 0
verdict_status (verdicts.Refused why) = 9

abbrev pub join_status : JoinRefusal → ℕ
join_status (joins.Order index) = 3
join_status (joins.Instance index) = 3
join_status (joins.Refused index why) = 9

abbrev pub part_status : PartOutcome → ℕ
part_status (outcomes.Settled best within) = 0
part_status (outcomes.Stopped stop incumbent bound) = 2

-- an assignment that is no solution with its value is refused as a cover is
abbrev pub report_refusal_status : ReportRefusal → ℕ
report_refusal_status (reports.Order index) = 3
report_refusal_status (reports.Journal index) = 3
report_refusal_status (reports.Distance index) = 3
report_refusal_status (reports.Value index) = 9

-- the status that goes with an answer
abbrev pub status_of : Answer → ℕ
status_of (answers.Searched outcome counts) = outcome_status outcome
status_of (answers.Covered outcome counts cover) = covered_status outcome cover
status_of (answers.Digest digest) = 0
status_of (answers.Drawn text) = 0
status_of (answers.Checked verdict) = verdict_status verdict
status_of (answers.Refused e) = 3
status_of (answers.CoverRefused e) = 3
status_of (answers.PartsRefused refusal) = join_status refusal
status_of (answers.PartFile bytes) = 0
status_of (answers.PartSearched part outcome counts) = part_status outcome
status_of (answers.ReportRefused e) = 3
status_of (answers.ReportsRefused refusal) = report_refusal_status refusal
status_of answers.PartTooLarge = 3
status_of answers.TooLong = 3
status_of answers.Width = 4
status_of (answers.Words e) = words_status e
status_of (answers.Journal e) = journal_status e
status_of answers.ReadFault = 6
status_of answers.OutOfMemory = 8
