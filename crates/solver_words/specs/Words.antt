-- The commands, and what their lines ask for.
use Rattle.std.specs.Prelude.{◌≡◌, ◌-◌, ◌^◌, ◌&&◌, ◌||◌, ◌==◌, ℕ, pos, int_lt, Bool, true, false, nat_le, cond, codes, List, [], ◌∷◌, length, Option, Some, None, IfSome, is_some, option_map, option_and_then, slice_get, Result, Ok, Err, string_bytes}
use Rattle.std.specs.List.{list_any, before_first, after_first}
use Rattle.std.specs.Str.{bytes_eq}
use Rattle.tokens.specs.Text.{natural_of}
use Rattle.problem_names.specs.declared.ModelName.{ModelName}
use Rattle.problem_names.specs.declared.part.PartNumber.{PartNumber}
use Rattle.problem_names.specs.declared.part.TheConstants.{MOST_PARTS}
use Rattle.dp_model.specs.declared.cut_kind.CutKind.{CutKind}
use Rattle.dp_model.specs.declared.cut_kind.CutKind.TheVariants.{LastExactLayer, Frontier}
use Rattle.dp_model.specs.declared.limits.TheConstants.{MOST_DISTANCE, MOST_LAYER_PARTS, MOST_WIDTH, MOST_WORKERS}
use Rattle.problem_names.specs.ModelNames.{model_named, sizes_of}
use Rattle.solver_words.specs.Grammar.{Syntax, Argument, Text, has_flag, line_of, setting_of, words_of}
use Rattle.solver_words.specs.declared.job.Job.{Job}
use Rattle.solver_words.specs.declared.job.Job.TheVariants.{Solve, Resume, Split, Check, Join, JoinReports, Digest, Generate}
use Rattle.solver_words.specs.declared.job.JobSettings.{JobSettings}
use Rattle.solver_words.specs.declared.limits.TheConstants.{DEFAULT_COVER_WORDS, MOST_COVER_WORDS, MOST_SEED}
use Rattle.solver_words.specs.declared.words_error.WordsError.{WordsError}
use Rattle.solver_words.specs.declared.words_error.WordsError.TheVariants.{Usage, Model, Number, Cutset, OutOfMemory}

-- ---- the commands

abbrev pub solve_syntax : Syntax
solve_syntax = record {
  positional = codes "model" ∷ [];
  valued = codes "width" ∷ codes "workers" ∷ codes "parts" ∷ codes "budget" ∷ codes "cutset" ∷ codes "journal" ∷ codes "cover-words" ∷ codes "within" ∷ codes "part" ∷ [];
  flags = codes "cover" ∷ codes "stats" ∷ [];
}

abbrev pub resume_syntax : Syntax
resume_syntax = record {
  positional = codes "path" ∷ [];
  valued = codes "width" ∷ codes "workers" ∷ codes "parts" ∷ codes "budget" ∷ codes "cutset" ∷ [];
  flags = codes "incumbent" ∷ codes "stats" ∷ [];
}

abbrev pub split_syntax : Syntax
split_syntax = record { positional = codes "path" ∷ []; valued = codes "part" ∷ []; flags = [] }

abbrev pub check_syntax : Syntax
check_syntax = record { positional = []; valued = []; flags = [] }

abbrev pub join_syntax : Syntax
join_syntax = record { positional = []; valued = codes "journal" ∷ []; flags = [] }

abbrev pub digest_syntax : Syntax
digest_syntax = record { positional = codes "model" ∷ []; valued = []; flags = [] }

abbrev pub generate_syntax : Syntax
generate_syntax = record { positional = codes "model" ∷ codes "n" ∷ codes "seed" ∷ []; valued = []; flags = codes "solve" ∷ [] }

-- ---- what words ask for, and why they are refused

pub data JobView : Type 0 where
  solve : ModelName → JobSettings → Option Text → Option PartNumber → JobView
  resume : Text → JobSettings → Bool → JobView
  split : Text → PartNumber → JobView
  check : JobView
  join : JobView
  join_reports : Text → JobView
  digest : ModelName → JobView
  generate : ModelName → ℕ → ℕ → Bool → JobView

pub data Refusal : Type 0 where
  usage : Refusal
  model : Refusal
  number : Text → Refusal
  cutset : Refusal

-- a job without what its texts hold of memory
abbrev pub job_view : Job → JobView
job_view (Solve name settings journal part) = solve name settings (option_map string_bytes journal) part
job_view (Resume path settings offered) = resume (string_bytes path) settings offered
job_view (Split path part) = split (string_bytes path) part
job_view Check = check
job_view Join = join
job_view (JoinReports path) = join_reports (string_bytes path)
job_view (Digest name) = digest name
job_view (Generate name n seed solved) = generate name n seed solved

-- why, where it is not for want of memory
abbrev pub refusal_of : WordsError → Option Refusal
refusal_of Usage = Some usage
refusal_of Model = Some model
refusal_of (Number option) = Some (number option.now)
refusal_of Cutset = Some cutset
refusal_of OutOfMemory = None

-- the answer is this one, but for want of memory
abbrev pub IsAnswer : {X Y : Type 0} → (X → Y) → Result Y Refusal → Result X WordsError → Type 0
IsAnswer shown answer (Ok x) = answer ≡ Ok (shown x)
IsAnswer shown answer (Err e) = IfSome (refusal_of e) (λ why. answer ≡ Err why)

-- ---- values

-- an answer, and then what is made of it
abbrev pub and_then : {X Y : Type 0} → (X → Result Y Refusal) → Result X Refusal → Result Y Refusal
and_then next (Ok x) = next x
and_then next (Err why) = Err why

abbrev pub greatest_budget : ℕ
greatest_budget = 2 ^ 64 - 1

-- a number that 64 bits hold
abbrev pub in_64_bits : ℕ → Option ℕ
in_64_bits n = cond (nat_le n greatest_budget) (Some n) None

abbrev pub natural_in_64_bits : Text → Option ℕ
natural_in_64_bits word = cond (nat_le (length word) 20) (option_and_then in_64_bits (natural_of word)) None

-- a number of 1 to 20 digits in a range
abbrev pub ranged : ℕ → ℕ → Text → Option ℕ
ranged least most word =
    option_and_then (λ n. cond (nat_le least n && nat_le n most) (Some n) None) (cond (nat_le (length word) 20) (natural_of word) None)

abbrev pub or_number : {X : Type 0} → Text → Option X → Result X Refusal
or_number name (Some n) = Ok n
or_number name None = Err (number name)

-- the number of an option, where it is given
abbrev pub optional : Text → ℕ → ℕ → Option Text → Result (Option ℕ) Refusal
optional name least most None = Ok None
optional name least most (Some word) = and_then (λ n. Ok (Some n)) (or_number name (ranged least most word))

-- the part of a number below the number of parts
abbrev pub part_from : Text → Text → Option PartNumber
part_from index of = option_and_then (λ parts. option_map (λ n. record { index = n; of = parts }) (ranged 0 (parts - 1) index)) (ranged 1 MOST_PARTS of)

-- the part that a word writes: what stands before its first slash (47), of what stands after it
abbrev pub part_written : Text → Option PartNumber
part_written word = part_from (before_first (λ b. b == 47) word) (after_first (λ b. b == 47) word)

-- the part of an option, where it is given
abbrev pub part_asked : Option Text → Result (Option PartNumber) Refusal
part_asked None = Ok None
part_asked (Some word) = and_then (λ part. Ok (Some part)) (or_number (codes "part") (part_written word))

abbrev pub or_default : ℕ → Option ℕ → ℕ
or_default n None = n
or_default n (Some m) = m

abbrev pub cut_named : Text → Result CutKind Refusal
cut_named word = cond (bytes_eq word (codes "lel")) (Ok LastExactLayer) (cond (bytes_eq word (codes "frontier")) (Ok Frontier) (Err cutset))

abbrev pub cut_of : Option Text → Result CutKind Refusal
cut_of None = Ok LastExactLayer
cut_of (Some word) = cut_named word

-- the settings, by the values of the options in the order of their tests; the distance from the best is 0, and no cover is asked for
abbrev pub settings_of : (Text → Option Text) → Bool → Result JobSettings Refusal
settings_of value stats =
    and_then (λ width.
    and_then (λ workers.
    and_then (λ parts.
    and_then (λ budget.
    and_then (λ cutset. Ok (record {
      width = width;
      workers = or_default 1 workers;
      budget = or_default greatest_budget budget;
      cutset = cutset;
      stats = stats;
      within = pos 0;
      cover_words = None;
      parts = or_default 1 parts;
    }))
    (cut_of (value (codes "cutset"))))
    (optional (codes "budget") 0 greatest_budget (value (codes "budget"))))
    (optional (codes "parts") 1 MOST_LAYER_PARTS (value (codes "parts"))))
    (optional (codes "workers") 1 MOST_WORKERS (value (codes "workers"))))
    (optional (codes "width") 1 MOST_WIDTH (value (codes "width")))

abbrev pub or_model : {X : Type 0} → Option X → Result X Refusal
or_model (Some x) = Ok x
or_model None = Err model

-- the problem of the first positional word
abbrev pub model_of : Option Text → Result ModelName Refusal
model_of None = Err model
model_of (Some word) = or_model (model_named word)

-- how many words the books of a cover may have together, where one is wanted
abbrev pub cover_of : Bool → Option ℕ → Option ℕ
cover_of false words = None
cover_of true words = Some (or_default DEFAULT_COVER_WORDS words)

-- the settings with a distance, which is 0 where none is given, and this many words for the books of a cover
abbrev pub extended : JobSettings → Option ℕ → Option ℕ → JobSettings
extended settings within words = record settings { within = pos (or_default 0 within); cover_words = words }

-- a search; a journal would not tell a part, so of a part none is kept, and a part has the distance 0
abbrev pub searched : ModelName → JobSettings → Option Text → Option PartNumber → Result JobView Refusal
searched name settings journal part =
    cond (is_some part && (is_some journal || int_lt (pos 0) settings.within)) (Err usage) (Ok (solve name settings journal part))

abbrev pub solve_of : Option Text → (Text → Option Text) → (Text → Bool) → Result JobView Refusal
solve_of name value flag =
    and_then (λ name.
    and_then (λ settings.
    and_then (λ words.
    and_then (λ within.
    and_then (λ part. searched name (extended settings within (cover_of (flag (codes "cover")) words)) (value (codes "journal")) part)
    (part_asked (value (codes "part"))))
    (optional (codes "within") 0 MOST_DISTANCE (value (codes "within"))))
    (optional (codes "cover-words") 0 MOST_COVER_WORDS (value (codes "cover-words"))))
    (settings_of value (flag (codes "stats"))))
    (model_of name)

abbrev pub resume_of : Option Text → (Text → Option Text) → (Text → Bool) → Result JobView Refusal
resume_of None value flag = Err usage
resume_of (Some path) value flag = and_then (λ settings. Ok (resume path settings (flag (codes "incumbent")))) (settings_of value (flag (codes "stats")))

-- a split of a journal, of which a part has to be asked for
abbrev pub split_by : Text → Option PartNumber → Result JobView Refusal
split_by path None = Err usage
split_by path (Some part) = Ok (split path part)

abbrev pub split_of : Option Text → Option Text → Result JobView Refusal
split_of None part = Err usage
split_of (Some path) part = and_then (split_by path) (part_asked part)

-- reports are joined where the journal of the search is given, and otherwise outputs with covers
abbrev pub join_of : Option Text → JobView
join_of None = join
join_of (Some path) = join_reports path

abbrev pub digest_of : Option Text → Result JobView Refusal
digest_of name = and_then (λ name. Ok (digest name)) (model_of name)

-- the number that a positional word writes
abbrev pub positional_number : Text → ℕ → ℕ → Option Text → Result ℕ Refusal
positional_number name least most None = Err (number name)
positional_number name least most (Some word) = or_number name (ranged least most word)

-- an instance is drawn of a problem that has drawn ones, and of their sizes
abbrev pub generate_of : Option Text → Option Text → Option Text → Bool → Result JobView Refusal
generate_of name n seed solved =
    and_then (λ name.
    and_then (λ sizes.
    and_then (λ n.
    and_then (λ seed. Ok (generate name n seed solved))
    (positional_number (codes "seed") 0 MOST_SEED seed))
    (positional_number (codes "n") sizes.least sizes.most n))
    (or_model (sizes_of name)))
    (model_of name)

-- ---- whole lines

abbrev pub solve_line : List Argument → Result JobView Refusal
solve_line arguments = solve_of (slice_get (words_of arguments) 0) (λ n. setting_of n arguments) (λ n. has_flag n arguments)

abbrev pub resume_line : List Argument → Result JobView Refusal
resume_line arguments = resume_of (slice_get (words_of arguments) 0) (λ n. setting_of n arguments) (λ n. has_flag n arguments)

abbrev pub split_line : List Argument → Result JobView Refusal
split_line arguments = split_of (slice_get (words_of arguments) 0) (setting_of (codes "part") arguments)

abbrev pub check_line : List Argument → Result JobView Refusal
check_line arguments = Ok check

abbrev pub join_line : List Argument → Result JobView Refusal
join_line arguments = Ok (join_of (setting_of (codes "journal") arguments))

abbrev pub digest_line : List Argument → Result JobView Refusal
digest_line arguments = digest_of (slice_get (words_of arguments) 0)

abbrev pub generate_line : List Argument → Result JobView Refusal
generate_line arguments = generate_of (slice_get (words_of arguments) 0) (slice_get (words_of arguments) 1) (slice_get (words_of arguments) 2) (has_flag (codes "solve") arguments)

-- what the words after a command ask for
abbrev pub asked : (List Argument → Result JobView Refusal) → Option (List Argument) → Result JobView Refusal
asked line None = Err usage
asked line (Some arguments) = line arguments

abbrev pub by_command : Text → List Text → Result JobView Refusal
by_command command ws =
    cond (bytes_eq command (codes "solve")) (asked solve_line (line_of solve_syntax ws))
    (cond (bytes_eq command (codes "resume")) (asked resume_line (line_of resume_syntax ws))
    (cond (bytes_eq command (codes "split")) (asked split_line (line_of split_syntax ws))
    (cond (bytes_eq command (codes "check")) (asked check_line (line_of check_syntax ws))
    (cond (bytes_eq command (codes "join")) (asked join_line (line_of join_syntax ws))
    (cond (bytes_eq command (codes "digest")) (asked digest_line (line_of digest_syntax ws))
    (cond (bytes_eq command (codes "generate")) (asked generate_line (line_of generate_syntax ws)) (Err usage)))))))

abbrev pub last_is_equals : ℕ → List ℕ → Bool
last_is_equals b [] = b == 61
last_is_equals b (c ∷ cs) = last_is_equals c cs

-- a word that is empty or ends with `=` (61)
abbrev pub is_refused : Text → Bool
is_refused [] = true
is_refused (b ∷ bs) = last_is_equals b bs

-- what the words ask for
abbrev pub meaning : List Text → Result JobView Refusal
meaning [] = Err usage
meaning (command ∷ ws) = cond (list_any is_refused (command ∷ ws)) (Err usage) (by_command command ws)
