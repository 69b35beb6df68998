-- Which searches the words ask for, and which instances.
use Rattle.std.proofs.Common.{◌≡◌, ℕ, ◌≤◌, ◌<◌, ◌^◌, ◌-◌, pos, int_lt, ◌∷◌, [], List, Bool, true, false, cond, Option, Some, None, refl, subst, arith}
use Rattle.std.proofs.lemmas.Int.{ints}
use Rattle.std.specs.Prelude.{codes, nat_le, length, is_some, option_map, ◌==◌, ◌&&◌, ◌||◌, Result, Ok, Err, IfOk, IfSome, slice_get}
use Rattle.std.specs.List.{list_any, before_first, after_first}
use Rattle.std.specs.Option.{option_and_then}
use Rattle.std.specs.Str.{bytes_eq}
use Rattle.tokens.specs.Text.{natural_of}
use Rattle.dp_model.specs.NumberLaws.{int_lt-is_not}
use Rattle.dp_model.specs.declared.limits.TheConstants.{MOST_DISTANCE, MOST_LAYER_PARTS, MOST_WIDTH, MOST_WORKERS}
use Rattle.problem_names.specs.declared.ModelName.{ModelName}
use Rattle.problem_names.specs.declared.Sizes.{Sizes}
use Rattle.problem_names.specs.ModelNames.{sizes_of}
use Rattle.problem_names.specs.declared.part.PartNumber.{PartNumber}
use Rattle.problem_names.specs.declared.part.TheConstants.{MOST_PARTS}
use Rattle.problem_names.specs.Parts.{IsPart, MayBePart}
use Rattle.solver_words.specs.Grammar.{Argument, Text, has_flag, line_of, setting_of, words_of}
use Rattle.solver_words.specs.Words.{IsAnswer, JobView, Refusal, and_then, asked, by_command, check_line, check_syntax, cut_of, digest_line, digest_of, digest_syntax, generate, generate_line, generate_of, generate_syntax, is_refused, extended, job_view, join_line, join_of, join_syntax, meaning, model_of, optional, or_default, or_model, or_number, part_asked, part_written, positional_number, ranged, resume_line, resume_of, resume_syntax, searched, settings_of, solve, solve_line, solve_of, solve_syntax, split_by, split_line, split_of, split_syntax, usage}
use Rattle.solver_words.specs.declared.job.Job.{Job}
use Rattle.solver_words.specs.declared.job.JobSettings.{JobSettings}
use Rattle.solver_words.specs.declared.limits.TheConstants.{MOST_COVER_WORDS}
use Rattle.solver_words.specs.declared.words_error.WordsError.{WordsError}
use Rattle.solver_words.specs.Possible.{IsPossible, MaySearch, MaySearchExactly}

-- ---- an answer, and then what is made of it

next : {X Y : Type 0} (P : X → Type 0) (Q : Y → Type 0) (f : X → Result Y Refusal) → ((x : X) → P x → IfOk (f x) Q) → (r : Result X Refusal) → IfOk r P → IfOk (and_then f r) Q
next P Q f h (Ok x) p = h x p
next P Q f h (Err why) p = tt

-- of the first answer nothing is needed
following : {X Y : Type 0} (Q : Y → Type 0) (f : X → Result Y Refusal) → ((x : X) → IfOk (f x) Q) → (r : Result X Refusal) → IfOk (and_then f r) Q
following Q f h (Ok x) = h x
following Q f h (Err why) = tt

either : {X : Type 0} (Q : X → Type 0) (b : Bool) (r s : Result X Refusal) → IfOk r Q → IfOk s Q → IfOk (cond b r s) Q
either Q true r s hr hs = hr
either Q false r s hr hs = hs

-- ---- numbers

abbrev IsWithin : ℕ → ℕ → ℕ → Type 0
IsWithin least most n = (least ≤ n) × (n ≤ most)

some-within : (least most n : ℕ) (a b : Bool) → nat_le least n ≡ a → nat_le n most ≡ b → IfSome (cond (a && b) (Some n) None) (IsWithin least most)
some-within least most n true true low high = (grind arith, grind arith)
some-within least most n true false low high = tt
some-within least most n false true low high = tt
some-within least most n false false low high = tt

then-within : (least most : ℕ) (o : Option ℕ) → IfSome (option_and_then (λ n. cond (nat_le least n && nat_le n most) (Some n) None) o) (IsWithin least most)
then-within least most None = tt
then-within least most (Some n) = some-within least most n (nat_le least n) (nat_le n most) refl refl

or_number-within : (least most : ℕ) (name : Text) (o : Option ℕ) → IfSome o (IsWithin least most) → IfOk (or_number name o) (IsWithin least most)
or_number-within least most name None h = tt
or_number-within least most name (Some n) h = h

optional-within : (name : Text) (least most : ℕ) (word : Option Text) → IfOk (optional name least most word) (λ o. IfSome o (IsWithin least most))
optional-within name least most None = tt
optional-within name least most (Some word) =
    next (IsWithin least most) (λ o. IfSome o (IsWithin least most)) (λ n. Ok (Some n)) (λ n h. h) (or_number name (ranged least most word))
    (or_number-within least most name (ranged least most word) (then-within least most _))

positional-within : (name : Text) (least most : ℕ) (word : Option Text) → IfOk (positional_number name least most word) (IsWithin least most)
positional-within name least most None = tt
positional-within name least most (Some word) = or_number-within least most name (ranged least most word) (then-within least most _)

by_default-within : (most : ℕ) → 1 ≤ most → (o : Option ℕ) → IfSome o (IsWithin 1 most) → IsWithin 1 most (or_default 1 o)
by_default-within most some None h = (omega arith, some)
by_default-within most some (Some n) h = h

-- ---- parts

index-within : (of : ℕ) → IsWithin 1 MOST_PARTS of → (o : Option ℕ) → IfSome o (IsWithin 0 (of - 1)) → IfSome (option_map (λ (index : ℕ). record { index = index; of = of }) o) IsPart
index-within of few None h = tt
index-within of few (Some index) h = record { index = omega arith; few = few.1 }

part-within : (index : Text) (o : Option ℕ) → IfSome o (IsWithin 1 MOST_PARTS)
    → IfSome (option_and_then (λ (of : ℕ). option_map (λ (index : ℕ). record { index = index; of = of }) (ranged 0 (of - 1) index)) o) IsPart
part-within index None h = tt
part-within index (Some of) h = index-within of h (ranged 0 (of - 1) index) (then-within 0 (of - 1) (cond (nat_le (length index) 20) (natural_of index) None))

written-asked : (o : Option PartNumber) → IfSome o IsPart → IfOk (and_then (λ part. Ok (Some part)) (or_number (codes "part") o)) MayBePart
written-asked None h = tt
written-asked (Some part) h = h

part-asked : (word : Option Text) → IfOk (part_asked word) MayBePart
part-asked None = tt
part-asked (Some word) =
    let of = after_first (λ (b : ℕ). b == 47) word in
    written-asked (part_written word) (part-within (before_first (λ (b : ℕ). b == 47) word) (ranged 1 MOST_PARTS of) (then-within 1 MOST_PARTS (cond (nat_le (length of) 20) (natural_of of) None)))

-- ---- searches

-- settings with from 1 to 16 workers and layers in from 1 to 64 parts, no distance and no cover
abbrev AreExact : JobSettings → Type 0
AreExact settings = IsWithin 1 MOST_WORKERS settings.workers × IsWithin 1 MOST_LAYER_PARTS settings.parts × (settings.within ≡ pos 0) × (settings.cover_words ≡ None)

settings-exact : (value : Text → Option Text) (stats : Bool) → IfOk (settings_of value stats) AreExact
settings-exact value stats =
    following AreExact _ (λ width.
    next (λ o. IfSome o (IsWithin 1 MOST_WORKERS)) AreExact _ (λ workers few.
    next (λ o. IfSome o (IsWithin 1 MOST_LAYER_PARTS)) AreExact _ (λ parts low.
    following AreExact _ (λ budget.
    following AreExact _ (λ cutset. (by_default-within MOST_WORKERS (omega arith) workers few, by_default-within MOST_LAYER_PARTS (omega arith) parts low, refl, refl)) (cut_of (value (codes "cutset"))))
    (optional (codes "budget") 0 _ (value (codes "budget"))))
    (optional (codes "parts") 1 MOST_LAYER_PARTS (value (codes "parts"))) (optional-within (codes "parts") 1 MOST_LAYER_PARTS (value (codes "parts"))))
    (optional (codes "workers") 1 MOST_WORKERS (value (codes "workers"))) (optional-within (codes "workers") 1 MOST_WORKERS (value (codes "workers"))))
    (optional (codes "width") 1 MOST_WIDTH (value (codes "width")))

-- with a distance from 0 to 2^50 a search may be made
distance-small : (o : Option ℕ) → IfSome o (IsWithin 0 MOST_DISTANCE) → or_default 0 o ≤ MOST_DISTANCE
distance-small None h = omega arith
distance-small (Some n) h = h.1

may-search : (settings : JobSettings) (within cover : Option ℕ) → AreExact settings → IfSome within (IsWithin 0 MOST_DISTANCE) → MaySearch (extended settings within cover)
may-search settings within cover exact few =
    let most = distance-small within few in
    record { some_workers = exact.0.0; few_workers = exact.0.1; some_parts = exact.1.0; few_parts = exact.1.1; distance = record { least = omega (arith, ints); most = omega (arith, ints) } }

-- without one it is made exactly
may-exactly : (settings : JobSettings) → AreExact settings → MaySearchExactly settings
may-exactly settings exact =
    let none = exact.2 in
    record { may = record { some_workers = exact.0.0; few_workers = exact.0.1; some_parts = exact.1.0; few_parts = exact.1.1; distance = record { least = omega (arith, ints); most = omega (arith, ints) } }; exact = none }

-- ---- jobs

-- a search of a part is asked for only without a distance
near-exactly : (settings : JobSettings) → int_lt (pos 0) settings.within ≡ false → MaySearch settings → MaySearchExactly settings
near-exactly settings near may =
    let least = may.distance.least in let most = int_lt-is_not (pos 0) settings.within near in
    record { may = may; exact = omega (arith, ints) }

asked-searched : (model : ModelName) (settings : JobSettings) (journal : Option Text) (part : Option PartNumber) (far : Bool) → int_lt (pos 0) settings.within ≡ far → MaySearch settings → MayBePart part
    → IfOk (cond (is_some part && (is_some journal || far)) (Err usage) (Ok (solve model settings journal part))) IsPossible
asked-searched model settings None None far e may whole = may
asked-searched model settings (Some path) None far e may whole = may
asked-searched model settings None (Some part) true e may is = tt
asked-searched model settings None (Some part) false e may is = (near-exactly settings e may, is)
asked-searched model settings (Some path) (Some part) far e may is = tt

searched-asked : (model : ModelName) (settings : JobSettings) (journal : Option Text) (part : Option PartNumber) → MaySearch settings → MayBePart part
    → IfOk (searched model settings journal part) IsPossible
searched-asked model settings journal part may is = asked-searched model settings journal part (int_lt (pos 0) settings.within) refl may is

solve-asked : (name : Option Text) (value : Text → Option Text) (flag : Text → Bool) → IfOk (solve_of name value flag) IsPossible
solve-asked name value flag =
    following IsPossible _ (λ model.
    next AreExact IsPossible _ (λ settings exact.
    following IsPossible _ (λ words.
    next (λ o. IfSome o (IsWithin 0 MOST_DISTANCE)) IsPossible _ (λ within few.
    next MayBePart IsPossible _ (λ part is. searched-asked model (extended settings within _) (value (codes "journal")) part (may-search settings within _ exact few) is)
    (part_asked (value (codes "part"))) (part-asked (value (codes "part"))))
    (optional (codes "within") 0 MOST_DISTANCE (value (codes "within"))) (optional-within (codes "within") 0 MOST_DISTANCE (value (codes "within"))))
    (optional (codes "cover-words") 0 MOST_COVER_WORDS (value (codes "cover-words"))))
    (settings_of value (flag (codes "stats"))) (settings-exact value (flag (codes "stats"))))
    (model_of name)

resume-asked : (path : Option Text) (value : Text → Option Text) (flag : Text → Bool) → IfOk (resume_of path value flag) IsPossible
resume-asked None value flag = tt
resume-asked (Some path) value flag = next AreExact IsPossible _ (λ settings exact. (may-exactly settings exact, exact.3)) (settings_of value (flag (codes "stats"))) (settings-exact value (flag (codes "stats")))

given-asked : (path : Text) (part : Option PartNumber) → MayBePart part → IfOk (split_by path part) IsPossible
given-asked path None is = tt
given-asked path (Some part) is = is

split-asked : (path part : Option Text) → IfOk (split_of path part) IsPossible
split-asked None part = tt
split-asked (Some path) part = next MayBePart IsPossible (split_by path) (given-asked path) (part_asked part) (part-asked part)

join-asked : (journal : Option Text) → IsPossible (join_of journal)
join-asked None = tt
join-asked (Some path) = tt

digest-asked : (name : Option Text) → IfOk (digest_of name) IsPossible
digest-asked name = following IsPossible _ (λ model. tt) (model_of name)

-- an instance is drawn of the sizes of its problem
drawn-asked : (model : ModelName) (n seed : Option Text) (solved : Bool) (sizes : Option Sizes) → sizes_of model ≡ sizes
    → IfOk (and_then (λ sizes. and_then (λ n. and_then (λ seed. Ok (generate model n seed solved)) (positional_number (codes "seed") 0 2147483647 seed)) (positional_number (codes "n") sizes.least sizes.most n)) (or_model sizes)) IsPossible
drawn-asked model n seed solved None e = tt
drawn-asked model n seed solved (Some sizes) e =
    next (IsWithin sizes.least sizes.most) IsPossible _ (λ size fits.
    next (IsWithin 0 2147483647) IsPossible _ (λ from few. record { sizes = sizes; are_drawn = e; least = fits.0; most = fits.1; seeded = below-limit from few.1 })
    (positional_number (codes "seed") 0 2147483647 seed) (positional-within (codes "seed") 0 2147483647 seed))
    (positional_number (codes "n") sizes.least sizes.most n) (positional-within (codes "n") sizes.least sizes.most n)
  where
    below-limit : (m : ℕ) → m ≤ 2147483647 → m < 2 ^ 31
    below-limit m h = omega arith

generate-asked : (name n seed : Option Text) (solved : Bool) → IfOk (generate_of name n seed solved) IsPossible
generate-asked name n seed solved = following IsPossible _ (λ model. drawn-asked model n seed solved (sizes_of model) refl) (model_of name)

line-asked : (line : List Argument → Result JobView Refusal) → ((arguments : List Argument) → IfOk (line arguments) IsPossible) → (given : Option (List Argument)) → IfOk (asked line given) IsPossible
line-asked line h None = tt
line-asked line h (Some arguments) = h arguments

command-asked : (command : Text) (ws : List Text) → IfOk (by_command command ws) IsPossible
command-asked command ws =
    either IsPossible (bytes_eq command (codes "solve")) _ _ (line-asked solve_line (λ a. solve-asked (slice_get (words_of a) 0) (λ n. setting_of n a) (λ n. has_flag n a)) (line_of solve_syntax ws))
    (either IsPossible (bytes_eq command (codes "resume")) _ _ (line-asked resume_line (λ a. resume-asked (slice_get (words_of a) 0) (λ n. setting_of n a) (λ n. has_flag n a)) (line_of resume_syntax ws))
    (either IsPossible (bytes_eq command (codes "split")) _ _ (line-asked split_line (λ a. split-asked (slice_get (words_of a) 0) (setting_of (codes "part") a)) (line_of split_syntax ws))
    (either IsPossible (bytes_eq command (codes "check")) _ _ (line-asked check_line (λ a. tt) (line_of check_syntax ws))
    (either IsPossible (bytes_eq command (codes "join")) _ _ (line-asked join_line (λ a. join-asked (setting_of (codes "journal") a)) (line_of join_syntax ws))
    (either IsPossible (bytes_eq command (codes "digest")) _ _ (line-asked digest_line (λ a. digest-asked (slice_get (words_of a) 0)) (line_of digest_syntax ws))
    (either IsPossible (bytes_eq command (codes "generate")) _ _ (line-asked generate_line (λ a. generate-asked (slice_get (words_of a) 0) (slice_get (words_of a) 1) (slice_get (words_of a) 2) (has_flag (codes "solve") a)) (line_of generate_syntax ws)) tt))))))

meaning-asked : (words : List Text) → IfOk (meaning words) IsPossible
meaning-asked [] = tt
meaning-asked (command ∷ ws) = either IsPossible (list_any is_refused (command ∷ ws)) _ _ tt (command-asked command ws)

-- a job that words ask for is possible
pub possible : (words : List Text) (answer : Result Job WordsError) → IsAnswer job_view (meaning words) answer → IfOk answer (λ job. IsPossible (job_view job))
possible words (Ok job) is = subst (λ r. IfOk r IsPossible) is (meaning-asked words)
possible words (Err e) is = tt
