-- From the matches to what a line asks for.
use Rattle.std.proofs.Common.{drop, map, String, string_bytes, ◌-◌, ◌<◌, suc, length, get_or, arith, nat_eq, ◌≡◌, ◌∙◌, ℕ, Bool, true, false, cond, refl, sym, ap, List, [], ◌∷◌, Option, Some, None, Result, Ok, Err, IfSome, IsErrAnd, codes, subst}
use Rattle.std.specs.Prelude.{slice_get}
use Rattle.std.specs.List.{list_any}
use Rattle.std.specs.Str.{bytes_eq}
use Rattle.solver_words.proofs.Names.{are_same}
use Rattle.clap.specs.Matches.{first_value, found_of, one_text}
use Rattle.clap.specs.Walk.{rows_of}
use Rattle.clap.specs.declared.parser.matches.ArgMatches.{ArgMatches}
use Rattle.clap.proofs.WalkLemmas.{list_any-map, first_value-rows, one_text-rows}
use Rattle.dp_model.specs.declared.limits.TheConstants.{MOST_DISTANCE}
use Rattle.problem_names.specs.declared.ModelName.{ModelName}
use Rattle.problem_names.specs.declared.Sizes.{Sizes}
use Rattle.problem_names.specs.ModelNames.{sizes_of}
use Rattle.problem_names.specs.declared.part.PartNumber.{PartNumber}
use Rattle.solver_words.specs.declared.job.Job.{Job}
use Rattle.solver_words.specs.declared.job.JobSettings.{JobSettings}
use Rattle.solver_words.specs.declared.limits.TheConstants.{MOST_COVER_WORDS}
use Rattle.solver_words.specs.declared.words_error.WordsError.{WordsError}
use Rattle.solver_words.specs.declared.words_error.WordsError.TheVariants.{Usage, Model, Number, Cutset, OutOfMemory}
use Rattle.solver_words.specs.Grammar.{Syntax, Argument, Text, contains, has_flag, setting_of, words_of}
use Rattle.solver_words.specs.Commands.{IsOutside, RowsTell, Tells}
use Rattle.solver_words.specs.Words.{IsAnswer, by_command, meaning, is_refused, last_is_equals, asked, digest, digest_syntax, digest_line, usage, Refusal, JobView, and_then, digest_of, extended, model_of, or_model, positional_number, optional, cover_of, generate, part_asked, resume, refusal_of, job_view, generate_syntax, generate_line, generate_of, join_line, join_of, join_syntax, resume_syntax, resume_line, resume_of, split_by, split_line, split_of, split_syntax, searched, settings_of, solve_syntax, solve_line}

-- what the matches tell of a line
module _ (f : Syntax) (arguments : List Argument) (m : ArgMatches) (reads : RowsTell f arguments (rows_of (found_of m))) where
  pub value_read : (n : Text) → contains n f.valued ≡ true → first_value (found_of m) n ≡ setting_of n arguments
  value_read n here = first_value-rows (found_of m) n ∙ reads.values n here

  pub word_read : (i : ℕ) (id : Text) → slice_get f.positional i ≡ Some id → first_value (found_of m) id ≡ slice_get (words_of arguments) i
  word_read i id at = first_value-rows (found_of m) id ∙ reads.words i id at

  pub flag_read : (n : Text) → contains n f.flags ≡ true → one_text (found_of m) n ≡ Some (cond (has_flag n arguments) (codes "true") (codes "false"))
  flag_read n here = one_text-rows (found_of m) n ∙ reads.flags n here

-- the same refusal of an equal answer, and of what comes after it
pub moved : {X : Type 0} (r s : Result X Refusal) (o : Option Refusal) → r ≡ s → IfSome o (λ why. r ≡ Err why) → IfSome o (λ why. s ≡ Err why)
moved r s None e h = tt
moved r s (Some why) e h = sym e ∙ h

pub fails : {X Y : Type 0} (next : X → Result Y Refusal) (r : Result X Refusal) (o : Option Refusal) → IfSome o (λ why. r ≡ Err why) → IfSome o (λ why. and_then next r ≡ Err why)
fails next r None h = tt
fails next r (Some why) h = ap (and_then next) h

-- an error that `?` passes up
pub gives_up : {X Y : Type 0} (shown : X → Y) (s : Result Y Refusal) (r : Result X WordsError) (e : WordsError) → IsErrAnd r (λ y. y ≡ e)
    → IfSome (refusal_of e) (λ why. s ≡ Err why) → IsAnswer shown s r
gives_up shown s (Ok x) e is h = absurd is
gives_up shown s (Err y) e is h = subst (λ z. IfSome (refusal_of z) (λ why. s ≡ Err why)) (sym is) h

-- ---- generate

module _ (m : ArgMatches) (arguments : List Argument) (reads : RowsTell generate_syntax arguments (rows_of (found_of m))) where
  abbrev at_name : Text → Option Text
  at_name id = first_value (found_of m) id

  generate_same : (solved : Bool) → solved ≡ has_flag (codes "solve") arguments
      → generate_of (at_name (codes "model")) (at_name (codes "n")) (at_name (codes "seed")) solved ≡ generate_line arguments
  generate_same solved e =
      let a = word_read generate_syntax arguments m reads 0 (codes "model") refl in
      let b = word_read generate_syntax arguments m reads 1 (codes "n") refl in
      let c = word_read generate_syntax arguments m reads 2 (codes "seed") refl in
      λ i. generate_of (a i) (b i) (c i) (e i)

  abbrev by_matches : Result JobView Refusal
  by_matches = generate_of (at_name (codes "model")) (at_name (codes "n")) (at_name (codes "seed")) (has_flag (codes "solve") arguments)

  ends : (r : Result Job WordsError) (e : WordsError) → IsErrAnd r (λ y. y ≡ e) → IfSome (refusal_of e) (λ why. by_matches ≡ Err why) → IsAnswer job_view (generate_line arguments) r
  ends r e is h = gives_up job_view (generate_line arguments) r e is (moved by_matches (generate_line arguments) (refusal_of e) (generate_same (has_flag (codes "solve") arguments) refl) h)

  pub generate_no_model : (r : Result Job WordsError) (e : WordsError) → IsErrAnd r (λ y. y ≡ e) → IfSome (refusal_of e) (λ why. model_of (at_name (codes "model")) ≡ Err why)
      → IsAnswer job_view (generate_line arguments) r
  generate_no_model r e is h = ends r e is (fails _ (model_of (at_name (codes "model"))) (refusal_of e) h)

  pub generate_no_sizes : (name : ModelName) → model_of (at_name (codes "model")) ≡ Ok name → (r : Result Job WordsError) (e : WordsError) → IsErrAnd r (λ y. y ≡ e)
      → IfSome (refusal_of e) (λ why. or_model (sizes_of name) ≡ Err why) → IsAnswer job_view (generate_line arguments) r
  generate_no_sizes name k r e is h = ends r e is (rw k (fails _ (or_model (sizes_of name)) (refusal_of e) h))

  module _ (name : ModelName) (k : model_of (at_name (codes "model")) ≡ Ok name) (sizes : Sizes) (z : or_model (sizes_of name) ≡ Ok sizes) where
    abbrev numbered : Result ℕ Refusal
    numbered = positional_number (codes "n") sizes.least sizes.most (at_name (codes "n"))

    pub generate_no_n : (r : Result Job WordsError) (e : WordsError) → IsErrAnd r (λ y. y ≡ e) → IfSome (refusal_of e) (λ why. numbered ≡ Err why) → IsAnswer job_view (generate_line arguments) r
    generate_no_n r e is h = ends r e is (rw (k, z) (fails _ numbered (refusal_of e) h))

    module _ (n : ℕ) (d : numbered ≡ Ok n) where
      pub generate_no_seed : (r : Result Job WordsError) (e : WordsError) → IsErrAnd r (λ y. y ≡ e)
          → IfSome (refusal_of e) (λ why. positional_number (codes "seed") 0 2147483647 (at_name (codes "seed")) ≡ Err why) → IsAnswer job_view (generate_line arguments) r
      generate_no_seed r e is h = ends r e is (rw (k, z, d) (fails _ (positional_number (codes "seed") 0 2147483647 (at_name (codes "seed"))) (refusal_of e) h))

      pub generate_all : (seed : ℕ) (solved : Bool) → positional_number (codes "seed") 0 2147483647 (at_name (codes "seed")) ≡ Ok seed
          → ((b : Bool) → one_text (found_of m) (codes "solve") ≡ Some (cond b (codes "true") (codes "false")) → solved ≡ b) → generate_line arguments ≡ Ok (generate name n seed solved)
      generate_all seed solved h given =
          sym (generate_same solved (given (has_flag (codes "solve") arguments) (flag_read generate_syntax arguments m reads (codes "solve") refl))) ∙ rw (k, z, d, h) refl

-- ---- solve

module _ (m : ArgMatches) (arguments : List Argument) (reads : RowsTell solve_syntax arguments (rows_of (found_of m))) where
  abbrev value : Text → Option Text
  value id = first_value (found_of m) id

  settings_same : (stats : Bool) → stats ≡ has_flag (codes "stats") arguments → settings_of value stats ≡ settings_of (λ n. setting_of n arguments) (has_flag (codes "stats") arguments)
  settings_same stats e =
      let a = value_read solve_syntax arguments m reads (codes "width") refl in
      let b = value_read solve_syntax arguments m reads (codes "workers") refl in
      let p = value_read solve_syntax arguments m reads (codes "parts") refl in
      let c = value_read solve_syntax arguments m reads (codes "budget") refl in
      let d = value_read solve_syntax arguments m reads (codes "cutset") refl in
      rw (a, b, p, c, d, e) refl

  stats_is : (stats : Bool) → ((b : Bool) → one_text (found_of m) (codes "stats") ≡ Some (cond b (codes "true") (codes "false")) → stats ≡ b) → stats ≡ has_flag (codes "stats") arguments
  stats_is stats given = given (has_flag (codes "stats") arguments) (flag_read solve_syntax arguments m reads (codes "stats") refl)

  model_same : model_of (value (codes "model")) ≡ model_of (slice_get (words_of arguments) 0)
  model_same = ap model_of (word_read solve_syntax arguments m reads 0 (codes "model") refl)

  pub solve_no_model : (r : Result Job WordsError) (e : WordsError) → IsErrAnd r (λ y. y ≡ e) → IfSome (refusal_of e) (λ why. model_of (value (codes "model")) ≡ Err why)
      → IsAnswer job_view (solve_line arguments) r
  solve_no_model r e is h =
      gives_up job_view (solve_line arguments) r e is
      (fails _ (model_of (slice_get (words_of arguments) 0)) (refusal_of e) (moved (model_of (value (codes "model"))) (model_of (slice_get (words_of arguments) 0)) (refusal_of e) model_same h))

  module _ (name : ModelName) (k : model_of (value (codes "model")) ≡ Ok name) (stats : Bool)
      (given : (b : Bool) → one_text (found_of m) (codes "stats") ≡ Some (cond b (codes "true") (codes "false")) → stats ≡ b) where
    at_model : model_of (slice_get (words_of arguments) 0) ≡ Ok name
    at_model = sym model_same ∙ k

    abbrev by_line : Result JobSettings Refusal
    by_line = settings_of (λ n. setting_of n arguments) (has_flag (codes "stats") arguments)

    same : settings_of value stats ≡ by_line
    same = settings_same stats (stats_is stats given)

    pub solve_no_settings : (r : Result Job WordsError) (e : WordsError) → IsErrAnd r (λ y. y ≡ e) → IfSome (refusal_of e) (λ why. settings_of value stats ≡ Err why)
        → IsAnswer job_view (solve_line arguments) r
    solve_no_settings r e is h =
        gives_up job_view (solve_line arguments) r e is (rw at_model (fails _ by_line (refusal_of e) (moved (settings_of value stats) by_line (refusal_of e) same h)))

    module _ (settings : JobSettings) (d : settings_of value stats ≡ Ok settings) where
      at_settings : by_line ≡ Ok settings
      at_settings = sym same ∙ d

      abbrev covered : Option Text → Result (Option ℕ) Refusal
      covered = optional (codes "cover-words") 0 MOST_COVER_WORDS

      cover_same : covered (value (codes "cover-words")) ≡ covered (setting_of (codes "cover-words") arguments)
      cover_same = ap covered (value_read solve_syntax arguments m reads (codes "cover-words") refl)

      pub solve_no_cover : (r : Result Job WordsError) (e : WordsError) → IsErrAnd r (λ y. y ≡ e) → IfSome (refusal_of e) (λ why. covered (value (codes "cover-words")) ≡ Err why)
          → IsAnswer job_view (solve_line arguments) r
      solve_no_cover r e is h =
          gives_up job_view (solve_line arguments) r e is
          (rw (at_model, at_settings) (fails _ (covered (setting_of (codes "cover-words") arguments)) (refusal_of e)
          (moved (covered (value (codes "cover-words"))) (covered (setting_of (codes "cover-words") arguments)) (refusal_of e) cover_same h)))

      module _ (words : Option ℕ) (w : covered (value (codes "cover-words")) ≡ Ok words) where
        at_cover : covered (setting_of (codes "cover-words") arguments) ≡ Ok words
        at_cover = sym cover_same ∙ w

        abbrev distanced : Option Text → Result (Option ℕ) Refusal
        distanced = optional (codes "within") 0 MOST_DISTANCE

        distance_same : distanced (value (codes "within")) ≡ distanced (setting_of (codes "within") arguments)
        distance_same = ap distanced (value_read solve_syntax arguments m reads (codes "within") refl)

        pub solve_no_distance : (r : Result Job WordsError) (e : WordsError) → IsErrAnd r (λ y. y ≡ e) → IfSome (refusal_of e) (λ why. distanced (value (codes "within")) ≡ Err why)
            → IsAnswer job_view (solve_line arguments) r
        solve_no_distance r e is h =
            gives_up job_view (solve_line arguments) r e is
            (rw (at_model, at_settings, at_cover) (fails _ (distanced (setting_of (codes "within") arguments)) (refusal_of e)
            (moved (distanced (value (codes "within"))) (distanced (setting_of (codes "within") arguments)) (refusal_of e) distance_same h)))

        module _ (within : Option ℕ) (at_within : distanced (value (codes "within")) ≡ Ok within) where
          part_same : part_asked (value (codes "part")) ≡ part_asked (setting_of (codes "part") arguments)
          part_same = ap part_asked (value_read solve_syntax arguments m reads (codes "part") refl)

          at_distance : distanced (setting_of (codes "within") arguments) ≡ Ok within
          at_distance = sym distance_same ∙ at_within

          pub solve_no_part : (r : Result Job WordsError) (e : WordsError) → IsErrAnd r (λ y. y ≡ e) → IfSome (refusal_of e) (λ why. part_asked (value (codes "part")) ≡ Err why)
              → IsAnswer job_view (solve_line arguments) r
          solve_no_part r e is h =
              gives_up job_view (solve_line arguments) r e is
              (rw (at_model, at_settings, at_cover, at_distance) (fails _ (part_asked (setting_of (codes "part") arguments)) (refusal_of e)
              (moved (part_asked (value (codes "part"))) (part_asked (setting_of (codes "part") arguments)) (refusal_of e) part_same h)))

          pub solve_all : (part : Option PartNumber) (journal : Option Text) (cover : Bool) → part_asked (value (codes "part")) ≡ Ok part → journal ≡ value (codes "journal")
              → ((b : Bool) → one_text (found_of m) (codes "cover") ≡ Some (cond b (codes "true") (codes "false")) → cover ≡ b)
              → solve_line arguments ≡ searched name (extended settings within (cover_of cover words)) journal part
          solve_all part journal cover h j wanted =
              let at_part : part_asked (setting_of (codes "part") arguments) ≡ Ok part = sym part_same ∙ h in
              let at_journal : setting_of (codes "journal") arguments ≡ journal = sym (j ∙ value_read solve_syntax arguments m reads (codes "journal") refl) in
              let is : cover ≡ has_flag (codes "cover") arguments = wanted (has_flag (codes "cover") arguments) (flag_read solve_syntax arguments m reads (codes "cover") refl) in
              rw (at_model, at_settings, at_cover, at_distance, at_part, at_journal, ← is) refl

-- ---- resume

module _ (m : ArgMatches) (arguments : List Argument) (reads : RowsTell resume_syntax arguments (rows_of (found_of m))) where
  abbrev to_resume : Option Text → Result JobView Refusal
  to_resume path = resume_of path (λ n. setting_of n arguments) (λ n. has_flag n arguments)

  path_read : first_value (found_of m) (codes "path") ≡ slice_get (words_of arguments) 0
  path_read = word_read resume_syntax arguments m reads 0 (codes "path") refl

  pub resume_no_path : None ≡ first_value (found_of m) (codes "path") → resume_line arguments ≡ Err usage
  resume_no_path e = ap to_resume (sym (e ∙ path_read))

  module _ (path : Text) (at : Some path ≡ first_value (found_of m) (codes "path")) (stats : Bool)
      (given : (b : Bool) → one_text (found_of m) (codes "stats") ≡ Some (cond b (codes "true") (codes "false")) → stats ≡ b) where
    here : slice_get (words_of arguments) 0 ≡ Some path
    here = sym (at ∙ path_read)

    same_settings : settings_of (first_value (found_of m)) stats ≡ settings_of (λ n. setting_of n arguments) (has_flag (codes "stats") arguments)
    same_settings =
        let a = value_read resume_syntax arguments m reads (codes "width") refl in
        let b = value_read resume_syntax arguments m reads (codes "workers") refl in
        let p = value_read resume_syntax arguments m reads (codes "parts") refl in
        let c = value_read resume_syntax arguments m reads (codes "budget") refl in
        let d = value_read resume_syntax arguments m reads (codes "cutset") refl in
        let e = given (has_flag (codes "stats") arguments) (flag_read resume_syntax arguments m reads (codes "stats") refl) in
        rw (a, b, p, c, d, e) refl

    pub resume_no_settings : (r : Result Job WordsError) (e : WordsError) → IsErrAnd r (λ y. y ≡ e)
        → IfSome (refusal_of e) (λ why. settings_of (first_value (found_of m)) stats ≡ Err why) → IsAnswer job_view (resume_line arguments) r
    resume_no_settings r e is h =
        gives_up job_view (resume_line arguments) r e is
        (rw here (fails _ (settings_of (λ n. setting_of n arguments) (has_flag (codes "stats") arguments)) (refusal_of e)
        (moved (settings_of (first_value (found_of m)) stats) (settings_of (λ n. setting_of n arguments) (has_flag (codes "stats") arguments)) (refusal_of e) same_settings h)))

    pub resume_all : (settings : JobSettings) → settings_of (first_value (found_of m)) stats ≡ Ok settings
        → (offered : Bool) → ((b : Bool) → one_text (found_of m) (codes "incumbent") ≡ Some (cond b (codes "true") (codes "false")) → offered ≡ b)
        → resume_line arguments ≡ Ok (resume path settings offered)
    resume_all settings d offered wanted =
        let there = sym same_settings ∙ d in
        let asked_so = wanted (has_flag (codes "incumbent") arguments) (flag_read resume_syntax arguments m reads (codes "incumbent") refl) in
        rw (here, there, asked_so) refl

-- ---- split and join

module _ (m : ArgMatches) (arguments : List Argument) (reads : RowsTell split_syntax arguments (rows_of (found_of m))) where
  split_read : first_value (found_of m) (codes "path") ≡ slice_get (words_of arguments) 0
  split_read = word_read split_syntax arguments m reads 0 (codes "path") refl

  pub split_no_path : None ≡ first_value (found_of m) (codes "path") → split_line arguments ≡ Err usage
  split_no_path e = ap (λ path. split_of path (setting_of (codes "part") arguments)) (sym (e ∙ split_read))

  module _ (path : Text) (at : Some path ≡ first_value (found_of m) (codes "path")) where
    path_here : slice_get (words_of arguments) 0 ≡ Some path
    path_here = sym (at ∙ split_read)

    asked_same : part_asked (first_value (found_of m) (codes "part")) ≡ part_asked (setting_of (codes "part") arguments)
    asked_same = ap part_asked (value_read split_syntax arguments m reads (codes "part") refl)

    pub split_no_part : (r : Result Job WordsError) (e : WordsError) → IsErrAnd r (λ y. y ≡ e)
        → IfSome (refusal_of e) (λ why. part_asked (first_value (found_of m) (codes "part")) ≡ Err why) → IsAnswer job_view (split_line arguments) r
    split_no_part r e is h =
        gives_up job_view (split_line arguments) r e is
        (rw path_here (fails (split_by path) (part_asked (setting_of (codes "part") arguments)) (refusal_of e)
        (moved (part_asked (first_value (found_of m) (codes "part"))) (part_asked (setting_of (codes "part") arguments)) (refusal_of e) asked_same h)))

    pub split_all : (part : Option PartNumber) → part_asked (first_value (found_of m) (codes "part")) ≡ Ok part → split_line arguments ≡ split_by path part
    split_all part h = let there = sym asked_same ∙ h in rw (path_here, there) refl

pub join_is : (m : ArgMatches) (arguments : List Argument) → RowsTell join_syntax arguments (rows_of (found_of m)) → (journal : Option Text) → journal ≡ first_value (found_of m) (codes "journal")
    → join_line arguments ≡ Ok (join_of journal)
join_is m arguments reads journal e = ap (λ o. Ok (join_of o)) (sym (e ∙ value_read join_syntax arguments m reads (codes "journal") refl))

-- ---- digest

module _ (m : ArgMatches) (arguments : List Argument) (reads : RowsTell digest_syntax arguments (rows_of (found_of m))) where
  digest_same : digest_of (first_value (found_of m) (codes "model")) ≡ digest_line arguments
  digest_same = ap digest_of (word_read digest_syntax arguments m reads 0 (codes "model") refl)

  pub digest_no_model : (r : Result Job WordsError) (e : WordsError) → IsErrAnd r (λ y. y ≡ e)
      → IfSome (refusal_of e) (λ why. model_of (first_value (found_of m) (codes "model")) ≡ Err why) → IsAnswer job_view (digest_line arguments) r
  digest_no_model r e is h =
      gives_up job_view (digest_line arguments) r e is
      (moved (digest_of (first_value (found_of m) (codes "model"))) (digest_line arguments) (refusal_of e) digest_same (fails _ (model_of (first_value (found_of m) (codes "model"))) (refusal_of e) h))

  pub digest_all : (name : ModelName) → model_of (first_value (found_of m) (codes "model")) ≡ Ok name → digest_line arguments ≡ Ok (digest name)
  digest_all name h = sym digest_same ∙ rw h refl

-- ---- whole lines

-- where the matches tell of the line, a job that is right for each line that they tell of is right for this one
pub told : (f : Syntax) (line : Option (List Argument)) (m : ArgMatches) (ask : List Argument → Result JobView Refusal) (r : Result Job WordsError) → Tells f line m
    → ((arguments : List Argument) → RowsTell f arguments (rows_of (found_of m)) → IsAnswer job_view (ask arguments) r) → IsAnswer job_view (asked ask line) r
told f None m ask r tells next = absurd tells
told f (Some arguments) m ask r tells next = next arguments tells

-- where clap refuses the line
pub untold : (line : Option (List Argument)) (ask : List Argument → Result JobView Refusal) (r : Result Job WordsError) (e : WordsError) → IsErrAnd r (λ y. y ≡ e) → IsOutside line e
    → IsAnswer job_view (asked ask line) r
untold line ask r e is out = gives_up job_view (asked ask line) r e is (by e out)
  where
    by : (e : WordsError) → IsOutside line e → IfSome (refusal_of e) (λ why. asked ask line ≡ Err why)
    by Usage h = ap (asked ask) h
    by Model h = absurd h
    by (Number o) h = absurd h
    by Cutset h = absurd h
    by OutOfMemory h = tt

-- ---- words that are refused before the parser is asked

pub last_byte : (b : ℕ) (bs : List ℕ) → nat_eq (get_or (b ∷ bs) (length (b ∷ bs) - 1) 0) 61 ≡ last_is_equals b bs
last_byte b [] = refl
last_byte b (c ∷ cs) =
    let at : length (b ∷ c ∷ cs) - 1 ≡ suc (length (c ∷ cs) - 1) = omega arith in
    ap (λ k. nat_eq (get_or (b ∷ c ∷ cs) k 0) 61) at ∙ last_byte c cs

pub refused_by_last : (xs ys : List ℕ) → xs ≡ ys → 0 < length xs → nat_eq (get_or xs (length xs - 1) 0) 61 ≡ is_refused ys
refused_by_last [] ys e lt = absurd (omega arith)
refused_by_last (b ∷ bs) ys e lt = last_byte b bs ∙ ap is_refused e

-- ---- by the command

-- the test over the words, over their bytes
pub test_is : {Z : Type 0} (words : List (String Z)) (t : Bool) → t ≡ list_any (λ w. is_refused (string_bytes w)) words → list_any is_refused (map string_bytes words) ≡ t
test_is words t e = sym (e ∙ list_any-map is_refused string_bytes words)

pub refused_at_once : {Z : Type 0} (words : List (String Z)) → 0 < length words → list_any is_refused (map string_bytes words) ≡ true → meaning (map string_bytes words) ≡ Err usage
refused_at_once [] lt e = absurd (omega arith)
refused_at_once (w ∷ ws) lt e = rw e refl

pub meaning_is : {Z : Type 0} (words : List (String Z)) (first : String Z) (command : Text) → 0 < length words → first ≡ get_or words 0 first → command ≡ string_bytes first
    → list_any is_refused (map string_bytes words) ≡ false → meaning (map string_bytes words) ≡ by_command command (drop 1 (map string_bytes words))
meaning_is [] first command lt at is e = absurd (omega arith)
meaning_is (w ∷ ws) first command lt at is e =
    let same : string_bytes w ≡ command = sym (is ∙ ap string_bytes at) in
    rw e (ap (λ c. by_command c (map string_bytes ws)) same)

other_name : (a b : Text) → (a ≡ b → ⊥) → bytes_eq a b ≡ false
other_name a b other = by (bytes_eq a b) refl
  where
    by : (t : Bool) → bytes_eq a b ≡ t → bytes_eq a b ≡ false
    by false e = e
    by true e = absurd (other (are_same a b e))

pub no_command : (c : Text) (ws : List Text) → (c ≡ codes "solve" → ⊥) → (c ≡ codes "resume" → ⊥) → (c ≡ codes "split" → ⊥) → (c ≡ codes "check" → ⊥) → (c ≡ codes "join" → ⊥) → (c ≡ codes "digest" → ⊥) → (c ≡ codes "generate" → ⊥)
    → by_command c ws ≡ Err usage
no_command c ws a b s d j e g =
    rw (
      other_name c (codes "solve") a,
      other_name c (codes "resume") b,
      other_name c (codes "split") s,
      other_name c (codes "check") d,
      other_name c (codes "join") j,
      other_name c (codes "digest") e,
      other_name c (codes "generate") g,
    ) refl

-- the answer of the command that the words begin with
pub by_name : (whole : Result JobView Refusal) (c name : Text) (ws : List Text) (r : Result Job WordsError) → whole ≡ by_command c ws → c ≡ name
    → IsAnswer job_view (by_command name ws) r → IsAnswer job_view whole r
by_name whole c name ws r e is h = subst (λ s. IsAnswer job_view s r) (sym (e ∙ ap (λ n. by_command n ws) is)) h
