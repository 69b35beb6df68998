-- One word's turn in clap, over the rules of a command.
use Rattle.std.proofs.Common.{◌≡◌, ◌∙◌, ◌+◌, ℕ, Bool, cond, true, false, refl, sym, ap, List, [], ◌∷◌, ◌++◌, Option, Some, None, option_map, codes, arith, is_some, ◌&&◌, min, suc, length, true≢false, append-nil}
use Rattle.std.specs.Prelude.{slice_get, option_and_then}
use Rattle.std.specs.List.{fold}
use Rattle.std.specs.Str.{bytes_eq, chars}
use Rattle.std.proofs.lemmas.Slice.Eq.{bytes_eq-Decides}
use Rattle.clap.specs.Lexer.{long_of, short_of, usize_max}
use Rattle.clap.specs.Kinds.{Kinds, or_else}
use Rattle.clap.specs.Walk.{Held, Row, Rule, Text, Waiting, Walk, idle, option, positional, is_pending, subcommand_met, arg_by_id, arg_by_index, arg_by_long, at_row, has_row, settled, used, walked, with_values, without, more_values}
use Rattle.clap.specs.Simple.{Shape}
use Rattle.clap.specs.Faults.{flags_fault, settle_fault, turn_fault, use_fault, walk_fault}
use Rattle.clap.specs.declared.builder.value_parser.Reading.TheVariants.{AsWritten}
use Rattle.clap.specs.declared.parser.matches.ValueSource.TheVariants.{CommandLine}
use Rattle.clap.specs.declared.error.kind.ErrorKind.TheVariants.{UnknownArgument}
use Rattle.solver_words.specs.Grammar.{Syntax, contains}
use Rattle.solver_words.proofs.Rules.{Fits, shape_with, given_row, valued_rule, flag_rule, positional_rule}

-- what stands where no kind of error comes
abbrev pub outcome : {X : Type 0} → Kinds → Option X → Option X
outcome [] x = x
outcome (k ∷ ks) x = None

pub outcome-or_else : {X : Type 0} (a b : Kinds) (x : Option X) → outcome (or_else a b) x ≡ outcome a (outcome b x)
outcome-or_else [] b x = refl
outcome-or_else (k ∷ ks) b x = refl

-- the rows once what is pending is used
abbrev pub settled_as : List Rule → Held → Option (List Row)
settled_as c h = outcome (settle_fault c false h) (Some (settled c h).rows)

-- the rows at the end of the words, from here on
abbrev pub final : Shape → Walk → List Text → Option (List Row)
final s w words =
    let end = fold (walked s.rules []) w words in
    outcome (or_else (walk_fault s [] w words) (settle_fault s.rules false end.held)) (Some (settled s.rules end.held).rows)

-- one word, and then what `next` makes of where the walk stands
abbrev pub turn : Shape → Walk → Text → (Walk → Option (List Row)) → Option (List Row)
turn s w x next = outcome (turn_fault s [] w x) (next (walked s.rules [] w x))

pub final-nil : (s : Shape) (w : Walk) → final s w [] ≡ settled_as s.rules w.held
unfolding walk_fault
final-nil s w = refl

pub final-cons : (s : Shape) (w : Walk) (x : Text) (xs : List Text) → final s w (x ∷ xs) ≡ turn s w x (λ v. final s v xs)
unfolding walk_fault
final-cons s w x xs =
    let end = fold (walked s.rules []) (walked s.rules [] w x) xs in
    let a = turn_fault s [] w x in
    let b = walk_fault s [] (walked s.rules [] w x) xs in
    let e = settle_fault s.rules false end.held in
    let r = Some (settled s.rules end.held).rows in
    outcome-or_else (or_else a b) e r ∙ outcome-or_else a b (outcome e r) ∙ ap (outcome a) (sym (outcome-or_else b e r))

-- ---- one use

pub same_bytes : (a : Text) → bytes_eq a a ≡ true
same_bytes a = (bytes_eq-Decides a a).1 refl

fresh_by : (id : Text) (change : Row → List Row) (missing : List Row) (r : Row) (rs : List Row) (t : Bool) → bytes_eq r.id id ≡ t
    → (has_row id rs ≡ false → at_row id change missing rs ≡ rs ++ missing) → has_row id (r ∷ rs) ≡ false → at_row id change missing (r ∷ rs) ≡ (r ∷ rs) ++ missing
fresh_by id change missing r rs true h next e = absurd (true≢false (rw h at e))
fresh_by id change missing r rs false h next e = rw h (ap (λ xs. r ∷ xs) (next (rw h at e)))

pub fresh : (id : Text) (change : Row → List Row) (missing rows : List Row) → has_row id rows ≡ false → at_row id change missing rows ≡ rows ++ missing
fresh id change missing [] e = refl
fresh id change missing (r ∷ rs) e = fresh_by id change missing r rs (bytes_eq r.id id) refl (fresh id change missing rs) e

-- a row joins where the id has none
abbrev pub added : Row → List Row → Option (List Row)
added r rows = cond (has_row r.id rows) None (Some (rows ++ r ∷ []))

module _ (id : Text) (v : Text) (rows : List Row) where
  joined : has_row id rows ≡ false → with_values id AsWritten CommandLine (v ∷ []) (without id rows) ≡ rows ++ given_row id v ∷ []
  joined e =
      let w : without id rows ≡ rows = fresh id (λ _. []) [] rows e ∙ append-nil rows in
      ap (with_values id AsWritten CommandLine (v ∷ [])) w ∙ fresh id (more_values CommandLine (v ∷ [])) (given_row id v ∷ []) rows e

  valued_by : (t : Bool) → has_row id rows ≡ t
      → outcome (use_fault false (valued_rule id) (v ∷ []) rows) (Some (used (valued_rule id) (v ∷ []) rows)) ≡ added (given_row id v) rows
  valued_by true e = rw e refl
  valued_by false e = rw e (ap Some (joined e))

  -- one use of an option with its value, and of a positional word
  pub valued_used : outcome (use_fault false (valued_rule id) (v ∷ []) rows) (Some (used (valued_rule id) (v ∷ []) rows)) ≡ added (given_row id v) rows
  valued_used = valued_by (has_row id rows) refl

  pub positional_used : (i : ℕ) → outcome (use_fault false (positional_rule i id) (v ∷ []) rows) (Some (used (positional_rule i id) (v ∷ []) rows)) ≡ added (given_row id v) rows
  positional_used i = valued_by (has_row id rows) refl

flag_by : (id : Text) (rows : List Row) (t : Bool) → has_row id rows ≡ t
    → outcome (use_fault false (flag_rule id) [] rows) (Some (used (flag_rule id) [] rows)) ≡ added (given_row id (codes "true")) rows
flag_by id rows true e = rw e refl
flag_by id rows false e = rw e (ap Some (joined id (codes "true") rows e))

pub flag_used : (id : Text) (rows : List Row) → outcome (use_fault false (flag_rule id) [] rows) (Some (used (flag_rule id) [] rows)) ≡ added (given_row id (codes "true")) rows
flag_used id rows = flag_by id rows (has_row id rows) refl

-- ---- one word

-- a fault of what was pending, and then the next step
settles : {X Y : Type 0} (a : Kinds) (next : X → Option Y) (x : X) → outcome (or_else a []) (next x) ≡ option_and_then next (outcome a (Some x))
settles [] next x = refl
settles (k ∷ ks) next x = refl

settles_alone : {X Y : Type 0} (a : Kinds) (next : X → Option Y) (x : X) → outcome a (next x) ≡ option_and_then next (outcome a (Some x))
settles_alone [] next x = refl
settles_alone (k ∷ ks) next x = refl

-- the same with one use more
uses : {X Y : Type 0} (a b : Kinds) (next : X → Option Y) (step : X → Option X) (x y : X) → outcome b (Some y) ≡ step x
    → outcome (or_else (or_else a b) []) (next y) ≡ option_and_then (λ r. option_and_then next (step r)) (outcome a (Some x))
uses [] b next step x y e = settles b next y ∙ ap (option_and_then next) e
uses (k ∷ ks) b next step x y e = refl

abbrev pub holds : List Row → Option (Text × List Text) → Held
holds rows p = record { rows = rows; pending = p; skip = 0 }

-- the walk between two words, with k positional words after it
abbrev pub stands : Bool → Waiting → List Row → Option (Text × List Text) → ℕ → Walk
stands trailing waiting rows p k = record { held = holds rows p; waiting = waiting; position = k + 1; is_trailing = trailing; stopped = None }

abbrev pub rests : List Row → Option (Text × List Text) → ℕ → Walk
rests rows p k = stands false idle rows p k

abbrev pub waits_for : Text → List Row → ℕ → Walk
waits_for name rows k = stands false (option name) rows (Some (name, [])) k

module _ (name : Text) (f : Syntax) (c : List Rule) (fits : Fits f c) (next : Walk → Option (List Row)) (x : Text) where
  abbrev s : Shape
  s = shape_with name c

  module _ (rows : List Row) (p : Option (Text × List Text)) (k : ℕ) where
    abbrev h : Held
    h = holds rows p

    pub dashes_turn : bytes_eq x (45 ∷ 45 ∷ []) ≡ true → turn s (rests rows p k) x next ≡ next (stands true idle rows p k)
    unfolding walked
    dashes_turn e = rw e refl

    -- `--name=value`
    pub attached_turn : (n v : Text) → bytes_eq x (45 ∷ 45 ∷ []) ≡ false → long_of x ≡ Some (n, Some v) → contains n f.valued ≡ true
        → turn s (rests rows p k) x next ≡ option_and_then (λ r. option_and_then (λ r. next (rests r None k)) (added (given_row n v) r)) (settled_as c h)
    unfolding walked
    attached_turn n v e l here =
        let rule : arg_by_long c n ≡ Some (valued_rule n) = fits.long n ∙ (rw here refl) in
        rw (e, l, rule) (uses (settle_fault c false h) _ (λ r. next (rests r None k)) (added (given_row n v)) _ _ (valued_used n v (settled c h).rows))

    -- `--name`, whose value is to come
    pub waits_turn : (n : Text) → bytes_eq x (45 ∷ 45 ∷ []) ≡ false → long_of x ≡ Some (n, None) → contains n f.valued ≡ true
        → turn s (rests rows p k) x next ≡ option_and_then (λ r. next (waits_for n r k)) (settled_as c h)
    unfolding walked
    waits_turn n e l here =
        let rule : arg_by_long c n ≡ Some (valued_rule n) = fits.long n ∙ (rw here refl) in
        rw (e, l, rule) (settles (settle_fault c false h) (λ r. next (waits_for n r k)) (settled c h).rows)

    -- `--name` of an option without a value
    pub flag_turn : (n : Text) → bytes_eq x (45 ∷ 45 ∷ []) ≡ false → long_of x ≡ Some (n, None) → contains n f.valued ≡ false → contains n f.flags ≡ true
        → turn s (rests rows p k) x next ≡ option_and_then (λ r. option_and_then (λ r. next (rests r None k)) (added (given_row n (codes "true")) r)) (settled_as c h)
    unfolding walked
    flag_turn n e l off here =
        let rule : arg_by_long c n ≡ Some (flag_rule n) = fits.long n ∙ (rw (off, here) refl) in
        rw (e, l, rule) (uses (settle_fault c false h) _ (λ r. next (rests r None k)) (added (given_row n (codes "true"))) _ _ (flag_used n (settled c h).rows))

    -- an option without a value that is given one
    pub valued_flag_turn : (n v : Text) → bytes_eq x (45 ∷ 45 ∷ []) ≡ false → long_of x ≡ Some (n, Some v) → contains n f.valued ≡ false → contains n f.flags ≡ true
        → turn s (rests rows p k) x next ≡ None
    unfolding walked
    valued_flag_turn n v e l off here =
        let rule : arg_by_long c n ≡ Some (flag_rule n) = fits.long n ∙ (rw (off, here) refl) in
        rw (e, l, rule) refl

    pub unknown_turn : (n : Text) (v : Option Text) → bytes_eq x (45 ∷ 45 ∷ []) ≡ false → long_of x ≡ Some (n, v) → contains n f.valued ≡ false → contains n f.flags ≡ false
        → turn s (rests rows p k) x next ≡ None
    unfolding walked
    unknown_turn n v e l off gone =
        let rule : arg_by_long c n ≡ None = fits.long n ∙ (rw (off, gone) refl) in
        rw (e, l, rule) refl

  -- a word with one dash
  short_steps : (flags : Text) (k : ℕ) (h : Held) (o : Option ℕ) → slice_get (chars flags) 0 ≡ o → is_some o ≡ true
      → flags_fault c false (suc k) flags 0 h ≡ UnknownArgument ∷ []
  unfolding flags_fault
  short_steps flags k h None e stands = absurd (true≢false (sym stands))
  short_steps flags k h (Some b) e stands = rw (e, fits.no_short b) refl

  short_fails : (flags : Text) (h : Held) → is_some (slice_get (chars flags) 0) ≡ true → flags_fault c false (length flags) flags 0 h ≡ UnknownArgument ∷ []
  unfolding chars
  short_fails [] h stands = absurd (true≢false (sym stands))
  short_fails (b ∷ bs) h stands = short_steps (b ∷ bs) (length bs) h (slice_get (chars (b ∷ bs)) 0) refl stands

  module _ (waiting : Waiting) (rows : List Row) (p : Option (Text × List Text)) (k : ℕ) where
    no_subcommand : subcommand_met [] waiting x ≡ None
    no_subcommand = elim waiting as (λ w. subcommand_met [] w x ≡ None) [ idle ↦ refl | option n ↦ refl | positional ↦ refl ]

    pub short_turn : (flags : Text) → bytes_eq x (45 ∷ 45 ∷ []) ≡ false → long_of x ≡ None → short_of x ≡ Some flags
        → is_some (slice_get (chars flags) 0) ≡ true → turn s (stands false waiting rows p k) x next ≡ None
    short_turn flags e l sh here = rw (no_subcommand, e, l, sh, short_fails flags (holds rows p) here) refl

    few : (id : Text) → slice_get f.positional k ≡ Some id → min (k + 1 + 1) usize_max ≡ k + 1 + 1
    few id e = let room = fits.few k id e in omega arith

    and_false : (b : Bool) → (b && false) ≡ false
    and_false true = refl
    and_false false = refl

    -- a word that goes to a positional
    pub trailing_turn : (id : Text) → slice_get f.positional k ≡ Some id
        → turn s (stands true waiting rows p k) x next ≡ option_and_then (λ r. next (stands true idle r (Some (id, x ∷ [])) (k + 1))) (settled_as c (holds rows p))
    unfolding walked
    trailing_turn id at =
        let rule : arg_by_index c (k + 1) ≡ Some (positional_rule (k + 1) id) = fits.by_index k ∙ ap (option_map (positional_rule (k + 1))) at in
        rw (rule, and_false (is_pending (positional_rule (k + 1) id) p), few id at)
        (settles_alone (settle_fault c false (holds rows p)) (λ r. next (stands true idle r (Some (id, x ∷ [])) (k + 1))) (settled c (holds rows p)).rows)

    pub trailing_stray : slice_get f.positional k ≡ None → turn s (stands true waiting rows p k) x next ≡ None
    trailing_stray at =
        let rule : arg_by_index c (k + 1) ≡ None = fits.by_index k ∙ ap (option_map (positional_rule (k + 1))) at in
        rw rule refl

  module _ (rows : List Row) (p : Option (Text × List Text)) (k : ℕ) where
    pub word_turn : (id : Text) → slice_get f.positional k ≡ Some id → bytes_eq x (45 ∷ 45 ∷ []) ≡ false → long_of x ≡ None → short_of x ≡ None
        → turn s (rests rows p k) x next ≡ option_and_then (λ r. next (rests r (Some (id, x ∷ [])) (k + 1))) (settled_as c (holds rows p))
    unfolding walked
    word_turn id at e l sh =
        let rule : arg_by_index c (k + 1) ≡ Some (positional_rule (k + 1) id) = fits.by_index k ∙ ap (option_map (positional_rule (k + 1))) at in
        rw (e, l, sh, rule, and_false idle rows p k (is_pending (positional_rule (k + 1) id) p), few idle rows p k id at)
        (settles_alone (settle_fault c false (holds rows p)) (λ r. next (rests r (Some (id, x ∷ [])) (k + 1))) (settled c (holds rows p)).rows)

    pub stray_turn : slice_get f.positional k ≡ None → bytes_eq x (45 ∷ 45 ∷ []) ≡ false → long_of x ≡ None → short_of x ≡ None → turn s (rests rows p k) x next ≡ None
    stray_turn at e l sh =
        let rule : arg_by_index c (k + 1) ≡ None = fits.by_index k ∙ ap (option_map (positional_rule (k + 1))) at in
        rw (e, l, sh, rule) refl

  -- where an option waits for its value
  module _ (n : Text) (here : contains n f.valued ≡ true) (rows : List Row) (k : ℕ) where
    w : Walk
    w = waits_for n rows k

    rule : arg_by_id c n ≡ Some (valued_rule n)
    rule = fits.by_id n here

    pub value_turn : bytes_eq x (45 ∷ 45 ∷ []) ≡ false → long_of x ≡ None → short_of x ≡ None
        → turn s (waits_for n rows k) x next ≡ next (rests rows (Some (n, x ∷ [])) k)
    unfolding walked
    value_turn e l sh = let same : bytes_eq n n ≡ true = same_bytes n in rw (e, l, sh, rule, same) refl

    -- an option word in place of a value
    valued_late : (m : Text) (v : Option Text) → bytes_eq x (45 ∷ 45 ∷ []) ≡ false → long_of x ≡ Some (m, v) → arg_by_long c m ≡ Some (valued_rule m)
        → turn s (waits_for n rows k) x next ≡ None
    valued_late m None e l long = rw (e, l, long, rule) refl
    valued_late m (Some v) e l long = rw (e, l, long, rule) refl

    flag_late : (m : Text) (v : Option Text) → bytes_eq x (45 ∷ 45 ∷ []) ≡ false → long_of x ≡ Some (m, v) → arg_by_long c m ≡ Some (flag_rule m)
        → turn s (waits_for n rows k) x next ≡ None
    flag_late m None e l long = rw (e, l, long, rule) refl
    flag_late m (Some v) e l long = rw (e, l, long) refl

    unknown_late : (m : Text) (v : Option Text) → bytes_eq x (45 ∷ 45 ∷ []) ≡ false → long_of x ≡ Some (m, v) → arg_by_long c m ≡ None
        → turn s (waits_for n rows k) x next ≡ None
    unknown_late m v e l long = rw (e, l, long) refl

    late : (m : Text) (v : Option Text) → bytes_eq x (45 ∷ 45 ∷ []) ≡ false → long_of x ≡ Some (m, v) → (a b : Bool) → contains m f.valued ≡ a → contains m f.flags ≡ b
        → turn s (waits_for n rows k) x next ≡ None
    late m v e l true b is_valued is_flag = valued_late m v e l (fits.long m ∙ rw is_valued refl)
    late m v e l false true is_valued is_flag = flag_late m v e l (fits.long m ∙ rw (is_valued, is_flag) refl)
    late m v e l false false is_valued is_flag = unknown_late m v e l (fits.long m ∙ rw (is_valued, is_flag) refl)

    pub no_value_turn : (m : Text) (v : Option Text) → bytes_eq x (45 ∷ 45 ∷ []) ≡ false → long_of x ≡ Some (m, v) → turn s (waits_for n rows k) x next ≡ None
    no_value_turn m v e l = late m v e l (contains m f.valued) (contains m f.flags) refl refl

    pub waits_dashes_turn : bytes_eq x (45 ∷ 45 ∷ []) ≡ true → turn s (waits_for n rows k) x next ≡ next (stands true (option n) rows (Some (n, [])) k)
    unfolding walked
    waits_dashes_turn e = rw e refl

    pub waits_settled : settled_as c (holds rows (Some (n, []))) ≡ None
    waits_settled = rw rule refl

-- what is pending is used, where its value is there
module _ (f : Syntax) (c : List Rule) (fits : Fits f c) (x : Text) (rows : List Row) where
  pub valued_settled : (n : Text) → contains n f.valued ≡ true → settled_as c (holds rows (Some (n, x ∷ []))) ≡ added (given_row n x) rows
  valued_settled n here = rw (fits.by_id n here) (valued_used n x rows)

  pub positional_settled : (k : ℕ) (id : Text) → slice_get f.positional k ≡ Some id → settled_as c (holds rows (Some (id, x ∷ []))) ≡ added (given_row id x) rows
  positional_settled k id at = rw (fits.positional_id k id at) (positional_used id x rows (k + 1))
