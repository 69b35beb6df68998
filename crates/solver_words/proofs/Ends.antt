-- The end of a parse: defaults, the last checks, and what the matches hold.
use Rattle.std.proofs.Common.{◌≡◌, ◌∙◌, ◌+◌, ◌≤◌, ◌<◌, ◌&&◌, ◌==◌, ◌||◌, ℕ, Bool, true, false, not, cond, refl, sym, ap, subst, suc, List, [], ◌∷◌, ◌++◌, map, length, Option, Some, None, is_some, arith, nat_le, true≢false, codes}
use Rattle.std.specs.Prelude.{slice_get}
use Rattle.std.specs.List.{list_any, fold}
use Rattle.std.specs.Str.{bytes_eq}
use Rattle.std.proofs.lemmas.Option.{slice_get_within}
use Rattle.clap.specs.Kinds.{or_else}
use Rattle.clap.specs.Walk.{Row, Rule, has_row, more_values, with_default}
use Rattle.clap.specs.Faults.{given_default_fault, default_fault, defaults_fault, check_fault}
use Rattle.clap.specs.Takes.{is_given}
use Rattle.clap.specs.declared.builder.value_parser.Reading.TheVariants.{AsWritten}
use Rattle.clap.specs.declared.parser.matches.ValueSource.TheVariants.{DefaultValue}
use Rattle.clap.specs.declared.error.kind.ErrorKind.TheVariants.{MissingRequiredArgument}
use Rattle.solver_words.specs.Grammar.{Text, Syntax, contains}
use Rattle.solver_words.proofs.Rules.{shape_with, valued_rule, flag_rule, positional_rule}
use Rattle.solver_words.proofs.Names.{are_same, neither}
use Rattle.solver_words.proofs.Turns.{fresh}
use Rattle.solver_words.proofs.Building.{no_option_fits, numbered, option_rules, rules_for}
use Rattle.solver_words.proofs.Lines.{found_in, has_row-more, past_end}

-- ---- defaults

abbrev pub default_row : Text → Row
default_row n = record { id = n; values = codes "false" ∷ []; count = None; source = Some DefaultValue; reading = AsWritten }

-- the rows at the end
abbrev pub completed : Syntax → List Row → List Row
completed f rows = fold with_default rows (rules_for f)

same_by_default : (k : ℕ) (id : Text) (rows : List Row) → with_default rows (positional_rule k id) ≡ rows
same_by_default k id rows = by (has_row id rows)
  where
    by : (t : Bool) → cond t rows rows ≡ rows
    by true = refl
    by false = refl

valued_default : (n : Text) (rows : List Row) → with_default rows (valued_rule n) ≡ rows
valued_default n rows = same_by_default 1 n rows

flag_default : (n : Text) (rows : List Row) (t : Bool) → has_row n rows ≡ t → with_default rows (flag_rule n) ≡ cond t rows (rows ++ default_row n ∷ [])
flag_default n rows true e = rw e refl
flag_default n rows false e = rw e (fresh n (more_values DefaultValue (codes "false" ∷ [])) (default_row n ∷ []) rows e)

positional_defaults : (k : ℕ) (ids : List Text) (more : List Rule) (rows : List Row) → fold with_default rows (numbered k ids ++ more) ≡ fold with_default rows more
positional_defaults k [] more rows = refl
positional_defaults k (id ∷ ids) more rows = ap (λ rs. fold with_default rs (numbered (k + 1) ids ++ more)) (same_by_default (k + 1) id rows) ∙ positional_defaults (k + 1) ids more rows

valued_defaults : (ns : List Text) (more : List Rule) (rows : List Row) → fold with_default rows (map valued_rule ns ++ more) ≡ fold with_default rows more
valued_defaults [] more rows = refl
valued_defaults (n ∷ ns) more rows = ap (λ rs. fold with_default rs (map valued_rule ns ++ more)) (valued_default n rows) ∙ valued_defaults ns more rows

completed_by_flags : (f : Syntax) (rows : List Row) → completed f rows ≡ fold with_default rows (map flag_rule f.flags)
completed_by_flags f rows = positional_defaults 0 f.positional (option_rules f) rows ∙ valued_defaults f.valued (map flag_rule f.flags) rows

-- an id with a row, and one without
pub found_none : (id : Text) (rows : List Row) → has_row id rows ≡ false → found_in id rows ≡ None
found_none id [] e = refl
found_none id (r ∷ rs) e =
    let parts = neither (bytes_eq r.id id) (has_row id rs) e in
    rw parts.0 (found_none id rs parts.1)

found_first : (id : Text) (rows more : List Row) → has_row id rows ≡ true → found_in id (rows ++ more) ≡ found_in id rows
found_first id [] more e = absurd (true≢false (sym e))
found_first id (r ∷ rs) more e = by (bytes_eq r.id id) (λ h. found_first id rs more h) e
  where
    by : (t : Bool) → (has_row id rs ≡ true → found_in id (rs ++ more) ≡ found_in id rs) → (t || has_row id rs) ≡ true → cond t (Some r) (found_in id (rs ++ more)) ≡ cond t (Some r) (found_in id rs)
    by true next e = refl
    by false next e = next e

found_later : (id : Text) (rows more : List Row) → has_row id rows ≡ false → found_in id (rows ++ more) ≡ found_in id more
found_later id [] more e = refl
found_later id (r ∷ rs) more e =
    let parts = neither (bytes_eq r.id id) (has_row id rs) e in
    rw parts.0 (found_later id rs more parts.1)

found_default : (id n : Text) (rows : List Row) (t u : Bool) → has_row n rows ≡ t → bytes_eq n id ≡ u → (rest : Bool)
    → cond (has_row id (cond t rows (rows ++ default_row n ∷ []))) (found_in id (cond t rows (rows ++ default_row n ∷ []))) (cond rest (Some (default_row id)) None)
    ≡ cond (has_row id rows) (found_in id rows) (cond (u || rest) (Some (default_row id)) None)
found_default id n rows true true e h rest = let here : has_row id rows ≡ true = subst (λ z. has_row z rows ≡ true) (are_same n id h) e in rw here refl
found_default id n rows true false e h rest = refl
found_default id n rows false u e h rest = by (has_row id rows) refl u h
  where
    by : (b : Bool) → has_row id rows ≡ b → (u : Bool) → bytes_eq n id ≡ u
        → cond (has_row id (rows ++ default_row n ∷ [])) (found_in id (rows ++ default_row n ∷ [])) (cond rest (Some (default_row id)) None)
        ≡ cond (has_row id rows) (found_in id rows) (cond (u || rest) (Some (default_row id)) None)
    by true e u h = rw (has_row-more id (default_row n) rows, e) (found_first id rows (default_row n ∷ []) e)
    by false e true h = rw (has_row-more id (default_row n) rows, e, h, found_later id rows (default_row n ∷ []) e, h) (ap (λ z. Some (default_row z)) (are_same n id h))
    by false e false h = rw (has_row-more id (default_row n) rows, e, h) refl

flags_completed : (id : Text) (ns : List Text) (rows : List Row)
    → found_in id (fold with_default rows (map flag_rule ns)) ≡ cond (has_row id rows) (found_in id rows) (cond (contains id ns) (Some (default_row id)) None)
flags_completed id [] rows = by (has_row id rows) refl
  where
    by : (t : Bool) → has_row id rows ≡ t → found_in id rows ≡ cond (has_row id rows) (found_in id rows) None
    by true e = rw e refl
    by false e = rw (e, found_none id rows e) refl
flags_completed id (n ∷ ns) rows =
    let t = has_row n rows in
    let rows' = cond t rows (rows ++ default_row n ∷ []) in
    ap (λ rs. found_in id (fold with_default rs (map flag_rule ns))) (flag_default n rows t refl) ∙ flags_completed id ns rows'
    ∙ found_default id n rows t (bytes_eq n id) refl refl (contains id ns)

-- what is found at the end
pub found_at_end : (f : Syntax) (id : Text) (rows : List Row)
    → found_in id (completed f rows) ≡ cond (has_row id rows) (found_in id rows) (cond (contains id f.flags) (Some (default_row id)) None)
found_at_end f id rows = ap (found_in id) (completed_by_flags f rows) ∙ flags_completed id f.flags rows

-- no default is refused
flags_fine : (ns : List Text) (rows : List Row) → defaults_fault rows (map flag_rule ns) ≡ []
unfolding defaults_fault
flags_fine [] rows = refl
flags_fine (n ∷ ns) rows = by (has_row n rows) (flags_fine ns (with_default rows (flag_rule n)))
  where
    by : (t : Bool) → defaults_fault (with_default rows (flag_rule n)) (map flag_rule ns) ≡ []
        → or_else (cond (t || false) [] []) (defaults_fault (with_default rows (flag_rule n)) (map flag_rule ns)) ≡ []
    by true e = e
    by false e = e

no_default : (a : Rule) (rows : List Row) → length a.defaults ≡ 0 → default_fault rows a ≡ []
no_default a rows e = by (has_row a.id rows)
  where
    by : (t : Bool) → cond (t || (length a.defaults == 0)) [] (given_default_fault a a.defaults) ≡ []
    by true = refl
    by false = rw e refl

valued_fine : (ns : List Text) (more : List Rule) (rows : List Row) → ((rows : List Row) → defaults_fault rows more ≡ []) → defaults_fault rows (map valued_rule ns ++ more) ≡ []
unfolding defaults_fault
valued_fine [] more rows next = next rows
valued_fine (n ∷ ns) more rows next = rw (no_default (valued_rule n) rows refl) (valued_fine ns more (with_default rows (valued_rule n)) next)

words_fine : (k : ℕ) (ids : List Text) (more : List Rule) (rows : List Row) → ((rows : List Row) → defaults_fault rows more ≡ []) → defaults_fault rows (numbered k ids ++ more) ≡ []
unfolding defaults_fault
words_fine k [] more rows next = next rows
words_fine k (id ∷ ids) more rows next =
    rw (no_default (positional_rule (k + 1) id) rows refl) (words_fine (k + 1) ids more (with_default rows (positional_rule (k + 1) id)) next)

pub defaults_fine : (f : Syntax) (rows : List Row) → defaults_fault rows (rules_for f) ≡ []
defaults_fine f rows = words_fine 0 f.positional (option_rules f) rows (λ rows. valued_fine f.valued (map flag_rule f.flags) rows (flags_fine f.flags))

-- ---- the positional words are there

abbrev lacks : List Row → Rule → Bool
lacks rows a = a.required && not (is_given a.id rows)

words_lack : (k : ℕ) (ids : List Text) (more : List Rule) (rows : List Row) (ws : List Text) → list_any (lacks rows) more ≡ false
    → ((i : ℕ) (id : Text) → slice_get ids i ≡ Some id → is_given id rows ≡ is_some (slice_get ws (k + i))) → k ≤ length ws
    → list_any (lacks rows) (numbered k ids ++ more) ≡ not (nat_le (k + length ids) (length ws))
words_lack k [] more rows ws none given le = let yes : nat_le (k + 0) (length ws) ≡ true = grind arith in rw yes none
words_lack k (id ∷ ids) more rows ws none given le =
    by (slice_get ws k) refl (given 0 id refl ∙ ap (λ m. is_some (slice_get ws m)) (zero_on k))
    (λ lt. words_lack (k + 1) ids more rows ws none (λ i m e. given (suc i) m e ∙ ap (λ m. is_some (slice_get ws m)) (one_on k i)) lt)
  where
    zero_on : (n : ℕ) → n + 0 ≡ n
    zero_on n = omega arith

    one_on : (n i : ℕ) → n + suc i ≡ n + 1 + i
    one_on n i = omega arith

    by : (o : Option Text) → slice_get ws k ≡ o → is_given id rows ≡ is_some (slice_get ws k)
        → (k + 1 ≤ length ws → list_any (lacks rows) (numbered (k + 1) ids ++ more) ≡ not (nat_le (k + 1 + length ids) (length ws)))
        → (not (is_given id rows) || list_any (lacks rows) (numbered (k + 1) ids ++ more)) ≡ not (nat_le (k + suc (length ids)) (length ws))
    by None e here next =
        let out : length ws ≤ k = past_end ws k e in
        let no : nat_le (k + suc (length ids)) (length ws) ≡ false = grind arith in
        rw (here, e, no) refl
    by (Some w) e here next =
        let within : k < length ws = slice_get_within ws k w e in
        let on : k + 1 + length ids ≡ k + suc (length ids) = omega arith in
        rw (here, e) (next (omega arith) ∙ ap (λ m. not (nat_le m (length ws))) on)

pub last_check : (name : Text) (f : Syntax) (rows : List Row) (ws : List Text)
    → ((i : ℕ) (id : Text) → slice_get f.positional i ≡ Some id → is_given id rows ≡ is_some (slice_get ws i))
    → check_fault (shape_with name (rules_for f)) rows false ≡ cond (nat_le (length f.positional) (length ws)) [] (MissingRequiredArgument ∷ [])
last_check name f rows ws given =
    let none : list_any (lacks rows) (option_rules f) ≡ false = no_option_fits (lacks rows) (λ n. refl) (λ n. refl) f in
    let all : list_any (lacks rows) (rules_for f) ≡ not (nat_le (length f.positional) (length ws)) =
    words_lack 0 f.positional (option_rules f) rows ws none (λ i id e. given i id e ∙ ap (λ m. is_some (slice_get ws m)) (sym (no_more i))) (omega arith)
    ∙ ap (λ m. not (nat_le m (length ws))) (no_more (length f.positional)) in
    ap (λ b. cond b (MissingRequiredArgument ∷ []) []) all ∙ turned (nat_le (length f.positional) (length ws))
  where
    no_more : (i : ℕ) → 0 + i ≡ i
    no_more i = omega arith

    turned : (b : Bool) → cond (not b) (MissingRequiredArgument ∷ []) [] ≡ cond b [] (MissingRequiredArgument ∷ [])
    turned true = refl
    turned false = refl
