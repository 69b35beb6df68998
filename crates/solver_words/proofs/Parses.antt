-- clap answers exactly by the grammar.
use Rattle.std.proofs.Common.{◌≡◌, ◌∙◌, ◌+◌, ◌&&◌, ◌==◌, ◌||◌, ℕ, Bool, true, false, cond, refl, sym, ap, subst, List, [], ◌∷◌, length, Option, Some, None, option_map, is_some, arith, nat_le, true≢false, codes, IfSome}
use Rattle.std.specs.Prelude.{slice_get, option_and_then}
use Rattle.std.specs.Str.{bytes_eq}
use Rattle.clap.specs.Kinds.{Kinds, or_else}
use Rattle.clap.specs.Walk.{Row, has_row, first_of, row_text, walk, nothing_held, settled, walk_from, rows_after}
use Rattle.clap.specs.Simple.{App, matches_of, names_of}
use Rattle.clap.specs.Faults.{built_fault, level_fault, fault_of, check_fault, defaults_fault, settle_fault, walk_fault}
use Rattle.clap.specs.Takes.{is_given}
use Rattle.clap.specs.Facts.{explicit_source}
use Rattle.clap.specs.declared.error.kind.ErrorKind.TheVariants.{MissingRequiredArgument}
use Rattle.std.specs.Option.{option_map_or}
use Rattle.clap.proofs.FaultLemmas.{leaf_fault}
use Rattle.solver_words.specs.Grammar.{Text, Syntax, Argument, contains, words_of, setting_of, has_flag, arguments_of, option_names, differ, is_line, line_of}
use Rattle.solver_words.specs.Commands.{app_for, RowsTell}
use Rattle.solver_words.proofs.Agreeing.{RowsAgree}
use Rattle.solver_words.proofs.Rules.{given_row, shape_with}
use Rattle.solver_words.proofs.Names.{IsWellFormed, outside, there}
use Rattle.solver_words.proofs.Turns.{outcome, outcome-or_else, final, rests}
use Rattle.solver_words.proofs.Building.{built_is, fits, rules_for}
use Rattle.solver_words.proofs.Walks.{AreUtf8, rest, rows_from, walk_is}
use Rattle.solver_words.proofs.Lines.{cond_none, counted, found_in, flag_row, flags_found, keeps_nothing, arguments_of-proper, proper, runs, values_found, valued_no_flag, with_arguments, words_found}
use Rattle.solver_words.proofs.Ends.{completed, defaults_fine, default_row, found_at_end, found_none, last_check}

-- what the parse gives: the matches where there is no fault
abbrev pub parsed : Text → Syntax → List Text → Option (List Row)
parsed name f words = outcome (fault_of (app_for name f) words) (Some (matches_of (app_for name f) words))

-- what is made of the rows of the walk
abbrev checked : Text → Syntax → List Row → Option (List Row)
checked name f rows = outcome (check_fault (shape_with name (rules_for f)) (completed f rows) false) (Some (completed f rows))

-- the steps of a level, one after another
steps : (w t d c : Kinds) (r : List Row) (g : List Row → Option (List Row)) (x : Option (List Row)) → d ≡ [] → outcome c x ≡ g r
    → outcome (or_else w (or_else t (or_else d c))) x ≡ option_and_then g (outcome (or_else w t) (Some r))
steps [] [] d c r g x none e = outcome-or_else d c x ∙ ap (λ k. outcome k (outcome c x)) none ∙ e
steps [] (k ∷ ks) d c r g x none e = refl
steps (k ∷ ks) t d c r g x none e = refl

abbrev at_built : App → List Text → Option (List Row)
at_built b words = outcome (built_fault b nothing_held words) (Some (rows_after b.top.rules (names_of b) words))

parsed_is : (name : Text) (f : Syntax) → IsWellFormed f → (command : Text) (words : List Text)
    → parsed name f (command ∷ words) ≡ option_and_then (checked name f) (final (shape_with name (rules_for f)) (rests [] None 0) words)
parsed_is name f is command words =
    let s = shape_with name (rules_for f) in
    let b : App = record { top = s; subs = [] } in
    let end = (walk s.rules [] nothing_held words).held in
    let r = (settled s.rules end).rows in
    let leaf : at_built b words ≡ outcome (level_fault s [] nothing_held words false []) (Some (completed f r)) =
    ap (λ k. outcome k (Some (completed f r))) (leaf_fault b nothing_held words refl) in
    ap (λ a. at_built a words) (built_is name f is) ∙ leaf
    ∙ steps (walk_fault s [] (walk_from nothing_held) words) (settle_fault s.rules false end) (defaults_fault r s.rules) (check_fault s (completed f r) false) r (checked name f)
    (Some (completed f r)) (defaults_fine f r) refl

-- ---- what the matches hold

row_found : (id : Text) (rows : List Row) → has_row id rows ≡ true → found_in id rows ≡ None → ⊥
row_found id [] e none = true≢false (sym e)
row_found id (r ∷ rs) e none = by (bytes_eq r.id id) e none (λ a b. row_found id rs a b)
  where
    by : (t : Bool) → (t || has_row id rs) ≡ true → cond t (Some r) (found_in id rs) ≡ None → (has_row id rs ≡ true → found_in id rs ≡ None → ⊥) → ⊥
    by true e none next = absurd (cc)
    by false e none next = next e none

-- an id that is no flag's has no default
kept_at_end : (f : Syntax) (id : Text) (rows : List Row) → contains id f.flags ≡ false → found_in id (completed f rows) ≡ found_in id rows
kept_at_end f id rows out = found_at_end f id rows ∙ by (has_row id rows) refl
  where
    by : (t : Bool) → has_row id rows ≡ t → cond (has_row id rows) (found_in id rows) (cond (contains id f.flags) (Some (default_row id)) None) ≡ found_in id rows
    by true e = rw e refl
    by false e = rw (e, out, found_none id rows e) refl

flag_at_end : (f : Syntax) (id : Text) (rows : List Row) → contains id f.flags ≡ true → (b : Bool) → found_in id rows ≡ flag_row id b
    → found_in id (completed f rows) ≡ Some (cond b (given_row id (codes "true")) (default_row id))
flag_at_end f id rows here b found = found_at_end f id rows ∙ by (has_row id rows) refl b found
  where
    by : (t : Bool) → has_row id rows ≡ t → (b : Bool) → found_in id rows ≡ flag_row id b
        → cond (has_row id rows) (found_in id rows) (cond (contains id f.flags) (Some (default_row id)) None) ≡ Some (cond b (given_row id (codes "true")) (default_row id))
    by true e true h = rw e h
    by true e false h = absurd (row_found id rows e h)
    by false e true h = let none = found_none id rows e in absurd (cc)
    by false e false h = rw (e, here) refl

module _ (f : Syntax) (is : IsWellFormed f) (arguments : List Argument) (p : proper f arguments ≡ true) (rs : List Row) (from : rows_from f 0 arguments ≡ Some rs) where
  value_of : (id : Text) (v : Option Text) → contains id f.flags ≡ false → found_in id rs ≡ option_map (given_row id) v → first_of id (completed f rs) ≡ v
  value_of id v out found = ap (option_and_then (λ r. slice_get r.values 0)) (kept_at_end f id rs out ∙ found) ∙ by v
    where
      by : (v : Option Text) → option_and_then (λ r. slice_get r.values 0) (option_map (given_row id) v) ≡ v
      by None = refl
      by (Some t) = refl

  word_out : (i : ℕ) (id : Text) → slice_get f.positional i ≡ Some id → contains id f.flags ≡ false
  word_out i id at = outside f.flags f.positional is.not_flag id (there f.positional i id at)

  word_at : (i : ℕ) (id : Text) → slice_get f.positional i ≡ Some id → found_in id rs ≡ option_map (given_row id) (slice_get (words_of arguments) i)
  word_at i id at =
      let P : List Row → Type 0 = λ rows. found_in id rows ≡ option_map (given_row id) (slice_get (words_of arguments) i) in
      subst (λ o. IfSome o P) from (words_found f is arguments p 0 i id (ap (slice_get f.positional) (no_more i) ∙ at))
    where
      no_more : (i : ℕ) → 0 + i ≡ i
      no_more i = omega arith

  reads : RowsTell f arguments (completed f rs)
  reads = record {
    values = λ n here.
        let P : List Row → Type 0 = λ rows. found_in n rows ≡ option_map (given_row n) (setting_of n arguments) in
        value_of n (setting_of n arguments) (valued_no_flag f is n here) (subst (λ o. IfSome o P) from (values_found f is n here arguments p 0));
    flags = λ n here.
        let P : List Row → Type 0 = λ rows. found_in n rows ≡ flag_row n (has_flag n arguments) in
        ap (option_and_then row_text) (flag_at_end f n rs here (has_flag n arguments) (subst (λ o. IfSome o P) from (flags_found f is n here arguments p 0))) ∙ text n (has_flag n arguments);
    words = λ i id at. value_of id (slice_get (words_of arguments) i) (word_out i id at) (word_at i id at);
  }
    where
      text : (n : Text) (b : Bool) → row_text (cond b (given_row n (codes "true")) (default_row n)) ≡ Some (cond b (codes "true") (codes "false"))
      text n true = refl
      text n false = refl

  given : (i : ℕ) (id : Text) → slice_get f.positional i ≡ Some id → is_given id (completed f rs) ≡ is_some (slice_get (words_of arguments) i)
  given i id at = ap (λ o. option_map_or (λ r. explicit_source r.source) o false) (kept_at_end f id rs (word_out i id at) ∙ word_at i id at) ∙ by (slice_get (words_of arguments) i)
    where
      by : (o : Option Text) → option_map_or (λ r. explicit_source r.source) (option_map (given_row id) o) false ≡ is_some o
      by None = refl
      by (Some t) = refl

  checked_is : (name : Text) → checked name f rs ≡ cond (nat_le (length f.positional) (length (words_of arguments))) (Some (completed f rs)) None
  checked_is name = ap (λ k. outcome k (Some (completed f rs))) (last_check name f (completed f rs) (words_of arguments) given) ∙ by (nat_le (length f.positional) (length (words_of arguments)))
    where
      by : (b : Bool) → outcome (cond b [] (MissingRequiredArgument ∷ [])) (Some (completed f rs)) ≡ cond b (Some (completed f rs)) None
      by true = refl
      by false = refl

-- ---- the whole parse

abbrev Ends : Text → Syntax → List Argument → Option (List Row) → Type 0
Ends name f arguments o = RowsAgree f (cond (is_line f arguments) (Some arguments) None) (option_and_then (checked name f) o)

no_line : (name : Text) (f : Syntax) (arguments : List Argument) (o : Option (List Row)) → is_line f arguments ≡ false → option_and_then (checked name f) o ≡ None → Ends name f arguments o
no_line name f arguments o e none = rw e none

by_count : (name : Text) (f : Syntax) (is : IsWellFormed f) (arguments : List Argument) → proper f arguments ≡ true → (rs : List Row) → rows_from f 0 arguments ≡ Some rs → differ [] (option_names arguments) ≡ true
    → nat_le (length (words_of arguments)) (length f.positional) ≡ true → (t : Bool) → nat_le (length f.positional) (length (words_of arguments)) ≡ t → Ends name f arguments (Some rs)
by_count name f is arguments p rs from d below true e =
    let line : is_line f arguments ≡ true = let same : (length (words_of arguments) == length f.positional) ≡ true = grind arith in rw (d, same) refl in
    rw (line, checked_is f is arguments p rs from name, e) (completed f rs, refl, reads f is arguments p rs from)
by_count name f is arguments p rs from d below false e =
    let line : is_line f arguments ≡ false = let other : (length (words_of arguments) == length f.positional) ≡ false = grind arith in rw (d, other) refl in
    no_line name f arguments (Some rs) line (checked_is f is arguments p rs from name ∙ rw e refl)

and_false : (b : Bool) → (b && false) ≡ false
and_false true = refl
and_false false = refl

by_rows : (name : Text) (f : Syntax) (is : IsWellFormed f) (arguments : List Argument) → proper f arguments ≡ true → (o : Option (List Row)) → rows_from f 0 arguments ≡ o
    → is_some o ≡ nat_le (length (words_of arguments)) (length f.positional) → (t : Bool) → differ [] (option_names arguments) ≡ t → Ends name f arguments (with_arguments f 0 [] [] arguments)
by_rows name f is arguments p None from count d e =
    let other : (length (words_of arguments) == length f.positional) ≡ false = grind arith in
    let line : is_line f arguments ≡ false = rw other (and_false (differ [] (option_names arguments))) in
    let nothing : with_arguments f 0 [] [] arguments ≡ None = rw from (sym (cond_none (differ [] (option_names arguments)))) in
    no_line name f arguments (with_arguments f 0 [] [] arguments) line (ap (option_and_then (checked name f)) nothing)
by_rows name f is arguments p (Some rs) from count false e =
    let line : is_line f arguments ≡ false = rw e refl in
    let nothing : with_arguments f 0 [] [] arguments ≡ None = rw e refl in
    no_line name f arguments (with_arguments f 0 [] [] arguments) line (ap (option_and_then (checked name f)) nothing)
by_rows name f is arguments p (Some rs) from count true e =
    let all : with_arguments f 0 [] [] arguments ≡ Some rs = rw (e, from) refl in
    rw all (by_count name f is arguments p rs from e (sym count) (nat_le (length f.positional) (length (words_of arguments))) refl)

by_arguments : (name : Text) (f : Syntax) (is : IsWellFormed f) (q : Option (List Argument)) → IfSome q (λ arguments. proper f arguments ≡ true)
    → RowsAgree f (option_and_then (λ arguments. cond (is_line f arguments) (Some arguments) None) q) (option_and_then (checked name f) (rest f 0 q []))
by_arguments name f is None p = refl
by_arguments name f is (Some arguments) p =
    subst (λ o. Ends name f arguments o) (sym (runs f is arguments p 0 [] [] (keeps_nothing f)))
    (by_rows name f is arguments p (rows_from f 0 arguments) refl (counted f arguments 0 (omega arith) ∙ ap (λ m. nat_le m (length f.positional)) (no_more (length (words_of arguments)))) (differ [] (option_names arguments)) refl)
  where
    no_more : (i : ℕ) → 0 + i ≡ i
    no_more i = omega arith

-- clap's answer is the grammar's
pub parses : (name : Text) (f : Syntax) → IsWellFormed f → (command : Text) (words : List Text) → AreUtf8 words → RowsAgree f (line_of f words) (parsed name f (command ∷ words))
parses name f is command words u =
    subst (RowsAgree f (line_of f words)) (sym (parsed_is name f is command words ∙ ap (option_and_then (checked name f)) (walk_is name f (rules_for f) (fits f is) words u)))
    (by_arguments name f is (arguments_of f words None) (arguments_of-proper f words))
