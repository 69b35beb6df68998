-- What the arguments make of the rows, and what clap answers at the end.
use Rattle.std.proofs.Common.{◌≡◌, ◌∙◌, ◌+◌, ◌≤◌, ◌<◌, ◌&&◌, ◌||◌, ℕ, Bool, true, false, cond, refl, sym, ap, subst, zero, suc, List, [], ◌∷◌, ◌++◌, map, length, Option, Some, None, option_map, is_some, arith, nat_le, true≢false, codes, append-nil, append_assoc, IfSome}
use Rattle.std.specs.Prelude.{slice_get, option_and_then}
use Rattle.std.specs.List.{find}
use Rattle.std.specs.Str.{bytes_eq}
use Rattle.std.proofs.lemmas.Option.{slice_get_within}
use Rattle.clap.specs.Walk.{Row, has_row}
use Rattle.solver_words.specs.Grammar.{Text, Syntax, Argument, word, setting, flag, contains, followed, from_option, is_option_word, option_parts, arguments_of, option_names, words_of, setting_of, has_flag, differ}
use Rattle.solver_words.proofs.Rules.{given_row}
use Rattle.solver_words.proofs.Names.{IsWellFormed, same_bytes, are_same, two_names, both, absent, differs, outside, places, there}
use Rattle.solver_words.proofs.Turns.{added}
use Rattle.solver_words.proofs.Walks.{rows_from, word_row, run_all, run_more}

-- ---- each option is one of the command's

abbrev pub proper : Syntax → List Argument → Bool
proper f [] = true
proper f (word w ∷ arguments) = proper f arguments
proper f (setting n v ∷ arguments) = contains n f.valued && proper f arguments
proper f (flag n ∷ arguments) = contains n f.flags && proper f arguments

abbrev IsProper : Syntax → Option (List Argument) → Type 0
IsProper f o = IfSome o (λ arguments. proper f arguments ≡ true)

proper_words : (f : Syntax) (ws : List Text) → proper f (map word ws) ≡ true
proper_words f [] = refl
proper_words f (w ∷ ws) = proper_words f ws

proper_setting : (f : Syntax) (n v : Text) (o : Option (List Argument)) → contains n f.valued ≡ true → IsProper f o → IsProper f (followed (setting n v) o)
proper_setting f n v None here h = tt
proper_setting f n v (Some arguments) here h = rw here h

proper_flag : (f : Syntax) (n : Text) (o : Option (List Argument)) → contains n f.flags ≡ true → IsProper f o → IsProper f (followed (flag n) o)
proper_flag f n None here h = tt
proper_flag f n (Some arguments) here h = rw here h

proper_word : (f : Syntax) (w : Text) (o : Option (List Argument)) → IsProper f o → IsProper f (followed (word w) o)
proper_word f w None h = tt
proper_word f w (Some arguments) h = h

proper_option : (f : Syntax) (parts : Option (Text × Option Text)) (next : Option Text → Option (List Argument)) → IsProper f (next None)
    → ((n : Text) → contains n f.valued ≡ true → IsProper f (next (Some n))) → IsProper f (from_option f parts next)
proper_option f None next resting waiting = tt
proper_option f (Some p) next resting waiting = by p.1 (contains p.0 f.valued) (contains p.0 f.flags) refl refl
  where
    by : (v : Option Text) (a b : Bool) → contains p.0 f.valued ≡ a → contains p.0 f.flags ≡ b → IsProper f (from_option f (Some (p.0, v)) next)
    by (Some v) true b e h = rw e (proper_setting f p.0 v (next None) e resting)
    by (Some v) false b e h = rw e tt
    by None true b e h = rw e (waiting p.0 e)
    by None false true e h = rw (e, h) (proper_flag f p.0 (next None) h resting)
    by None false false e h = rw (e, h) tt

proper_cases : (f : Syntax) (w : Text) (ws : List Text) (a b : Bool) → bytes_eq w (codes "--") ≡ a → is_option_word w ≡ b → IsProper f (arguments_of f ws None)
    → ((n : Text) → contains n f.valued ≡ true → IsProper f (arguments_of f ws (Some n))) → IsProper f (arguments_of f (w ∷ ws) None)
unfolding arguments_of
proper_cases f w ws true b e h resting waiting = rw e (proper_words f ws)
proper_cases f w ws false true e h resting waiting = rw (e, h) (proper_option f (option_parts w) (arguments_of f ws) resting waiting)
proper_cases f w ws false false e h resting waiting = rw (e, h) (proper_word f w (arguments_of f ws None) resting)

proper_value : (f : Syntax) (w n : Text) (ws : List Text) (b : Bool) → is_option_word w ≡ b → contains n f.valued ≡ true → IsProper f (arguments_of f ws None) → IsProper f (arguments_of f (w ∷ ws) (Some n))
unfolding arguments_of
proper_value f w n ws true h here resting = rw h tt
proper_value f w n ws false h here resting = rw h (proper_setting f n w (arguments_of f ws None) here resting)

are_proper : (f : Syntax) (ws : List Text) → IsProper f (arguments_of f ws None) × ((n : Text) → contains n f.valued ≡ true → IsProper f (arguments_of f ws (Some n)))
unfolding arguments_of
are_proper f [] = (refl, λ n here. tt)
are_proper f (w ∷ ws) =
    let next = are_proper f ws in
    (proper_cases f w ws (bytes_eq w (codes "--")) (is_option_word w) refl refl next.0 next.1, λ n here. proper_value f w n ws (is_option_word w) refl here next.0)

pub arguments_of-proper : (f : Syntax) (ws : List Text) → IfSome (arguments_of f ws None) (λ arguments. proper f arguments ≡ true)
arguments_of-proper f ws = (are_proper f ws).0

-- ---- an id comes again exactly where its option does

pub has_row-more : (n : Text) (r : Row) (rows : List Row) → has_row n (rows ++ r ∷ []) ≡ (has_row n rows || bytes_eq r.id n)
has_row-more n r [] = or_false (bytes_eq r.id n)
  where
    or_false : (b : Bool) → (b || false) ≡ b
    or_false true = refl
    or_false false = refl
has_row-more n r (x ∷ xs) = ap (λ b. bytes_eq x.id n || b) (has_row-more n r xs) ∙ or_assoc (bytes_eq x.id n) (has_row n xs) (bytes_eq r.id n)
  where
    or_assoc : (a b c : Bool) → (a || (b || c)) ≡ ((a || b) || c)
    or_assoc true b c = refl
    or_assoc false b c = refl

or_comm : (a b : Bool) → (a || b) ≡ (b || a)
or_comm true true = refl
or_comm true false = refl
or_comm false true = refl
or_comm false false = refl

-- the rows so far have the options that were seen, and no positional word from k on
pub record Keeps (f : Syntax) (k : ℕ) (seen : List Text) (rows : List Row) : Type 0 where
  pub options : (n : Text) → contains n f.positional ≡ false → has_row n rows ≡ contains n seen
  pub words : (j : ℕ) (id : Text) → k ≤ j → slice_get f.positional j ≡ Some id → has_row id rows ≡ false

pub keeps_nothing : (f : Syntax) → Keeps f 0 [] []
keeps_nothing f = record { options = λ n out. refl; words = λ j id lt e. refl }

module _ (f : Syntax) (is : IsWellFormed f) (k : ℕ) (seen : List Text) (rows : List Row) (keeps : Keeps f k seen rows) where
  keeps_word : (id w : Text) → slice_get f.positional k ≡ Some id → Keeps f (k + 1) seen (rows ++ given_row id w ∷ [])
  keeps_word id w at = record {
    options = λ n out.
        let miss : bytes_eq id n ≡ false = differs f.positional id n (there f.positional k id at) out in
        has_row-more n (given_row id w) rows ∙ rw (miss, keeps.options n out) (right_false (contains n seen));
    words = λ j m lt e.
        let miss : bytes_eq id m ≡ false = places f.positional is.own k j id m (omega arith) at e in
        has_row-more m (given_row id w) rows ∙ rw (miss, keeps.words j m (omega arith) e) refl;
  }
    where
      right_false : (b : Bool) → (b || false) ≡ b
      right_false true = refl
      right_false false = refl

  keeps_option : (n v : Text) → contains n f.positional ≡ false → Keeps f k (n ∷ seen) (rows ++ given_row n v ∷ [])
  keeps_option n v out = record {
    options = λ m out_m. has_row-more m (given_row n v) rows ∙ ap (λ b. b || bytes_eq n m) (keeps.options m out_m) ∙ or_comm (contains m seen) (bytes_eq n m);
    words = λ j m lt e.
        let miss : bytes_eq n m ≡ false = two_names m n false (differs f.positional m n (there f.positional j m e) out) in
        has_row-more m (given_row n v) rows ∙ rw (miss, keeps.words j m lt e) refl;
  }

-- an option of the command is no positional word
pub valued_out : (f : Syntax) → IsWellFormed f → (n : Text) → contains n f.valued ≡ true → contains n f.positional ≡ false
valued_out f is n here = absent f is n here

pub flag_out : (f : Syntax) → IsWellFormed f → (n : Text) → contains n f.flags ≡ true → contains n f.positional ≡ false
flag_out f is n here = by (contains n f.positional) refl
  where
    by : (t : Bool) → contains n f.positional ≡ t → contains n f.positional ≡ false
    by false e = e
    by true e = absurd (true≢false (sym here ∙ outside f.flags f.positional is.not_flag n e))

-- an option without a value is none with one
pub flag_no_value : (f : Syntax) → IsWellFormed f → (n : Text) → contains n f.flags ≡ true → contains n f.valued ≡ false
flag_no_value f is n here = by (contains n f.valued) refl
  where
    by : (t : Bool) → contains n f.valued ≡ t → contains n f.valued ≡ false
    by false e = e
    by true e = absurd (true≢false (sym here ∙ outside f.flags f.valued is.valued_not_flag n e))

pub valued_no_flag : (f : Syntax) → IsWellFormed f → (n : Text) → contains n f.valued ≡ true → contains n f.flags ≡ false
valued_no_flag f is n here = outside f.flags f.valued is.valued_not_flag n here

-- ---- the run over the arguments

-- the rows, with those of the arguments after them, where no option is one that was seen
abbrev pub with_arguments : Syntax → ℕ → List Text → List Row → List Argument → Option (List Row)
with_arguments f k seen rows arguments = cond (differ seen (option_names arguments)) (option_map (λ rs. rows ++ rs) (rows_from f k arguments)) None

pub cond_none : {X : Type 0} (b : Bool) → ◌≡◌ {A = Option X} None (cond b None None)
cond_none true = refl
cond_none false = refl

regroup : (rows : List Row) (r : Row) (o : Option (List Row)) → option_map (λ rs. (rows ++ r ∷ []) ++ rs) o ≡ option_map (λ rs. rows ++ rs) (option_map (λ rs. r ∷ rs) o)
regroup rows r None = refl
regroup rows r (Some rs) = ap Some (append_assoc rows (r ∷ []) rs)

module _ (f : Syntax) (is : IsWellFormed f) where
  abbrev pub Runs : List Argument → Type 0
  Runs arguments = (k : ℕ) (seen : List Text) (rows : List Row) → Keeps f k seen rows → run_all (rows_from f k arguments) rows ≡ with_arguments f k seen rows arguments

  runs_word : (w : Text) (arguments : List Argument) → Runs arguments → (k : ℕ) (seen : List Text) (rows : List Row) → Keeps f k seen rows → (o : Option Text) → slice_get f.positional k ≡ o
      → run_all (rows_from f k (word w ∷ arguments)) rows ≡ with_arguments f k seen rows (word w ∷ arguments)
  runs_word w arguments next k seen rows keeps None at = rw at (cond_none (differ seen (option_names arguments)))
  runs_word w arguments next k seen rows keeps (Some id) at =
      let new : has_row id rows ≡ false = keeps.words k id (omega arith) at in
      let here : added (given_row id w) rows ≡ Some (rows ++ given_row id w ∷ []) = rw new refl in
      rw at (run_more (given_row id w) rows (rows_from f (k + 1) arguments) ∙ ap (option_and_then (run_all (rows_from f (k + 1) arguments))) here
      ∙ next (k + 1) seen (rows ++ given_row id w ∷ []) (keeps_word f is k seen rows keeps id w at)
      ∙ ap (λ o. cond (differ seen (option_names arguments)) o None) (regroup rows (given_row id w) (rows_from f (k + 1) arguments)))

  -- the same for an option, with its value or `true`
  runs_option : (n v : Text) (arguments : List Argument) → Runs arguments → (k : ℕ) (seen : List Text) (rows : List Row) → Keeps f k seen rows → contains n f.positional ≡ false
      → (b : Bool) → contains n seen ≡ b → run_all (option_map (λ rs. given_row n v ∷ rs) (rows_from f k arguments)) rows
      ≡ cond (differ seen (n ∷ option_names arguments)) (option_map (λ rs. rows ++ rs) (option_map (λ rs. given_row n v ∷ rs) (rows_from f k arguments))) None
  runs_option n v arguments next k seen rows keeps out true e =
      let here : added (given_row n v) rows ≡ None = rw (keeps.options n out, e) refl in
      rw e (run_more (given_row n v) rows (rows_from f k arguments) ∙ ap (option_and_then (run_all (rows_from f k arguments))) here)
  runs_option n v arguments next k seen rows keeps out false e =
      let here : added (given_row n v) rows ≡ Some (rows ++ given_row n v ∷ []) = rw (keeps.options n out, e) refl in
      rw e (run_more (given_row n v) rows (rows_from f k arguments) ∙ ap (option_and_then (run_all (rows_from f k arguments))) here
      ∙ next k (n ∷ seen) (rows ++ given_row n v ∷ []) (keeps_option f is k seen rows keeps n v out)
      ∙ ap (λ o. cond (differ (n ∷ seen) (option_names arguments)) o None) (regroup rows (given_row n v) (rows_from f k arguments)))

  pub runs : (arguments : List Argument) → proper f arguments ≡ true → Runs arguments
  runs [] p k seen rows keeps = ap Some (sym (append-nil rows))
  runs (word w ∷ arguments) p k seen rows keeps = runs_word w arguments (runs arguments p) k seen rows keeps (slice_get f.positional k) refl
  runs (setting n v ∷ arguments) p k seen rows keeps =
      let parts = both (contains n f.valued) _ p in
      runs_option n v arguments (runs arguments parts.1) k seen rows keeps (valued_out f is n parts.0) (contains n seen) refl
  runs (flag n ∷ arguments) p k seen rows keeps =
      let parts = both (contains n f.flags) _ p in
      runs_option n (codes "true") arguments (runs arguments parts.1) k seen rows keeps (flag_out f is n parts.0) (contains n seen) refl

-- ---- what is found in the rows

abbrev pub flag_row : Text → Bool → Option Row
flag_row n b = cond b (Some (given_row n (codes "true"))) None

abbrev pub found_in : Text → List Row → Option Row
found_in id rows = find (λ r. bytes_eq r.id id) rows

module _ (f : Syntax) (is : IsWellFormed f) where
  -- a word's row is none of these
  past_word : (n w : Text) (k : ℕ) (o : Option Text) (rows : Option (List Row)) (P : Option Row → Type 0) → ((id : Text) → o ≡ Some id → bytes_eq id n ≡ false)
      → IfSome rows (λ rs. P (found_in n rs)) → IfSome (word_row o w rows) (λ rs. P (found_in n rs))
  past_word n w k None rows P miss h = tt
  past_word n w k (Some id) None P miss h = tt
  past_word n w k (Some id) (Some rs) P miss h = rw (miss id refl) h

  past_option : (n m v : Text) (rows : Option (List Row)) (P : Option Row → Type 0) → bytes_eq m n ≡ false
      → IfSome rows (λ rs. P (found_in n rs)) → IfSome (option_map (λ rs. given_row m v ∷ rs) rows) (λ rs. P (found_in n rs))
  past_option n m v None P miss h = tt
  past_option n m v (Some rs) P miss h = rw miss h

  at_option : (n m v : Text) (rows : Option (List Row)) (P : Option Row → Type 0) → bytes_eq m n ≡ true → P (Some (given_row n v))
      → IfSome (option_map (λ rs. given_row m v ∷ rs) rows) (λ rs. P (found_in n rs))
  at_option n m v None P hit h = tt
  at_option n m v (Some rs) P hit h = rw hit (subst (λ z. P (Some (given_row z v))) (sym (are_same m n hit)) h)

  -- the value of an option
  pub values_found : (n : Text) → contains n f.valued ≡ true → (arguments : List Argument) → proper f arguments ≡ true → (k : ℕ)
      → IfSome (rows_from f k arguments) (λ rs. found_in n rs ≡ option_map (given_row n) (setting_of n arguments))
  values_found n here [] p k = refl
  values_found n here (word w ∷ arguments) p k =
      past_word n w k (slice_get f.positional k) (rows_from f (k + 1) arguments) (λ o. o ≡ option_map (given_row n) (setting_of n arguments))
      (λ id at. differs f.positional id n (there f.positional k id at) (valued_out f is n here)) (values_found n here arguments p (k + 1))
  values_found n here (setting m v ∷ arguments) p k = by (bytes_eq m n) refl (values_found n here arguments (both (contains m f.valued) _ p).1 k)
    where
      by : (t : Bool) → bytes_eq m n ≡ t → IfSome (rows_from f k arguments) (λ rs. found_in n rs ≡ option_map (given_row n) (setting_of n arguments))
          → IfSome (rows_from f k (setting m v ∷ arguments)) (λ rs. found_in n rs ≡ option_map (given_row n) (setting_of n (setting m v ∷ arguments)))
      by true e h = rw e (at_option n m v (rows_from f k arguments) (λ o. o ≡ Some (given_row n v)) e refl)
      by false e h = rw e (past_option n m v (rows_from f k arguments) (λ o. o ≡ option_map (given_row n) (setting_of n arguments)) e h)
  values_found n here (flag m ∷ arguments) p k =
      let parts = both (contains m f.flags) _ p in
      let miss = two_names n m false (differs f.valued n m here (flag_no_value f is m parts.0)) in
      past_option n m (codes "true") (rows_from f k arguments) (λ o. o ≡ option_map (given_row n) (setting_of n arguments)) miss (values_found n here arguments parts.1 k)

  pub flags_found : (n : Text) → contains n f.flags ≡ true → (arguments : List Argument) → proper f arguments ≡ true → (k : ℕ)
      → IfSome (rows_from f k arguments) (λ rs. found_in n rs ≡ flag_row n (has_flag n arguments))
  flags_found n here [] p k = refl
  flags_found n here (word w ∷ arguments) p k =
      past_word n w k (slice_get f.positional k) (rows_from f (k + 1) arguments) (λ o. o ≡ flag_row n (has_flag n arguments))
      (λ id at. differs f.positional id n (there f.positional k id at) (flag_out f is n here)) (flags_found n here arguments p (k + 1))
  flags_found n here (setting m v ∷ arguments) p k =
      let parts = both (contains m f.valued) _ p in
      let miss = differs f.valued m n parts.0 (flag_no_value f is n here) in
      past_option n m v (rows_from f k arguments) (λ o. o ≡ flag_row n (has_flag n arguments)) miss (flags_found n here arguments parts.1 k)
  flags_found n here (flag m ∷ arguments) p k = by (bytes_eq m n) refl (flags_found n here arguments (both (contains m f.flags) _ p).1 k)
    where
      by : (t : Bool) → bytes_eq m n ≡ t → IfSome (rows_from f k arguments) (λ rs. found_in n rs ≡ flag_row n (has_flag n arguments))
          → IfSome (rows_from f k (flag m ∷ arguments)) (λ rs. found_in n rs ≡ flag_row n (has_flag n (flag m ∷ arguments)))
      by true e h = rw e (at_option n m (codes "true") (rows_from f k arguments) (λ o. o ≡ Some (given_row n (codes "true"))) e refl)
      by false e h = rw e (past_option n m (codes "true") (rows_from f k arguments) (λ o. o ≡ flag_row n (has_flag n arguments)) e h)

  -- the positional words, from place k on
  pub words_found : (arguments : List Argument) → proper f arguments ≡ true → (k i : ℕ) (id : Text) → slice_get f.positional (k + i) ≡ Some id
      → IfSome (rows_from f k arguments) (λ rs. found_in id rs ≡ option_map (given_row id) (slice_get (words_of arguments) i))
  words_found [] p k i id at = refl
  words_found (word w ∷ arguments) p k zero id at = first (slice_get f.positional k) (rows_from f (k + 1) arguments) (sym (ap (slice_get f.positional) (zero_on k)) ∙ at)
    where
      zero_on : (n : ℕ) → n + 0 ≡ n
      zero_on n = omega arith

      first : (o : Option Text) (rows : Option (List Row)) → o ≡ Some id → IfSome (word_row o w rows) (λ rs. found_in id rs ≡ Some (given_row id w))
      first None rows e = tt
      first (Some m) None e = tt
      first (Some m) (Some rs) e =
          let same : m ≡ id = cc in
          let hit : bytes_eq m id ≡ true = subst (λ z. bytes_eq m z ≡ true) same (same_bytes m) in
          rw hit (ap (λ z. Some (given_row z w)) same)
  words_found (word w ∷ arguments) p k (suc i) id at =
      let on : k + suc i ≡ k + 1 + i = omega arith in
      past_word id w k (slice_get f.positional k) (rows_from f (k + 1) arguments) (λ o. o ≡ option_map (given_row id) (slice_get (words_of arguments) i))
      (λ m e. places f.positional is.own k (k + suc i) m id (omega arith) e at) (words_found arguments p (k + 1) i id (sym (ap (slice_get f.positional) on) ∙ at))
  words_found (setting m v ∷ arguments) p k i id at =
      let parts = both (contains m f.valued) _ p in
      let miss = two_names id m false (differs f.positional id m (there f.positional (k + i) id at) (valued_out f is m parts.0)) in
      past_option id m v (rows_from f k arguments) (λ o. o ≡ option_map (given_row id) (slice_get (words_of arguments) i)) miss (words_found arguments parts.1 k i id at)
  words_found (flag m ∷ arguments) p k i id at =
      let parts = both (contains m f.flags) _ p in
      let miss = two_names id m false (differs f.positional id m (there f.positional (k + i) id at) (flag_out f is m parts.0)) in
      past_option id m (codes "true") (rows_from f k arguments) (λ o. o ≡ option_map (given_row id) (slice_get (words_of arguments) i)) miss (words_found arguments parts.1 k i id at)

-- there are rows exactly where the positional words have names
some_map : {X Y : Type 0} (g : X → Y) (o : Option X) → is_some (option_map g o) ≡ is_some o
some_map g None = refl
some_map g (Some x) = refl

pub past_end : (xs : List Text) (k : ℕ) → slice_get xs k ≡ None → length xs ≤ k
past_end [] k e = omega arith
past_end (x ∷ xs) zero e = absurd (cc)
past_end (x ∷ xs) (suc k) e = let h = past_end xs k e in omega arith

pub counted : (f : Syntax) (arguments : List Argument) (k : ℕ) → k ≤ length f.positional → is_some (rows_from f k arguments) ≡ nat_le (k + length (words_of arguments)) (length f.positional)
counted f [] k le = grind arith
counted f (setting n v ∷ arguments) k le = some_map _ (rows_from f k arguments) ∙ counted f arguments k le
counted f (flag n ∷ arguments) k le = some_map _ (rows_from f k arguments) ∙ counted f arguments k le
counted f (word w ∷ arguments) k le = by (slice_get f.positional k) refl (λ lt. counted f arguments (k + 1) lt)
  where
    by : (o : Option Text) → slice_get f.positional k ≡ o → (k + 1 ≤ length f.positional → is_some (rows_from f (k + 1) arguments) ≡ nat_le (k + 1 + length (words_of arguments)) (length f.positional))
        → is_some (rows_from f k (word w ∷ arguments)) ≡ nat_le (k + suc (length (words_of arguments))) (length f.positional)
    by None e next =
        let out : length f.positional ≤ k = past_end f.positional k e in
        let no : nat_le (k + suc (length (words_of arguments))) (length f.positional) ≡ false = grind arith in
        rw (e, no) refl
    by (Some id) e next =
        let within : k < length f.positional = slice_get_within f.positional k id e in
        let on : k + 1 + length (words_of arguments) ≡ k + suc (length (words_of arguments)) = omega arith in
        rw e (some_map _ (rows_from f (k + 1) arguments) ∙ next (omega arith) ∙ ap (λ m. nat_le m (length f.positional)) on)
