-- The whole walk of clap over the words of a line.
use Rattle.std.proofs.Common.{◌≡◌, ◌∙◌, ◌+◌, ℕ, Bool, cond, true, false, refl, sym, ap, List, [], ◌∷◌, ◌++◌, map, Option, Some, None, option_map, codes}
use Rattle.std.specs.Prelude.{slice_get, option_and_then}
use Rattle.std.specs.Str.{IsUtf8, bytes_eq}
use Rattle.clap.specs.Walk.{Row, Rule, Waiting, idle, option, has_row}
use Rattle.clap.specs.Lexer.{long_of, short_of}
use Rattle.clap.specs.Simple.{Shape}
use Rattle.solver_words.specs.Grammar.{Text, Syntax, Argument, word, setting, flag, contains, followed, from_option, arguments_of}
use Rattle.solver_words.proofs.WordKinds.{Kind, dashes, long, short, plain, kind_of}
use Rattle.solver_words.proofs.Rules.{Fits, shape_with, given_row}
use Rattle.solver_words.proofs.Turns.{added, final, final-nil, final-cons, settled_as, holds, stands, rests, waits_for, dashes_turn, attached_turn, waits_turn, flag_turn, valued_flag_turn, unknown_turn, short_turn, trailing_turn, trailing_stray, word_turn, stray_turn, value_turn, no_value_turn, waits_dashes_turn, waits_settled, valued_settled, positional_settled}

-- each word is text
abbrev pub AreUtf8 : List Text → Type 0
AreUtf8 [] = Unit {0}
AreUtf8 (x ∷ xs) = IsUtf8 x × AreUtf8 xs

-- the rows of the arguments, with k positional words before them
abbrev pub word_row : Option Text → Text → Option (List Row) → Option (List Row)
word_row None w rows = None
word_row (Some id) w rows = option_map (λ rs. given_row id w ∷ rs) rows

abbrev pub rows_from : Syntax → ℕ → List Argument → Option (List Row)
rows_from f k [] = Some []
rows_from f k (word w ∷ arguments) = word_row (slice_get f.positional k) w (rows_from f (k + 1) arguments)
rows_from f k (setting n v ∷ arguments) = option_map (λ rs. given_row n v ∷ rs) (rows_from f k arguments)
rows_from f k (flag n ∷ arguments) = option_map (λ rs. given_row n (codes "true") ∷ rs) (rows_from f k arguments)

-- the rows with these after them, where no id comes again
abbrev pub run : List Row → List Row → Option (List Row)
run [] rows = Some rows
run (r ∷ rs) rows = cond (has_row r.id rows) None (run rs (rows ++ r ∷ []))

abbrev pub run_all : Option (List Row) → List Row → Option (List Row)
run_all o rows = option_and_then (λ rs. run rs rows) o

-- what the arguments make of the rows
abbrev pub rest : Syntax → ℕ → Option (List Argument) → List Row → Option (List Row)
rest f k arguments rows = option_and_then (λ arguments. run_all (rows_from f k arguments) rows) arguments

-- ---- options

pub then_same : {X Y : Type 0} (a b : X → Option Y) → ((x : X) → a x ≡ b x) → (o : Option X) → option_and_then a o ≡ option_and_then b o
then_same a b e None = refl
then_same a b e (Some x) = e x

pub then_some : {X : Type 0} (o : Option X) → o ≡ option_and_then (λ x. Some x) o
then_some None = refl
then_some (Some x) = refl

pub then_none : {X Y : Type 0} (o : Option X) → ◌≡◌ {A = Option Y} None (option_and_then (λ x. None) o)
then_none None = refl
then_none (Some x) = refl

run_none : (r : Row) (rows : List Row) (t : Bool) → has_row r.id rows ≡ t → ◌≡◌ {A = Option (List Row)} None (option_and_then (λ u. None) (added r rows))
run_none r rows true e = rw e refl
run_none r rows false e = rw e refl

run_some : (r : Row) (rows rs : List Row) (t : Bool) → has_row r.id rows ≡ t → run (r ∷ rs) rows ≡ option_and_then (λ u. run rs u) (added r rows)
run_some r rows rs true e = rw e refl
run_some r rows rs false e = rw e refl

-- one row more, at the front
pub run_more : (r : Row) (rows : List Row) (o : Option (List Row)) → run_all (option_map (λ rs. r ∷ rs) o) rows ≡ option_and_then (run_all o) (added r rows)
run_more r rows None = run_none r rows (has_row r.id rows) refl
run_more r rows (Some rs) = run_some r rows rs (has_row r.id rows) refl

module _ (f : Syntax) (rows : List Row) (k : ℕ) where
  setting_rest : (n v : Text) (arguments : Option (List Argument)) → rest f k (followed (setting n v) arguments) rows ≡ option_and_then (rest f k arguments) (added (given_row n v) rows)
  setting_rest n v None = run_none (given_row n v) rows (has_row n rows) refl
  setting_rest n v (Some arguments) = run_more (given_row n v) rows (rows_from f k arguments)

  flag_rest : (n : Text) (arguments : Option (List Argument)) → rest f k (followed (flag n) arguments) rows ≡ option_and_then (rest f k arguments) (added (given_row n (codes "true")) rows)
  flag_rest n None = run_none (given_row n (codes "true")) rows (has_row n rows) refl
  flag_rest n (Some arguments) = run_more (given_row n (codes "true")) rows (rows_from f k arguments)

  word_rest : (id x : Text) (arguments : Option (List Argument)) → slice_get f.positional k ≡ Some id
      → rest f k (followed (word x) arguments) rows ≡ option_and_then (rest f (k + 1) arguments) (added (given_row id x) rows)
  word_rest id x None at = run_none (given_row id x) rows (has_row id rows) refl
  word_rest id x (Some arguments) at = rw at (run_more (given_row id x) rows (rows_from f (k + 1) arguments))

  stray_rest : (x : Text) (arguments : Option (List Argument)) → slice_get f.positional k ≡ None → rest f k (followed (word x) arguments) rows ≡ None
  stray_rest x None at = refl
  stray_rest x (Some arguments) at = rw at refl

-- ---- the walk

module _ (name : Text) (f : Syntax) (c : List Rule) (fits : Fits f c) where
  abbrev s : Shape
  s = shape_with name c

  trails_by : (x : Text) (xs : List Text) (waiting : Waiting) (rows : List Row) (p : Option (Text × List Text)) (k : ℕ) (o : Option Text) → slice_get f.positional k ≡ o
      → ((id : Text) (r : List Row) → slice_get f.positional k ≡ Some id → final s (stands true idle r (Some (id, x ∷ [])) (k + 1)) xs
      ≡ option_and_then (rest f (k + 1) (Some (map word xs))) (settled_as c (holds r (Some (id, x ∷ [])))))
      → final s (stands true waiting rows p k) (x ∷ xs) ≡ option_and_then (rest f k (Some (word x ∷ map word xs))) (settled_as c (holds rows p))
  trails_by x xs waiting rows p k None at next =
      final-cons s (stands true waiting rows p k) x xs ∙ trailing_stray name f c fits (λ v. final s v xs) x waiting rows p k at
      ∙ then_none (settled_as c (holds rows p)) ∙ then_same _ _ (λ r. sym (stray_rest f r k x (Some (map word xs)) at)) (settled_as c (holds rows p))
  trails_by x xs waiting rows p k (Some id) at next =
      final-cons s (stands true waiting rows p k) x xs ∙ trailing_turn name f c fits (λ v. final s v xs) x waiting rows p k id at
      ∙ then_same _ _ (λ r. next id r at ∙ ap (option_and_then (rest f (k + 1) (Some (map word xs)))) (positional_settled f c fits x r k id at)
      ∙ sym (word_rest f r k id x (Some (map word xs)) at)) (settled_as c (holds rows p))

  -- after `--`
  trails : (xs : List Text) (waiting : Waiting) (rows : List Row) (p : Option (Text × List Text)) (k : ℕ)
      → final s (stands true waiting rows p k) xs ≡ option_and_then (rest f k (Some (map word xs))) (settled_as c (holds rows p))
  trails [] waiting rows p k = final-nil s (stands true waiting rows p k) ∙ then_some (settled_as c (holds rows p))
  trails (x ∷ xs) waiting rows p k = trails_by x xs waiting rows p k (slice_get f.positional k) refl (λ id r at. trails xs idle r (Some (id, x ∷ [])) (k + 1))

  -- what the walk comes to from between two words, and from an option that waits for its value
  abbrev Rests : List Text → Type 0
  Rests xs = (rows : List Row) (p : Option (Text × List Text)) (k : ℕ) → final s (rests rows p k) xs ≡ option_and_then (rest f k (arguments_of f xs None)) (settled_as c (holds rows p))

  abbrev Waits : List Text → Type 0
  Waits xs = (n : Text) (rows : List Row) (k : ℕ) → contains n f.valued ≡ true → final s (waits_for n rows k) xs ≡ rest f k (arguments_of f xs (Some n)) rows

  module _ (x : Text) (xs : List Text) (resting : Rests xs) (waiting : Waits xs) where
    module _ (rows : List Row) (p : Option (Text × List Text)) (k : ℕ) where
      abbrev goes_to : Option (List Argument) → Type 0
      goes_to arguments = final s (rests rows p k) (x ∷ xs) ≡ option_and_then (rest f k arguments) (settled_as c (holds rows p))

      nowhere : final s (rests rows p k) (x ∷ xs) ≡ None → goes_to None
      nowhere e = e ∙ then_none (settled_as c (holds rows p))

      rests_long : (n : Text) (v : Option Text) → bytes_eq x (45 ∷ 45 ∷ []) ≡ false → long_of x ≡ Some (n, v) → (a b : Bool) → contains n f.valued ≡ a → contains n f.flags ≡ b
          → goes_to (from_option f (Some (n, v)) (arguments_of f xs))
      rests_long n (Some v) e l true b is_valued is_flag =
          rw is_valued (final-cons s (rests rows p k) x xs ∙ attached_turn name f c fits (λ w. final s w xs) x rows p k n v e l is_valued
          ∙ then_same _ _ (λ r. then_same _ _ (λ u. resting u None k) (added (given_row n v) r) ∙ sym (setting_rest f r k n v (arguments_of f xs None))) (settled_as c (holds rows p)))
      rests_long n (Some v) e l false true is_valued is_flag =
          rw is_valued (nowhere (final-cons s (rests rows p k) x xs ∙ valued_flag_turn name f c fits (λ w. final s w xs) x rows p k n v e l is_valued is_flag))
      rests_long n (Some v) e l false false is_valued is_flag =
          rw is_valued (nowhere (final-cons s (rests rows p k) x xs ∙ unknown_turn name f c fits (λ w. final s w xs) x rows p k n (Some v) e l is_valued is_flag))
      rests_long n None e l true b is_valued is_flag =
          rw is_valued (final-cons s (rests rows p k) x xs ∙ waits_turn name f c fits (λ w. final s w xs) x rows p k n e l is_valued
          ∙ then_same _ _ (λ r. waiting n r k is_valued) (settled_as c (holds rows p)))
      rests_long n None e l false true is_valued is_flag =
          rw (is_valued, is_flag) (final-cons s (rests rows p k) x xs ∙ flag_turn name f c fits (λ w. final s w xs) x rows p k n e l is_valued is_flag
          ∙ then_same _ _ (λ r. then_same _ _ (λ u. resting u None k) (added (given_row n (codes "true")) r) ∙ sym (flag_rest f r k n (arguments_of f xs None))) (settled_as c (holds rows p)))
      rests_long n None e l false false is_valued is_flag =
          rw (is_valued, is_flag) (nowhere (final-cons s (rests rows p k) x xs ∙ unknown_turn name f c fits (λ w. final s w xs) x rows p k n None e l is_valued is_flag))

      rests_word : (o : Option Text) → slice_get f.positional k ≡ o → bytes_eq x (45 ∷ 45 ∷ []) ≡ false → long_of x ≡ None → short_of x ≡ None → goes_to (followed (word x) (arguments_of f xs None))
      rests_word None at e l sh =
          final-cons s (rests rows p k) x xs ∙ stray_turn name f c fits (λ w. final s w xs) x rows p k at e l sh
          ∙ then_none (settled_as c (holds rows p)) ∙ then_same _ _ (λ r. sym (stray_rest f r k x (arguments_of f xs None) at)) (settled_as c (holds rows p))
      rests_word (Some id) at e l sh =
          final-cons s (rests rows p k) x xs ∙ word_turn name f c fits (λ w. final s w xs) x rows p k id at e l sh
          ∙ then_same _ _ (λ r. resting r (Some (id, x ∷ [])) (k + 1) ∙ ap (option_and_then (rest f (k + 1) (arguments_of f xs None))) (positional_settled f c fits x r k id at)
          ∙ sym (word_rest f r k id x (arguments_of f xs None) at)) (settled_as c (holds rows p))

      rests_by : Kind x → goes_to (arguments_of f (x ∷ xs) None)
      unfolding arguments_of
      rests_by (dashes e is) = rw e (final-cons s (rests rows p k) x xs ∙ dashes_turn name f c fits (λ w. final s w xs) x rows p k e ∙ trails xs idle rows p k)
      rests_by (long n v e is parts l) = rw (e, is, parts) (rests_long n v e l (contains n f.valued) (contains n f.flags) refl refl)
      rests_by (short flags e is parts l sh stand) =
          rw (e, is, parts) (nowhere (final-cons s (rests rows p k) x xs ∙ short_turn name f c fits (λ w. final s w xs) x idle rows p k flags e l sh stand))
      rests_by (plain e is l sh) = rw (e, is) (rests_word (slice_get f.positional k) refl e l sh)

    module _ (n : Text) (rows : List Row) (k : ℕ) (here : contains n f.valued ≡ true) where
      waits_by : Kind x → final s (waits_for n rows k) (x ∷ xs) ≡ rest f k (arguments_of f (x ∷ xs) (Some n)) rows
      unfolding arguments_of
      waits_by (dashes e is) =
          rw is (final-cons s (waits_for n rows k) x xs ∙ waits_dashes_turn name f c fits (λ w. final s w xs) x n here rows k e ∙ trails xs (option n) rows (Some (n, [])) k
          ∙ ap (option_and_then (rest f k (Some (map word xs)))) (waits_settled name f c fits (λ w. final s w xs) x n here rows k))
      waits_by (long m v e is parts l) = rw is (final-cons s (waits_for n rows k) x xs ∙ no_value_turn name f c fits (λ w. final s w xs) x n here rows k m v e l)
      waits_by (short flags e is parts l sh stand) =
          rw is (final-cons s (waits_for n rows k) x xs ∙ short_turn name f c fits (λ w. final s w xs) x (option n) rows (Some (n, [])) k flags e l sh stand)
      waits_by (plain e is l sh) =
          rw is (final-cons s (waits_for n rows k) x xs ∙ value_turn name f c fits (λ w. final s w xs) x n here rows k e l sh ∙ resting rows (Some (n, x ∷ [])) k
          ∙ ap (option_and_then (rest f k (arguments_of f xs None))) (valued_settled f c fits x rows n here) ∙ sym (setting_rest f rows k n x (arguments_of f xs None)))

  rests_nil : Rests []
  unfolding arguments_of
  rests_nil rows p k = final-nil s (rests rows p k) ∙ then_some (settled_as c (holds rows p))

  waits_nil : Waits []
  unfolding arguments_of
  waits_nil n rows k here = final-nil s (waits_for n rows k) ∙ waits_settled name f c fits (λ w. None) [] n here rows k

  both : (xs : List Text) → AreUtf8 xs → Rests xs × Waits xs
  both [] u = (rests_nil, waits_nil)
  both (x ∷ xs) u =
      let next = both xs u.1 in
      (λ rows p k. rests_by x xs next.0 next.1 rows p k (kind_of x u.0), λ n rows k here. waits_by x xs next.0 next.1 n rows k here (kind_of x u.0))

  -- the walk over all the words, from the beginning
  pub walk_is : (xs : List Text) → AreUtf8 xs → final s (rests [] None 0) xs ≡ rest f 0 (arguments_of f xs None) []
  walk_is xs u = (both xs u).0 [] None 0
