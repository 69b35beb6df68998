-- What the two outcomes of a parse say of the line.
use Rattle.std.proofs.Common.{◌≡◌, ◌∙◌, ◌<◌, true, refl, sym, ap, subst, List, [], ◌∷◌, map, drop, length, Option, Some, None, arith, inl, inr, string_bytes, String}
use Rattle.std.proofs.lemmas.Str.{IsUtf8-string_bytes}
use Rattle.clap.specs.Kinds.{HasKind, IsAmong, Kinds}
use Rattle.clap.specs.Matches.{found_of}
use Rattle.clap.specs.Values.{kind_of}
use Rattle.clap.specs.Walk.{Row, rows_of}
use Rattle.clap.specs.Simple.{App, HasMatchesOf, is_simple, matches_of}
use Rattle.clap.specs.Faults.{fault_of, is_simple_and_free}
use Rattle.clap.specs.declared.error.Error.{Error}
use Rattle.clap.specs.declared.error.kind.ErrorKind.{ErrorKind}
use Rattle.clap.specs.declared.error.kind.ErrorKind.TheVariants.{OutOfMemory}
use Rattle.clap.specs.declared.parser.matches.ArgMatches.{ArgMatches}
use Rattle.solver_words.specs.Grammar.{Syntax, Argument, Text, is_well_formed, line_of}
use Rattle.solver_words.specs.Commands.{RowsTell, Tells, app_for}
use Rattle.solver_words.proofs.Agreeing.{RowsAgree}
use Rattle.solver_words.proofs.Names.{both, well_formed_facts}
use Rattle.solver_words.proofs.Turns.{outcome}
use Rattle.solver_words.proofs.Walks.{AreUtf8}
use Rattle.solver_words.proofs.Building.{simple_and_free}
use Rattle.solver_words.proofs.Parses.{parsed, parses}

pub strings_are_text : {Z : Type 0} (ws : List (String Z)) → AreUtf8 (map string_bytes ws)
strings_are_text [] = tt
strings_are_text (w ∷ ws) = (IsUtf8-string_bytes w, strings_are_text ws)

taken : (f : Syntax) (line : Option (List Argument)) (kinds : Kinds) (rows : List Row) (m : ArgMatches) → RowsAgree f line (outcome kinds (Some rows)) → kinds ≡ [] → rows_of (found_of m) ≡ rows
    → Tells f line m
taken f None kinds rows m agrees none same = absurd (some_none rows (subst (λ k. outcome k (Some rows) ≡ None) none agrees))
  where
    some_none : (rows : List Row) → Some rows ≡ None → ⊥
    some_none rows e = cc
taken f (Some arguments) kinds rows m agrees none same =
    let here : Some rows ≡ Some agrees.0 = subst (λ k. outcome k (Some rows) ≡ Some agrees.0) none agrees.1 in
    let both_same : agrees.0 ≡ rows_of (found_of m) = cc in
    subst (RowsTell f arguments) both_same agrees.2

refused : (f : Syntax) (line : Option (List Argument)) (kinds : Kinds) (rows : List Row) (k : ErrorKind) → RowsAgree f line (outcome kinds (Some rows)) → IsAmong k kinds → line ≡ None
refused f None kinds rows k agrees among = refl
refused f (Some arguments) [] rows k agrees among = absurd among
refused f (Some arguments) (x ∷ xs) rows k agrees among = let nothing : None ≡ Some agrees.0 = agrees.1 in absurd (cc)

module _ (name : Text) (f : Syntax) (e : is_well_formed f ≡ true) {Z : Type 0} (words : List (String Z)) (some : 0 < length words) where
  abbrev texts : List Text
  texts = map string_bytes words

  agrees_with : RowsAgree f (line_of f (drop 1 texts)) (parsed name f texts)
  agrees_with = by words some
    where
      by : (words : List (String Z)) → 0 < length words → RowsAgree f (line_of f (drop 1 (map string_bytes words))) (parsed name f (map string_bytes words))
      by [] lt = absurd (omega arith)
      by (w ∷ ws) lt = parses name f (well_formed_facts f e) (string_bytes w) (map string_bytes ws) (strings_are_text ws)

  exact : (a : App) → a ≡ app_for name f → is_simple_and_free a ≡ true
  exact a is = ap is_simple_and_free is ∙ simple_and_free name f (well_formed_facts f e)

  -- where clap takes the words
  pub ok_tells : (m : ArgMatches) (a : App) → a ≡ app_for name f → (is_simple_and_free a ≡ true → fault_of a texts ≡ []) → HasMatchesOf a texts m → Tells f (line_of f (drop 1 texts)) m
  ok_tells m a is faults matches =
      let simple : is_simple a ≡ true = (both (is_simple a) _ (exact a is)).0 in
      taken f (line_of f (drop 1 texts)) (fault_of (app_for name f) texts) (matches_of (app_for name f) texts) m agrees_with
      (ap (λ b. fault_of b texts) (sym is) ∙ faults (exact a is)) ((matches simple).0 ∙ ap (λ b. matches_of b texts) is)

  -- where it refuses them for another cause than memory
  pub err_tells : (x : Error) (a : App) → a ≡ app_for name f → (is_simple_and_free a ≡ true → HasKind (fault_of a texts) x) → (kind_of x ≡ OutOfMemory → ⊥)
      → line_of f (drop 1 texts) ≡ None
  err_tells x a is faults other = by (faults (exact a is))
    where
      by : HasKind (fault_of a texts) x → line_of f (drop 1 texts) ≡ None
      by (inl memory) = absurd (other memory)
      by (inr among) =
          refused f (line_of f (drop 1 texts)) (fault_of (app_for name f) texts) (matches_of (app_for name f) texts) (kind_of x) agrees_with
          (subst (λ b. IsAmong (kind_of x) (fault_of b texts)) is among)
