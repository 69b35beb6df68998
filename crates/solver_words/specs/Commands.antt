-- What clap is given for a command, and what its answer has to tell.
use Rattle.std.specs.Prelude.{⊤, ◌≡◌, ℕ, true, cond, List, [], ◌++◌, map, Option, Some, None, codes, slice_get}
use Rattle.std.specs.Borrow.{Bor}
use Rattle.clap.specs.Matches.{found_of}
use Rattle.clap.specs.Walk.{Row, Rule, first_of, one_of, rows_of}
use Rattle.clap.specs.Simple.{App, new_rule, new_shape, on_top}
use Rattle.clap.specs.declared.builder.action.ArgAction.TheVariants.{Set, SetTrue}
use Rattle.clap.specs.declared.parser.matches.ArgMatches.{ArgMatches}
use Rattle.solver_words.specs.declared.words_error.WordsError.{WordsError}
use Rattle.solver_words.specs.declared.words_error.WordsError.TheVariants.{Usage, OutOfMemory}
use Rattle.solver_words.specs.Grammar.{Text, Syntax, Argument, contains, setting_of, has_flag, words_of}
use Rattle.solver_words.specs.declared.command_syntax.CommandSyntax.{CommandSyntax}
use Rattle.solver_words.specs.declared.command.ArgKind.{ArgKind}
use Rattle.solver_words.specs.declared.command.ArgKind.TheVariants.{Positional, Valued, Flag}

abbrev pub texts : List (Bor (List ℕ)) → List Text
texts = map (λ t. t.now)

-- what the code says that a command takes
abbrev pub syntax_of : CommandSyntax → Syntax
syntax_of f = record { positional = texts f.positional.now; valued = texts f.valued.now; flags = texts f.flags.now }

-- ---- what a command takes, as clap is given it

abbrev pub positional_arg : Text → Rule
positional_arg id = record (new_rule id) { action = Some Set; required = true }

abbrev pub valued_arg : Text → Rule
valued_arg name = record (new_rule name) { long = Some name; action = Some Set }

abbrev pub flag_arg : Text → Rule
flag_arg name = record (new_rule name) { long = Some name; action = Some SetTrue }

abbrev pub arg_of : ArgKind → Text → Rule
arg_of Positional = positional_arg
arg_of Valued = valued_arg
arg_of Flag = flag_arg

abbrev pub with_rules : App → List Rule → App
with_rules a rules = on_top (λ s. record s { rules = s.rules ++ rules }) a

abbrev pub args_for : Syntax → List Rule
args_for f = map positional_arg f.positional ++ (map valued_arg f.valued ++ map flag_arg f.flags)

abbrev pub app_for : Text → Syntax → App
app_for name f = record {
  top = record (new_shape name) { rules = args_for f; disable_help_flag = true; disable_help_subcommand = true; disable_version_flag = true };
  subs = [];
}

-- ---- what the answer has to tell

-- the rows that clap found tell what the arguments do
pub record RowsTell (f : Syntax) (arguments : List Argument) (rows : List Row) : Type 0 where
  pub values : (n : Text) → contains n f.valued ≡ true → first_of n rows ≡ setting_of n arguments
  pub flags : (n : Text) → contains n f.flags ≡ true → one_of n rows ≡ Some (cond (has_flag n arguments) (codes "true") (codes "false"))
  pub words : (i : ℕ) (id : Text) → slice_get f.positional i ≡ Some id → first_of id rows ≡ slice_get (words_of arguments) i

-- the words are outside the grammar, or memory ran out
abbrev pub IsOutside : Option (List Argument) → WordsError → Type 0
IsOutside line Usage = line ≡ None
IsOutside line OutOfMemory = ⊤
IsOutside line _ = ⊥

-- what clap answered for the line, or why it was refused
abbrev pub Tells : Syntax → Option (List Argument) → ArgMatches → Type 0
Tells f None m = ⊥
Tells f (Some arguments) m = RowsTell f arguments (rows_of (found_of m))
