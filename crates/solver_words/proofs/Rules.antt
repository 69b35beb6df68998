-- What a command takes, as clap holds it once it is built.
use Rattle.std.proofs.Common.{◌≡◌, ◌≤◌, ◌+◌, ℕ, true, false, cond, List, [], ◌∷◌, Option, Some, None, option_map, codes}
use Rattle.std.specs.Prelude.{slice_get}
use Rattle.clap.specs.Lexer.{usize_max}
use Rattle.clap.specs.Walk.{Row, Rule, arg_by_id, arg_by_index, arg_by_long, arg_by_short}
use Rattle.clap.specs.Simple.{Shape}
use Rattle.clap.specs.declared.builder.action.ArgAction.TheVariants.{Set, SetTrue}
use Rattle.clap.specs.declared.builder.value_parser.ValueParser.TheVariants as vp
use Rattle.clap.specs.declared.builder.value_parser.Reading.TheVariants.{AsWritten}
use Rattle.clap.specs.declared.parser.matches.ValueSource.TheVariants.{CommandLine}
use Rattle.solver_words.specs.Grammar.{Syntax, Text, contains}

abbrev pub valued_rule : Text → Rule
valued_rule name = record {
  id = name;
  long = Some name;
  aliases = [];
  short = None;
  short_aliases = [];
  index = None;
  action = Some Set;
  range = Some (record { start_inclusive = 1; end_inclusive = 1 });
  value_names = 0;
  defaults = [];
  missing = [];
  trailing_var_arg = false;
  parser = Some vp.String;
  ignore_case = false;
  required = false;
  is_simple = true;
  is_free = true;
}

abbrev pub flag_rule : Text → Rule
flag_rule name = record (valued_rule name) {
  action = Some SetTrue;
  range = Some (record { start_inclusive = 0; end_inclusive = 0 });
  defaults = codes "false" ∷ [];
  missing = codes "true" ∷ [];
  parser = Some vp.Bool;
}

abbrev pub positional_rule : ℕ → Text → Rule
positional_rule i name = record (valued_rule name) { long = None; index = Some i; required = true }

-- the built command with these rules
abbrev pub shape_with : Text → List Rule → Shape
shape_with name rules = record {
  name = name;
  aliases = [];
  rules = rules;
  is_plain = true;
  is_leaf = true;
  no_binary_name = false;
  disable_help_flag = true;
  disable_help_subcommand = true;
  disable_version_flag = true;
  propagate_version = false;
  has_version = false;
  has_long_version = false;
  args_override_self = false;
  arg_required_else_help = false;
  subcommand_required = false;
  subcommand_negates_reqs = false;
  is_built = true;
}

-- what a name of an option is to the command
abbrev pub long_rule : Syntax → Text → Option Rule
long_rule f name = cond (contains name f.valued) (Some (valued_rule name)) (cond (contains name f.flags) (Some (flag_rule name)) None)

-- the rules are those of what the command takes
pub record Fits (f : Syntax) (c : List Rule) : Type 0 where
  pub no_short : (x : ℕ) → arg_by_short c x ≡ None
  pub long : (name : Text) → arg_by_long c name ≡ long_rule f name
  pub by_id : (name : Text) → contains name f.valued ≡ true → arg_by_id c name ≡ Some (valued_rule name)
  pub by_index : (k : ℕ) → arg_by_index c (k + 1) ≡ option_map (positional_rule (k + 1)) (slice_get f.positional k)
  pub positional_id : (k : ℕ) (name : Text) → slice_get f.positional k ≡ Some name → arg_by_id c name ≡ Some (positional_rule (k + 1) name)
  pub few : (k : ℕ) (name : Text) → slice_get f.positional k ≡ Some name → k + 2 ≤ usize_max

-- the row of an argument that was given
abbrev pub given_row : Text → Text → Row
given_row id value = record { id = id; values = value ∷ []; count = None; source = Some CommandLine; reading = AsWritten }
