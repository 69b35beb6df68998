-- What the words of a command line are, one by one.
use Rattle.std.specs.Prelude.{ℕ, ◌==◌, ◌&&◌, ◌||◌, Bool, true, false, not, cond, List, [], ◌∷◌, map, length, nat_le, codes, Option, Some, None, option_map, option_and_then}
use Rattle.std.specs.List.{list_any, before_first, after_first}
use Rattle.std.specs.Str.{bytes_eq}

-- the bytes of a word
abbrev pub Text : Type 0
Text = List ℕ

-- what a command takes: the names of its positional words, of its options with a value and of its options without one
pub record Syntax : Type 0 where
  pub positional : List Text
  pub valued : List Text
  pub flags : List Text

-- one thing that the words give
pub data Argument : Type 0 where
  word : Text → Argument
  setting : Text → Text → Argument
  flag : Text → Argument

-- whether a name is one of the list
abbrev pub contains : Text → List Text → Bool
contains name names = list_any (λ n. bytes_eq n name) names

-- a word that begins with `-` (45) and is longer
abbrev pub is_option_word : Text → Bool
is_option_word (a ∷ b ∷ rest) = a == 45
is_option_word _ = false

-- what stands before the first `=` (61), and after it where there is one
abbrev pub name_and_value : Text → Text × Option Text
name_and_value text = (
  before_first (λ b. b == 61) text,
  cond (list_any (λ b. b == 61) text) (Some (after_first (λ b. b == 61) text)) None,
)

-- the name of an option word, with the value after `=`; none where the word has one dash alone
abbrev pub option_parts : Text → Option (Text × Option Text)
option_parts (a ∷ b ∷ rest) = cond (a == 45 && b == 45) (Some (name_and_value rest)) None
option_parts _ = None

-- one argument more, at the front
abbrev pub followed : Argument → Option (List Argument) → Option (List Argument)
followed p = option_map (λ arguments. p ∷ arguments)

-- the arguments from an option word on, by its name and its value; `next` is what the words after it are, where the option that is
-- handed on waits for its value
abbrev pub from_option : Syntax → Option (Text × Option Text) → (Option Text → Option (List Argument)) → Option (List Argument)
from_option f None next = None
from_option f (Some (name, Some value)) next = cond (contains name f.valued) (followed (setting name value) (next None)) None
from_option f (Some (name, None)) next =
    cond (contains name f.valued) (next (Some name))
    (cond (contains name f.flags) (followed (flag name) (next None)) None)

-- the arguments of the words, where an option may wait for its value; none where the words are outside the grammar
unfoldable pub arguments_of : Syntax → List Text → Option Text → Option (List Argument)
arguments_of f [] None = Some []
arguments_of f [] (Some name) = None
arguments_of f (w ∷ ws) (Some name) = cond (is_option_word w) None (followed (setting name w) (arguments_of f ws None))
arguments_of f (w ∷ ws) None =
    cond (bytes_eq w (codes "--")) (Some (map word ws))
    (cond (is_option_word w) (from_option f (option_parts w) (arguments_of f ws))
    (followed (word w) (arguments_of f ws None)))

-- the names of the options that stand in the line
abbrev pub option_names : List Argument → List Text
option_names [] = []
option_names (word w ∷ arguments) = option_names arguments
option_names (setting name value ∷ arguments) = name ∷ option_names arguments
option_names (flag name ∷ arguments) = name ∷ option_names arguments

-- the positional words
abbrev pub words_of : List Argument → List Text
words_of [] = []
words_of (word w ∷ arguments) = w ∷ words_of arguments
words_of (setting name value ∷ arguments) = words_of arguments
words_of (flag name ∷ arguments) = words_of arguments

-- the value of an option
abbrev pub setting_of : Text → List Argument → Option Text
setting_of n [] = None
setting_of n (word w ∷ arguments) = setting_of n arguments
setting_of n (setting name value ∷ arguments) = cond (bytes_eq name n) (Some value) (setting_of n arguments)
setting_of n (flag name ∷ arguments) = setting_of n arguments

-- whether an option without a value stands there
abbrev pub has_flag : Text → List Argument → Bool
has_flag n [] = false
has_flag n (word w ∷ arguments) = has_flag n arguments
has_flag n (setting name value ∷ arguments) = has_flag n arguments
has_flag n (flag name ∷ arguments) = bytes_eq name n || has_flag n arguments

-- no name is one of those before it, and none is of `seen`
abbrev pub differ : List Text → List Text → Bool
differ seen [] = true
differ seen (n ∷ ns) = not (contains n seen) && differ (n ∷ seen) ns

-- each option stands at most once, and there are as many positional words as names for them
abbrev pub is_line : Syntax → List Argument → Bool
is_line f arguments = differ [] (option_names arguments) && length (words_of arguments) == length f.positional

-- the arguments of a whole line
abbrev pub line_of : Syntax → List Text → Option (List Argument)
line_of f ws = option_and_then (λ arguments. cond (is_line f arguments) (Some arguments) None) (arguments_of f ws None)

-- ---- what a command takes

-- no name comes twice
abbrev pub apart : List Text → Bool
apart [] = true
apart (x ∷ xs) = not (contains x xs) && apart xs

-- no name of the second list is in the first
abbrev pub clear_of : List Text → List Text → Bool
clear_of others [] = true
clear_of others (x ∷ xs) = not (contains x others) && clear_of others xs

-- all names differ, and the positional words are few
abbrev pub is_well_formed : Syntax → Bool
is_well_formed f = apart f.positional
    && (clear_of f.valued f.positional && (clear_of f.flags f.positional && (clear_of f.flags f.valued && nat_le (length f.positional) 100)))
