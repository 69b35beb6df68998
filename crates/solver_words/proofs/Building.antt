-- The rules that building makes of what a command takes, and that they fit it.
use Rattle.std.proofs.Common.{◌≡◌, ◌∙◌, ◌+◌, ◌≤◌, ◌&&◌, ◌==◌, ◌||◌, ℕ, Bool, true, false, not, cond, min, refl, sym, ap, ap₂, subst, zero, suc, List, [], ◌∷◌, ◌++◌, map, length, Option, Some, None, option_map, is_some, arith, leb-true}
use Rattle.std.specs.Prelude.{count_by, slice_get}
use Rattle.std.specs.List.{find, list_all, list_any}
use Rattle.std.specs.Option.{option_map_or}
use Rattle.std.specs.Str.{bytes_eq}
use Rattle.std.proofs.lemmas.Option.{slice_get_within}
use Rattle.clap.specs.Lexer.{usize_max}
use Rattle.clap.specs.Walk.{Rule, arg_by_id, arg_by_long, arg_by_short, has_long, has_short, is_early_multiple}
use Rattle.clap.specs.Simple.{App, built, filled_from, is_ready, is_ready_leaf}
use Rattle.clap.specs.Faults.{is_free_app, is_simple_and_free}
use Rattle.solver_words.specs.Grammar.{Text, Syntax, apart, contains}
use Rattle.solver_words.specs.Commands.{app_for, args_for, flag_arg, positional_arg, valued_arg}
use Rattle.solver_words.proofs.Rules.{Fits, shape_with, valued_rule, flag_rule, positional_rule, long_rule}
use Rattle.solver_words.proofs.Names.{IsWellFormed, same_bytes, are_same, both, places, neither, absent}

-- ---- what building makes of it

abbrev pub numbered : ℕ → List Text → List Rule
numbered k [] = []
numbered k (id ∷ ids) = positional_rule (k + 1) id ∷ numbered (k + 1) ids

abbrev pub option_rules : Syntax → List Rule
option_rules f = map valued_rule f.valued ++ map flag_rule f.flags

abbrev pub rules_for : Syntax → List Rule
rules_for f = numbered 0 f.positional ++ option_rules f

flags_filled : (i : ℕ) (names : List Text) → filled_from i (map flag_arg names) ≡ map flag_rule names
flags_filled i [] = refl
flags_filled i (n ∷ ns) = ap (λ rs. flag_rule n ∷ rs) (flags_filled i ns)

options_filled : (i : ℕ) (names flags : List Text) → filled_from i (map valued_arg names ++ map flag_arg flags) ≡ map valued_rule names ++ map flag_rule flags
options_filled i [] flags = flags_filled i flags
options_filled i (n ∷ ns) flags = ap (λ rs. valued_rule n ∷ rs) (options_filled i ns flags)

words_filled : (k : ℕ) (ids valued flags : List Text) → k + length ids ≤ 100
    → filled_from (k + 1) (map positional_arg ids ++ (map valued_arg valued ++ map flag_arg flags)) ≡ numbered k ids ++ (map valued_rule valued ++ map flag_rule flags)
words_filled k [] valued flags few = options_filled (k + 1) valued flags
words_filled k (id ∷ ids) valued flags few =
    let next : min (k + 1 + 1) usize_max ≡ k + 1 + 1 = omega arith in
    ap₂ (λ i rs. positional_rule (k + 1) id ∷ rs) next
    (ap (λ i. filled_from i (map positional_arg ids ++ (map valued_arg valued ++ map flag_arg flags))) next ∙ words_filled (k + 1) ids valued flags (omega arith))

pub built_is : (name : Text) (f : Syntax) → IsWellFormed f → built (app_for name f) ≡ record { top = shape_with name (rules_for f); subs = [] }
built_is name f is =
    let few : length f.positional ≤ 100 = leb-true _ _ is.few in
    ap (λ rs. record { top = shape_with name rs; subs = [] }) (words_filled 0 f.positional f.valued f.flags (omega arith))

-- ---- what holds of each rule

all_of_map : (p : Rule → Bool) (g : Text → Rule) → ((n : Text) → p (g n) ≡ true) → (ns : List Text) (rest : List Rule) → list_all p rest ≡ true → list_all p (map g ns ++ rest) ≡ true
all_of_map p g each [] rest e = e
all_of_map p g each (n ∷ ns) rest e = rw (each n) (all_of_map p g each ns rest e)

all_of_last : (p : Rule → Bool) (g : Text → Rule) → ((n : Text) → p (g n) ≡ true) → (ns : List Text) → list_all p (map g ns) ≡ true
all_of_last p g each [] = refl
all_of_last p g each (n ∷ ns) = rw (each n) (all_of_last p g each ns)

all_numbered : (p : Rule → Bool) → ((i : ℕ) (n : Text) → p (positional_rule i n) ≡ true) → (k : ℕ) (ids : List Text) (rest : List Rule) → list_all p rest ≡ true
    → list_all p (numbered k ids ++ rest) ≡ true
all_numbered p each k [] rest e = e
all_numbered p each k (id ∷ ids) rest e = rw (each (k + 1) id) (all_numbered p each (k + 1) ids rest e)

none_of_map : (p : Rule → Bool) (g : Text → Rule) → ((n : Text) → p (g n) ≡ false) → (ns : List Text) (rest : List Rule) → list_any p (map g ns ++ rest) ≡ list_any p rest
none_of_map p g each [] rest = refl
none_of_map p g each (n ∷ ns) rest = rw (each n) (none_of_map p g each ns rest)

none_of_last : (p : Rule → Bool) (g : Text → Rule) → ((n : Text) → p (g n) ≡ false) → (ns : List Text) → list_any p (map g ns) ≡ false
none_of_last p g each [] = refl
none_of_last p g each (n ∷ ns) = rw (each n) (none_of_last p g each ns)

none_numbered : (p : Rule → Bool) → ((i : ℕ) (n : Text) → p (positional_rule i n) ≡ false) → (k : ℕ) (ids : List Text) (rest : List Rule)
    → list_any p (numbered k ids ++ rest) ≡ list_any p rest
none_numbered p each k [] rest = refl
none_numbered p each k (id ∷ ids) rest = rw (each (k + 1) id) (none_numbered p each (k + 1) ids rest)

pub all_rules : (p : Rule → Bool) → ((i : ℕ) (n : Text) → p (positional_rule i n) ≡ true) → ((n : Text) → p (valued_rule n) ≡ true) → ((n : Text) → p (flag_rule n) ≡ true)
    → (f : Syntax) → list_all p (rules_for f) ≡ true
all_rules p words valued flags f =
    all_numbered p words 0 f.positional (option_rules f) (all_of_map p valued_rule valued f.valued (map flag_rule f.flags) (all_of_last p flag_rule flags f.flags))

all_args : (p : Rule → Bool) → ((n : Text) → p (positional_arg n) ≡ true) → ((n : Text) → p (valued_arg n) ≡ true) → ((n : Text) → p (flag_arg n) ≡ true)
    → (f : Syntax) → list_all p (args_for f) ≡ true
all_args p words valued flags f =
    all_of_map p positional_arg words f.positional (map valued_arg f.valued ++ map flag_arg f.flags)
    (all_of_map p valued_arg valued f.valued (map flag_arg f.flags) (all_of_last p flag_arg flags f.flags))

-- only a positional word is required
pub no_option_fits : (p : Rule → Bool) → ((n : Text) → p (valued_rule n) ≡ false) → ((n : Text) → p (flag_rule n) ≡ false) → (f : Syntax) → list_any p (option_rules f) ≡ false
no_option_fits p valued flags f = none_of_map p valued_rule valued f.valued (map flag_rule f.flags) ∙ none_of_last p flag_rule flags f.flags

and_true : (a b : Bool) → a ≡ true → b ≡ true → (a && b) ≡ true
and_true a b e h = rw e h

-- the command is one whose parse clap states exactly
pub simple_and_free : (name : Text) (f : Syntax) → IsWellFormed f → is_simple_and_free (app_for name f) ≡ true
simple_and_free name f is =
    let early = λ (n : ℕ). none_numbered (is_early_multiple n) (λ i m. refl) 0 f.positional (option_rules f) ∙ no_option_fits (is_early_multiple n) (λ m. refl) (λ m. refl) f in
    let plain = all_args (λ a. a.is_simple) (λ n. refl) (λ n. refl) (λ n. refl) f in
    let ready : is_ready (shape_with name (rules_for f)) ≡ true =
    and_true _ _ (all_rules (λ a. a.is_simple) (λ i n. refl) (λ n. refl) (λ n. refl) f) (ap not (early (count_by (λ a. is_some a.index) (rules_for f)))) in
    let free : is_free_app (record { top = shape_with name (rules_for f); subs = [] }) ≡ true = and_true _ _ (all_rules (λ a. a.is_free) (λ i n. refl) (λ n. refl) (λ n. refl) f) refl in
    and_true _ _
    (and_true _ _ (and_true _ _ plain refl) (subst (λ (b : App). (is_ready b.top && list_all is_ready_leaf b.subs) ≡ true) (sym (built_is name f is)) (and_true _ _ ready refl)))
    (subst (λ (b : App). is_free_app b ≡ true) (sym (built_is name f is)) free)

-- ---- searches

skip_numbered : (p : Rule → Bool) → ((i : ℕ) (n : Text) → p (positional_rule i n) ≡ false) → (k : ℕ) (ids : List Text) (rest : List Rule) → find p (numbered k ids ++ rest) ≡ find p rest
skip_numbered p each k [] rest = refl
skip_numbered p each k (id ∷ ids) rest = rw (each (k + 1) id) (skip_numbered p each (k + 1) ids rest)

skip_map : (p : Rule → Bool) (g : Text → Rule) → ((n : Text) → p (g n) ≡ false) → (ns : List Text) (rest : List Rule) → find p (map g ns ++ rest) ≡ find p rest
skip_map p g each [] rest = refl
skip_map p g each (n ∷ ns) rest = rw (each n) (skip_map p g each ns rest)

skip_last : (p : Rule → Bool) (g : Text → Rule) → ((n : Text) → p (g n) ≡ false) → (ns : List Text) → find p (map g ns) ≡ None
skip_last p g each [] = refl
skip_last p g each (n ∷ ns) = rw (each n) (skip_last p g each ns)

-- the search for a name stops at the first argument that has it
named_by : (p : Rule → Bool) (g : Text → Rule) (name : Text) (n : Text) (t : Bool) → bytes_eq n name ≡ t → p (g n) ≡ t → (ns : List Text) (found : Option Rule) (rest : List Rule)
    → find p rest ≡ cond (contains name ns) (Some (g name)) found → find p (g n ∷ rest) ≡ cond (contains name (n ∷ ns)) (Some (g name)) found
named_by p g name n true same hit ns found rest e = rw (same, hit) (ap (λ m. Some (g m)) (are_same n name same))
named_by p g name n false other miss ns found rest e = rw (other, miss) e

named : (p : Rule → Bool) (g : Text → Rule) (name : Text) → ((n : Text) → p (g n) ≡ bytes_eq n name) → (ns : List Text) (rest : List Rule)
    → find p (map g ns ++ rest) ≡ cond (contains name ns) (Some (g name)) (find p rest)
named p g name each [] rest = refl
named p g name each (n ∷ ns) rest = named_by p g name n (bytes_eq n name) refl (each n) ns (find p rest) (map g ns ++ rest) (named p g name each ns rest)

named_last : (p : Rule → Bool) (g : Text → Rule) (name : Text) → ((n : Text) → p (g n) ≡ bytes_eq n name) → (ns : List Text)
    → find p (map g ns) ≡ cond (contains name ns) (Some (g name)) None
named_last p g name each [] = refl
named_last p g name each (n ∷ ns) = named_by p g name n (bytes_eq n name) refl (each n) ns None (map g ns) (named_last p g name each ns)

or_false : (b : Bool) → (b || false) ≡ b
or_false true = refl
or_false false = refl

fits_short : (f : Syntax) (x : ℕ) → arg_by_short (rules_for f) x ≡ None
fits_short f x =
    let p : Rule → Bool = λ a. not (is_some a.index) && has_short a x in
    skip_numbered p (λ i n. refl) 0 f.positional (option_rules f) ∙ skip_map p valued_rule (λ n. refl) f.valued (map flag_rule f.flags) ∙ skip_last p flag_rule (λ n. refl) f.flags

fits_long : (f : Syntax) (name : Text) → arg_by_long (rules_for f) name ≡ long_rule f name
fits_long f name =
    let p : Rule → Bool = λ a. not (is_some a.index) && has_long a name in
    skip_numbered p (λ i n. refl) 0 f.positional (option_rules f)
    ∙ named p valued_rule name (λ n. or_false (bytes_eq n name)) f.valued (map flag_rule f.flags)
    ∙ ap (cond (contains name f.valued) (Some (valued_rule name))) (named_last p flag_rule name (λ n. or_false (bytes_eq n name)) f.flags)

-- an id that no positional word has
skip_ids : (name : Text) (k : ℕ) (ids : List Text) (rest : List Rule) → contains name ids ≡ false → find (λ a. bytes_eq a.id name) (numbered k ids ++ rest) ≡ find (λ a. bytes_eq a.id name) rest
skip_ids name k [] rest e = refl
skip_ids name k (id ∷ ids) rest e =
    let parts = neither (bytes_eq id name) (contains name ids) e in
    rw parts.0 (skip_ids name (k + 1) ids rest parts.1)

fits_id : (f : Syntax) → IsWellFormed f → (name : Text) → contains name f.valued ≡ true → arg_by_id (rules_for f) name ≡ Some (valued_rule name)
fits_id f is name here =
    skip_ids name 0 f.positional (option_rules f) (absent f is name here)
    ∙ named (λ a. bytes_eq a.id name) valued_rule name (λ n. refl) f.valued (map flag_rule f.flags) ∙ rw here refl

no_index : (i : ℕ) (f : Syntax) → find (λ a. option_map_or (λ k. k == i) a.index false) (option_rules f) ≡ None
no_index i f =
    let p : Rule → Bool = λ a. option_map_or (λ k. k == i) a.index false in
    skip_map p valued_rule (λ n. refl) f.valued (map flag_rule f.flags) ∙ skip_last p flag_rule (λ n. refl) f.flags

indexed : (i j k : ℕ) (ids : List Text) (rest : List Rule) → find (λ a. option_map_or (λ m. m == i) a.index false) rest ≡ None → i ≡ j + k + 1
    → find (λ a. option_map_or (λ m. m == i) a.index false) (numbered j ids ++ rest) ≡ option_map (positional_rule i) (slice_get ids k)
indexed i j k [] rest none e = none
indexed i j zero (id ∷ ids) rest none e =
    let at : j + 1 ≡ i = omega arith in
    let hit : (j + 1 == i) ≡ true = grind arith in
    rw hit (ap (λ m. Some (positional_rule m id)) at)
indexed i j (suc k) (id ∷ ids) rest none e =
    let miss : (j + 1 == i) ≡ false = grind arith in
    rw miss (indexed i (j + 1) k ids rest none (omega arith))

by_place : (name : Text) (j k : ℕ) (ids : List Text) (rest : List Rule) → apart ids ≡ true → slice_get ids k ≡ Some name
    → find (λ a. bytes_eq a.id name) (numbered j ids ++ rest) ≡ Some (positional_rule (j + k + 1) name)
by_place name j k [] rest d e = absurd (cc)
by_place name j zero (id ∷ ids) rest d e =
    let same : id ≡ name = cc in
    let hit : bytes_eq id name ≡ true = subst (λ z. bytes_eq id z ≡ true) same (same_bytes id) in
    let at : j + 1 ≡ j + 0 + 1 = omega arith in
    rw hit (ap₂ (λ m z. Some (positional_rule m z)) at same)
by_place name j (suc k) (id ∷ ids) rest d e =
    let miss : bytes_eq id name ≡ false = places (id ∷ ids) d 0 (suc k) id name (omega arith) refl e in
    let at : j + 1 + k + 1 ≡ j + suc k + 1 = omega arith in
    rw miss (by_place name (j + 1) k ids rest (both (not (contains id ids)) _ d).1 e ∙ ap (λ m. Some (positional_rule m name)) at)

pub fits : (f : Syntax) → IsWellFormed f → Fits f (rules_for f)
fits f is = record {
  no_short = fits_short f;
  long = fits_long f;
  by_id = fits_id f is;
  by_index = λ k. indexed (k + 1) 0 k f.positional (option_rules f) (no_index (k + 1) f) (omega arith);
  positional_id = λ k name e. by_place name 0 k f.positional (option_rules f) is.own e ∙ ap (λ m. Some (positional_rule m name)) (plus k);
  few = λ k name e. let within = slice_get_within f.positional k name e in let bound : length f.positional ≤ 100 = leb-true _ _ is.few in omega arith;
}
  where
    plus : (k : ℕ) → 0 + k + 1 ≡ k + 1
    plus k = omega arith
