-- Arguments that join a command one by one.
use Rattle.std.proofs.Common.{◌≡◌, ◌∙◌, ◌+◌, ◌<◌, ◌≤◌, ℕ, List, [], ◌∷◌, ◌++◌, map, suc, true, take, length, get_or, sym, ap, ap₂, arith, append_assoc, append-nil}
use Rattle.std.specs.Borrow.{Bor}
use Rattle.std.proofs.lemmas.List.{map-append, take_all}
use Rattle.std.proofs.Math.Seq.{take-suc}
use Rattle.clap.specs.Walk.{Rule}
use Rattle.clap.specs.Simple.{App, app_of, app_of_fields, new_app, on_top, with_rule}
use Rattle.clap.specs.declared.builder.command.Command.{Command}
use Rattle.clap.specs.declared.builder.command.Command.TheViews.{out-Command}
use Rattle.solver_words.specs.Grammar.{Syntax, Text}
use Rattle.solver_words.specs.Commands.{app_for, arg_of, flag_arg, positional_arg, texts, valued_arg, with_rules}
use Rattle.solver_words.specs.declared.command.ArgKind.{ArgKind}

pub nothing_joined : (a : App) → a ≡ with_rules a []
nothing_joined a = ap (λ rs. on_top (λ s. record s { rules = rs }) a) (sym (append-nil a.top.rules))

pub joined_twice : (a : App) (xs ys : List Rule) → with_rules (with_rules a xs) ys ≡ with_rules a (xs ++ ys)
joined_twice a xs ys = ap (λ rs. on_top (λ s. record s { rules = rs }) a) (append_assoc a.top.rules xs ys)

grown : (kind : ArgKind) (names : List (Bor (List ℕ))) (i : ℕ) (x : Bor (List ℕ)) → i < length names
    → map (arg_of kind) (texts (take (i + 1) names)) ≡ map (arg_of kind) (texts (take i names)) ++ arg_of kind (get_or names i x).now ∷ []
grown kind names i x lt =
    let next : i + 1 ≡ suc i = omega arith in
    ap (λ k. map (arg_of kind) (texts (take k names))) next ∙ ap (λ xs. map (arg_of kind) (texts xs)) (take-suc names i x lt)
    ∙ ap (map (arg_of kind)) (map-append (λ t. t.now) (take i names) (get_or names i x ∷ [])) ∙ map-append (arg_of kind) (texts (take i names)) ((get_or names i x).now ∷ [])

pub one_more : (a0 a b : App) (kind : ArgKind) (names : List (Bor (List ℕ))) (i : ℕ) (x : Bor (List ℕ)) (r : Rule) → i < length names
    → a ≡ with_rules a0 (map (arg_of kind) (texts (take i names))) → b ≡ with_rule a r → r ≡ arg_of kind (get_or names i x).now
    → b ≡ with_rules a0 (map (arg_of kind) (texts (take (i + 1) names)))
one_more a0 a b kind names i x r lt before step is =
    step ∙ ap₂ with_rule before is ∙ joined_twice a0 (map (arg_of kind) (texts (take i names))) (arg_of kind (get_or names i x).now ∷ [])
    ∙ ap (with_rules a0) (sym (grown kind names i x lt))

pub all_joined : (a0 a : App) (kind : ArgKind) (names : List (Bor (List ℕ))) (i : ℕ) → length names ≤ i
    → a ≡ with_rules a0 (map (arg_of kind) (texts (take i names))) → a ≡ with_rules a0 (map (arg_of kind) (texts names))
all_joined a0 a kind names i past is = is ∙ ap (λ xs. with_rules a0 (map (arg_of kind) (texts xs))) (take_all i names past)

-- a new command with its three settings
pub bare_is : (a b c d : Command) (name : Text) → app_of a ≡ new_app name → out-Command b ≡ record (out-Command a) { disable_help_flag = true }
    → out-Command c ≡ record (out-Command b) { disable_help_subcommand = true } → out-Command d ≡ record (out-Command c) { disable_version_flag = true }
    → app_of d ≡ on_top (λ s. record s { disable_help_flag = true; disable_help_subcommand = true; disable_version_flag = true }) (new_app name)
bare_is a b c d name new help sub version =
    let with_help : app_of b ≡ on_top (λ s. record s { disable_help_flag = true }) (app_of a) = ap app_of_fields help in
    let with_sub : app_of c ≡ on_top (λ s. record s { disable_help_subcommand = true }) (app_of b) = ap app_of_fields sub in
    let with_version : app_of d ≡ on_top (λ s. record s { disable_version_flag = true }) (app_of c) = ap app_of_fields version in
    with_version ∙ ap (on_top (λ s. record s { disable_version_flag = true })) (with_sub
    ∙ ap (on_top (λ s. record s { disable_help_subcommand = true })) (with_help ∙ ap (on_top (λ s. record s { disable_help_flag = true })) new))

-- the three lists of arguments, one after another
pub whole : (name : Text) (f : Syntax) (a b c d : App) → a ≡ on_top (λ s. record s { disable_help_flag = true; disable_help_subcommand = true; disable_version_flag = true }) (new_app name)
    → b ≡ with_rules a (map positional_arg f.positional) → c ≡ with_rules b (map valued_arg f.valued) → d ≡ with_rules c (map flag_arg f.flags) → d ≡ app_for name f
whole name f a b c d bare words valued flags =
    let p = map positional_arg f.positional in
    let v = map valued_arg f.valued in
    let g = map flag_arg f.flags in
    flags ∙ ap (λ x. with_rules x g) (valued ∙ ap (λ x. with_rules x v) words ∙ joined_twice a p v) ∙ joined_twice a (p ++ v) g
    ∙ ap₂ with_rules bare (append_assoc p v g)
