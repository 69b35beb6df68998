use Rattle.std.proofs.lemmas.Result.{IfOk-weaker}
use Rattle.clap.specs.Simple.{app_of}
use Rattle.solver_words.specs.Commands.{syntax_of}
use Rattle.solver_words.proofs.Commands.{bare_is, whole}
use Rattle.solver_words.proofs.command.new_command.Goals as goal

pub returns : goal.returns
returns c =
    let bare = bare_is c.new.result c.disable_help_flag.result c.disable_help_subcommand.result c.disable_version_flag-bare.result c.args.name.now c.new.ensures.app
    c.disable_help_flag.ensures c.disable_help_subcommand.ensures c.disable_version_flag-bare.ensures in
    IfOk-weaker c.with_args-3.result _ _ (λ d h. whole c.args.name.now (syntax_of c.args.expected.now) (app_of c.disable_version_flag-bare.result) (app_of c.in_ok-command.command)
    (app_of c.in_ok-command-2.command) (app_of d) bare c.in_ok-command.ensures c.in_ok-command-2.ensures h) c.with_args-3.ensures
