use Rattle.std.proofs.Common.{◌∙◌, codes}
use Rattle.clap.specs.Simple.{app_of}
use Rattle.solver_words.specs.Commands.{syntax_of}
use Rattle.solver_words.proofs.Outcomes.{err_tells, ok_tells}
use Rattle.solver_words.proofs.command.parse.Goals as goal

pub returns-in-Ok-try_get_matches_from : goal.returns-in-Ok-try_get_matches_from
returns-in-Ok-try_get_matches_from c =
    ok_tells (codes "command") (syntax_of c.args.expected.now) c.requires.names c.args.words.now c.requires.command c.in-Ok-try_get_matches_from.matches
    (app_of c.in-Ok.command) c.in-Ok.ensures c.in-Ok-try_get_matches_from.ensures.kinds c.in-Ok-try_get_matches_from.ensures.matches

pub returns : goal.returns
returns c =
    err_tells (codes "command") (syntax_of c.args.expected.now) c.requires.names c.args.words.now c.requires.command c.in-Err.error
    (app_of c.in-Ok.command) c.in-Ok.ensures c.in-Err.ensures.kinds (λ e. c.in_default-kind.not-OutOfMemory (c.kind.ensures ∙ e))
