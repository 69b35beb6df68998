use Rattle.std.proofs.Common.{drop, map, string_bytes}
use Rattle.solver_words.specs.Grammar.{line_of}
use Rattle.solver_words.specs.Words.{join_syntax, join_line}
use Rattle.solver_words.proofs.Meanings.{told, untold}
use Rattle.solver_words.proofs.reading.read_join.Goals as goal

pub returns-in_err-matches : goal.returns-in_err-matches
returns-in_err-matches c =
    untold (line_of join_syntax (drop 1 (map string_bytes c.args.words.now))) join_line c.from_residual.result c.in_err-matches.field-0.0 c.from_residual.ensures.1 c.in_err-matches.ensures

pub returns : goal.returns
returns c =
    told join_syntax (line_of join_syntax (drop 1 (map string_bytes c.args.words.now))) c.in_ok-matches.matches join_line c.join_job.result c.in_ok-matches.ensures c.join_job.ensures
