use Rattle.std.proofs.Common.{drop, map, string_bytes}
use Rattle.solver_words.specs.Grammar.{line_of}
use Rattle.solver_words.specs.Words.{split_syntax, split_line}
use Rattle.solver_words.proofs.Meanings.{told, untold}
use Rattle.solver_words.proofs.reading.read_split.Goals as goal

pub returns-in_err-matches : goal.returns-in_err-matches
returns-in_err-matches c =
    untold (line_of split_syntax (drop 1 (map string_bytes c.args.words.now))) split_line c.from_residual.result c.in_err-matches.field-0.0 c.from_residual.ensures.1 c.in_err-matches.ensures

pub returns : goal.returns
returns c =
    told split_syntax (line_of split_syntax (drop 1 (map string_bytes c.args.words.now))) c.in_ok-matches.matches split_line c.split_job.result c.in_ok-matches.ensures c.split_job.ensures
