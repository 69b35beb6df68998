use Rattle.std.proofs.Common.{◌∙◌, arith, codes, drop, map, string_bytes}
use Rattle.solver_words.specs.Words.{meaning}
use Rattle.solver_words.proofs.Meanings.{by_name, no_command, refused_at_once, meaning_is, test_is}
use Rattle.solver_words.proofs.reading.read_command.Goals as goal

pub returns-then-has_refused : goal.returns-then-has_refused
returns-then-has_refused c = refused_at_once c.args.words.now (omega arith) (test_is c.args.words.now c.has_refused.result c.has_refused.ensures ∙ c.if-has_refused.true)

pub returns-in-solve : goal.returns-in-solve
returns-in-solve c =
    let words = map string_bytes c.args.words.now in
    by_name (meaning words) c.as_str.result.now (codes "solve") (drop 1 words) c.read_solve.result
    (meaning_is c.args.words.now c.command-item.result c.as_str.result.now (omega arith) c.command-item.is c.as_str.ensures.value (test_is c.args.words.now c.has_refused.result c.has_refused.ensures ∙ c.if-has_refused.false))
    c.in-solve.is c.read_solve.ensures

pub returns-in-resume : goal.returns-in-resume
returns-in-resume c =
    let words = map string_bytes c.args.words.now in
    by_name (meaning words) c.as_str.result.now (codes "resume") (drop 1 words) c.read_resume.result
    (meaning_is c.args.words.now c.command-item.result c.as_str.result.now (omega arith) c.command-item.is c.as_str.ensures.value (test_is c.args.words.now c.has_refused.result c.has_refused.ensures ∙ c.if-has_refused.false))
    c.in-resume.is c.read_resume.ensures

pub returns-in-split : goal.returns-in-split
returns-in-split c =
    let words = map string_bytes c.args.words.now in
    by_name (meaning words) c.as_str.result.now (codes "split") (drop 1 words) c.read_split.result
    (meaning_is c.args.words.now c.command-item.result c.as_str.result.now (omega arith) c.command-item.is c.as_str.ensures.value (test_is c.args.words.now c.has_refused.result c.has_refused.ensures ∙ c.if-has_refused.false))
    c.in-split.is c.read_split.ensures

pub returns-in-check : goal.returns-in-check
returns-in-check c =
    let words = map string_bytes c.args.words.now in
    by_name (meaning words) c.as_str.result.now (codes "check") (drop 1 words) c.read_check.result
    (meaning_is c.args.words.now c.command-item.result c.as_str.result.now (omega arith) c.command-item.is c.as_str.ensures.value (test_is c.args.words.now c.has_refused.result c.has_refused.ensures ∙ c.if-has_refused.false))
    c.in-check.is c.read_check.ensures

pub returns-in-join : goal.returns-in-join
returns-in-join c =
    let words = map string_bytes c.args.words.now in
    by_name (meaning words) c.as_str.result.now (codes "join") (drop 1 words) c.read_join.result
    (meaning_is c.args.words.now c.command-item.result c.as_str.result.now (omega arith) c.command-item.is c.as_str.ensures.value (test_is c.args.words.now c.has_refused.result c.has_refused.ensures ∙ c.if-has_refused.false))
    c.in-join.is c.read_join.ensures

pub returns-in-digest : goal.returns-in-digest
returns-in-digest c =
    let words = map string_bytes c.args.words.now in
    by_name (meaning words) c.as_str.result.now (codes "digest") (drop 1 words) c.read_digest.result
    (meaning_is c.args.words.now c.command-item.result c.as_str.result.now (omega arith) c.command-item.is c.as_str.ensures.value (test_is c.args.words.now c.has_refused.result c.has_refused.ensures ∙ c.if-has_refused.false))
    c.in-digest.is c.read_digest.ensures

pub returns-in-generate : goal.returns-in-generate
returns-in-generate c =
    let words = map string_bytes c.args.words.now in
    by_name (meaning words) c.as_str.result.now (codes "generate") (drop 1 words) c.read_generate.result
    (meaning_is c.args.words.now c.command-item.result c.as_str.result.now (omega arith) c.command-item.is c.as_str.ensures.value (test_is c.args.words.now c.has_refused.result c.has_refused.ensures ∙ c.if-has_refused.false))
    c.in-generate.is c.read_generate.ensures

pub returns-in_default-as_str : goal.returns-in_default-as_str
returns-in_default-as_str c =
    let words = map string_bytes c.args.words.now in
    let other = c.in_default-as_str in
    meaning_is c.args.words.now c.command-item.result c.as_str.result.now (omega arith) c.command-item.is c.as_str.ensures.value (test_is c.args.words.now c.has_refused.result c.has_refused.ensures ∙ c.if-has_refused.false)
    ∙ no_command c.as_str.result.now (drop 1 words) other.not-solve other.not-resume other.not-split other.not-check other.not-join other.not-digest other.not-generate
