use Rattle.std.proofs.Common.{◌≢◌, ◌<◌, ◌∙◌, sym, rules, arith, get_or}
use Rattle.tokens.proofs.Scanning.{minus_number, after_minus, plain_number}
use Rattle.tokens.proofs.scan.leading_number.Goals as goal

pub returns-in-45-clause-value : goal.returns-in-45-clause-value
returns-in-45-clause-value c =
    let same = minus_number c.args.least c.args.greatest c.args.place.now c.args.bytes.now c.in-45.len_at_least (cc) in
    search rules

pub returns-in-45-clause-following : goal.returns-in-45-clause-following
returns-in-45-clause-following c =
    rw (after_minus c.args.bytes.now c.in-45.len_at_least (cc)) c.negative_within.ensures.following

pub returns-in-len1-up-3-clause-value : goal.returns-in-len1-up-3-clause-value
returns-in-len1-up-3-clause-value c =
    let other : get_or c.args.bytes.now 0 0 ≢ 45 = search rules in
    let low : get_or c.args.bytes.now 0 0 < 128 = omega (arith, c.if-first-ge-NOT_ASCII.false) in
    let same = plain_number c.args.least c.args.greatest c.args.place.now c.args.bytes.now c.in-len1-up.len_at_least other (sym c.is_blank_byte.ensures ∙ c.if-is_blank_byte.false) low in
    search rules
