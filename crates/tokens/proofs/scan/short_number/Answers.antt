use Rattle.std.proofs.Common.{◌-◌, true, false, length, take, drop, rules}
use Rattle.std.specs.Prelude.{IfSome}
use Rattle.tokens.proofs.Windows.{IsRead, minus_read, digits_read}
use Rattle.tokens.proofs.scan.short_number.Goals as goal

pub returns-in-45-clause-value : goal.returns-in-45-clause-value
returns-in-45-clause-value c =
    let bytes = c.args.bytes.now in
    let read : IfSome c.short_within.result (IsRead (λ n. n.value) c.args.least c.args.greatest bytes true (take (length bytes - 1) (drop 1 bytes))) = search rules in
    minus_read (λ n. n.value) c.args.least c.args.greatest bytes c.short_within.result c.in-45.len_at_least (cc) read

pub returns-in_default-bytes-clause-value : goal.returns-in_default-bytes-clause-value
returns-in_default-bytes-clause-value c =
    let bytes = c.args.bytes.now in
    let read : IfSome c.short_within-in_default-bytes.result (IsRead (λ n. n.value) c.args.least c.args.greatest bytes false bytes) = search rules in
    digits_read (λ n. n.value) c.args.least c.args.greatest bytes c.short_within-in_default-bytes.result c.short_within-in_default-bytes.ensures.digit read
