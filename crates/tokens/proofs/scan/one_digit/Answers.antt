use Rattle.std.proofs.Common.{◌≡◌, true, rules, tests, get_or, w64}
use Rattle.std.specs.Prelude.{int_le, ◌&&◌}
use Rattle.std.specs.Char.{is_ascii_digit}
use Rattle.std.proofs.lemmas.Int.{to_z-of_z}
use Rattle.tokens.proofs.Windows.{one_digit_read, one_digit_after}
use Rattle.tokens.proofs.scan.one_digit.Goals as goal

pub returns-then-number-greatest-clause-value : goal.returns-then-number-greatest-clause-value
returns-then-number-greatest-clause-value c =
    let bytes = c.args.bytes.now in
    let digit : is_ascii_digit (get_or bytes 0 0) ≡ true = search (rules, tests) in
    let blank : c.begin_with_a_blank.result ≡ true = search rules in
    let within : (int_le c.args.least c.digit_value-number.result && int_le c.digit_value-number.result c.args.greatest) ≡ true = search (rules, tests) in
    let read = one_digit_read bytes c.in-len1-up.len_at_least digit (c.begin_with_a_blank.ensures.blank blank) c.args.least c.args.greatest c.digit_value-number.result c.digit_value-number.ensures within in
    rw (to_z-of_z w64 c.digit_value-number.result (record { sfits = c.digit_value-number.type_inv })) read

pub returns-then-number-greatest-clause-following : goal.returns-then-number-greatest-clause-following
returns-then-number-greatest-clause-following c =
    let bytes = c.args.bytes.now in
    let digit : is_ascii_digit (get_or bytes 0 0) ≡ true = search (rules, tests) in
    let blank : c.begin_with_a_blank.result ≡ true = search rules in
    one_digit_after bytes c.in-len1-up.len_at_least digit (c.begin_with_a_blank.ensures.blank blank)
