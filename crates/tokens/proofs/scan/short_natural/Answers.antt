use Rattle.std.proofs.Common.{◌≡◌, rules, arith, true}
use Rattle.tokens.proofs.Windows.{window_size}
use Rattle.tokens.proofs.scan.short_natural.Goals as goal

pub returns-clause-size : goal.returns-clause-size
returns-clause-size c =
    let some : c.begin_with_a_blank.result ≡ true = search rules in
    window_size 12 c.leading_digits-digits.result.size c.args.bytes.now c.leading_digits-digits.result.following.now (omega arith) c.leading_digits-digits.ensures.size c.leading_digits-digits.ensures.following (c.begin_with_a_blank.ensures.some some) (c.begin_with_a_blank.ensures.blank some) (search rules)
