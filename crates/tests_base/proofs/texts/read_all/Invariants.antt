use Rattle.std.proofs.Common.{◌≡◌, ◌-◌}
use Rattle.tokens.specs.Grammar.{times}
use Rattle.tests_base.specs.Digits.{digit_at}
use Rattle.tests_base.proofs.texts.read_all.Given as goal

abbrev pub invariant-loop : goal.invariant-loop
invariant-loop l = times digit_at (l.count - l.counter) l.digits.items l.tokens ≡ times digit_at l.count l.initial.digits.items l.initial.tokens
