use Rattle.std.proofs.Common.{◌≡◌, ◌++◌, take}
use Rattle.journal_bytes.specs.Spelling.{numbers}
use Rattle.journal_bytes.proofs.writing.push_numbers.Given as goal

abbrev pub invariant-loop-n : goal.invariant-loop-n
invariant-loop-n l = l.body.items ≡ l.initial.body.items ++ numbers (take l.n-index l.items)
