use Rattle.std.specs.Int.{w64, to_be_bytes, cast_unsigned}
use Rattle.std.proofs.Common.{rules, ◌≡◌, ◌∙◌, ap, ◌++◌, List, ℕ}
use Rattle.journal_bytes.proofs.Sizes.{bounded_is}
use Rattle.journal_bytes.proofs.writing.push_bounded.Goals as goal

pub returns-clause-bytes : goal.returns-clause-bytes
returns-clause-bytes c =
    let number = c.in_ok-extend_from_slice.ensures.items ∙ ap (λ (l : List ℕ). c.args.body.now.items ++ l) c.to_be_bytes.ensures in
    let bound : c.extend_from_slice-2.new.self.items ≡ c.extend_from_slice.new.self.items ++ to_be_bytes w64 (cast_unsigned w64 c.args.bound) = search rules in
    bounded_is c.args.body.now.items c.extend_from_slice.new.self.items c.extend_from_slice-2.new.self.items c.push_decisions.new.body.items c.args.number c.args.bound c.args.decisions.now number bound c.in_ok-push_decisions.ensures.bytes
