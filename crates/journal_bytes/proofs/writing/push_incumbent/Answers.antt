use Rattle.std.specs.Int.{w64, to_be_bytes, cast_unsigned}
use Rattle.std.proofs.Common.{rules, ◌≡◌, ◌∙◌, ap, ◌++◌, ◌∷◌, [], List, ℕ}
use Rattle.journal_bytes.specs.Spelling.{decision_bytes}
use Rattle.journal_bytes.specs.Views.{incumbent_view}
use Rattle.journal_bytes.proofs.Sizes.{best_is}
use Rattle.journal_bytes.proofs.writing.push_incumbent.Goals as goal

pub returns-clause-bytes : goal.returns-clause-bytes
returns-clause-bytes c =
    let one : c.push.new.self.items ≡ c.args.body.now.items ++ 1 ∷ [] = search rules in
    let value : c.extend_from_slice.new.self.items ≡ c.push.new.self.items ++ to_be_bytes w64 (cast_unsigned w64 c.args.incumbent.now.value) = search rules in
    let decisions = c.in_ok-push_decisions.ensures.bytes ∙ ap (λ (l : List ℕ). c.extend_from_slice.new.self.items ++ decision_bytes l) c.deref.ensures.value in
    best_is c.args.body.now.items c.push.new.self.items c.extend_from_slice.new.self.items c.push_decisions.new.body.items (incumbent_view c.args.incumbent.now) one value decisions
