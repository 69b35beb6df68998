use Rattle.std.proofs.Common.{◌∙◌, ap₂, ◌||◌, sym}
use Rattle.std.proofs.lemmas.Bool.{or_left, or_right}
use Rattle.node_sets.specs.Sets.{words_for}
use Rattle.pending_rows.specs.Pending.{shown}
use Rattle.pending_rows.proofs.Tests.{open_shown, must-shown, left_taken, left_kept}
use Rattle.pending_rows.proofs.states.left_after.Goals as goal

pub returns-then-contains-clause-open : goal.returns-then-contains-clause-open
returns-then-contains-clause-open c =
    sym (open_shown (words_for c.args.n) c.args.s.now _ _ c.args.number c.parts_of-state.ensures.must c.parts_of-state.ensures.may (or_left _ _ (sym c.contains.ensures ∙ c.if-contains.true)))

pub returns-then-contains-clause-left : goal.returns-then-contains-clause-left
returns-then-contains-clause-left c =
    left_taken c.args.n c.args.number (shown (words_for c.args.n) c.args.s.now).must c.args.rank c.requires.few c.requires.inside c.requires.rank
    (sym (must-shown (words_for c.args.n) c.args.s.now _ c.args.number c.parts_of-state.ensures.must) ∙ sym c.contains.ensures ∙ c.if-contains.true)

pub returns-then-contains-2-clause-open : goal.returns-then-contains-2-clause-open
returns-then-contains-2-clause-open c =
    sym (open_shown (words_for c.args.n) c.args.s.now _ _ c.args.number c.parts_of-state.ensures.must c.parts_of-state.ensures.may (or_right _ _ (sym c.contains-2.ensures ∙ c.if-contains-2.true)))

pub returns-then-contains-2-clause-left : goal.returns-then-contains-2-clause-left
returns-then-contains-2-clause-left c =
    left_kept c.args.n c.args.number (shown (words_for c.args.n) c.args.s.now).must c.args.rank c.requires.few c.requires.rank
    (sym (must-shown (words_for c.args.n) c.args.s.now _ c.args.number c.parts_of-state.ensures.must) ∙ sym c.contains.ensures ∙ c.if-contains.false)

pub returns-clause-open : goal.returns-clause-open
returns-clause-open c =
    sym (open_shown (words_for c.args.n) c.args.s.now _ _ c.args.number c.parts_of-state.ensures.must c.parts_of-state.ensures.may
    (ap₂ ◌||◌ (sym c.contains.ensures ∙ c.if-contains.false) (sym c.contains-2.ensures ∙ c.if-contains-2.false)))
