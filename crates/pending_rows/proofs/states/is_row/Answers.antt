use Rattle.std.proofs.Common.{◌*◌, pos, get_or, take, ap, sym, ◌∙◌, FitsSigned, w64, rules}
use Rattle.std.proofs.lemmas.Int.{to_z-of_z}
use Rattle.node_sets.specs.Sets.{words_for}
use Rattle.node_sets.proofs.Counts.{is_set-gives}
use Rattle.pending_rows.proofs.Tests.{not_apart, time_last}
use Rattle.pending_rows.proofs.Written.{may_part}
use Rattle.pending_rows.proofs.states.is_row.Goals as goal

pub is_disjoint-apart-requires-clause-left_cells : goal.is_disjoint-apart-requires-clause-left_cells
is_disjoint-apart-requires-clause-left_cells c = (is_set-gives c.args.n _ (sym c.is_set-must_set.ensures ∙ c.if-not-must_set.false)).cells

pub is_disjoint-apart-requires-clause-right_cells : goal.is_disjoint-apart-requires-clause-right_cells
is_disjoint-apart-requires-clause-right_cells c = (is_set-gives c.args.n _ (sym c.is_set-may_set.ensures ∙ c.if-not-may_set.false)).cells

pub returns-then-not-apart : goal.returns-then-not-apart
returns-then-not-apart c =
    not_apart c.args.n c.args.s.now _ _ _ (ap (λ w. take w c.args.s.now) c.words_for-words.ensures) (may_part (words_for c.args.n) c.words_for-words.result c.args.s.now c.words_for-words.ensures)
    c.is_disjoint-apart.ensures.1 c.if-not-apart.true

pub returns-then-time-ge0 : goal.returns-then-time-ge0
returns-then-time-ge0 c =
    let fits : FitsSigned w64 (get_or c.args.s.now (2 * c.words_for-words.result) (pos 0)) = search rules in
    time_last c.args.n c.args.s.now _ _ _ c.requires.cells (ap (λ w. take w c.args.s.now) c.words_for-words.ensures) (may_part (words_for c.args.n) c.words_for-words.result c.args.s.now c.words_for-words.ensures)
    (sym c.is_set-must_set.ensures ∙ c.if-not-must_set.false) (sym c.is_set-may_set.ensures ∙ c.if-not-may_set.false) (c.is_disjoint-apart.ensures.0 c.if-not-apart.false)
    (to_z-of_z w64 (get_or c.args.s.now (2 * c.words_for-words.result) (pos 0)) fits ∙ ap (λ w. get_or c.args.s.now (2 * w) (pos 0)) c.words_for-words.ensures) c.if-time-ge0.true
