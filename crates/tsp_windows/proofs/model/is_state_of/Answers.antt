use Rattle.std.proofs.Common.{take, length, ap, sym, ◌∙◌, arith}
use Rattle.std.proofs.lemmas.List.{length-drop}
use Rattle.node_sets.specs.Sets.{words_for}
use Rattle.node_sets.proofs.Counts.{is_set-gives}
use Rattle.pending_rows.specs.Pending.{is_pending_row, must_of, may_of}
use Rattle.tsp_windows.proofs.StateLemmas.{rest_of, no_positions, no_pending, state_last}
use Rattle.tsp_windows.proofs.model.is_state_of.Goals as goal

pub is_row-row-requires-clause-cells : goal.is_row-row-requires-clause-cells
is_row-row-requires-clause-cells c =
    let following = length-drop (words_for c.args.nodes) c.args.s.now in
    ap length (rest_of (words_for c.args.nodes) c.words_for-words.result c.args.s.now c.words_for-words.ensures) ∙ omega (arith, following, c.requires.cells)

pub is_sound-requires-clause-positions_cells : goal.is_sound-requires-clause-positions_cells
is_sound-requires-clause-positions_cells c = (is_set-gives c.args.nodes _ (sym c.is_set-set.ensures ∙ c.if-not-set.false)).cells

pub is_sound-requires-clause-must_cells : goal.is_sound-requires-clause-must_cells
is_sound-requires-clause-must_cells c = c.parts_of-state.ensures.must_set.cells

pub is_sound-requires-clause-may_cells : goal.is_sound-requires-clause-may_cells
is_sound-requires-clause-may_cells c = c.parts_of-state.ensures.may_set.cells

pub is_sound-requires-clause-must_some : goal.is_sound-requires-clause-must_some
is_sound-requires-clause-must_some c = omega (arith, c.requires.some, c.parts_of-state.ensures.must_set.words)

pub is_sound-requires-clause-may_some : goal.is_sound-requires-clause-may_some
is_sound-requires-clause-may_some c = omega (arith, c.requires.some, c.parts_of-state.ensures.may_set.words)

pub returns-then-not-set : goal.returns-then-not-set
returns-then-not-set c =
    sym (no_positions c.args.nodes c.args.s.now _ (ap (λ w. take w c.args.s.now) c.words_for-words.ensures) (sym c.is_set-set.ensures ∙ c.if-not-set.true))

pub returns-then-not-row : goal.returns-then-not-row
returns-then-not-row c =
    sym (no_pending c.args.nodes c.args.s.now _ (rest_of (words_for c.args.nodes) c.words_for-words.result c.args.s.now c.words_for-words.ensures) (sym c.is_row-row.ensures ∙ c.if-not-row.true))

pub returns : goal.returns
returns c =
    let rest = rest_of (words_for c.args.nodes) c.words_for-words.result c.args.s.now c.words_for-words.ensures in
    state_last c.args.nodes c.args.s.now _ _ _ (ap (λ w. take w c.args.s.now) c.words_for-words.ensures)
    (c.parts_of-state.ensures.must ∙ ap (must_of (words_for c.args.nodes)) rest) (c.parts_of-state.ensures.may ∙ ap (may_of (words_for c.args.nodes)) rest)
    (sym c.is_set-set.ensures ∙ c.if-not-set.false) (ap (is_pending_row c.args.nodes) (sym rest) ∙ sym c.is_row-row.ensures ∙ c.if-not-row.false)
    c.is_sound.ensures.0 c.is_sound.ensures.1
