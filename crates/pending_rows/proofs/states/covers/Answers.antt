use Rattle.std.proofs.Common.{sym, arith}
use Rattle.node_sets.specs.Sets.{words_for}
use Rattle.pending_rows.proofs.Tests.{must_cover, all_cover}
use Rattle.pending_rows.proofs.states.covers.Goals as goal

pub returns-then-not-must_within : goal.returns-then-not-must_within
returns-then-not-must_within c =
    sym (must_cover c.args.n (words_for c.args.n) c.args.a.now c.args.s.now _ _ _ c.parts_of-wide.ensures.must c.parts_of-part.ensures.must c.parts_of-wide.ensures.must_set c.is_subset-must_within.ensures.1 c.if-not-must_within.true)

pub returns : goal.returns
returns c =
    all_cover c.args.n (words_for c.args.n) c.args.a.now c.args.s.now _ _ _ _ _ _ _ _
    c.parts_of-wide.ensures.must c.parts_of-wide.ensures.may c.parts_of-part.ensures.must c.parts_of-part.ensures.may c.parts_of-wide.ensures.time c.parts_of-part.ensures.time
    c.parts_of-part.ensures.must_set c.parts_of-part.ensures.may_set (omega arith)
    c.if-not-must_within.false c.is_subset-must_within.ensures.0 c.is_union_subset.ensures.0 c.is_union_subset.ensures.1
