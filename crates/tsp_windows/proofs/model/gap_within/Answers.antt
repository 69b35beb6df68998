use Rattle.std.proofs.Common.{◌≡◌, ℕ, ◌<◌, pos, ◌-ℤ◌, ◌&&◌, cond, false, Some, None, sym, ap, arith}
use Rattle.std.proofs.lemmas.Int.{ints}
use Rattle.dp_model.specs.Gaps.{within}
use Rattle.node_sets.specs.Sums.{count_below}
use Rattle.node_sets.specs.Sets.{words_for}
use Rattle.pending_rows.specs.Pending as rows
use Rattle.pending_rows.proofs.Covering.{covers-gives, count-within}
use Rattle.pending_rows.proofs.Tests.{by_cases, read_count}
use Rattle.tsp_windows.specs.Program.{gap_of}
use Rattle.tsp_windows.specs.States.{TourState, shown, is_within}
use Rattle.tsp_windows.proofs.model.gap_within.Goals as goal

-- a state from which more must be visited covers none from which fewer must
no_gap : (n : ℕ) (a b : TourState) → count_below n b.pending.must < count_below n a.pending.must → gap_of n a b ≡ None
no_gap n a b l =
    let none : rows.covers n a.pending b.pending ≡ false = by_cases (rows.covers n a.pending b.pending) (λ t. let fewer = count-within n a.pending.must b.pending.must (covers-gives n a.pending b.pending t).must in omega (arith, l, fewer)) in
    ap (λ x. cond (x && is_within n b.positions a.positions) (Some (pos b.pending.time -ℤ pos a.pending.time)) None) none

pub returns-then-rank_a-rank_s : goal.returns-then-rank_a-rank_s
returns-then-rank_a-rank_s c =
    let n = c.args.nodes in
    let a : TourState = shown (words_for n) c.args.a.now in
    let s : TourState = shown (words_for n) c.args.s.now in
    let one = read_count c.args.rank_a n a.pending.must c.requires.covering_rank (omega (arith, c.requires.few)) in
    let two = read_count c.args.rank_s n s.pending.must c.requires.rank (omega (arith, c.requires.few)) in
    let less : count_below n s.pending.must < count_below n a.pending.must = omega (arith, ints, one, two, c.if-rank_a-rank_s.true) in
    sym (ap (within c.args.most) (no_gap n a s less))
