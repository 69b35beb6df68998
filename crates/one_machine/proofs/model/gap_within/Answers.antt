use Rattle.std.proofs.Common.{◌≡◌, ℕ, ◌<◌, pos, cond, Some, None, sym, ap, arith}
use Rattle.std.proofs.lemmas.Int.{ints}
use Rattle.dp_model.specs.Gaps.{within}
use Rattle.node_sets.specs.Sums.{count_below}
use Rattle.node_sets.specs.Sets.{words_for}
use Rattle.pending_rows.specs.Pending.{Pending, shown, covers}
use Rattle.pending_rows.proofs.Covering.{covers-gives, count-within}
use Rattle.pending_rows.proofs.Tests.{by_cases, read_count}
use Rattle.one_machine.specs.Program.{gap_of}
use Rattle.one_machine.proofs.model.gap_within.Goals as goal

-- a state that must do more covers none that must do less
no_gap : (n : ℕ) (a b : Pending) → count_below n b.must < count_below n a.must → gap_of n a b ≡ None
no_gap n a b l =
    ap (λ x. cond x (Some (pos 0)) None) (by_cases (covers n a b) (λ t. let fewer = count-within n a.must b.must (covers-gives n a b t).must in omega (arith, l, fewer)))

pub returns-then-rank_a-rank_s : goal.returns-then-rank_a-rank_s
returns-then-rank_a-rank_s c =
    let n = c.args.n in
    let a : Pending = shown (words_for n) c.args.a.now in
    let s : Pending = shown (words_for n) c.args.s.now in
    let one = read_count c.args.rank_a n a.must c.requires.covering_rank c.requires.few in
    let two = read_count c.args.rank_s n s.must c.requires.rank c.requires.few in
    let less : count_below n s.must < count_below n a.must = omega (arith, ints, one, two, c.if-rank_a-rank_s.true) in
    sym (ap (within c.args.most) (no_gap n a s less))
