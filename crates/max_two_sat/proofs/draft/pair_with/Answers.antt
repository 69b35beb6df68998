use Rattle.std.proofs.Common.{◌^◌, ℤ, pos, ◌+ℤ◌, ◌≤ℤ◌, arith, refl}
use Rattle.std.proofs.lemmas.Int.{ints}
use Rattle.max_two_sat.specs.declared.weights.PairWeights.{PairWeights}
use Rattle.max_two_sat.specs.Instance.{pair_total}
use Rattle.max_two_sat.specs.Limits.{PairIsPositive}
use Rattle.pair_rows.proofs.RunningSums.{WordsAdd, words-add}
use Rattle.max_two_sat.proofs.draft.pair_with.Goals as goal

-- each of the four weights has room for one more
record HasRoom (p : PairWeights) (w : ℤ) : Type 0 where
  both : WordsAdd p.both w
  first : WordsAdd p.first w
  second : WordsAdd p.second w
  neither : WordsAdd p.neither w

room : (p : PairWeights) (w : ℤ) → PairIsPositive p → pos 0 ≤ℤ w → (pair_total p +ℤ w) ≤ℤ pos (2 ^ 48) → HasRoom p w
room p w here low high = record {
  both = words-add p.both w here.both low (omega (arith, ints, here.first, here.second, here.neither));
  first = words-add p.first w here.first low (omega (arith, ints, here.both, here.second, here.neither));
  second = words-add p.second w here.second low (omega (arith, ints, here.both, here.first, here.neither));
  neither = words-add p.neither w here.neither low (omega (arith, ints, here.both, here.first, here.second));
}

pub overflow_add-heavier : goal.overflow_add-heavier
overflow_add-heavier c = (room c.args.pair c.args.weight c.requires.positive c.requires.low c.requires.room).both.fits

pub returns-in-true-true : goal.returns-in-true-true
returns-in-true-true c =
    let sum = (room c.args.pair c.args.weight c.requires.positive c.requires.low c.requires.room).both.is in
    rw (sum, c.in-true-true.is-0, c.in-true-true.is-1) refl

pub overflow_add-heavier-in-true-false : goal.overflow_add-heavier-in-true-false
overflow_add-heavier-in-true-false c = (room c.args.pair c.args.weight c.requires.positive c.requires.low c.requires.room).first.fits

pub returns-in-true-false : goal.returns-in-true-false
returns-in-true-false c =
    let sum = (room c.args.pair c.args.weight c.requires.positive c.requires.low c.requires.room).first.is in
    rw (sum, c.in-true-false.is-0, c.in-true-false.is-1) refl

pub overflow_add-heavier-in-false-true : goal.overflow_add-heavier-in-false-true
overflow_add-heavier-in-false-true c = (room c.args.pair c.args.weight c.requires.positive c.requires.low c.requires.room).second.fits

pub returns-in-false-true : goal.returns-in-false-true
returns-in-false-true c =
    let sum = (room c.args.pair c.args.weight c.requires.positive c.requires.low c.requires.room).second.is in
    rw (sum, c.in-false-true.is-0, c.in-false-true.is-1) refl

pub overflow_add-heavier-in-false-false : goal.overflow_add-heavier-in-false-false
overflow_add-heavier-in-false-false c = (room c.args.pair c.args.weight c.requires.positive c.requires.low c.requires.room).neither.fits

pub returns-in-false-false : goal.returns-in-false-false
returns-in-false-false c =
    let sum = (room c.args.pair c.args.weight c.requires.positive c.requires.low c.requires.room).neither.is in
    rw (sum, c.in-false-false.is-0, c.in-false-false.is-1) refl
