-- The dynamic program of an instance: layer k gives variable k its value, and a state has for each later variable how much more it
-- gives by 1 than by 0, on its own and with the variables that are decided.
use Rattle.std.specs.Prelude.{ℕ, zero, suc, ℤ, pos, neg_ℤ, ◌+ℤ◌, ◌-ℤ◌, Bool, true, false, ◌&&◌, ◌==◌, int_le, List, [], ◌∷◌, ◌++◌, length, take, drop, Some, map, if◌then◌else◌}
use Rattle.std.specs.Int.{int_min}
use Rattle.benefit_rows.specs.Benefits.{above_zero, below_zero, choice_gain, rank_of, gap_of, merged_of}
use Rattle.dp_model.specs.Dp.{Dp}
use Rattle.pair_rows.specs.declared.values.UnitValues.{UnitValues}
use Rattle.pair_rows.specs.declared.values.PairValues.{PairValues}
use Rattle.pair_rows.specs.Hashes.{hash_of}
use Rattle.pair_rows.specs.Pairs.{rows_of, row_at}
use Rattle.pair_rows.specs.Instance.{Instance, unit_most, pair_most, rows_most}

-- what two variables give where the second is 1, by the value of the first
abbrev pub given_yes : PairValues → ℕ → ℤ
given_yes p zero = p.no_yes
given_yes p (suc _) = p.yes_yes

-- what they give where the second is 0
abbrev pub given_no : PairValues → ℕ → ℤ
given_no p zero = p.no_no
given_no p (suc _) = p.yes_no

-- the benefits of the later variables after the decision
abbrev pub grown : List PairValues → List ℤ → ℕ → List ℤ
grown [] ts d = []
grown (p ∷ ps) [] d = []
grown (p ∷ ps) (t ∷ ts) d = (t +ℤ (given_yes p d -ℤ given_no p d)) ∷ grown ps ts d

-- the lesser of what a later variable of benefit t then has on its two sides: this much is given whichever value it takes
abbrev pub cell_part : PairValues → ℤ → ℕ → ℤ
cell_part p t d = int_min (above_zero t +ℤ given_yes p d) (below_zero t +ℤ given_no p d)

-- the sum of this over the later variables
abbrev pub shared_gain : List PairValues → List ℤ → ℕ → ℤ
shared_gain [] ts d = pos 0
shared_gain (p ∷ ps) [] d = pos 0
shared_gain (p ∷ ps) (t ∷ ts) d = cell_part p t d +ℤ shared_gain ps ts d

-- the decided variable has no benefit any more
abbrev pub row_step : List PairValues → List ℤ → ℕ → List ℤ
row_step row [] d = []
row_step row (t ∷ ts) d = pos 0 ∷ grown row ts d

abbrev pub row_gain : List PairValues → List ℤ → ℕ → ℤ
row_gain row [] d = pos 0
row_gain row (t ∷ ts) d = choice_gain t d +ℤ shared_gain row ts d

-- a state has a word for each variable, and one word where there is none
abbrev pub words_of : ℕ → ℕ
words_of zero = 1
words_of (suc n) = suc n

abbrev pub root_of : List UnitValues → List ℤ
root_of [] = pos 0 ∷ []
root_of (u ∷ us) = map (λ v. v.if_yes -ℤ v.if_no) (u ∷ us)

-- the sum of the lesser of what each variable gives
abbrev pub lesser_units : List UnitValues → ℤ
lesser_units [] = pos 0
lesser_units (u ∷ us) = int_min u.if_no u.if_yes +ℤ lesser_units us

-- how large the benefits of the variables from a layer on may be: what each gives at most on its own, and with the variables before the layer
abbrev pub raised_limits : List PairValues → List ℤ → List ℤ
raised_limits [] ls = []
raised_limits (p ∷ ps) [] = []
raised_limits (p ∷ ps) (l ∷ ls) = (l +ℤ pair_most p) ∷ raised_limits ps ls

abbrev pub first_limits : List UnitValues → List ℤ
first_limits [] = pos 0 ∷ []
first_limits (u ∷ us) = map unit_most (u ∷ us)

abbrev pub limits_at : List UnitValues → List PairValues → ℕ → List ℤ
limits_at units pairs zero = first_limits units
limits_at units pairs (suc k) = raised_limits (row_at (rows_of (length units) pairs) k) (drop 1 (limits_at units pairs k))

-- whether the number is at most the limit in size
abbrev pub is_within : ℤ → ℤ → Bool
is_within t limit = int_le (neg_ℤ limit) t && int_le t limit

abbrev pub all_zero : List ℤ → Bool
all_zero [] = true
all_zero (t ∷ ts) = is_within t (pos 0) && all_zero ts

abbrev pub are_within : List ℤ → List ℤ → Bool
are_within [] limits = true
are_within (t ∷ ts) [] = false
are_within (t ∷ ts) (limit ∷ limits) = is_within t limit && are_within ts limits

-- the row is a state of the layer: what is decided has no benefit, and the others are within their limits
abbrev pub is_state_of : Instance → ℕ → List ℤ → Bool
is_state_of i k s = (length s == words_of (length i.units)) && (all_zero (take k s) && are_within (drop k s) (limits_at i.units i.pairs k))

abbrev pub program_of : Instance → Dp
program_of i =
    let rows = rows_of (length i.units) i.pairs in
    record {
      vars = length i.units;
      words = words_of (length i.units);
      choices = λ k. if k == 0 then i.first else 2;
      root = root_of i.units;
      root_value = i.constant +ℤ lesser_units i.units;
      is_state = is_state_of i;
      allowed = λ _ _ _. true;
      step = λ k s d. take k s ++ row_step (row_at rows k) (drop k s) d;
      gain = λ k s d. row_gain (row_at rows k) (drop k s) d;
      merged = λ _ a s. merged_of a s;
      gap = λ k a s. Some (gap_of (drop k a) (drop k s));
      rough = λ k s. Some (rank_of (drop k s) +ℤ rows_most (drop k rows));
      rank = λ _ s. rank_of s;
      bucket = λ _ _. 0;
      hash = λ k s. hash_of (drop k s);
    }
