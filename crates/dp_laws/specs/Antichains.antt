-- Prefixes of which none begins with another.
use Rattle.std.specs.Prelude.{◌≡◌, ℕ, ◌<◌, false, List, length, sum_by, IsTrue}
use Rattle.dp_model.specs.Counts.{pot}
use Rattle.dp_model.specs.Decisions.{begins}
use Rattle.dp_model.specs.Dp.{Dp}
use Rattle.dp_model.specs.Lists.{Each}
use Rattle.dp_model.specs.Prefixes.{IsPrefix}
use Rattle.dp_laws.specs.Pairs.{EachTwo}

-- neither list begins with the other
pub record NeitherBegins (a b : List ℕ) : Type 0 where
  pub first : begins a b ≡ false
  pub second : begins b a ≡ false

-- a prefix that properly extends p
pub record IsExtension (dp : Dp) (p q : List ℕ) : Type 0 where
  pub prefix : IsPrefix dp q
  pub extends : IsTrue (begins p q)
  pub deeper : length p < length q

-- extensions of p of which none begins with another count together for less than p
abbrev pub PotsAreBelow : Dp → Type 0
PotsAreBelow dp = (p : List ℕ) (qs : List (List ℕ)) → length p < dp.vars → Each (IsExtension dp p) qs → EachTwo NeitherBegins qs → sum_by (pot dp) qs < pot dp p

-- a prefix that is shorter than the number of variables counts itself
abbrev pub PotsArePositive : Dp → Type 0
PotsArePositive dp = (p : List ℕ) → length p < dp.vars → 0 < pot dp p
