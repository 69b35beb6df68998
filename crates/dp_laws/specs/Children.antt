-- The children of a prefix: how two of them differ, how deep they stand, how long their list is, and when they are sound.
use Rattle.std.specs.Prelude.{◌≡◌, ℕ, ◌+◌, ◌*◌, ◌≤◌, nat_eq, ℤ, Bool, false, ◌&&◌, List, [], length, map, sum_by, Option, Some, None, option_map, ◌⊎◌}
use Rattle.dp_model.specs.Solution.{Solution}
use Rattle.dp_model.specs.Cover.{IsHeld}
use Rattle.dp_model.specs.Dp.{Dp}
use Rattle.dp_model.specs.declared.limits.TheConstants.{MOST_WIDTH}
use Rattle.dp_model.specs.Lists.{Each, OneOf}
use Rattle.dp_model.specs.Numbers.{AtMost, OptionAtMost, IsFar}
use Rattle.dp_model.specs.Prefixes.{IsCompletion, IsMatched, value_of}
use Rattle.dp_model.specs.Rows.{row_same}
use Rattle.dp_model.specs.Subproblem.{Subproblem, IsChild}
use Rattle.dp_laws.specs.Antichains.{NeitherBegins}
use Rattle.dp_laws.specs.Pairs.{EachTwo}

-- the prefix of neither begins with that of the other
abbrev pub AreApart : Subproblem → Subproblem → Type 0
AreApart a b = NeitherBegins a.decisions b.decisions

-- whether a subproblem has this depth and state
abbrev pub is_at : ℕ → List ℤ → Subproblem → Bool
is_at depth row c = nat_eq (length c.decisions) depth && row_same c.row row

-- the two differ in depth or state
abbrev pub DifferInPlace : Subproblem → Subproblem → Type 0
DifferInPlace a b = is_at (length a.decisions) a.row b ≡ false

-- each stands just above the depth; without a depth there is none
abbrev pub StandAt : Option ℕ → List Subproblem → Type 0
StandAt None children = children ≡ []
StandAt (Some depth) children = Each (λ (c : Subproblem). length c.decisions + 1 ≡ depth) children

-- each stands just above the depth or deeper; without a depth there is none
abbrev pub StandDeep : Option ℕ → List Subproblem → Type 0
StandDeep None children = children ≡ []
StandDeep (Some depth) children = Each (λ (c : Subproblem). depth ≤ length c.decisions + 1) children

-- the bytes of a record that names all children: 12 for itself, and for each child 20 and 4 for each of its decisions
abbrev pub children_size : List Subproblem → ℕ
children_size cs = 12 + sum_by (λ (c : Subproblem). 20 + 4 * length c.decisions) cs

-- the decisions are a completion of p, with this value
pub record IsCompletionWith (dp : Dp) (p x : List ℕ) (v : ℤ) : Type 0 where
  pub completion : IsCompletion dp p x
  pub value : v ≡ value_of dp x

-- a found solution is a completion of the prefix with its value
abbrev pub FoundCompletes : Dp → List ℕ → Option Solution → Type 0
FoundCompletes dp p None = Unit {0}
FoundCompletes dp p (Some best) = IsCompletionWith dp p best.decisions best.value

-- the value of a found solution
abbrev pub found_value : Option Solution → Option ℤ
found_value found = option_map (λ (b : Solution). b.value) found

-- sound children of p, for a threshold and a found solution or none: each is a prefix of its own that properly extends p, no
-- prefix of one begins with that of another, no two have one depth and state, and the threshold holds their bounds; the found
-- solution is a completion of p with its value; and each completion of p is at most the threshold, at most the found solution,
-- or matched by a child
pub record AreSound (dp : Dp) (p : List ℕ) (t : Option ℤ) (found : Option Solution) (cs : List Subproblem) : Type 0 where
  pub own : Each (IsChild dp p) cs
  pub apart : EachTwo AreApart cs
  pub differ : EachTwo DifferInPlace cs
  pub held : Each (λ c. IsHeld dp t c.decisions c.bound) cs
  pub solution : FoundCompletes dp p found
  pub matched : (x : List ℕ) → IsCompletion dp p x →
      AtMost (value_of dp x) t ⊎ (AtMost (value_of dp x) (found_value found) ⊎ OneOf (IsMatched dp x) (map (λ c. c.decisions) cs))

-- children that may take the place of p where all that is at most a reach, as the incumbent's value, is left out: not too
-- many, with bounds of a bounded size, and sound for the reach
pub record AreChildren (dp : Dp) (reach : Option ℤ) (p : List ℕ) (cs : List Subproblem) : Type 0 where
  pub few : length cs ≤ MOST_WIDTH
  pub own : Each (IsChild dp p) cs
  pub apart : EachTwo AreApart cs
  pub differ : EachTwo DifferInPlace cs
  pub far : Each (λ c. IsFar c.bound) cs
  pub held : Each (λ c. IsHeld dp reach c.decisions c.bound) cs
  pub matched : (x : List ℕ) → IsCompletion dp p x → AtMost (value_of dp x) reach ⊎ OneOf (IsMatched dp x) (map (λ c. c.decisions) cs)

-- sound children may take the place of p where threshold and found solution are at most the reach
abbrev pub SoundChildrenFollow : Dp → Type 0
SoundChildrenFollow dp = (reach t : Option ℤ) (found : Option Solution) (p : List ℕ) (cs : List Subproblem) → OptionAtMost t reach → OptionAtMost (found_value found) reach
    → length cs ≤ MOST_WIDTH → Each (λ c. IsFar c.bound) cs → AreSound dp p t found cs → AreChildren dp reach p cs
