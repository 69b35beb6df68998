-- A part of the cells that is lent.
use Rattle.std.specs.Prelude.{ℕ, ℤ, List, ◌++◌, take, drop}
use Rattle.std.specs.Borrow.{Lends, MutBor, Fml, RattleType, Array, i64}
use Rattle.std.specs.Vec.{with_items}
use Rattle.std.specs.declared.vec.Vec.{Vec}
use Rattle.std.specs.declared.alloc.Global.{Global}
use Rattle.std.specs.contracts.vec.Vec.{the_row as vec_row}
use Rattle.std.specs.contracts.alloc.Global.{the_row as global_row}
use Rattle.std.specs.contracts.impls.GlobalAllocator.TheImpl.{ghosts}
use Rattle.row_region.specs.Region.{refilled}

-- the cells' type, as the logic holds it
abbrev pub cells_row : RattleType
cells_row = vec_row i64 global_row ghosts

-- the cells with a part of them written
abbrev pub written : ℕ → ℕ → List ℤ → List ℤ → List ℤ
written at words cells ws = take at cells ++ (refilled words (take words (drop at cells)) ws ++ drop words (drop at cells))

-- what is written through r is the whole vector
abbrev pub LendsWhole : MutBor (Vec ℤ Global) → MutBor (List ℤ) → Fml
LendsWhole v r = Lends cells_row (Array i64 0) v r (with_items v.now)

-- what is written through r is this part of the vector
abbrev pub LendsPart : MutBor (Vec ℤ Global) → ℕ → ℕ → MutBor (List ℤ) → Fml
LendsPart v at words r = Lends cells_row (Array i64 0) v r (λ ws. with_items v.now (written at words v.now.items ws))
