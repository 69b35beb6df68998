-- Ranks in a heap.
use Rattle.std.specs.Prelude.{ℕ, List}
use Rattle.std.specs.declared.cmp.Ordering.{Ordering}
use Rattle.std.specs.Ordering.{int_cmp, nat_cmp, on, flip_args, then_cmp}
use Rattle.fringe.specs.declared.rank.Rank.{Rank}

-- the greater bound, then the greater value, then the lesser ticket, then the greater slot
abbrev pub rank_cmp : Rank → Rank → Ordering
rank_cmp = then_cmp (then_cmp (then_cmp (on (λ r. r.bound) int_cmp) (on (λ r. r.value) int_cmp)) (flip_args (on (λ r. r.ticket) nat_cmp))) (on (λ r. r.slot) nat_cmp)

-- the ranks in any order, how many, and how many have room
pub record RanksView : Type 0 where
  pub ranks : List Rank
  pub len : ℕ
  pub room : ℕ
