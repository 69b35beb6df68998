-- Rows that are put together from their parts.
use Rattle.std.proofs.Common.{◌≡◌, ℕ, ℤ, pos, List, ◌++◌, length, set, ap₂}
use Rattle.node_sets.specs.Sets.{row_of}
use Rattle.pending_rows.proofs.Written as rows
use Rattle.pending_rows.proofs.Written.{row_same}
use Rattle.tsp_windows.specs.States.{TourState, row_for}

pub assembled : (words : ℕ) (t : TourState) (p m y rest : List ℤ) (np nm ny : ℕ) (z : ℤ) → p ≡ row_of np t.positions → np ≡ words → m ≡ row_of nm t.pending.must → nm ≡ words → y ≡ row_of ny t.pending.may → ny ≡ words → length rest ≡ 1 → z ≡ pos t.pending.time → p ++ (m ++ (y ++ set rest 0 z)) ≡ row_for words t
assembled words t p m y rest np nm ny z ep lp em lm ey ly l e =
    ap₂ ◌++◌ (row_same words np p t.positions ep lp) (rows.assembled words t.pending m y rest nm ny z em lm ey ly l e)
