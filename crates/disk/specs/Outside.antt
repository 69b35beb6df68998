-- A disk over a real file.
use Rattle.std.specs.Prelude.{ℕ, Bool, List, Option}

-- what opens files, the names of those that were attached, whether one is, how many calls had failed at the first sync since that
-- succeeded, where one did, and how many have failed
pub record FileDiskView (R : Type 0) : Type 0 where
  pub runtime : R
  pub names : List (List ℕ)
  pub is_attached : Bool
  pub synced : Option ℕ
  pub faults : ℕ
