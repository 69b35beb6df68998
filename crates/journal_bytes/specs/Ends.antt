-- A file to which a record may be added.
use Rattle.std.specs.Prelude.{◌≡◌, ◌≢◌, ℕ, List, ◌∷◌, ◌++◌, length}
use Rattle.std.specs.List.{AllByRecursion}
use Rattle.journal_bytes.specs.declared.tail.Tail.{Tail}
use Rattle.journal_bytes.specs.Frames.{Frame, Fits, spelled, digest_after, no_digest}

-- The file is these frames and a closed gate where the tail says, whatever stands after it.
pub record EndsAt (file : List ℕ) (tail : Tail) (frames : List Frame) : Type 0 where
  pub fit : AllByRecursion Fits frames
  pub gate : ℕ
  pub rest : List ℕ
  pub shut : gate ≢ 1
  pub parts : file ≡ spelled no_digest frames ++ gate ∷ rest
  pub end : tail.end ≡ length (spelled no_digest frames)
  pub digest : tail.digest ≡ digest_after no_digest frames
