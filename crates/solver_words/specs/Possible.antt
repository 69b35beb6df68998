-- Which searches the words ask for, and which instances.
use Rattle.std.specs.Prelude.{◌≡◌, ◌≤◌, ◌<◌, ◌^◌, ℕ, pos, Some, None}
use Rattle.dp_model.specs.Distances.{IsDistance}
use Rattle.dp_model.specs.declared.limits.TheConstants.{MOST_LAYER_PARTS, MOST_WORKERS}
use Rattle.problem_names.specs.declared.ModelName.{ModelName}
use Rattle.problem_names.specs.declared.Sizes.{Sizes}
use Rattle.problem_names.specs.ModelNames.{sizes_of}
use Rattle.problem_names.specs.Parts.{IsPart}
use Rattle.solver_words.specs.Words.{JobView, solve, resume, split, check, join, join_reports, digest, generate}
use Rattle.solver_words.specs.declared.job.JobSettings.{JobSettings}

-- a search has from 1 to 16 workers and makes layers in from 1 to 64 parts, and its distance from the best is from 0 to 2^50
pub record MaySearch (settings : JobSettings) : Type 0 where
  pub some_workers : 1 ≤ settings.workers
  pub few_workers : settings.workers ≤ MOST_WORKERS
  pub some_parts : 1 ≤ settings.parts
  pub few_parts : settings.parts ≤ MOST_LAYER_PARTS
  pub distance : IsDistance settings.within

-- a search of a part has the distance 0, and so have the words of one that goes on
pub record MaySearchExactly (settings : JobSettings) : Type 0 where
  pub may : MaySearch settings
  pub exact : settings.within ≡ pos 0

-- an instance that is to be drawn has a size of its problem, and a seed below 2^31
pub record MayDraw (name : ModelName) (n seed : ℕ) : Type 0 where
  pub sizes : Sizes
  pub are_drawn : sizes_of name ≡ Some sizes
  pub least : sizes.least ≤ n
  pub most : n ≤ sizes.most
  pub seeded : seed < 2 ^ 31

-- where a job is a search it may be made so, of a part only where no journal is kept, with no cover where a journal goes on; a part that is split off is
-- one of its parts, and what is to be drawn can be drawn
abbrev pub IsPossible : JobView → Type 0
IsPossible (solve model settings None None) = MaySearch settings
IsPossible (solve model settings None (Some part)) = MaySearchExactly settings × IsPart part
IsPossible (solve model settings (Some path) None) = MaySearch settings
IsPossible (solve model settings (Some path) (Some part)) = ⊥
IsPossible (resume path settings offered) = MaySearchExactly settings × (settings.cover_words ≡ None)
IsPossible (split path part) = IsPart part
IsPossible check = Unit {0}
IsPossible join = Unit {0}
IsPossible (join_reports path) = Unit {0}
IsPossible (digest model) = Unit {0}
IsPossible (generate model n seed solved) = MayDraw model n seed
