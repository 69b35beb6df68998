-- A tour that is followed from node to node.
use Rattle.std.specs.Prelude.{◌≡◌, ℕ, ◌<◌, ◌≤◌, true, nat_lt, List}
use Rattle.std.specs.List.{list_all}
use Rattle.tsp_windows.specs.Instance.{Instance, opening}
use Rattle.tsp_windows.specs.OwnWords.{end_time}

-- what is left of the visits, from a node and a time on, ends when all of them do
pub record IsOnTheWay (i : Instance) (here time : ℕ) (rest visits : List ℕ) : Type 0 where
  pub nodes : list_all (λ v. nat_lt v i.nodes) rest ≡ true
  pub inside : here < i.nodes
  pub early : time ≤ 1000000000000
  pub same : end_time i here time rest ≡ end_time i 0 (opening i 0) visits
