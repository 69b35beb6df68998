-- Jobs that are drawn one after another.
use Rattle.std.proofs.Common.{◌≡◌, ◌∙◌, ℕ, ◌+◌, true, ◌&&◌, List, [], ◌∷◌, ◌++◌, length, sym, ap, ap₂, arith, length-append}
use Rattle.std.specs.List.{list_all}
use Rattle.std.proofs.lemmas.List.Folds.{list_all-append}
use Rattle.draws.specs.Draws.{steps}
use Rattle.draws.proofs.Steps.{steps_more, steps_none}
use Rattle.one_machine.specs.Instance.{Job, is_small_job}
use Rattle.one_machine.specs.Generating.{after_job, job_drawn, with_job}

-- this many of n jobs are drawn from the seed, and these draws are left
pub record AreDrawn (n seed k x : ℕ) (jobs : List Job) : Type 0 where
  pub drawn : steps (with_job n) k [] seed ≡ (jobs, x)
  pub count : length jobs ≡ k
  pub small : list_all is_small_job jobs ≡ true

pub none_drawn : (n seed x : ℕ) (jobs : List Job) → x ≡ seed → jobs ≡ [] → AreDrawn n seed 0 x jobs
none_drawn n seed x jobs from none = record {
  drawn = steps_none (with_job n) [] seed ∙ (λ i. (sym none i, sym from i));
  count = ap length none;
  small = ap (list_all is_small_job) none;
}

pub one_more : (n seed k x y : ℕ) (jobs more : List Job) (job : Job) → AreDrawn n seed k x jobs → job ≡ job_drawn n x → y ≡ after_job x → is_small_job job ≡ true → more ≡ jobs ++ job ∷ [] → AreDrawn n seed (k + 1) y more
one_more n seed k x y jobs more job d is following small pushed = record {
  drawn = steps_more (with_job n) k [] jobs more seed x y d.drawn (λ i. ((ap (λ a. jobs ++ a ∷ []) (sym is) ∙ sym pushed) i, sym following i));
  count = ap length pushed ∙ (let c = d.count in omega (arith, length-append jobs (job ∷ [])));
  small = ap (list_all is_small_job) pushed ∙ list_all-append is_small_job jobs (job ∷ []) ∙ ap₂ (λ a b. a && (b && true)) d.small small;
}
