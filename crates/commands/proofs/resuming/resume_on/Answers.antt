use Rattle.std.proofs.Common.{◌≡◌, ℕ, List, Ok, inl, refl, subst}
use Rattle.journal_bytes.specs.Journal.{head_view}
use Rattle.answers.specs.Kept.{MayBeAdded, MayFollow}
use Rattle.answers.proofs.Journaled.{none-after}
use Rattle.commands.proofs.GoingOn.{leaves-by, leaves-it, may-follow}
use Rattle.commands.proofs.resuming.resume_on.Given as given
use Rattle.commands.proofs.resuming.resume_on.Goals as goal

same_program : (g : given.Over) (m : g.row.P.Denot) → g.P.DpModel.meaning (g.P.DpModel.numbers m) ≡ g.P.Problem.theory.program (g.P.DpModel.numbers m)
same_program g m = (g.met.P.Problem g.world.𝓛 g.world.𝓜 g.world.𝓡 ((λ s x. x), (λ x. x), (λ x. x), λ x. x)).same_program (g.P.DpModel.numbers m)

pub returns-in-Ok-clause-left : goal.returns-in-Ok-clause-left
returns-in-Ok-clause-left g c =
    let job = c.args in
    let head = head_view job.tail.version job.head.now in
    let rs = job.records.now.records in
    let m = c.in-Ok.model in
    let dp = g.P.DpModel.meaning (g.P.DpModel.numbers m) in
    leaves-by g.D.Disk (MayBeAdded dp job.head.now.within rs) (MayFollow head rs) head rs job.disk c.resume_model.result.1
    (λ more added. may-follow g.P.Problem.theory dp head rs more (g.P.DpModel.numbers m) c.requires.named (subst (λ (text : List ℕ). g.P.Problem.theory.spelled text ≡ Ok (g.P.DpModel.numbers m)) c.as_slice.ensures.value c.in-Ok.ensures) (same_program g m) added)
    c.resume_model.ensures.left

pub returns-in-Err-Refused-clause-left : goal.returns-in-Err-Refused-clause-left
returns-in-Err-Refused-clause-left g c =
    let job = c.args in
    leaves-it g.D.Disk (MayFollow (head_view job.tail.version job.head.now) job.records.now.records) (head_view job.tail.version job.head.now) job.records.now.records job.disk job.tail c.requires.opened (none-after g.D.Disk (head_view job.tail.version job.head.now) job.records.now.records)

pub returns-in-Err-OutOfMemory-clause-resumes : goal.returns-in-Err-OutOfMemory-clause-resumes
returns-in-Err-OutOfMemory-clause-resumes g c = inl refl

pub returns-in-Err-OutOfMemory-clause-left : goal.returns-in-Err-OutOfMemory-clause-left
returns-in-Err-OutOfMemory-clause-left g c =
    let job = c.args in
    leaves-it g.D.Disk (MayFollow (head_view job.tail.version job.head.now) job.records.now.records) (head_view job.tail.version job.head.now) job.records.now.records job.disk job.tail c.requires.opened (none-after g.D.Disk (head_view job.tail.version job.head.now) job.records.now.records)
