use Rattle.std.proofs.Common.{refl, subst}
use Rattle.disk.specs.Memory.{MemDiskView, IsToFail}
use Rattle.disk.proofs.mem_disk.MemDiskDisk.len.Goals as goal

pub returns-then-next_fails-clause-fails : goal.returns-then-next_fails-clause-fails
returns-then-next_fails-clause-fails c =
    (λ _. subst (λ (d : MemDiskView). IsToFail d) c.self.view_is ((c.next_fails.ensures.fails).0 c.if-next_fails.true), λ _. refl)
