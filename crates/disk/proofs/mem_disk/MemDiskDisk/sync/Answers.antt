use Rattle.std.proofs.Common.{length, subst}
use Rattle.disk.specs.Content.{Leaves, LeftSince}
use Rattle.disk.specs.Disk.{Elapses}
use Rattle.disk.specs.Memory.{MemDiskView}
use Rattle.disk.proofs.Moments.{elapses}
use Rattle.disk.proofs.mem_disk.MemDiskDisk.sync.Goals as goal

pub returns-then-is_err-clause-time : goal.returns-then-is_err-clause-time
returns-then-is_err-clause-time c =
    let now = c.settle.new.self in
    let later = c.settle.new.past.items in
    subst (λ (d : MemDiskView). Elapses (length d.past) (length later) (LeftSince d.past d.content) (LeftSince later now) (Leaves now)) c.self.view_is (elapses c.self.inside.past.items later c.self.inside.content now c.settle.ensures.past)

pub returns-clause-time : goal.returns-clause-time
returns-clause-time c =
    let now = c.settle.new.self in
    let later = c.settle.new.past.items in
    subst (λ (d : MemDiskView). Elapses (length d.past) (length later) (LeftSince d.past d.content) (LeftSince later now) (Leaves now)) c.self.view_is (elapses c.self.inside.past.items later c.self.inside.content now c.settle.ensures.past)
