use Rattle.std.proofs.Common.{refl, arith, length}
use Rattle.disk.specs.Disk.{Torn}
use Rattle.disk.proofs.file_disk.FileDiskDisk.write_at.Goals as goal

pub returns-clause-crash : goal.returns-clause-crash
returns-clause-crash g c c' left =
    let same : Torn c.args.at (length c.args.bytes.now) c' c' = record { before = refl; after = refl; no_shorter = omega arith; no_longer = omega arith } in
    (c', tt, same)
