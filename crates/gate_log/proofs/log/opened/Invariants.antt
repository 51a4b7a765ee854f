use Rattle.std.proofs.Common.{◌≡◌, ◌^◌, ◌<◌, length, IfSome}
use Rattle.lens_io.specs.DiskRuns.{OnlyReads}
use Rattle.gate_log.proofs.log.opened.Given as goal

abbrev pub invariant-readings : goal.invariant-readings
invariant-readings g l =
    let disk = g.D.Disk in
    record {
      reads : OnlyReads disk l.fn.disk l.disk;
      end : IfSome (disk.content l.disk) (λ bytes. l.end ≡ length bytes);
      bound : l.end < 2 ^ 63;
    }
