use Rattle.std.proofs.Common.{◌≡◌, ◌≤◌, drop}
use Rattle.store_new.proofs.Appending.{Stored}
use Rattle.store_new.proofs.making.append_all.Given as goal

-- the payloads up to this one are stored
abbrev pub invariant-loop-next : goal.invariant-loop-next
invariant-loop-next g l =
    let disk = g.D.Disk in
    record {
      stored : Stored disk l.disk l.log l.payloads (drop l.next l.records);
      faults : disk.faults l.fn.disk ≤ disk.faults l.disk;
      room : disk.room l.disk ≡ disk.room l.fn.disk;
    }
