use Rattle.editlens_main.proofs.FoundLogs.{finds_log}
use Rattle.editlens_main.proofs.makings.run_init.Goals as goal
use Rattle.store_run.specs.Devices.{devices_of}

pub returns-clause-makes : goal.returns-clause-makes
returns-clause-makes g c =
    let e = c.init.ensures in
    record {
      starts = e.starts;
      stops = e.ends;
      at_once = e.at_once;
      caused = e.room;
      completes = e.complete;
      refuses = finds_log g.S.Source g.K.Sink g.D.Disk (devices_of c.args.source.now c.args.sink.now c.args.disk.now) (devices_of c.init.new.source c.init.new.sink c.init.new.disk) c.init.result e.exists;
    }
