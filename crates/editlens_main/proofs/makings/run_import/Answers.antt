use Rattle.editlens_main.proofs.FoundLogs.{finds_log}
use Rattle.editlens_main.proofs.makings.run_import.Goals as goal
use Rattle.store_run.specs.Devices.{devices_of}

pub returns-clause-imports : goal.returns-clause-imports
returns-clause-imports g c =
    let e = c.import.ensures in
    record {
      brings = e.imports;
      declines = e.refuses;
      stops = e.ends;
      at_once = e.at_once;
      caused = e.room;
      completes = e.complete;
      refuses = finds_log g.S.Source g.K.Sink g.D.Disk (devices_of c.args.source.now c.args.sink.now c.args.disk.now) (devices_of c.import.new.source c.import.new.sink c.import.new.disk) c.import.result e.exists;
    }
