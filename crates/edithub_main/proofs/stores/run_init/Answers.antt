use Rattle.edithub_main.proofs.stores.run_init.Goals as goal

pub returns-clause-makes : goal.returns-clause-makes
returns-clause-makes g c =
    let e = c.init_hub.ensures in
    record {
      starts = e.starts;
      stops = e.ends;
      at_once = e.at_once;
      caused = e.room;
      completes = e.complete;
      refuses = e.exists;
    }
