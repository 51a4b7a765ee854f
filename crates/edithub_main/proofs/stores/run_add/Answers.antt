use Rattle.edithub_main.proofs.HubsInStep.{hub_in_step}
use Rattle.edithub_main.proofs.stores.run_add.Goals as goal

pub returns-clause-adds : goal.returns-clause-adds
returns-clause-adds g c =
    let e = c.add.ensures in
    record {
      of_store = λ s. record {
        continues = e.adds s;
        in_step = hub_in_step s.payloads s.state s.version s.stands;
        stops = e.stops s;
        at_once = e.at_once s;
        survives = e.survives s;
        caused = e.causes s;
        completes = e.complete s;
      };
      refuses = λ other. let x = e.refused other in ((x.0, x.2), x.1);
    }
