use Rattle.std.proofs.Common.{inl, inr}
use Rattle.edithub_main.proofs.HubsInStep.{stays_in_step}
use Rattle.edithub_main.proofs.stores.run_apply.Goals as goal

pub returns-clause-applies : goal.returns-clause-applies
returns-clause-applies g c =
    let e = c.apply.ensures in
    record {
      of_store = λ s. record {
        continues = e.continues s;
        in_step = stays_in_step s.payloads s.state s.version s.stands;
        in_time = e.in_time s;
        stops = e.exits s;
        survives = elim (e.safe s) [ inl h ↦ inl (inl h) | inr h ↦ inr h ];
        caused = e.causes s;
        completes = e.complete s;
      };
      refuses = λ other. let x = e.refused other in ((x.0, x.2), x.1);
    }
