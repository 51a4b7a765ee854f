use Rattle.std.proofs.Common.{inl, inr}
use Rattle.edithub_main.proofs.HubsInStep.{hub_in_step}
use Rattle.edithub_main.proofs.stores.run_pack.Goals as goal

pub returns-clause-packs : goal.returns-clause-packs
returns-clause-packs g c =
    let e = c.pack.ensures in
    record {
      of_store = λ s. record {
        continues = e.packs s;
        in_step = hub_in_step s.payloads s.state s.version s.stands;
        stops = e.exits s;
        survives = elim (e.safe s) [ inl h ↦ inl (inl h) | inr h ↦ inr h ];
        caused = e.causes s;
        completes = e.complete s;
      };
      refuses = e.refused;
    }
