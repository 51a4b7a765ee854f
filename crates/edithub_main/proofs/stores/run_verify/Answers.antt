use Rattle.edithub_main.proofs.HubsInStep.{hub_in_step}
use Rattle.edithub_main.proofs.stores.run_verify.Goals as goal

pub returns-clause-verifies : goal.returns-clause-verifies
returns-clause-verifies g c =
    let e = c.verify.ensures in
    record {
      reports = e.views;
      in_step = λ s. hub_in_step s.payloads s.state s.version s.stands;
      completes = e.complete;
      refuses = λ other. (e.unwritten, e.refused other);
      unwritten = e.unwritten;
      survives = e.moments;
      caused = e.sure;
    }
