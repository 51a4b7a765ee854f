use Rattle.store_session.proofs.StatesInStep.{stored_sound}
use Rattle.editlens_main.proofs.stores.run_show.Goals as goal

pub returns-clause-shows : goal.returns-clause-shows
returns-clause-shows g c =
    let e = c.show.ensures in
    record {
      reports = e.views;
      in_step = λ s. (stored_sound s.payloads s.state s.version s.stands).1;
      completes = e.complete;
      refuses = λ other. (e.unwritten, e.refused other);
      unwritten = e.unwritten;
      survives = e.moments;
      caused = e.sure;
    }
