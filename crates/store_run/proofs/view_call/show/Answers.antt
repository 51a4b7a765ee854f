use Rattle.store_run.proofs.Rooms.{views_complete}
use Rattle.store_run.proofs.view_call.show.Goals as goal

pub returns-clause-complete : goal.returns-clause-complete
returns-clause-complete g c =
    let sink = g.K.Sink in
    let session = g.A.StoredSession in
    λ store at_sink at_disk.
    views_complete sink c.args.sink.now c.view_store.new.sink (session.state_text store.state) c.view_store.result (c.view_store.ensures.views store)
    (λ e. at_sink (c.view_store.ensures.sink_fault e)) (λ e. at_disk (c.view_store.ensures.disk_fault e))
