use Rattle.std.proofs.Common.{inl, inr, Some, None, Err, ap}
use Rattle.std.specs.Prelude.{option_to_list}
use Rattle.store_run.specs.declared.stop.Stop.{Stop}
use Rattle.store_run.proofs.ApplyCausesHold.{caused_sink, caused_disk}
use Rattle.store_run.proofs.InTimeEnds.{exits_in_time}
use Rattle.store_run.proofs.ApplyEndsHold.{exits_end, safe_at_stop, safe_at_end}
use Rattle.store_run.proofs.StoredPayloads.{images_held}
use Rattle.store_run.proofs.continuing.continue_store.Goals as goal

pub returns-in-Ok-clause-exits : goal.returns-in-Ok-clause-exits
returns-in-Ok-clause-exits g c =
    let source = g.S.Source in
    let disk = g.D.Disk in
    let sink = g.K.Sink in
    let only = g.met.D.Disk.only_now in
    let hold = images_held disk g.met.D.Disk.content_is_image in
    let session = g.A.StoredSession in
    let state = session.state in
    let k = c.args.sink.now in
    let d = c.args.disk.now in
    let l = c.args.log.now in
    let k1 = c.answer_stored.new.sink in
    let d' = c.answer_stored.new.disk in
    let l' = c.answer_stored.new.log in
    let t = state c.args.session.now in
    let t' = state c.answer_stored.new.session in
    let i = c.args.source.now in
    let i' = c.answer_stored.new.source in
    let version = option_to_list c.args.version.now in
    exits_end source sink disk session only hold i i' k k1 c.give_state.new.sink d d' l l' version t t' c.in-Ok.progress c.give_state.result c.in-Ok.ensures.ended c.give_state.ensures.gives

pub returns-in-Ok-clause-safe : goal.returns-in-Ok-clause-safe
returns-in-Ok-clause-safe g c =
    let source = g.S.Source in
    let disk = g.D.Disk in
    let sink = g.K.Sink in
    let only = g.met.D.Disk.only_now in
    let hold = images_held disk g.met.D.Disk.content_is_image in
    let session = g.A.StoredSession in
    let state = session.state in
    let k = c.args.sink.now in
    let d = c.args.disk.now in
    let l = c.args.log.now in
    let k1 = c.answer_stored.new.sink in
    let d' = c.answer_stored.new.disk in
    let l' = c.answer_stored.new.log in
    let t = state c.args.session.now in
    let t' = state c.answer_stored.new.session in
    let i = c.args.source.now in
    let i' = c.answer_stored.new.source in
    let version = option_to_list c.args.version.now in
    safe_at_end source sink disk session only hold i i' k k1 c.give_state.new.sink d d' l l' version t t' c.in-Ok.progress c.give_state.result c.in-Ok.ensures.ended c.give_state.ensures.gives

pub returns-in-Err-clause-safe : goal.returns-in-Err-clause-safe
returns-in-Err-clause-safe g c =
    let source = g.S.Source in
    let disk = g.D.Disk in
    let sink = g.K.Sink in
    let only = g.met.D.Disk.only_now in
    let hold = images_held disk g.met.D.Disk.content_is_image in
    let session = g.A.StoredSession in
    let state = session.state in
    let k = c.args.sink.now in
    let d = c.args.disk.now in
    let l = c.args.log.now in
    let k1 = c.answer_stored.new.sink in
    let d' = c.answer_stored.new.disk in
    let l' = c.answer_stored.new.log in
    let t = state c.args.session.now in
    let t' = state c.answer_stored.new.session in
    let i = c.args.source.now in
    let i' = c.answer_stored.new.source in
    let version = option_to_list c.args.version.now in
    safe_at_stop source sink disk session only hold i i' k k1 c.give_stop.new.sink d d' l l' version t c.in-Err.stop c.give_stop.result c.in-Err.ensures.stopped c.give_stop.ensures.gives

pub returns-in-Ok-clause-sink_fault : goal.returns-in-Ok-clause-sink_fault
returns-in-Ok-clause-sink_fault g c =
    let disk = g.D.Disk in
    let sink = g.K.Sink in
    let k = c.args.sink.now in
    let k1 = c.answer_stored.new.sink in
    let d = c.args.disk.now in
    let d' = c.answer_stored.new.disk in
    λ e. caused_sink sink disk None k k1 c.give_state.new.sink d d' c.in-Ok.ensures.counted (inr (c.give_state.ensures.sink_fault e))

pub returns-in-Err-clause-sink_fault : goal.returns-in-Err-clause-sink_fault
returns-in-Err-clause-sink_fault g c =
    let disk = g.D.Disk in
    let sink = g.K.Sink in
    let k = c.args.sink.now in
    let k1 = c.answer_stored.new.sink in
    let d = c.args.disk.now in
    let d' = c.answer_stored.new.disk in
    λ e. caused_sink sink disk (Some c.in-Err.stop) k k1 c.give_stop.new.sink d d' c.in-Err.ensures.counted
    (elim (c.give_stop.ensures.sink_fault e) [ inl s ↦ inl (ap (λ (x : Stop). Some x) s.0, s.1) | inr f ↦ inr f ])

pub returns-in-Err-clause-disk_fault : goal.returns-in-Err-clause-disk_fault
returns-in-Err-clause-disk_fault g c =
    let disk = g.D.Disk in
    let sink = g.K.Sink in
    let k = c.args.sink.now in
    let k1 = c.answer_stored.new.sink in
    let d = c.args.disk.now in
    let d' = c.answer_stored.new.disk in
    λ e. caused_disk sink disk c.in-Err.stop k k1 d d' (c.give_stop.ensures.disk e) c.in-Err.ensures.counted

pub returns-in-Err-clause-source_fault : goal.returns-in-Err-clause-source_fault
returns-in-Err-clause-source_fault g c = λ e. c.in-Err.ensures.source_fault (ap (λ (x : Stop). Err x) (c.give_stop.ensures.source e))

pub returns-in-Ok-clause-in_time : goal.returns-in-Ok-clause-in_time
returns-in-Ok-clause-in_time g c =
    let source = g.S.Source in
    let sink = g.K.Sink in
    let disk = g.D.Disk in
    let session = g.A.StoredSession in
    let i = c.args.source.now in
    let i' = c.answer_stored.new.source in
    let k = c.args.sink.now in
    let k' = c.give_state.new.sink in
    let d = c.args.disk.now in
    let d' = c.answer_stored.new.disk in
    let l = c.args.log.now in
    let l' = c.answer_stored.new.log in
    let t = session.state c.args.session.now in
    let t' = session.state c.answer_stored.new.session in
    exits_in_time source sink disk session i i' k k' d d' l l' (option_to_list c.args.version.now) t t' c.give_state.result c.answer_stored.ensures.few (returns-in-Ok-clause-exits g c)

pub returns-in-Err-clause-in_time : goal.returns-in-Err-clause-in_time
returns-in-Err-clause-in_time g c =
    let source = g.S.Source in
    let sink = g.K.Sink in
    let disk = g.D.Disk in
    let session = g.A.StoredSession in
    let i = c.args.source.now in
    let i' = c.answer_stored.new.source in
    let k = c.args.sink.now in
    let k1 = c.answer_stored.new.sink in
    let k' = c.give_stop.new.sink in
    let d = c.args.disk.now in
    let d' = c.answer_stored.new.disk in
    let l = c.args.log.now in
    let l' = c.answer_stored.new.log in
    let t = session.state c.args.session.now in
    let t' = session.state c.answer_stored.new.session in
    exits_in_time source sink disk session i i' k k' d d' l l' (option_to_list c.args.version.now) t t' c.give_stop.result c.answer_stored.ensures.few
    (inr (inr (record { k1 = k1; stop = c.in-Err.stop; stops = c.in-Err.ensures.stopped; status_is = c.give_stop.ensures.gives })))
