use Rattle.std.proofs.Common.{◌⊎◌, inl, inr, ℕ, List, [], ◌∷◌, ◌++◌, Some, ap, subst, refl}
use Rattle.std.specs.Prelude.{option_to_list}
use Rattle.store_run.specs.Effects.{Adds, StopsStoring}
use Rattle.store_run.specs.Stopping.{IsOwnStop}
use Rattle.store_run.specs.declared.stop.Stop.{Stop}
use Rattle.store_run.proofs.ApplyCausesHold.{caused_sink, caused_disk}
use Rattle.store_run.proofs.storing.store_last.Goals as goal

pub returns-in-Ok-clause-ends : goal.returns-in-Ok-clause-ends
returns-in-Ok-clause-ends g c =
    let disk = g.D.Disk in
    let k = c.args.sink.now in
    let k' = c.pack_store.new.sink in
    let d = c.args.disk.now in
    let d' = c.pack_store.new.disk in
    let l = c.args.log.now in
    let l' = c.pack_store.new.log in
    let version = option_to_list c.args.version.now in
    let lines = c.as_slice-lines.result.now in
    let made = c.args.more.now in
    inl (
      refl,
      subst (λ (y : List ℕ). Adds g.K.Sink disk (k, d, l) (k', d', l') y (version ++ made.payload ∷ [])) c.as_slice-lines.ensures
          (subst (λ (x : List ℕ). Adds g.K.Sink disk (k, d, l) (k', d', l') lines (version ++ x ∷ [])) c.as_slice-payload.ensures c.in-Ok.ensures.packed),
    )

pub returns-in-Err-clause-ends : goal.returns-in-Err-clause-ends
returns-in-Err-clause-ends g c =
    let disk = g.D.Disk in
    let k = c.args.sink.now in
    let k1 = c.pack_store.new.sink in
    let d = c.args.disk.now in
    let d' = c.pack_store.new.disk in
    let l = c.args.log.now in
    let l' = c.pack_store.new.log in
    let stop = c.in-Err.stop in
    let version = option_to_list c.args.version.now in
    let lines = c.as_slice-lines.result.now in
    let made = c.args.more.now in
    inr (record {
      k1 = k1;
      stop = stop;
      own = c.in-Err.ensures.own;
      stops =
          subst (λ (y : List ℕ). StopsStoring g.K.Sink disk (k, d, l) (k1, d', l') stop [] [] [] version ⊎ StopsStoring g.K.Sink disk (k, d, l) (k1, d', l') stop [] y version (made.payload ∷ [])) c.as_slice-lines.ensures
          (subst (λ (x : List ℕ). StopsStoring g.K.Sink disk (k, d, l) (k1, d', l') stop [] [] [] version ⊎ StopsStoring g.K.Sink disk (k, d, l) (k1, d', l') stop [] lines version (x ∷ [])) c.as_slice-payload.ensures c.in-Err.ensures.stopped);
      status_is = c.give_stop.ensures.gives;
    })

pub returns-in-Err-clause-sink_fault : goal.returns-in-Err-clause-sink_fault
returns-in-Err-clause-sink_fault g c =
    let disk = g.D.Disk in
    λ e. caused_sink g.K.Sink disk (Some c.in-Err.stop) c.args.sink.now c.pack_store.new.sink c.give_stop.new.sink c.args.disk.now c.pack_store.new.disk c.in-Err.ensures.counted
    (elim (c.give_stop.ensures.sink_fault e) [ inl s ↦ inl (ap (λ (x : Stop). Some x) s.0, s.1) | inr f ↦ inr f ])

pub returns-in-Err-clause-disk_fault : goal.returns-in-Err-clause-disk_fault
returns-in-Err-clause-disk_fault g c =
    let disk = g.D.Disk in
    λ e. caused_disk g.K.Sink disk c.in-Err.stop c.args.sink.now c.pack_store.new.sink c.args.disk.now c.pack_store.new.disk (c.give_stop.ensures.disk e) c.in-Err.ensures.counted

pub returns-in-Err-clause-statuses : goal.returns-in-Err-clause-statuses
returns-in-Err-clause-statuses g c = c.give_stop.ensures.own c.in-Err.ensures.own
