use Rattle.std.proofs.Common.{◌≡◌, ◌⊎◌, inl, inr, Some, ap, ℕ, List, [], ◌∷◌, ◌++◌, sym, subst, ◌∙◌, refl}
use Rattle.std.specs.Prelude.{option_to_list}
use Rattle.gate_log.specs.LogOnDisk.{HoldsPayloads}
use Rattle.store_run.specs.Effects.{Adds, StopsStoring}
use Rattle.store_run.specs.PackCall.{packed}
use Rattle.store_run.specs.declared.stop.Stop.{Stop}
use Rattle.store_run.specs.Stopping.{IsOwnStop}
use Rattle.store_run.proofs.ApplyCausesHold.{caused_sink, caused_disk}
use Rattle.store_run.proofs.Moments.{leaves_same}
use Rattle.store_run.proofs.PackCalls.{each_stands, safe_kept, safe_packed, safe_short, packs_call}
use Rattle.store_run.proofs.StoredPayloads.{images_held, reads_held}
use Rattle.std.proofs.KnownBytes.{Appends-nil}
use Rattle.store_run.proofs.Openings.{unwritten_none, opening_none}
use Rattle.store_run.specs.CountLines.{packed_line}
use Rattle.store_run.proofs.pack_call.pack_session.Goals as goal

pub returns-in_default-clause-safe : goal.returns-in_default-clause-safe
returns-in_default-clause-safe g c =
    let disk = g.D.Disk in
    let sink = g.K.Sink in
    let session = g.A.StoredSession in
    let only = g.met.D.Disk.only_now in
    let hold = images_held disk g.met.D.Disk.content_is_image in
    let reads = reads_held disk in
    let laws = g.met.A.StoredSession in
    let k = c.args.sink.now in
    let d = c.args.disk.now in
    let l = c.args.log.now in
    let t = session.state c.args.session.now in
    let version = c.args.version.now in
    λ before st h.
    safe_kept sink disk hold session reads laws.version_stands laws.snapshot_stands laws.version_counts laws.snapshot_counts d d before t version h (HoldsPayloads before) (λ x now. hold l d before x st now)
    (leaves_same disk d (HoldsPayloads before) (λ x was. hold l d before x st (only d x was)))

pub returns-in-Ok-pack_store-clause-safe : goal.returns-in-Ok-pack_store-clause-safe
returns-in-Ok-pack_store-clause-safe g c =
    let disk = g.D.Disk in
    let sink = g.K.Sink in
    let session = g.A.StoredSession in
    let only = g.met.D.Disk.only_now in
    let hold = images_held disk g.met.D.Disk.content_is_image in
    let reads = reads_held disk in
    let laws = g.met.A.StoredSession in
    let k = c.args.sink.now in
    let d = c.args.disk.now in
    let l = c.args.log.now in
    let t = session.state c.args.session.now in
    let version = c.args.version.now in
    let k' = c.pack_store.new.sink in
    let d' = c.pack_store.new.disk in
    let l' = c.pack_store.new.log in
    let line = c.as_slice-line.result.now in
    let snap = c.as_slice-snapshot.result.now in
    let has = c.in-Ok.ensures.has in
    let is : snap ≡ session.snapshot_text t = c.as_slice-snapshot.ensures ∙ c.in-Ok.ensures.snapshot in
    let adds : Adds sink disk (k, d, l) (k', d', l') line (packed session t version) =
    subst (λ (x : List ℕ). Adds sink disk (k, d, l) (k', d', l') line (option_to_list version ++ x ∷ [])) is c.in-Ok-pack_store.ensures.packed in
    λ before st h.
    safe_packed sink disk hold session reads laws.version_stands laws.snapshot_stands laws.version_counts laws.snapshot_counts t has d d' before version h (HoldsPayloads before) k k' l l' line
    adds st

pub returns-in-Ok-pack_store-clause-packs : goal.returns-in-Ok-pack_store-clause-packs
returns-in-Ok-pack_store-clause-packs g c =
    let disk = g.D.Disk in
    let sink = g.K.Sink in
    let session = g.A.StoredSession in
    let hold = images_held disk g.met.D.Disk.content_is_image in
    let reads = reads_held disk in
    let laws = g.met.A.StoredSession in
    let k = c.args.sink.now in
    let d = c.args.disk.now in
    let l = c.args.log.now in
    let t = session.state c.args.session.now in
    let version = c.args.version.now in
    let k' = c.pack_store.new.sink in
    let d' = c.pack_store.new.disk in
    let l' = c.pack_store.new.log in
    let line = c.as_slice-line.result.now in
    let snap = c.as_slice-snapshot.result.now in
    let has = c.in-Ok.ensures.has in
    let is : snap ≡ session.snapshot_text t = c.as_slice-snapshot.ensures ∙ c.in-Ok.ensures.snapshot in
    let adds : Adds sink disk (k, d, l) (k', d', l') line (packed session t version) =
    subst (λ (x : List ℕ). Adds sink disk (k, d, l) (k', d', l') line (option_to_list version ++ x ∷ [])) is c.in-Ok-pack_store.ensures.packed in
    λ before st h n f.
    packs_call sink disk hold session reads laws.version_stands laws.snapshot_stands laws.version_counts laws.snapshot_counts t has d d' before version h k k' l l' line
    (c.as_slice-line.ensures ∙ c.in-Ok.ensures.line ∙ ap packed_line n)
    adds st

pub returns-clause-safe : goal.returns-clause-safe
returns-clause-safe g c =
    let disk = g.D.Disk in
    let sink = g.K.Sink in
    let session = g.A.StoredSession in
    let only = g.met.D.Disk.only_now in
    let hold = images_held disk g.met.D.Disk.content_is_image in
    let reads = reads_held disk in
    let laws = g.met.A.StoredSession in
    let k = c.args.sink.now in
    let d = c.args.disk.now in
    let l = c.args.log.now in
    let t = session.state c.args.session.now in
    let version = c.args.version.now in
    let k' = c.pack_store.new.sink in
    let d' = c.pack_store.new.disk in
    let l' = c.pack_store.new.log in
    let line = c.as_slice-line.result.now in
    let snap = c.as_slice-snapshot.result.now in
    let stop = c.in-Err.stop in
    let has = c.in-Ok.ensures.has in
    let is : snap ≡ session.snapshot_text t = c.as_slice-snapshot.ensures ∙ c.in-Ok.ensures.snapshot in
    let stopped : StopsStoring sink disk (k, d, l) (k', d', l') stop [] [] [] (option_to_list version) ⊎ StopsStoring sink disk (k, d, l) (k', d', l') stop [] line (option_to_list version) (session.snapshot_text t ∷ []) =
    subst (λ (x : List ℕ). StopsStoring sink disk (k, d, l) (k', d', l') stop [] [] [] (option_to_list version) ⊎ StopsStoring sink disk (k, d, l) (k', d', l') stop [] line (option_to_list version) (x ∷ [])) is c.in-Err.ensures.stopped in
    λ before st h.
    safe_short sink disk hold session reads laws.version_stands laws.snapshot_stands laws.version_counts laws.snapshot_counts t has d d' before version h (HoldsPayloads before) k k' l l' stop line
    stopped st

pub returns-clause-sink_fault : goal.returns-clause-sink_fault
returns-clause-sink_fault g c =
    let disk = g.D.Disk in
    let sink = g.K.Sink in
    let k = c.args.sink.now in
    let k1 = c.pack_store.new.sink in
    let d = c.args.disk.now in
    let d' = c.pack_store.new.disk in
    λ e. caused_sink sink disk (Some c.in-Err.stop) k k1 c.give_stop.new.sink d d' c.in-Err.ensures.counted
    (elim (c.give_stop.ensures.sink_fault e) [ inl s ↦ inl (ap (λ (x : Stop). Some x) s.0, s.1) | inr f ↦ inr f ])

pub returns-clause-disk_fault : goal.returns-clause-disk_fault
returns-clause-disk_fault g c =
    let disk = g.D.Disk in
    let sink = g.K.Sink in
    let k = c.args.sink.now in
    let k1 = c.pack_store.new.sink in
    let d = c.args.disk.now in
    let d' = c.pack_store.new.disk in
    λ e. caused_disk sink disk c.in-Err.stop k k1 d d' (c.give_stop.ensures.disk e) c.in-Err.ensures.counted

pub returns-in_default-clause-exits : goal.returns-in_default-clause-exits
returns-in_default-clause-exits g c =
    let disk = g.D.Disk in
    let k = c.args.sink.now in
    let d = c.args.disk.now in
    λ before st h n. inr (unwritten_none disk d, ((inr refl, Appends-nil (g.K.Sink.held k)), λ e. cc))

pub returns-in-Ok-pack_store-clause-exits : goal.returns-in-Ok-pack_store-clause-exits
returns-in-Ok-pack_store-clause-exits g c =
    let disk = g.D.Disk in
    let sink = g.K.Sink in
    let session = g.A.StoredSession in
    let hold = images_held disk g.met.D.Disk.content_is_image in
    let reads = reads_held disk in
    let laws = g.met.A.StoredSession in
    let k = c.args.sink.now in
    let d = c.args.disk.now in
    let l = c.args.log.now in
    let t = session.state c.args.session.now in
    let version = c.args.version.now in
    let k' = c.pack_store.new.sink in
    let d' = c.pack_store.new.disk in
    let l' = c.pack_store.new.log in
    let line = c.as_slice-line.result.now in
    let snap = c.as_slice-snapshot.result.now in
    let has = c.in-Ok.ensures.has in
    let is : snap ≡ session.snapshot_text t = c.as_slice-snapshot.ensures ∙ c.in-Ok.ensures.snapshot in
    let adds : Adds sink disk (k, d, l) (k', d', l') line (packed session t version) =
    subst (λ (x : List ℕ). Adds sink disk (k, d, l) (k', d', l') line (option_to_list version ++ x ∷ [])) is c.in-Ok-pack_store.ensures.packed in
    λ before st h n.
    let says : line ≡ packed_line (session.count_of before) = c.as_slice-line.ensures ∙ c.in-Ok.ensures.line ∙ ap packed_line n in
    inl (record {
      has = has;
      ends = record {
        d1 = d;
        log = l;
        log' = l';
        opens = opening_none disk g.met.D.Disk.only_now d;
        stands = st;
        ends = inl (
          refl,
          subst (λ (y : List ℕ). Adds sink disk (k, d, l) (k', d', l') y (packed session t version)) says adds,
        );
      };
      stand = each_stands sink disk hold session reads laws.version_stands laws.snapshot_stands laws.version_counts laws.snapshot_counts t has before version h;
    })

pub returns-clause-exits : goal.returns-clause-exits
returns-clause-exits g c =
    let disk = g.D.Disk in
    let sink = g.K.Sink in
    let session = g.A.StoredSession in
    let hold = images_held disk g.met.D.Disk.content_is_image in
    let reads = reads_held disk in
    let laws = g.met.A.StoredSession in
    let k = c.args.sink.now in
    let d = c.args.disk.now in
    let l = c.args.log.now in
    let t = session.state c.args.session.now in
    let version = c.args.version.now in
    let k1 = c.pack_store.new.sink in
    let d' = c.pack_store.new.disk in
    let l' = c.pack_store.new.log in
    let stop = c.in-Err.stop in
    let line = c.as_slice-line.result.now in
    let snap = c.as_slice-snapshot.result.now in
    let has = c.in-Ok.ensures.has in
    let is : snap ≡ session.snapshot_text t = c.as_slice-snapshot.ensures ∙ c.in-Ok.ensures.snapshot in
    let stopped : StopsStoring sink disk (k, d, l) (k1, d', l') stop [] [] [] (option_to_list version) ⊎ StopsStoring sink disk (k, d, l) (k1, d', l') stop [] line (option_to_list version) (session.snapshot_text t ∷ []) =
    subst (λ (x : List ℕ). StopsStoring sink disk (k, d, l) (k1, d', l') stop [] [] [] (option_to_list version) ⊎ StopsStoring sink disk (k, d, l) (k1, d', l') stop [] line (option_to_list version) (x ∷ [])) is c.in-Err.ensures.stopped in
    λ before st h n.
    let says : line ≡ packed_line (session.count_of before) = c.as_slice-line.ensures ∙ c.in-Ok.ensures.line ∙ ap packed_line n in
    inl (record {
      has = has;
      ends = record {
        d1 = d;
        log = l;
        log' = l';
        opens = opening_none disk g.met.D.Disk.only_now d;
        stands = st;
        ends = inr (record {
          k1 = k1;
          stop = stop;
          own = c.in-Err.ensures.own;
          stops =
              subst (λ (y : List ℕ). StopsStoring sink disk (k, d, l) (k1, d', l') stop [] [] [] (option_to_list version) ⊎ StopsStoring sink disk (k, d, l) (k1, d', l') stop [] y (option_to_list version) (session.snapshot_text t ∷ [])) says
              stopped;
          status_is = c.give_stop.ensures.gives;
        });
      };
      stand = each_stands sink disk hold session reads laws.version_stands laws.snapshot_stands laws.version_counts laws.snapshot_counts t has before version h;
    })

pub returns-clause-statuses : goal.returns-clause-statuses
returns-clause-statuses g c = c.give_stop.ensures.own c.in-Err.ensures.own
