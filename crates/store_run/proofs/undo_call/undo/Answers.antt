use Rattle.std.proofs.Common.{◌≡◌, inl, inr, ℕ, List, Err, sym, ap, subst, ◌∙◌, refl}
use Rattle.std.specs.Prelude.{option_to_list, IsNone}
use Rattle.lens_io.proofs.Increases.{increased_since}
use Rattle.store_run.specs.UndoCall.{ExitsUndo, HoldsNow, UndoEnds, UndoesCall, undo_refusal_of_log}
use Rattle.store_run.specs.declared.opening.OpenFault.{OpenFault}
use Rattle.store_run.specs.declared.opening.OpenFault.TheVariants.{DiskFault}
use Rattle.store_run.proofs.MoreCauses.{behind_cause}
use Rattle.store_run.proofs.Openings.{same_room, unwritten_then}
use Rattle.store_run.proofs.StoredPayloads.{images_held, reads_held}
use Rattle.store_run.proofs.StoreOpenings.{ends_refused, fails_to_open, refused_by_log, same_fault, same_payloads, unopened_at_disk, unread_log}
use Rattle.store_run.proofs.UndoCalls.{StandsNow, ends_behind, exits_of, holds_before, other_status, safe_kept, safe_of_ends, undo_complete, undoes_call, unstored_of}
use Rattle.store_run.proofs.undo_call.undo.Goals as goal

-- ---- the store was read

pub returns-in-Ok-clause-disk_fault : goal.returns-in-Ok-clause-disk_fault
returns-in-Ok-clause-disk_fault g c =
    let faults = g.D.Disk.faults in
    λ e. increased_since (faults c.args.disk.now) (faults c.read_store.new.disk) (faults c.undo_payloads.new.disk) c.in-Ok.ensures.faults (c.undo_payloads.ensures.disk_fault e)

pub returns-in-Ok-clause-undoes : goal.returns-in-Ok-clause-undoes
returns-in-Ok-clause-undoes g c =
    let sink = g.K.Sink in
    let disk = g.D.Disk in
    let session = g.A.UndoneSession in
    let hold = images_held disk g.met.D.Disk.content_is_image in
    let reads = reads_held disk in
    let count = c.args.count in
    let k = c.args.sink.now in
    let d = c.args.disk.now in
    let d1 = c.read_store.new.disk in
    let k' = c.undo_payloads.new.sink in
    let d' = c.undo_payloads.new.disk in
    let status = c.undo_payloads.result in
    let opening = c.in-Ok.ensures.opening in
    record {
      of_store = λ store.
          let before = store.payloads in
          let u = store.undone in
          let read = c.in-Ok.ensures.read store.bytes store.told in
          let same = same_payloads store.bytes c.in-Ok.store.payloads before read.holds store.holds in
          let here = subst (λ (x : List (List ℕ)). UndoEnds sink disk session (k, d1) (k', d') x u status) same (c.undo_payloads.ensures.ends u read.stands (ap (session.undoing count) same ∙ store.is)) in
          let ends = ends_behind sink disk session hold reads k k' d1 d' before u d status opening here in
          let stands : StandsNow session before u = λ front rest e. g.met.A.UndoneSession.version_stands count before front rest u store.is e in
          let exits = exits_of sink disk session hold reads k k' d d' before u status ends in
          let cause = behind_cause sink disk before (option_to_list (session.version_due u)) (session.snapshot_text u) (session.undo_text u) k k' d d' store.bytes status store.told exits in
          record {
            continues = λ done. undoes_call sink disk session hold reads k k' d d' before u status done ends;
            stops = exits;
            survives = inr (safe_of_ends sink disk session hold reads k k' d d' before u stands status ends);
            unstored = λ none image now. inr (unstored_of sink disk session hold reads k k' d d' before u stands status none ends image now);
            caused = cause;
            completes = λ sunk fault none.
                undo_complete session status (disk.room d) before u cause (λ e. sunk (c.undo_payloads.ensures.sink_fault e)) (λ e. fault (returns-in-Ok-clause-disk_fault g c e)) none;
          };
      refuses = λ other.
          let read = c.in-Ok.ensures.read other.bytes other.told in
          let e = c.undo_payloads.ensures.refused other.reason (ap (undo_refusal_of_log session count) (sym read.holds) ∙ other.refused) in
          (unwritten_then disk d d1 d' opening.unwritten e.0, same_room sink disk k k' d d' status d1 other.reason opening.same_room e.1);
    }

-- ---- the store was not read

pub returns-in-Err-clause-disk_fault : goal.returns-in-Err-clause-disk_fault
returns-in-Err-clause-disk_fault g c = λ e. c.in-Err.ensures.cause (ap (λ (x : OpenFault). Err x) (c.refuse_store.ensures.disk_fault e))

pub returns-in-Err-clause-undoes : goal.returns-in-Err-clause-undoes
returns-in-Err-clause-undoes g c =
    let sink = g.K.Sink in
    let disk = g.D.Disk in
    let session = g.A.UndoneSession in
    let hold = images_held disk g.met.D.Disk.content_is_image in
    let reads = reads_held disk in
    let count = c.args.count in
    let k = c.args.sink.now in
    let d = c.args.disk.now in
    let d1 = c.read_store.new.disk in
    let k' = c.refuse_store.new.sink in
    let status = c.refuse_store.result in
    let fault = c.in-Err.fault in
    let opening = c.in-Err.ensures.opening in
    let sure : fault ≡ DiskFault → IsNone (disk.room d) = λ e. c.in-Err.ensures.sure (ap (λ (x : OpenFault). Err x) e) in
    let ends = c.refuse_store.ensures.ends in
    record {
      of_store = λ store.
          let before = store.payloads in
          let u = store.undone in
          let stands : StandsNow session before u = λ front rest e. g.met.A.UndoneSession.version_stands count before front rest u store.is e in
          let exits : ExitsUndo sink disk session (k, d) (k', d1) before u status = inr (opening.unwritten, fails_to_open sink disk k k' d d1 status fault (unread_log store.bytes before store.holds fault (c.in-Err.ensures.read store.bytes store.told)) sure ends) in
          let cause = behind_cause sink disk before (option_to_list (session.version_due u)) (session.snapshot_text u) (session.undo_text u) k k' d d1 store.bytes status store.told exits in
          record {
            continues = λ done. absurd {A = UndoesCall sink disk session (k, d) (k', d1) before u} (c.refuse_store.ensures.unfinished (inl done));
            stops = exits;
            survives = elim (c.in-Err.ensures.held store.bytes before store.told store.holds) [
              | inl failed ↦
                  let at_disk = unopened_at_disk sink k k' status fault (same_fault fault DiskFault failed) ends in
                  inl (inl (at_disk.0, record { given = at_disk.1; only = opening.unwritten.only; moments = opening.moments }))
              | inr now ↦ inr (safe_kept sink disk session hold reads k k' d d1 before u stands now opening.moments)
            ];
            unstored = λ none image now. inr (elim (c.in-Err.ensures.held store.bytes before store.told store.holds) [
              | inl failed ↦ other_status status (HoldsNow session before u image) none (inr (inr (unopened_at_disk sink k k' status fault (same_fault fault DiskFault failed) ends).0))
              | inr held ↦ holds_before session before u stands image (held image now)
            ]);
            caused = cause;
            completes = λ sunk failed none.
                undo_complete session status (disk.room d) before u cause (λ e. sunk (c.refuse_store.ensures.sink_fault e)) (λ e. failed (returns-in-Err-clause-disk_fault g c e)) none;
          };
      refuses = λ other.
          let refused = refused_by_log (undo_refusal_of_log session count) other.bytes other.reason other.refused refl (λ n. refl) fault (c.in-Err.ensures.read other.bytes other.told) in
          (opening.unwritten, ends_refused sink disk k k' d d1 status fault other.reason refused sure ends);
    }
