-- What a call over a store leaves is a run over it.
use Rattle.command_ends.specs.Statuses.{IsFinished}
use Rattle.command_ends.specs.declared.status.Status.{Status}
use Rattle.std.proofs.Common.{◌≡◌, ◌⊎◌, inl, inr, ℕ, List, ◌++◌, None, Some, refl, ap, subst, ◌∙◌, append_assoc, append-nil}
use Rattle.std.specs.Prelude.{IfSome}
use Rattle.edit_journal.specs.Pieces.{lines_of}
use Rattle.edit_journal.specs.declared.line.Line.{Line}
use Rattle.gate_log.specs.LogOnDisk.{HoldsPayloads}
use Rattle.lens_io.specs.Calls.{Took, Gave}
use Rattle.lens_io.specs.declared.disk.Disk as OfDisk
use Rattle.lens_io.specs.declared.sink.Sink as OfSink
use Rattle.lens_io.specs.declared.source.Source as OfSource
use Rattle.store_run.specs.Devices.{Devices}
use Rattle.store_run.specs.ApplyCall.{ContinuesCall, IsSafeCall}
use Rattle.store_run.specs.StoreRuns.{kept_of, last_stored}
use Rattle.store_run.specs.Stores.{Store}
use Rattle.store_run.specs.declared.session.StoredAnswer.{StoredAnswer}
use Rattle.store_run.specs.declared.session.StoredSession as OfSession
use Rattle.law_stores.specs.CallsOverStores.{AppliesOver, FinishesLines, GoesOnFrom, LeavesFirstLines, StaysClosed, held_on}
use Rattle.law_stores.specs.SessionRuns.{IsNumberedAlike}
use Rattle.law_stores.specs.StoresOfSessions.{HeldStore, complete_payloads, AddsRun}
use Rattle.law_stores.proofs.LeftPayloads.{LeavesPayloads, leaves_payloads}
use Rattle.law_stores.proofs.RunsAreOne.{one_run}

module _ {S K D A : Type 0} (source : OfSource.Ghosts S) (sink : OfSink.Ghosts K) (disk : OfDisk.Ghosts D) (session : OfSession.Ghosts A) where
  -- ---- one call

  module _ (old new : Devices S K D) where
    module _ (before : HeldStore session) (image bytes given : List ℕ) (took : Took source old.source new.source bytes) (gave : Gave sink old.sink new.sink given) where
      left_run : (lines rest : List Line) → lines_of bytes ≡ lines ++ rest → LeavesPayloads session before.payloads before.state before.version lines given image
          → LeavesFirstLines source sink disk session old new before image
      left_run lines rest parts p = record {
        bytes = bytes;
        took = took;
        given = given;
        gave = gave;
        lines = p.run_of.first;
        rest = p.run_of.rest ++ rest;
        parts = parts ∙ ap (λ l. l ++ rest) p.run_of.parts ∙ append_assoc p.run_of.first p.run_of.rest rest;
        after = record { payloads = p.payloads; state = last_stored before.state p.steps; version = p.still; stands = p.stands };
        holds = p.holds;
        run = record { steps = p.steps; is_run = p.run_of.is_run; at_last = refl; stored = p.stored; version = p.version_is };
        least = p.least;
        most = p.most;
      }

    module _ (status : Status) (store : Store disk session old.disk) where
      abbrev before : HeldStore session
      before = held_on disk session old.disk store

      -- the store was opened
      kept_run : IsSafeCall source sink disk session old new (disk.images old.disk) store.payloads store.state store.version → (image : List ℕ) → disk.images new.disk image
          → LeavesFirstLines source sink disk session old new before image
      kept_run s image is =
          left_run before image s.bytes s.given s.consumes s.appends s.lines s.rest s.parts
          (leaves_payloads session store.payloads store.state store.version s.lines s.given image s.steps s.is_run s.stand (s.now image is))

      pub leaves_first_lines : AppliesOver source sink disk session old new status store → (image : List ℕ) → disk.images new.disk image
          → StaysClosed source sink disk session old new status image ⊎ LeavesFirstLines source sink disk session old new before image
      leaves_first_lines a image is = elim a.survives [
        | inl closed ↦ inl (record { failed = closed.0; unopened = closed.1; was = closed.1.only image is })
        | inr kept ↦ inr (kept_run kept image is)
      ]

      -- the call came to its end
      finished : ContinuesCall source sink disk session (old.source, old.sink) new store.payloads store.state store.version status → FinishesLines source sink disk session old new before
      finished s = record {
        bytes = s.bytes;
        took = s.consumes;
        read = s.at_end;
        after = record { payloads = complete_payloads session before ++ kept_of s.steps; state = last_stored before.state s.steps; version = None; stands = s.stand };
        holds = s.kept;
        run = record { steps = s.steps; is_run = s.is_run; at_last = refl; stored = append-nil (complete_payloads session before ++ kept_of s.steps); version = inr refl };
        version = refl;
        gave = s.given;
      }

      pub finishes_lines : AppliesOver source sink disk session old new status store → IsFinished status → FinishesLines source sink disk session old new before
      finishes_lines a h = finished (a.continues h)

  -- ---- two calls

  module _ (alike : IsNumberedAlike session)
      (refused_stays : (t t' : session.State) (n : ℕ) (line : Line) (a : StoredAnswer) → session.answer t n line ≡ Some (t', a) → a.payload ≡ None → t' ≡ t) where
    -- the second call is over the store that the first one left
    module _ (old new : Devices S K D) (status : Status) (before between : HeldStore session) (lines : List Line) (first : AddsRun session before lines between) (image : List ℕ)
        (holds : HoldsPayloads between.payloads image) (told : disk.content old.disk ≡ Some image) (second : (store : Store disk session old.disk) → AppliesOver source sink disk session old new status store) where
      abbrev again : Store disk session old.disk
      again = record { bytes = image; told = told; payloads = between.payloads; holds = holds; state = between.state; version = between.version; stands = between.stands }

      goes_on : GoesOnFrom source sink disk session old new status first
      goes_on = record {
        leaves = λ c is. elim (leaves_first_lines old new status again (second again) c is) [
          | inl closed ↦ inl closed
          | inr left ↦ inr (left, one_run session alike before between left.after lines left.lines first left.run refused_stays)
        ];
        finishes = λ h.
            let end = finishes_lines old new status again (second again) h in
            (end, one_run session alike before between end.after lines (lines_of end.bytes) first end.run refused_stays);
      }

    module _ (old1 new1 old2 new2 : Devices S K D) (status1 status2 : Status) (store : Store disk session old1.disk) (image : List ℕ)
        (first : AppliesOver source sink disk session old1 new1 status1 store)
        (second : (store : Store disk session old2.disk) → AppliesOver source sink disk session old2 new2 status2 store) (told : disk.content old2.disk ≡ Some image) where
      abbrev start : HeldStore session
      start = held_on disk session old1.disk store

      pub goes_on_from_image : disk.images new1.disk image → StaysClosed source sink disk session old1 new1 status1 image
          ⊎ ((left : LeavesFirstLines source sink disk session old1 new1 start image) × GoesOnFrom source sink disk session old2 new2 status2 left.run)
      goes_on_from_image is = elim (leaves_first_lines old1 new1 status1 store first image is) [
        | inl closed ↦ inl closed
        | inr left ↦ inr (left, goes_on old2 new2 status2 start left.after left.lines left.run image left.holds told second)
      ]

      pub goes_on_from_end : IsFinished status1 → disk.content new1.disk ≡ Some image
          → (left : FinishesLines source sink disk session old1 new1 start) × GoesOnFrom source sink disk session old2 new2 status2 left.run
      goes_on_from_end h is =
          let left = finishes_lines old1 new1 status1 store first h in
          let holds : HoldsPayloads left.after.payloads image = subst (λ o. IfSome o (HoldsPayloads left.after.payloads)) is left.holds in
          (left, goes_on old2 new2 status2 start left.after (lines_of left.bytes) left.run image holds told second)
