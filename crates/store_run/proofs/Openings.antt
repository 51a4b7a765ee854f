-- Openings that are refused, or fail.
use Rattle.std.proofs.Common.{◌≡◌, inl, inr, ℕ, List, [], Option, Some, None, Result, Ok, Err, refl, sym, ap, subst, ◌∙◌}
use Rattle.std.proofs.lemmas.Option.{same_Some}
use Rattle.std.specs.Prelude.{IfSome, IsNone}
use Rattle.lens_io.specs.Calls.{Gave}
use Rattle.lens_io.specs.DiskRuns.{LeavesOnly, OnlyReads}
use Rattle.lens_io.specs.declared.sink.Sink as OfSink
use Rattle.lens_io.specs.declared.disk.Disk as OfDisk
use Rattle.gate_log.specs.CallEnds.{IsLogRefusal, IsPayloadsFault, NoBadRecord}
use Rattle.gate_log.specs.LogBytes.{not_a_log, bad_record, log_of}
use Rattle.gate_log.specs.declared.fault.LogFault.{LogFault}
use Rattle.gate_log.specs.declared.fault.LogFault.TheVariants as log
use Rattle.store_run.specs.Refusals.{WritesRefusal, IsUnwritten, IsOpening, FailsEarly, FailsUnopened, EndsRefused, refusal_of_payloads, refusal_of_log, refusal_in}
use Rattle.store_run.specs.Reopening.{IsReopenFault}
use Rattle.store_run.specs.declared.refusals.StoreRefusal.{StoreRefusal}
use Rattle.store_run.specs.declared.refusals.StoreRefusal.TheVariants.{NotALog, BadRecord, NotConsistent}
use Rattle.store_run.specs.declared.session.ReopenFault.{ReopenFault}
use Rattle.store_run.specs.declared.session.ReopenFault.TheVariants as reopening
use Rattle.store_run.specs.declared.session.StoredSession as OfSession
use Rattle.command_ends.specs.declared.status.Status.{Status}
use Rattle.command_ends.specs.declared.status.Status.TheVariants as ending
use Rattle.store_run.proofs.Moments.{leaves_same, leaves_then}

-- what holds of a known content
pub at_content : (o : Option (List ℕ)) (bytes : List ℕ) (P : List ℕ → Type 0) → o ≡ Some bytes → IfSome o P → P bytes
at_content None bytes P e h = cc
at_content (Some b) bytes P e h = subst P (same_Some b bytes e) h

-- calls of the disk that only read, one after another
pub unwritten_then : {D : Type 0} (disk : OfDisk.Ghosts D) (d d1 d' : D) → IsUnwritten disk d d1 → IsUnwritten disk d1 d' → IsUnwritten disk d d'
unwritten_then disk d d1 d' u v = record { same = v.same ∙ u.same; only = λ c x. u.only c (v.only c x); no_write = v.no_write ∙ u.no_write }

pub reads_unwritten : {D : Type 0} (disk : OfDisk.Ghosts D) (d d' : D) → OnlyReads disk d d' → IsUnwritten disk d d'
reads_unwritten disk d d' r = record { same = r.same_content; only = λ c x. (r.same_images c).1 x; no_write = r.unwritten }

pub unwritten_none : {D : Type 0} (disk : OfDisk.Ghosts D) (d : D) → IsUnwritten disk d d
unwritten_none disk d = record { same = refl; only = λ c x. x; no_write = refl }

-- an opening that came to this disk, and calls of the disk before it that only read
pub opening_none : {D : Type 0} (disk : OfDisk.Ghosts D)
    → ((d : D) (c : List ℕ) → disk.images_since d (disk.moment d) c → disk.images d c) → (d : D) → IsOpening disk d d
opening_none disk only d = record { unwritten = unwritten_none disk d; moments = leaves_same disk d (disk.images d) (only d); same_room = refl }

pub opening_then : {D : Type 0} (disk : OfDisk.Ghosts D) (d d1 d' : D)
    → IsOpening disk d d1 → IsOpening disk d1 d' → IsOpening disk d d'
opening_then disk d d1 d' first o = record {
  unwritten = unwritten_then disk d d1 d' first.unwritten o.unwritten;
  moments = leaves_then disk d d1 d' (disk.images d) (disk.images d1) (disk.images d) (λ c x. x) first.unwritten.only first.moments o.moments;
  same_room = o.same_room ∙ first.same_room;
}

module _ {K D : Type 0} (sink : OfSink.Ghosts K) (disk : OfDisk.Ghosts D) (k k' : K) (d d' : D) (status : Status) where
  pub fails_then : (d1 : D) → disk.room d1 ≡ disk.room d → FailsUnopened sink disk (k, d1) (k', d') status → FailsUnopened sink disk (k, d) (k', d') status
  fails_then d1 e h = (h.0, λ f. subst (λ (o : Option ℕ). IsNone o) e (h.1 f))

  -- the end at bytes that are refused, behind calls of the disk that leave its room
  pub same_room : (d1 : D) (refusal : StoreRefusal) → disk.room d1 ≡ disk.room d → EndsRefused sink disk (k, d1) (k', d') refusal status → EndsRefused sink disk (k, d) (k', d') refusal status
  same_room d1 refusal e (inl h) = inl h
  same_room d1 refusal e (inr h) = inr (fails_then d1 e h)

-- payloads that stand for a session are not refused
pub never_refused : {T : Type 0} (r : Result T ReopenFault) (x : T) (refusal : StoreRefusal) → r ≡ Ok x → refusal_of_payloads r ≡ Some refusal → ⊥
never_refused r x refusal e q = let never : None ≡ Some refusal = ap refusal_of_payloads (sym e) ∙ q in cc
