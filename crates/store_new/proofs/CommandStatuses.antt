-- What follows from how a command ends that makes a store: after `Done`, of the refusal of a program part, and if no device failed.
use Rattle.std.proofs.Common.{◌≡◌, ◌⊎◌, inl, inr, ℕ, ◌<◌, ◌≤◌, List, [], length, true, Option, Some, None, Err, IfSome, refl, sym, ap, subst, ◌∙◌, arith}
use Rattle.std.specs.Io.KnownBytes.{Consumes, IsAtEnd}
use Rattle.std.proofs.KnownBytes.{Consumes-nil}
use Rattle.lens_io.specs.Calls.{Took, SourceFailed, SinkFailed, DiskFailed}
use Rattle.lens_io.specs.declared.disk.Disk as OfDisk
use Rattle.lens_io.specs.declared.sink.Sink as OfSink
use Rattle.lens_io.specs.declared.source.Source as OfSource
use Rattle.script_input.specs.declared.limits.TheConstants.{MOST_BYTES}
use Rattle.script_input.specs.Coming.{has_separator}
use Rattle.script_input.specs.Lines.{program_part}
use Rattle.store_run.specs.Devices.{devices_of}
use Rattle.store_run.specs.Refusals.{refusal_line}
use Rattle.store_run.specs.declared.refusals.StoreRefusal.TheVariants.{LogExists}
use Rattle.store_new.specs.Command.{PartMeaning, Command}
use Rattle.store_new.specs.NewEnds.{GivesLine, StopsAfter, MakesNewStore, Ends, MayRefuse, RefusesAtOnce, IsEnd, IsCompleteCommand, Completes}
use Rattle.store_new.specs.Scripts.{IsAcceptedPart, PartGoesOn, RefusesPartWith}
use Rattle.store_new.specs.NewStores.{IsTooLong, EndsMaking}
use Rattle.command_ends.specs.Statuses.{IsStatusAmong, import_statuses, init_statuses}
use Rattle.command_ends.specs.declared.status.Status.{Status}
use Rattle.command_ends.specs.declared.status.Status.TheVariants.{Done, SomeRefused, Usage, ProgramRefused, StoreRefused, SourceFault, SinkFault, DiskFault, InputTooLong, NoMemory}
use Rattle.script_input.proofs.TakenParts.{IsFixed, few_taken, fixed_or_read, part_of_all, all_taken}

never_both : (part : PartMeaning) (bytes : List ℕ) (refusal : part.Refusal) → IsAcceptedPart part bytes → part.accepted (program_part bytes) ≡ Err refusal → ⊥
never_both part bytes refusal a e = let x = a.1 in cc

-- ---- after a status

-- the line of a refusal ends with its own status, or with the sink's fault
pub given_with : {K : Type 0} (sink : OfSink.Ghosts K) (k k' : K) (line : List ℕ) (ending status : Status) → GivesLine sink k k' line ending status → (status ≡ ending) ⊎ (status ≡ SinkFault)
given_with sink k k' line ending status (inl (is, given)) = inl is
given_with sink k k' line ending status (inr (is, given)) = inr is

module _ {S K D : Type 0} (source : OfSource.Ghosts S) (sink : OfSink.Ghosts K) (disk : OfDisk.Ghosts D) (command : Command) (s s' : S) (k k' : K) (d d' : D) (status : Status) where
  -- the store was made
  pub done : Ends source sink disk command (devices_of s k d) (devices_of s' k' d') status → status ≡ Done → MakesNewStore source sink disk command (devices_of s k d) (devices_of s' k' d') Done
  done (inl e) is = absurd (by_line (given_with sink k k' (refusal_line LogExists) StoreRefused status e.given)) where
    by_line : (status ≡ StoreRefused) ⊎ (status ≡ SinkFault) → ⊥
    by_line (inl x) = cc
    by_line (inr x) = cc
  done (inr (inl e)) is = absurd (subst (StopsAfter command.part e.bytes) is e.stops)
  done (inr (inr (inl e))) is = absurd (by_line (given_with sink k k' e.line ProgramRefused status e.given)) where
    by_line : (status ≡ ProgramRefused) ⊎ (status ≡ SinkFault) → ⊥
    by_line (inl x) = cc
    by_line (inr x) = cc
  done (inr (inr (inr (inl e)))) is = absurd (by_line (given_with sink k k' e.line SomeRefused status e.given)) where
    by_line : (status ≡ SomeRefused) ⊎ (status ≡ SinkFault) → ⊥
    by_line (inl x) = cc
    by_line (inr x) = cc
  done (inr (inr (inr (inr e)))) is = subst (MakesNewStore source sink disk command (devices_of s k d) (devices_of s' k' d')) is e

-- ---- how such a command may end

stops_among : (part : PartMeaning) (bytes : List ℕ) (status : Status) → StopsAfter part bytes status → IsStatusAmong init_statuses status
stops_among part bytes Done h = absurd h
stops_among part bytes SomeRefused h = absurd h
stops_among part bytes Usage h = absurd h
stops_among part bytes ProgramRefused h = absurd h
stops_among part bytes StoreRefused h = absurd h
stops_among part bytes SourceFault h = inr (inr (inr (inl refl)))
stops_among part bytes SinkFault h = absurd h
stops_among part bytes DiskFault h = inr (inr (inr (inr (inr (inl refl)))))
stops_among part bytes InputTooLong h = inr (inr (inr (inr (inr (inr (inl refl))))))
stops_among part bytes NoMemory h = inr (inr (inr (inr (inr (inr (inr (inl refl)))))))

by_line_among : (status ending : Status) → IsStatusAmong init_statuses ending → (status ≡ ending) ⊎ (status ≡ SinkFault) → IsStatusAmong init_statuses status
by_line_among status ending among (inl x) = subst (IsStatusAmong init_statuses) (sym x) among
by_line_among status ending among (inr x) = inr (inr (inr (inr (inl x))))

module _ {S K D : Type 0} (source : OfSource.Ghosts S) (sink : OfSink.Ghosts K) (disk : OfDisk.Ghosts D) (command : Command) (s s' : S) (k k' : K) (d d' : D) where
  makes_among : (payloads : List (List ℕ)) (lines : List ℕ) (status : Status) → EndsMaking sink disk (k, d) (k', d') payloads lines status → IsStatusAmong init_statuses status
  makes_among payloads lines Done h = inl refl
  makes_among payloads lines SomeRefused h = absurd h
  makes_among payloads lines Usage h = absurd h
  makes_among payloads lines ProgramRefused h = absurd h
  makes_among payloads lines StoreRefused h = inr (inr (inl refl))
  makes_among payloads lines SourceFault h = absurd h
  makes_among payloads lines SinkFault h = inr (inr (inr (inr (inl refl))))
  makes_among payloads lines DiskFault h = inr (inr (inr (inr (inr (inl refl)))))
  makes_among payloads lines InputTooLong h = absurd h
  makes_among payloads lines NoMemory h = inr (inr (inr (inr (inr (inr (inr (inl refl)))))))

  -- it ends with SomeRefused only if it refuses scripts by its own rules, and never with Usage
  pub ends_among : (status : Status) → Ends source sink disk command (devices_of s k d) (devices_of s' k' d') status
      → ((bytes : List ℕ) × ((line : List ℕ) × command.refuses bytes line)) × ((status ≡ SomeRefused) ⊎ (status ≡ SinkFault)) ⊎ IsStatusAmong init_statuses status
  ends_among status (inl e) = inr (by_line_among status StoreRefused (inr (inr (inl refl))) (given_with sink k k' (refusal_line LogExists) StoreRefused status e.given))
  ends_among status (inr (inl e)) = inr (stops_among command.part e.bytes status e.stops)
  ends_among status (inr (inr (inl e))) = inr (by_line_among status ProgramRefused (inr (inl refl)) (given_with sink k k' e.line ProgramRefused status e.given))
  ends_among status (inr (inr (inr (inl e)))) = inl ((e.bytes, (e.line, e.refused)), given_with sink k k' e.line SomeRefused status e.given)
  ends_among status (inr (inr (inr (inr e)))) = inr (makes_among e.payloads e.lines status e.ends)

  -- a command with no rules of its own
  pub init_among : ((bytes line : List ℕ) → command.refuses bytes line → ⊥) → (status : Status) → Ends source sink disk command (devices_of s k d) (devices_of s' k' d') status → IsStatusAmong init_statuses status
  init_among never status e = by_end (ends_among status e) where
    by_end : ((bytes : List ℕ) × ((line : List ℕ) × command.refuses bytes line)) × ((status ≡ SomeRefused) ⊎ (status ≡ SinkFault)) ⊎ IsStatusAmong init_statuses status → IsStatusAmong init_statuses status
    by_end (inl own) = absurd (never own.0.0 own.0.1.0 own.0.1.1)
    by_end (inr among) = among

  pub import_among : (status : Status) → Ends source sink disk command (devices_of s k d) (devices_of s' k' d') status → IsStatusAmong import_statuses status
  import_among status e = by_end (ends_among status e) where
    by_end : ((bytes : List ℕ) × ((line : List ℕ) × command.refuses bytes line)) × ((status ≡ SomeRefused) ⊎ (status ≡ SinkFault)) ⊎ IsStatusAmong init_statuses status → IsStatusAmong import_statuses status
    by_end (inl (own, inl x)) = inl x
    by_end (inl (own, inr x)) = inr (inr (inr (inr (inr (inl x)))))
    by_end (inr among) = inr among

-- ---- the refusal of a program part

stops_unrefused : (part : PartMeaning) (bytes : List ℕ) (refusal : part.Refusal) (status : Status) → StopsAfter part bytes status → has_separator bytes ≡ true → part.accepted (program_part bytes) ≡ Err refusal → MayRefuse status
stops_unrefused part bytes refusal Done stops has refused = absurd stops
stops_unrefused part bytes refusal SomeRefused stops has refused = absurd stops
stops_unrefused part bytes refusal ProgramRefused stops has refused = tt
stops_unrefused part bytes refusal StoreRefused stops has refused = absurd stops
stops_unrefused part bytes refusal SourceFault stops has refused = absurd (never_both part bytes refusal (stops.1 has) refused)
stops_unrefused part bytes refusal SinkFault stops has refused = tt
stops_unrefused part bytes refusal DiskFault stops has refused = let never : has_separator [] ≡ true = subst (λ b. has_separator b ≡ true) stops has in cc
stops_unrefused part bytes refusal InputTooLong stops has refused = absurd (never_both part bytes refusal (stops.1 has) refused)
stops_unrefused part bytes refusal NoMemory stops has refused = tt
stops_unrefused part bytes refusal Usage stops has refused = absurd stops

-- nothing was read, and the status is another
pub refuses_nothing : (part : PartMeaning) {S : Type 0} (source : OfSource.Ghosts S) (s : S) (status : Status) → (status ≡ ProgramRefused → ⊥) → RefusesAtOnce part source s s status
refuses_nothing part source s status other = record { bytes = []; took = Consumes-nil (source.left s); only = λ is. absurd (other is); whole = λ has refusal refused. cc }

-- the line `store refused: log-exists` does not end with that status
pub other_line : {K : Type 0} (sink : OfSink.Ghosts K) (k k' : K) (status : Status) → GivesLine sink k k' (refusal_line LogExists) StoreRefused status → status ≡ ProgramRefused → ⊥
other_line sink k k' status (inl (now, given)) is = cc
other_line sink k k' status (inr (now, given)) is = cc

never_refused : (part : PartMeaning) (bytes : List ℕ) (status : Status) → StopsAfter part bytes status → status ≡ ProgramRefused → ⊥
never_refused part bytes status stops is = subst (StopsAfter part bytes) is stops

-- these bytes were taken
module _ (part : PartMeaning) {S : Type 0} (source : OfSource.Ghosts S) (s s' : S) (bytes : List ℕ) (took : Took source s s' bytes) (status : Status) where
  -- the program part is accepted, if its separator has come
  pub accepts_at_once : PartGoesOn part bytes → (status ≡ ProgramRefused → ⊥) → RefusesAtOnce part source s s' status
  accepts_at_once goes_on other = record { bytes = bytes; took = took; only = λ is. absurd (other is); whole = λ has refusal refused. absurd (never_both part bytes refusal (goes_on has) refused) }

  -- the command stopped before its script was known
  pub stops_at_once : StopsAfter part bytes status → RefusesAtOnce part source s s' status
  stops_at_once stops = record {
    bytes = bytes;
    took = took;
    only = λ is. absurd (never_refused part bytes status stops is);
    whole = λ has refusal refused. stops_unrefused part bytes refusal status stops has refused;
  }

  -- the line of a refusal was written, or a prefix of it
  pub refuses_with : {K : Type 0} (sink : OfSink.Ghosts K) (k k' : K) (line : List ℕ) → RefusesPartWith part source s s' bytes line → GivesLine sink k k' line ProgramRefused status → RefusesAtOnce part source s s' status
  refuses_with sink k k' line refuses given = record {
    bytes = bytes;
    took = took;
    only = λ is. (line, refuses);
    whole = λ has refusal refused. by_line (given_with sink k k' line ProgramRefused status given);
  } where
    by_line : (status ≡ ProgramRefused) ⊎ (status ≡ SinkFault) → MayRefuse status
    by_line (inl x) = subst MayRefuse (sym x) tt
    by_line (inr x) = subst MayRefuse (sym x) tt

module _ {S K D : Type 0} (source : OfSource.Ghosts S) (sink : OfSink.Ghosts K) (disk : OfDisk.Ghosts D) (command : Command)
    (accepts : (bytes : List ℕ) (payloads : List (List ℕ)) (lines : List ℕ) → command.makes bytes payloads lines → IsAcceptedPart command.part bytes)
    (refuses : (bytes line : List ℕ) → command.refuses bytes line → IsAcceptedPart command.part bytes) where
  module _ (s s' : S) (k k' : K) (d d' : D) (status : Status) where
    -- a refusal of the program part is exact, and comes at once
    pub refuses_at_once : Ends source sink disk command (devices_of s k d) (devices_of s' k' d') status → RefusesAtOnce command.part source s s' status
    refuses_at_once (inl e) = accepts_at_once command.part source s s' e.bytes e.took status e.goes_on (other_line sink k k' status e.given)
    refuses_at_once (inr (inl e)) = stops_at_once command.part source s s' e.bytes e.took status e.stops
    refuses_at_once (inr (inr (inl e))) = refuses_with command.part source s s' e.bytes e.took status sink k k' e.line e.refused e.given
    refuses_at_once (inr (inr (inr (inl e)))) =
        accepts_at_once command.part source s s' e.bytes e.took status (λ has. refuses e.bytes e.line e.refused) (λ is. by_line is (given_with sink k k' e.line SomeRefused status e.given)) where
          by_line : status ≡ ProgramRefused → (status ≡ SomeRefused) ⊎ (status ≡ SinkFault) → ⊥
          by_line is (inl x) = cc
          by_line is (inr x) = cc
    refuses_at_once (inr (inr (inr (inr e)))) =
        accepts_at_once command.part source s s' e.bytes e.took status (λ has. accepts e.bytes e.payloads e.lines e.made)
        (λ is. absurd (subst (EndsMaking sink disk (k, d) (k', d') e.payloads e.lines) is e.ends))

  -- ---- completeness

  -- what was taken of a source whose bytes are known
  as_known : (s s' : S) (bytes : List ℕ) (left' : Option (List ℕ)) (taken : List ℕ) → source.left s ≡ Some bytes → source.left s' ≡ left' → Took source s s' taken → Consumes (Some bytes) left' taken
  as_known s s' bytes left' taken is is' took = subst (λ o. Consumes (Some bytes) o taken) is' (subst (λ o. Consumes o (source.left s') taken) is took)

  never_found : (o : Option (List ℕ)) (P : List ℕ → Type 0) → o ≡ Some [] → IfSome o (λ before. (0 < length before) × P before) → ⊥
  never_found o P e h = let k = subst (λ x. IfSome x (λ before. (0 < length before) × P before)) e h in omega (arith, k.0)

  memory_complete : (bytes : List ℕ) (status : Status) → status ≡ NoMemory → IsCompleteCommand command bytes status
  memory_complete bytes status is = subst (IsCompleteCommand command bytes) (sym is) (record { accepted = λ a room. tt; refused = λ refusal e. tt })

  -- a command that refuses a script whose program part is accepted
  own_complete : (bytes : List ℕ) → IsAcceptedPart command.part bytes → IsCompleteCommand command bytes SomeRefused
  own_complete bytes a = record { accepted = λ b room. tt; refused = λ refusal e. absurd (never_both command.part bytes refusal a e) }

  -- R, F and G say that the source, the sink or the disk failed
  module _ (R F G : Type 0) where
    only_memory : (taken : List ℕ) (status : Status) → StopsAfter command.part taken status → length taken ≤ MOST_BYTES → (status ≡ SourceFault → R) → (status ≡ DiskFault → G) → (R → ⊥) → (G → ⊥) → status ≡ NoMemory
    only_memory taken Done h few r g no_source no_disk = absurd h
    only_memory taken SomeRefused h few r g no_source no_disk = absurd h
    only_memory taken ProgramRefused h few r g no_source no_disk = absurd h
    only_memory taken StoreRefused h few r g no_source no_disk = absurd h
    only_memory taken SourceFault h few r g no_source no_disk = absurd (no_source (r refl))
    only_memory taken SinkFault h few r g no_source no_disk = absurd h
    only_memory taken DiskFault h few r g no_source no_disk = absurd (no_disk (g refl))
    only_memory taken InputTooLong h few r g no_source no_disk = absurd (omega (arith, h.0, few))
    only_memory taken NoMemory h few r g no_source no_disk = refl
    only_memory taken Usage h few r g no_source no_disk = absurd h

    made_ends : (k k' : K) (d d' : D) (payloads : List (List ℕ)) (lines : List ℕ) (status : Status) → EndsMaking sink disk (k, d) (k', d') payloads lines status
        → (status ≡ SinkFault → F) → (status ≡ DiskFault → G) → (F → ⊥) → (G → ⊥) → (IsTooLong payloads → ⊥) → IsEnd status
    made_ends k k' d d' payloads lines Done h f g no_sink no_disk room = tt
    made_ends k k' d d' payloads lines SomeRefused h f g no_sink no_disk room = absurd h
    made_ends k k' d d' payloads lines ProgramRefused h f g no_sink no_disk room = absurd h
    made_ends k k' d d' payloads lines StoreRefused h f g no_sink no_disk room = absurd (room h.0)
    made_ends k k' d d' payloads lines SourceFault h f g no_sink no_disk room = absurd h
    made_ends k k' d d' payloads lines SinkFault h f g no_sink no_disk room = absurd (no_sink (f refl))
    made_ends k k' d d' payloads lines DiskFault h f g no_sink no_disk room = absurd (no_disk (g refl))
    made_ends k k' d d' payloads lines InputTooLong h f g no_sink no_disk room = absurd h
    made_ends k k' d d' payloads lines NoMemory h f g no_sink no_disk room = tt
    made_ends k k' d d' payloads lines Usage h f g no_sink no_disk room = absurd h

    -- a command that met no fault, over a source that had these bytes and has `left'`
    pub by_end : (s s' : S) (k k' : K) (d d' : D) (status : Status) (bytes : List ℕ) (left' : Option (List ℕ)) → Ends source sink disk command (devices_of s k d) (devices_of s' k' d') status
        → source.left s ≡ Some bytes → source.left s' ≡ left'
        → (status ≡ SourceFault → R) → (status ≡ SinkFault → F) → (status ≡ DiskFault → G) → disk.content d ≡ Some []
        → length bytes ≤ MOST_BYTES → (R → ⊥) → (F → ⊥) → (G → ⊥) → IsCompleteCommand command bytes status
    by_end s s' k k' d d' status bytes left' (inl e) is is' r f g empty few no_source no_sink no_disk = absurd (never_found (disk.content d) (λ before. e.bytes ≡ []) empty e.some)
    by_end s s' k k' d d' status bytes left' (inr (inl e)) is is' r f g empty few no_source no_sink no_disk =
        let took = as_known s s' bytes left' e.bytes is is' e.took in
        memory_complete bytes status (only_memory e.bytes status e.stops (omega (arith, few, few_taken bytes left' e.bytes took)) r g no_source no_disk)
    by_end s s' k k' d d' status bytes left' (inr (inr (inl e))) is is' r f g empty few no_source no_sink no_disk = by_given e.given where
      same : command.part.accepted (program_part bytes) ≡ command.part.accepted (program_part e.bytes)
      same = ap command.part.accepted (part_of_all bytes left' e.bytes (as_known s s' bytes left' e.bytes is is' e.took) (subst (λ o. IsFixed e.bytes ⊎ IsAtEnd o) is' (fixed_or_read source s s' e.bytes e.refused.whole)))

      by_given : GivesLine sink k k' e.line ProgramRefused status → IsCompleteCommand command bytes status
      by_given (inl (now, given)) = subst (IsCompleteCommand command bytes) (sym now) (record {
        accepted = λ a room. absurd (never_both command.part bytes e.refused.refused.refusal a (same ∙ e.refused.refused.is));
        refused = λ refusal x. tt;
      })
      by_given (inr (now, given)) = absurd (no_sink (f now))
    by_end s s' k k' d d' status bytes left' (inr (inr (inr (inl e)))) is is' r f g empty few no_source no_sink no_disk = by_given e.given where
      same : e.bytes ≡ bytes
      same = sym (all_taken bytes left' e.bytes (as_known s s' bytes left' e.bytes is is' e.took) (subst IsAtEnd is' e.read))

      by_given : GivesLine sink k k' e.line SomeRefused status → IsCompleteCommand command bytes status
      by_given (inl (now, given)) = subst (IsCompleteCommand command bytes) (sym now) (own_complete bytes (subst (IsAcceptedPart command.part) same (refuses e.bytes e.line e.refused)))
      by_given (inr (now, given)) = absurd (no_sink (f now))
    by_end s s' k k' d d' status bytes left' (inr (inr (inr (inr e)))) is is' r f g empty few no_source no_sink no_disk =
        let same : bytes ≡ e.bytes = all_taken bytes left' e.bytes (as_known s s' bytes left' e.bytes is is' e.took) (subst IsAtEnd is' e.read) in
        subst (λ b. IsCompleteCommand command b status) (sym same) (record {
          accepted = λ a room. made_ends k k' d d' e.payloads e.lines status e.ends f g no_sink no_disk (room e.payloads e.lines e.made);
          refused = λ refusal x. absurd (never_both command.part e.bytes refusal (accepts e.bytes e.payloads e.lines e.made) x);
        })

  -- if the bytes of the source are known
  if_known : (o : Option (List ℕ)) (P : List ℕ → Type 0) → ((bytes : List ℕ) → o ≡ Some bytes → P bytes) → IfSome o P
  if_known None P f = tt
  if_known (Some bytes) P f = f bytes refl

  -- A command that met no fault is complete.
  pub complete : (s s' : S) (k k' : K) (d d' : D) (status : Status) → Ends source sink disk command (devices_of s k d) (devices_of s' k' d') status
      → (status ≡ SourceFault → SourceFailed source s s') → (status ≡ SinkFault → SinkFailed sink k k') → (status ≡ DiskFault → DiskFailed disk d d')
      → Completes source sink disk command (devices_of s k d) (devices_of s' k' d') status
  complete s s' k k' d d' status ends r f g empty =
      if_known (source.left s) (λ bytes. length bytes ≤ MOST_BYTES → (SourceFailed source s s' → ⊥) → (SinkFailed sink k k' → ⊥) → (DiskFailed disk d d' → ⊥) → IsCompleteCommand command bytes status)
      (λ bytes is few no_source no_sink no_disk.
      by_end (SourceFailed source s s') (SinkFailed sink k k') (DiskFailed disk d d') s s' k k' d d' status bytes (source.left s') ends is refl r f g empty few no_source no_sink no_disk)
