-- What `init` makes of a script, and what follows from how it ends.
use Rattle.std.proofs.Common.{◌≡◌, ◌⊎◌, inl, inr, ℕ, List, [], ◌∷◌, length, Bool, true, false, cond, Option, Some, Result, Ok, Err, sym, ap, subst, ◌∙◌}
use Rattle.std.specs.Prelude.{nat_le, IfSome}
use Rattle.lens_io.specs.Calls.{Gave}
use Rattle.lens_io.specs.declared.disk.Disk as OfDisk
use Rattle.lens_io.specs.declared.sink.Sink as OfSink
use Rattle.lens_io.specs.declared.source.Source as OfSource
use Rattle.program_accepted.specs.Program.{Refusal, form_of_program}
use Rattle.edit_journal.specs.EntryJson.{tree_of_text}
use Rattle.lens_forms.specs.Forms.{FormTree}
use Rattle.lens_syntax.specs.Programs.{too_long, bounded, unbounded}
use Rattle.lens_syntax.specs.declared.reading.TheConstants.{MOST_PROGRAM_BYTES}
use Rattle.program_terms.specs.Terms.{ProgramTree}
use Rattle.program_writing.specs.Canonical.{canonical}
use Rattle.script_input.specs.Lines.{program_part}
use Rattle.store_run.specs.Devices.{devices_of}
use Rattle.store_run.specs.Refusals.{refusal_line}
use Rattle.store_run.specs.declared.refusals.StoreRefusal.TheVariants.{LogExists}
use Rattle.store_records.specs.RecordJson.{tree_of_program}
use Rattle.store_session.specs.Stands.{at_start, stands}
use Rattle.store_session.specs.WrittenStands.{program_alone_stands}
use Rattle.store_new.specs.NewEnds.{StopsAfter, Ends}
use Rattle.store_new.specs.ScriptReading.{ReadsScript, RefusesWith}
use Rattle.store_new.specs.Init.{program_payload, Begins, Starts, init_command}
use Rattle.store_new.specs.Making.{EndsPlan}
use Rattle.store_new.specs.NewRooms.{PlanHasNoRoom, ScriptHasNoRoom}
use Rattle.store_new.specs.InitStores.{IsFirstStore}
use Rattle.program_accepted.specs.Program.{IsAccepted}
use Rattle.store_new.specs.Scripts.{IsAcceptedPart, one_program}
use Rattle.store_new.specs.NewStores.{HoldsStore, EndsMaking}
use Rattle.command_ends.specs.declared.status.Status.{Status}
use Rattle.command_ends.specs.declared.status.Status.TheVariants.{Done, SomeRefused, ProgramRefused, StoreRefused, SourceFault, SinkFault, DiskFault}
use Rattle.store_new.proofs.CommandStatuses.{done, given_with}
use Rattle.store_new.proofs.Commands.{ends_plan}
use Rattle.store_new.proofs.NewRoomsHold.{no_room_for_script}

-- a text that is read within the limit is read without it
without_limit : (text : List ℕ) (program : ProgramTree) → bounded text ≡ Ok program → unbounded text ≡ Ok program
without_limit text program h = by_test (nat_le (length text) MOST_PROGRAM_BYTES) h where
  by_test : (b : Bool) → cond b (unbounded text) (Err too_long) ≡ Ok program → unbounded text ≡ Ok program
  by_test true e = e
  by_test false e = cc

-- the program alone stands for the first triple
pub program_stands_first : (part : List ℕ) (program : ProgramTree) (form : FormTree) → IsAccepted part program form → tree_of_text (program_payload program) ≡ Some (tree_of_program (canonical program))
    → stands (program_payload program ∷ []) ≡ Ok (at_start (form, 2))
program_stands_first part program form a reads =
    program_alone_stands part program form (program_payload program) (without_limit part program a.read) (ap form_of_program (sym a.read) ∙ a.has_lens) reads

begins : (bytes : List ℕ) (program : ProgramTree) (form : FormTree) (payloads : List (List ℕ)) (lines : List ℕ) → IsAccepted (program_part bytes) program form → IsFirstStore program form payloads lines
    → Begins bytes payloads lines
begins bytes program form payloads lines a s = record {
  program = program;
  form = form;
  accepted = a;
  are = s.are;
  written = s.written;
  stand = ap stands s.are ∙ program_stands_first (program_part bytes) program form a s.reads;
}

pub accepts : (bytes : List ℕ) (payloads : List (List ℕ)) (lines : List ℕ) → Begins bytes payloads lines → IsAcceptedPart one_program bytes
accepts bytes payloads lines b = (b.form, b.accepted.has_lens)

pub refuses : (bytes line : List ℕ) → init_command.refuses bytes line → IsAcceptedPart one_program bytes
refuses bytes line h = absurd h

-- the script was read, and the disk has no room for its store
pub begins_no_room : {S : Type 0} (source : OfSource.Ghosts S) (o : Option ℕ) (s s' : S) (program : ProgramTree) (form : FormTree) → ReadsScript source s s' program form
    → IfSome o (PlanHasNoRoom (IsFirstStore program form)) → IfSome o (ScriptHasNoRoom source init_command s s')
begins_no_room source o s s' program form r h =
    no_room_for_script source init_command o s s' r.bytes (IsFirstStore program form) r.took r.read r.within (λ payloads lines f. begins r.bytes program form payloads lines r.accepted f) h

-- the refusal of a program part never ends with a fault of the source or of the disk
pub never_device : {K : Type 0} (sink : OfSink.Ghosts K) (k k' : K) (outcome : Result FormTree Refusal) (status : Status) → RefusesWith one_program sink k k' outcome status
    → (status ≡ SourceFault) ⊎ (status ≡ DiskFault) → ⊥
never_device sink k k' outcome status (inl (line, is, inl (same, given))) (inl e) = cc
never_device sink k k' outcome status (inl (line, is, inl (same, given))) (inr e) = cc
never_device sink k k' outcome status (inl (line, is, inr (same, given))) (inl e) = cc
never_device sink k k' outcome status (inl (line, is, inr (same, given))) (inr e) = cc
never_device sink k k' outcome status (inr (same, given)) (inl e) = cc
never_device sink k k' outcome status (inr (same, given)) (inr e) = cc

module _ {S K D : Type 0} (source : OfSource.Ghosts S) (sink : OfSink.Ghosts K) (disk : OfDisk.Ghosts D) (s s' : S) (k k' : K) (d d' : D) (status : Status) where
  -- the script was read, and its store was made or its making stopped
  pub begun : (program : ProgramTree) (form : FormTree) → ReadsScript source s s' program form
      → IfSome (disk.content d) (λ before. length before ≡ 0) → EndsPlan sink disk (k, d) (k', d') (IsFirstStore program form) status
      → Ends source sink disk init_command (devices_of s k d) (devices_of s' k' d') status
  begun program form r empty plan =
      ends_plan source sink disk init_command s s' k k' d d' r.bytes (IsFirstStore program form) status r.took r.read r.within (form, r.accepted.has_lens) empty
      (λ payloads lines f. begins r.bytes program form payloads lines r.accepted f) plan

  pub starts : Ends source sink disk init_command (devices_of s k d) (devices_of s' k' d') status → status ≡ Done → Starts source sink disk (devices_of s k d) (devices_of s' k' d')
  starts e is =
      let m = done source sink disk init_command s s' k k' d d' status e is in
      let b = m.made in
      record {
        bytes = m.bytes;
        took = m.took;
        read = m.read;
        within = m.within;
        was_empty = m.was_empty;
        program = b.program;
        form = b.form;
        accepted = b.accepted;
        stored = subst (HoldsStore disk d') b.are m.ends.0;
        given = subst (Gave sink k k') b.written m.ends.1;
        stand = subst (λ ps. stands ps ≡ Ok (at_start (b.form, 2))) b.are b.stand;
      }

  -- `init` refuses no document
  pub no_document : Ends source sink disk init_command (devices_of s k d) (devices_of s' k' d') status → status ≡ SomeRefused → ⊥
  no_document (inl e) is = by_line (given_with sink k k' (refusal_line LogExists) StoreRefused status e.given) where
    by_line : (status ≡ StoreRefused) ⊎ (status ≡ SinkFault) → ⊥
    by_line (inl x) = cc
    by_line (inr x) = cc
  no_document (inr (inl e)) is = subst (StopsAfter one_program e.bytes) is e.stops
  no_document (inr (inr (inl e))) is = by_line (given_with sink k k' e.line ProgramRefused status e.given) where
    by_line : (status ≡ ProgramRefused) ⊎ (status ≡ SinkFault) → ⊥
    by_line (inl x) = cc
    by_line (inr x) = cc
  no_document (inr (inr (inr (inl e)))) is = e.refused
  no_document (inr (inr (inr (inr e)))) is = subst (EndsMaking sink disk (k, d) (k', d') e.payloads e.lines) is e.ends
