-- What `import` makes of a script, and what follows from how it ends.
use Rattle.std.proofs.Common.{◌≡◌, ◌⊎◌, inl, inr, ℕ, List, [], ◌∷◌, length, Option, Some, Result, Ok, refl, sym, ap, subst, ◌∙◌, arith}
use Rattle.std.specs.Prelude.{IfSome}
use Rattle.lens_io.specs.Calls.{Gave}
use Rattle.lens_io.specs.declared.disk.Disk as OfDisk
use Rattle.lens_io.specs.declared.sink.Sink as OfSink
use Rattle.lens_io.specs.declared.source.Source as OfSource
use Rattle.program_accepted.proofs.AcceptedForms.{accepted_typed}
use Rattle.doc_values.specs.Documents.{DocTree}
use Rattle.edit_inverse.specs.Construct.{construct}
use Rattle.edit_journal.specs.EntryJson.{tree_of_text}
use Rattle.edit_module.specs.Changes.{one}
use Rattle.lens_forms.specs.Forms.{FormTree, left_type}
use Rattle.program_terms.specs.Terms.{ProgramTree}
use Rattle.program_writing.specs.Canonical.{canonical}
use Rattle.script_input.specs.Lines.{program_part, journal}
use Rattle.store_records.specs.RecordJson.{tree_of_program}
use Rattle.store_run.specs.Devices.{devices_of}
use Rattle.store_run.specs.Refusals.{refusal_line}
use Rattle.store_run.specs.declared.refusals.StoreRefusal.TheVariants.{LogExists}
use Rattle.store_session.specs.Stands.{at_start, stands}
use Rattle.store_session.specs.Standings.{standing}
use Rattle.store_session.specs.Written.{the_change}
use Rattle.store_session.specs.WrittenStands.{one_stands}
use Rattle.texts.specs.declared.side.Side.TheVariants.{Left}
use Rattle.store_new.specs.NewEnds.{GivesLine, StopsAfter, Ends}
use Rattle.store_new.specs.NewRooms.{PlanHasNoRoom, ScriptHasNoRoom}
use Rattle.program_accepted.specs.Program.{IsAccepted}
use Rattle.store_new.specs.Scripts.{IsAcceptedPart, one_program}
use Rattle.store_new.specs.NewStores.{HoldsStore, EndsMaking}
use Rattle.command_ends.specs.declared.status.Status.{Status}
use Rattle.command_ends.specs.declared.status.Status.TheVariants.{Done, SomeRefused, ProgramRefused, StoreRefused, SinkFault}
use Rattle.store_new.proofs.CommandStatuses.{done, given_with}
use Rattle.store_new.proofs.Commands.{ends_plan, refused_with, runs_out}
use Rattle.store_new.proofs.NewRoomsHold.{no_room_for_same, no_room_for_script}
use Rattle.store_new.specs.Init.{program_payload}
use Rattle.store_new.proofs.InitEnds.{program_stands_first}
use Rattle.store_new.specs.Found.{document_of_found}
use Rattle.store_new.specs.ImportReading.{ReadsImport}
use Rattle.store_new.specs.Import.{document_of_script, import_line, RefusesDocument, Brings, Imports, RefusesImport, import_command}
use Rattle.store_new.specs.ImportStores.{IsEntryText, IsImportStore, EndsImport, IsFoundStore}
use Rattle.store_new.specs.declared.document.Found.{Found}
use Rattle.store_new.specs.declared.refused.ImportRefusal.{ImportRefusal}
use Rattle.store_new.proofs.FoundLines.{document_found}

-- the two payloads stand for the triple of the document
both_stand : (part : List ℕ) (program : ProgramTree) (form : FormTree) (doc : DocTree) (payload lines : List ℕ) → IsAccepted part program form → tree_of_text (program_payload program) ≡ Some (tree_of_program (canonical program))
    → (e : IsEntryText form doc payload lines) → stands (program_payload program ∷ payload ∷ []) ≡ Ok (standing form e.after 1 2)
both_stand part program form doc payload lines a reads e =
    one_stands (program_payload program ∷ []) payload (the_change (one (Left, construct (left_type form) doc))) (at_start (form, 2)) (standing form e.after 1 2)
    (accepted_typed part form a.has_lens) (program_stands_first part program form a reads) e.reads (e.counts, e.word ∷ [], e.steps, refl)

brings : (bytes : List ℕ) (program : ProgramTree) (form : FormTree) (doc : DocTree) (payloads : List (List ℕ)) (lines : List ℕ) → IsAccepted (program_part bytes) program form
    → document_of_script (left_type form) bytes ≡ Ok doc → IsImportStore program form doc payloads lines → Brings bytes payloads lines
brings bytes program form doc payloads lines a document s =
    let e = s.entry in
    record {
      program = program;
      form = form;
      doc = doc;
      after = e.after;
      word = e.word;
      imported = record {
        accepted = a;
        is_document = document;
        steps = e.steps;
        left_is = e.left_is;
        in_step = e.in_step;
        stand = subst (λ p. stands (program_payload program ∷ p ∷ []) ≡ Ok (standing form e.after 1 2)) e.is_payload (both_stand (program_part bytes) program form doc s.payload lines a s.reads e);
      };
      are = s.are ∙ ap (λ p. program_payload program ∷ p ∷ []) e.is_payload;
      written = e.written;
    }

-- the disk has no room for the store of a document that was found
pub found_no_room : (o : Option ℕ) (program : ProgramTree) (form : FormTree) (outcome : Result DocTree ImportRefusal) (doc : DocTree) → outcome ≡ Ok doc → IfSome o (PlanHasNoRoom (IsImportStore program form doc))
    → IfSome o (PlanHasNoRoom (IsFoundStore program form outcome))
found_no_room o program form outcome doc is h =
    no_room_for_same o (IsImportStore program form doc) (IsFoundStore program form outcome) (λ payloads lines s. record { doc = doc; is = is; store = s }) h

-- the script was read, and the disk has no room for its store
pub brings_no_room : {S : Type 0} (source : OfSource.Ghosts S) (o : Option ℕ) (s s' : S) (program : ProgramTree) (form : FormTree) (found : Found) → ReadsImport source s s' program form found
    → IfSome o (PlanHasNoRoom (IsFoundStore program form (document_of_found (left_type form) found))) → IfSome o (ScriptHasNoRoom source import_command s s')
brings_no_room source o s s' program form found r h =
    let same : document_of_found (left_type form) found ≡ document_of_script (left_type form) r.bytes = ap (document_of_found (left_type form)) r.is ∙ document_found (left_type form) (journal r.bytes) in
    no_room_for_script source import_command o s s' r.bytes (IsFoundStore program form (document_of_found (left_type form) found)) r.took r.read r.within
    (λ payloads lines f. brings r.bytes program form f.doc payloads lines r.accepted (sym same ∙ f.is) f.store) h

pub accepts : (bytes : List ℕ) (payloads : List (List ℕ)) (lines : List ℕ) → Brings bytes payloads lines → IsAcceptedPart one_program bytes
accepts bytes payloads lines b = (b.form, b.imported.accepted.has_lens)

pub refuses : (bytes line : List ℕ) → RefusesDocument bytes line → IsAcceptedPart one_program bytes
refuses bytes line r = (r.form, r.accepted.has_lens)

module _ {S K D : Type 0} (source : OfSource.Ghosts S) (sink : OfSink.Ghosts K) (disk : OfDisk.Ghosts D) (s s' : S) (k k' : K) (d d' : D) (status : Status) where
  -- the script was read, and its document was refused, or its store was made, or its making stopped
  pub brought : (program : ProgramTree) (form : FormTree) (found : Found) → ReadsImport source s s' program form found
      → IfSome (disk.content d) (λ before. length before ≡ 0) → EndsImport sink disk (k, d) (k', d') program form (document_of_found (left_type form) found) status
      → Ends source sink disk import_command (devices_of s k d) (devices_of s' k' d') status
  brought program form found r empty ends = by_end ends where
    same : document_of_found (left_type form) found ≡ document_of_script (left_type form) r.bytes
    same = ap (document_of_found (left_type form)) r.is ∙ document_found (left_type form) (journal r.bytes)

    by_end : EndsImport sink disk (k, d) (k', d') program form (document_of_found (left_type form) found) status → Ends source sink disk import_command (devices_of s k d) (devices_of s' k' d') status
    by_end (inl (x, still)) = subst (λ y. Ends source sink disk import_command (devices_of s k d) (devices_of s' k' y) status) (sym still)
        (refused_with source sink disk import_command s s' k k' d r.bytes status r.took (import_line x.refusal) r.read r.within
        (record { program = program; form = form; accepted = r.accepted; refusal = x.refusal; refused = sym same ∙ x.is; is_line = refl }) empty x.given)
    by_end (inr (inl (doc, is, plan))) =
        ends_plan source sink disk import_command s s' k k' d d' r.bytes (IsImportStore program form doc) status r.took r.read r.within (form, r.accepted.has_lens) empty
        (λ payloads lines f. brings r.bytes program form doc payloads lines r.accepted (sym same ∙ is) f) plan
    by_end (inr (inr (is, still, given))) = subst (λ y. Ends source sink disk import_command (devices_of s k d) (devices_of s' k' y) status) (sym still)
        (runs_out source sink disk import_command s s' k k' d r.bytes status r.took (omega (arith, r.within)) is given)

  pub imports : Ends source sink disk import_command (devices_of s k d) (devices_of s' k' d') status → status ≡ Done → Imports source sink disk (devices_of s k d) (devices_of s' k' d')
  imports e is =
      let m = done source sink disk import_command s s' k k' d d' status e is in
      let b = m.made in
      record {
        bytes = m.bytes;
        took = m.took;
        read = m.read;
        within = m.within;
        was_empty = m.was_empty;
        program = b.program;
        form = b.form;
        doc = b.doc;
        after = b.after;
        word = b.word;
        imported = b.imported;
        stored = subst (HoldsStore disk d') b.are m.ends.0;
        given = subst (Gave sink k k') b.written m.ends.1;
      }

  pub refuses_import : Ends source sink disk import_command (devices_of s k d) (devices_of s' k' d') status → status ≡ SomeRefused → RefusesImport source sink disk (devices_of s k d) (devices_of s' k' d')
  refuses_import (inl e) is = absurd (by_line (given_with sink k k' (refusal_line LogExists) StoreRefused status e.given)) where
    by_line : (status ≡ StoreRefused) ⊎ (status ≡ SinkFault) → ⊥
    by_line (inl x) = cc
    by_line (inr x) = cc
  refuses_import (inr (inl e)) is = absurd (subst (StopsAfter one_program e.bytes) is e.stops)
  refuses_import (inr (inr (inl e))) is = absurd (by_line (given_with sink k k' e.line ProgramRefused status e.given)) where
    by_line : (status ≡ ProgramRefused) ⊎ (status ≡ SinkFault) → ⊥
    by_line (inl x) = cc
    by_line (inr x) = cc
  refuses_import (inr (inr (inr (inl e)))) is = by_given e.given where
    by_given : GivesLine sink k k' e.line SomeRefused status → RefusesImport source sink disk (devices_of s k d) (devices_of s' k' d')
    by_given (inl (same, given)) = record {
      bytes = e.bytes;
      took = e.took;
      read = e.read;
      within = e.within;
      line = e.line;
      refused = e.refused;
      was_empty = e.was_empty;
      unwritten = e.unwritten;
      given = given;
    }
    by_given (inr (same, given)) = absurd (let x = sym same ∙ is in cc)
  refuses_import (inr (inr (inr (inr e)))) is = absurd (subst (EndsMaking sink disk (k, d) (k', d') e.payloads e.lines) is e.ends)
