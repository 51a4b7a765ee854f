-- What `init` of a hub makes of a script, and what follows from how it ends.
use Rattle.std.proofs.Common.{◌≡◌, ℕ, List, [], ◌∷◌, length, map, Option, Some, Ok, refl, sym, ap, subst, ◌∙◌}
use Rattle.std.specs.Prelude.{IfSome}
use Rattle.serde_json.specs.Written.{compact_text}
use Rattle.edit_journal.specs.EntryJson.{tree_of_text}
use Rattle.lens_forms.specs.Forms.{FormTree}
use Rattle.lens_io.specs.Calls.{Gave}
use Rattle.lens_io.specs.declared.disk.Disk as OfDisk
use Rattle.lens_io.specs.declared.sink.Sink as OfSink
use Rattle.lens_io.specs.declared.source.Source as OfSource
use Rattle.program_terms.specs.Terms.{ProgramTree}
use Rattle.program_terms.specs.Views.{program_tree}
use Rattle.program_terms.specs.declared.program.Program.{Program}
use Rattle.program_writing.specs.Canonical.{canonical}
use Rattle.script_input.specs.Lines.{program_part}
use Rattle.command_ends.specs.declared.status.Status.{Status}
use Rattle.command_ends.specs.declared.status.Status.TheVariants.{Done}
use Rattle.hub_records.specs.HubRecords.{tree_of_programs}
use Rattle.hub_records.specs.HubStands.{hub_at_start, stands_as_hub}
use Rattle.hub_records.specs.Views.{canonical_texts}
use Rattle.hub_records.proofs.FirstHubs.{programs_stand}
use Rattle.store_new.specs.NewEnds.{Ends}
use Rattle.store_new.specs.Making.{EndsPlan}
use Rattle.store_new.specs.NewRooms.{PlanHasNoRoom, ScriptHasNoRoom}
use Rattle.store_new.specs.NewStores.{HoldsStore}
use Rattle.store_new.specs.Scripts.{IsAcceptedPart}
use Rattle.store_new.proofs.CommandStatuses.{done}
use Rattle.store_new.proofs.Commands.{ends_plan}
use Rattle.store_new.proofs.NewRoomsHold.{no_room_for_script}
use Rattle.hub_run.specs.Pieces.{pieces}
use Rattle.hub_run.proofs.FoundForms.{accepted_forms}
use Rattle.hub_new.specs.HubInit.{BeginsHub, IsFirstHub, StartsHub, hub_command, programs_payload}
use Rattle.hub_new.specs.HubParts.{IsAcceptedHub, view_programs}
use Rattle.hub_new.specs.HubReading.{ReadsHub}
use Rattle.store_run.specs.Devices.{devices_of}

-- the programs alone stand for the first hub
pub programs_stand_first : (part : List ℕ) (programs : List ProgramTree) (forms : List FormTree) → IsAcceptedHub part programs forms
    → tree_of_text (programs_payload programs) ≡ Some (tree_of_programs (map canonical programs))
    → stands_as_hub (programs_payload programs ∷ []) ≡ Ok (hub_at_start forms)
programs_stand_first part programs forms a reads = programs_stand (programs_payload programs) (pieces part) programs forms reads a.read a.has_lenses (accepted_forms part forms a.has_lenses).1

begins : (bytes : List ℕ) (programs : List ProgramTree) (forms : List FormTree) (payloads : List (List ℕ)) (lines : List ℕ) → IsAcceptedHub (program_part bytes) programs forms
    → IsFirstHub programs forms payloads lines → BeginsHub bytes payloads lines
begins bytes programs forms payloads lines a s = record {
  programs = programs;
  forms = forms;
  accepted = a;
  are = s.are;
  written = s.written;
  stand = ap stands_as_hub s.are ∙ programs_stand_first (program_part bytes) programs forms a s.reads;
}

pub accepts : (bytes : List ℕ) (payloads : List (List ℕ)) (lines : List ℕ) → BeginsHub bytes payloads lines → IsAcceptedPart view_programs bytes
accepts bytes payloads lines b = (b.forms, b.accepted.has_lenses)

pub refuses : (bytes line : List ℕ) → hub_command.refuses bytes line → IsAcceptedPart view_programs bytes
refuses bytes line h = absurd h

-- the script was read, and the disk has no room for its store
pub begins_no_room : {S : Type 0} (source : OfSource.Ghosts S) (o : Option ℕ) (s s' : S) (programs : List ProgramTree) (forms : List FormTree) → ReadsHub source s s' programs forms
    → IfSome o (PlanHasNoRoom (IsFirstHub programs forms)) → IfSome o (ScriptHasNoRoom source hub_command s s')
begins_no_room source o s s' programs forms r h =
    no_room_for_script source hub_command o s s' r.bytes (IsFirstHub programs forms) r.took r.read r.within (λ payloads lines f. begins r.bytes programs forms payloads lines r.accepted f) h

module _ {S K D : Type 0} (source : OfSource.Ghosts S) (sink : OfSink.Ghosts K) (disk : OfDisk.Ghosts D) (s s' : S) (k k' : K) (d d' : D) (status : Status) where
  -- the script was read, and its store was made or its making stopped
  pub begun : (programs : List ProgramTree) (forms : List FormTree) → ReadsHub source s s' programs forms
      → IfSome (disk.content d) (λ before. length before ≡ 0) → EndsPlan sink disk (k, d) (k', d') (IsFirstHub programs forms) status
      → Ends source sink disk hub_command (devices_of s k d) (devices_of s' k' d') status
  begun programs forms r empty plan =
      ends_plan source sink disk hub_command s s' k k' d d' r.bytes (IsFirstHub programs forms) status r.took r.read r.within (forms, r.accepted.has_lenses) empty
      (λ payloads lines f. begins r.bytes programs forms payloads lines r.accepted f) plan

  pub starts : Ends source sink disk hub_command (devices_of s k d) (devices_of s' k' d') status → status ≡ Done → StartsHub source sink disk (devices_of s k d) (devices_of s' k' d')
  starts e is =
      let m = done source sink disk hub_command s s' k k' d d' status e is in
      let b = m.made in
      record {
        bytes = m.bytes;
        took = m.took;
        read = m.read;
        within = m.within;
        was_empty = m.was_empty;
        programs = b.programs;
        forms = b.forms;
        accepted = b.accepted;
        stored = subst (HoldsStore disk d') b.are m.ends.0;
        given = subst (Gave sink k k') b.written m.ends.1;
        stand = subst (λ ps. stands_as_hub ps ≡ Ok (hub_at_start b.forms)) b.are b.stand;
      }

-- ---- the payload that the code makes, of the canonical texts of the code's programs

texts_are : (programs : List Program) → canonical_texts programs ≡ map canonical (map program_tree programs)
texts_are [] = refl
texts_are (p ∷ programs) = ap (λ texts. canonical (program_tree p) ∷ texts) (texts_are programs)

pub same_payload : (programs : List Program) (payload : List ℕ) → payload ≡ compact_text (tree_of_programs (canonical_texts programs)) → payload ≡ programs_payload (map program_tree programs)
same_payload programs payload text = text ∙ ap (λ texts. compact_text (tree_of_programs texts)) (texts_are programs)

pub same_texts : (programs : List Program) (payload : List ℕ) → payload ≡ compact_text (tree_of_programs (canonical_texts programs))
    → tree_of_text payload ≡ Some (tree_of_programs (canonical_texts programs))
    → tree_of_text (programs_payload (map program_tree programs)) ≡ Some (tree_of_programs (map canonical (map program_tree programs)))
same_texts programs payload text reads =
    ap tree_of_text (sym (same_payload programs payload text)) ∙ reads ∙ ap (λ texts. Some (tree_of_programs texts)) (texts_are programs)
