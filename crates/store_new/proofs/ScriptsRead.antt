-- What the reading of a script has found: its program, and the lines of its journal part that are not blank.
use Rattle.std.proofs.Common.{◌≡◌, ℕ, ◌+◌, List, ◌++◌, length, sym, ap, ◌∙◌, append_assoc, length-append, arith}
use Rattle.std.proofs.KnownBytes.{Consumes-trans}
use Rattle.edit_journal.specs.Pieces.{nothing_fed, fed}
use Rattle.edit_journal.proofs.Feeding.{joins, all_lines_given}
use Rattle.lens_forms.specs.Forms.{FormTree}
use Rattle.lens_io.specs.declared.failed.TakeFault.{TakeFault}
use Rattle.lens_io.specs.declared.source.Source as OfSource
use Rattle.script_input.specs.Taking.{TakenInput}
use Rattle.program_terms.specs.Terms.{ProgramTree}
use Rattle.script_input.specs.Lines.{program_part, journal}
use Rattle.script_input.specs.Parts.{HoldsPart, ReadsPart, ReadsAll}
use Rattle.script_input.specs.declared.script.ProgramText.{ProgramText}
use Rattle.store_new.specs.ScriptReading.{ReadsFront}
use Rattle.program_accepted.specs.Program.{IsAccepted}
use Rattle.store_new.specs.Scripts.{one_program}
use Rattle.store_new.proofs.Reading.{rest_accepted, rest_stops}
use Rattle.store_new.specs.Found.{added_all, all_fed, FindsRest, StopsRest}
use Rattle.store_new.specs.ImportReading.{ReadsImport}
use Rattle.store_new.specs.declared.document.Found.{Found}
use Rattle.store_new.specs.declared.document.Found.TheVariants.{Nothing}

-- a script that is a program part alone has no lines behind it
pub alone_found : {S : Type 0} (source : OfSource.Ghosts S) (s s' : S) (program : ProgramText) → ReadsAll source s s' HoldsPart program
    → (p : ProgramTree) (l : FormTree) → ((part : List ℕ) → HoldsPart program part → IsAccepted part p l) → ReadsImport source s s' p l Nothing
alone_found source s s' program r p l accepted = record {
  bytes = r.bytes;
  took = r.whole.consumes;
  read = r.whole.at_end;
  within = r.whole.within;
  accepted = accepted (program_part r.bytes) r.holds;
  is = ap (added_all Nothing) (sym r.whole.no_journal);
}

module _ {S : Type 0} (source : OfSource.Ghosts S) (s mid : S) (program : ProgramText) (input : TakenInput) (r : ReadsPart source s mid HoldsPart program input) where
  -- the lines behind the separator are those that the input has, and those that come
  journal_behind : (more : List ℕ) → journal ((r.front ++ r.rest) ++ more) ≡ all_fed (fed input.lines more)
  journal_behind more =
      ap journal (append_assoc r.front r.rest more) ∙ r.head.behind (r.rest ++ more) ∙ sym (all_lines_given (r.rest ++ more))
      ∙ ap all_fed (sym (joins nothing_fed r.rest more) ∙ ap (λ lines. fed lines more) (sym r.taken.lines))

  count : (more : List ℕ) → length ((r.front ++ r.rest) ++ more) ≡ input.taken + length more
  count more = length-append (r.front ++ r.rest) more ∙ ap (λ n. n + length more) (sym r.taken.count)

  module _ (s' : S) (p : ProgramTree) (l : FormTree) (accepted : (part : List ℕ) → HoldsPart program part → IsAccepted part p l) where
    pub rest_found : (found : Found) → FindsRest source mid s' input found → ReadsImport source s s' p l found
    rest_found found f = record {
      bytes = (r.front ++ r.rest) ++ f.more;
      took = Consumes-trans (source.left s) (source.left mid) (source.left s') (r.front ++ r.rest) f.more r.taken.consumes f.took;
      read = f.read;
      within = omega (arith, count f.more, f.within);
      accepted = rest_accepted source s mid program input r p l f.more accepted;
      is = f.is ∙ ap (added_all Nothing) (sym (journal_behind f.more));
    }

    pub finding_stops : (fault : TakeFault) → StopsRest source mid s' input fault → ReadsFront one_program source s s' fault
    finding_stops fault h = rest_stops source s mid program input r s' p l accepted fault h.more h.took h.at_most h.stops
