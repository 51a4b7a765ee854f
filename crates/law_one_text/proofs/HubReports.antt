-- The report of `hub` is the text of the library's hub, or the line of a refusal.
use Rattle.std.proofs.Common.{◌≡◌, ℕ, List, ◌++◌, map, Some, Result, sym, ap, ◌∙◌}
use Rattle.command_ends.specs.declared.status.Status.TheVariants.{ProgramRefused}
use Rattle.edit_journal.specs.Lines.{line_of}
use Rattle.hub_run.specs.HubScript.{hub_script}
use Rattle.hub_run.specs.Lenses.{HubRefusal}
use Rattle.embed_hub.specs.Journals.{IsGiven}
use Rattle.embed_hub.specs.Embedded.{IsOpened, IsShown, text_of}
use Rattle.embed_hub.specs.declared.embedded.EmbeddedHub.{EmbeddedHub}
use Rattle.embed_hub.specs.declared.embedded.EmbeddedHub.TheVariants as embedded
use Rattle.embed_hub.specs.declared.outcome.HubOutcome.TheVariants.{Done}
use Rattle.embed_hub.specs.declared.outcome.HubPart.TheVariants.{State}
use Rattle.embed_hub.proofs.GivenLines.{is_reported}
use Rattle.lens_forms.specs.Forms.{FormTree}
use Rattle.script_input.specs.Lines.{program_part, journal}
use Rattle.run_scripts.specs.Report.{report, report_with}
use Rattle.law_one_text.specs.HubTexts.{IsHubRefused}
use Rattle.law_one_text.specs.WrittenTexts.{IsReportText}

pub hub_reports : (script : List ℕ) (lines : List (List ℕ)) (texts : List ℕ) (first last shown : EmbeddedHub) → map line_of lines ≡ journal script → IsOpened (program_part script) first
    → IsGiven first lines texts last → IsShown last State Done shown → IsReportText hub_script script (texts ++ text_of shown)
hub_reports script lines texts first last shown behind opened given h =
    let r = is_reported script lines texts first last shown behind opened given h in
    record { status = r.status; finished = r.finished; is_report = r.is_report }

pub hub_refuses : (script : List ℕ) (first : EmbeddedHub) → IsHubRefused (program_part script) first → report hub_script script ≡ Some (text_of first, ProgramRefused)
hub_refuses script (embedded.Refused why line) r =
    ap (λ (outcome : Result (List FormTree) HubRefusal). report_with hub_script outcome (journal script)) r.lenses
    ∙ ap (λ (text : List ℕ). Some (text, ProgramRefused)) (sym r.is_line)
hub_refuses script (embedded.Open hub) r = absurd r
hub_refuses script (embedded.StateRefused why) r = absurd r
hub_refuses script embedded.NoMemory r = absurd r
