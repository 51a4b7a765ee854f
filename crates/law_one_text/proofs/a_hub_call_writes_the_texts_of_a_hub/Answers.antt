use Rattle.std.proofs.Common.{◌++◌}
use Rattle.hub_run.specs.HubScript.{hub_script}
use Rattle.embed_hub.specs.Embedded.{text_of}
use Rattle.run_scripts.specs.Report.{report}
use Rattle.law_one_text.proofs.HubReports.{hub_reports}
use Rattle.law_one_text.proofs.PairReports.{same_text}
use Rattle.law_one_text.proofs.a_hub_call_writes_the_texts_of_a_hub.Goals as goal

pub returns : goal.returns
returns g c old new status call lines texts first last shown behind opened given h =
    let r = hub_reports call.bytes lines texts first last shown behind opened given h in
    same_text (report hub_script call.bytes) call.text (texts ++ text_of shown) status r.status call.is_report r.is_report
