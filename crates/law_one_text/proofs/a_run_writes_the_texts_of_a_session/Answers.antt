use Rattle.std.proofs.Common.{◌++◌}
use Rattle.embed_session.specs.Embedded.{text_of}
use Rattle.run_pair.specs.Scripts.{pair_script}
use Rattle.run_scripts.specs.Report.{report}
use Rattle.law_one_text.proofs.PairReports.{session_reports, same_text}
use Rattle.law_one_text.proofs.a_run_writes_the_texts_of_a_session.Goals as goal

pub returns : goal.returns
returns g c old new status call lines texts first last shown behind opened given h =
    let r = session_reports call.bytes lines texts first last shown behind opened given h in
    same_text (report pair_script call.bytes) call.text (texts ++ text_of shown) status r.status call.is_report r.is_report
