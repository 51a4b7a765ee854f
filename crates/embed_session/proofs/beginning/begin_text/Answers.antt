use Rattle.program_terms.specs.Views.{program_tree}
use Rattle.embed_session.proofs.FirstRecords.{text_begun}
use Rattle.embed_session.proofs.beginning.begin_text.Goals as goal

pub returns-in-Ok : goal.returns-in-Ok
returns-in-Ok c = text_begun c.begin_program-begun.result c.args.text.now (program_tree c.in-Ok.program) c.in-Ok.ensures.answer c.begin_program-begun.ensures
