use Rattle.std.proofs.Common.{◌≡◌, ◌++◌, drop}
use Rattle.edit_journal.specs.Pieces.{texts_of}
use Rattle.embed_session.specs.Cutting.{onto}
use Rattle.embed_session.proofs.records.cut.Given as goal

abbrev pub invariant-bytes : goal.invariant-bytes
invariant-bytes l = l.texts.items ++ onto l.begun.items (texts_of (drop l.i l.bytes)) ≡ texts_of l.bytes
