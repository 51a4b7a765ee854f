use Rattle.doc_values.proofs.DocKinds.{not-unit, not-bool, not-int, not-text, not-pick, not-rec, not-alt, not-hold}
use Rattle.doc_values.proofs.same.+same_doc.Goals as goal

pub same_doc-returns-in_default : goal.same_doc-returns-in_default
same_doc-returns-in_default t c = not-unit _ _ c.in_default.is-0 c.in_default.not-Unit-1

pub same_doc-returns-in_default-2 : goal.same_doc-returns-in_default-2
same_doc-returns-in_default-2 t c = not-bool _ _ _ c.in_default.is-0 c.in_default.not-Bool-1

pub same_doc-returns-in_default-3 : goal.same_doc-returns-in_default-3
same_doc-returns-in_default-3 t c = not-int _ _ _ c.in_default.is-0 c.in_default.not-Int-1

pub same_doc-returns-in_default-4 : goal.same_doc-returns-in_default-4
same_doc-returns-in_default-4 t c = not-text _ _ _ c.in_default.is-0 c.in_default.not-Text-1

pub same_doc-returns-in_default-5 : goal.same_doc-returns-in_default-5
same_doc-returns-in_default-5 t c = not-pick _ _ _ c.in_default.is-0 c.in_default.not-Pick-1

pub same_doc-returns-in_default-6 : goal.same_doc-returns-in_default-6
same_doc-returns-in_default-6 t c = not-rec _ _ _ c.in_default.is-0 c.in_default.not-Rec-1

pub same_doc-returns-in_default-7 : goal.same_doc-returns-in_default-7
same_doc-returns-in_default-7 t c = not-alt _ _ _ _ c.in_default.is-0 c.in_default.not-Alt-1

pub same_doc-returns-in_default-8 : goal.same_doc-returns-in_default-8
same_doc-returns-in_default-8 t c = not-hold _ _ _ _ c.in_default.is-0 c.in_default.not-Hold-1
