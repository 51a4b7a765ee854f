use Rattle.doc_values.specs.Documents.{doc_tree}
use Rattle.file_forms.specs.Forms.{file_form_tree}
use Rattle.file_values.proofs.WrittenTrees.{written_back, written_numbers}
use Rattle.file_values.proofs.write.write_tree.Goals as goal

pub returns-clause-reads_back : goal.returns-clause-reads_back
returns-clause-reads_back c = written_back c.written.result (file_form_tree c.args.form.now) (doc_tree c.args.doc.now) c.written.ensures

pub returns-clause-numbers : goal.returns-clause-numbers
returns-clause-numbers c = written_numbers c.written.result (file_form_tree c.args.form.now) (doc_tree c.args.doc.now) c.written.ensures
