use Rattle.file_forms.proofs.ComesBack.{one_file, in_order}
use Rattle.file_forms.proofs.laws.documents_differ_in_files.Goals as goal

pub returns-clause-differ : goal.returns-clause-differ
returns-clause-differ c = one_file

pub returns-clause-in_order : goal.returns-clause-in_order
returns-clause-in_order c = in_order
