use Rattle.file_forms.proofs.ComesBack.{read_typed}
use Rattle.file_forms.proofs.WrittenTypes.{typed}
use Rattle.file_forms.proofs.laws.forms_keep_types.Goals as goal

pub returns-clause-read : goal.returns-clause-read
returns-clause-read c = read_typed

pub returns-clause-written : goal.returns-clause-written
returns-clause-written c = typed
