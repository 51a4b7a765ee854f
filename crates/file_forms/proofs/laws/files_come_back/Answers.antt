use Rattle.file_forms.proofs.ComesBack.{comes_back}
use Rattle.file_forms.proofs.laws.files_come_back.Goals as goal

pub returns : goal.returns
returns c = comes_back
