use Rattle.std.proofs.Common.{Some}
use Rattle.file_forms.proofs.WrittenNumbers.{numbers}
use Rattle.file_forms.proofs.laws.files_have_numbers.Goals as goal

pub returns : goal.returns
returns c = λ form doc tree. numbers form doc (Some tree)
