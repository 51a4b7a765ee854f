use Rattle.std.proofs.Common.{◌≡◌, drop}
use Rattle.file_forms.specs.Misfits.{not_writable}
use Rattle.file_forms.proofs.words.not_writable.Given as goal

abbrev pub invariant-loop-word : goal.invariant-loop-word
invariant-loop-word l = not_writable (drop l.word-index l.words) ≡ not_writable l.words
