use Rattle.std.proofs.Common.{◌≡◌, drop}
use Rattle.file_forms.specs.FileValues.{word_slot}
use Rattle.file_values.proofs.words.word_literal.Given as goal

abbrev pub invariant-loop-word : goal.invariant-loop-word
invariant-loop-word l = word_slot (drop l.word-index l.words) l.name ≡ word_slot l.words l.name
