use Rattle.std.proofs.Common.{◌≡◌, drop}
use Rattle.file_forms.specs.FileValues.{word_of}
use Rattle.file_values.specs.Reading.{slot_of}
use Rattle.file_values.proofs.words.word_of.Given as goal

abbrev pub invariant-loop-word : goal.invariant-loop-word
invariant-loop-word l = word_of (drop l.word-index l.words) (slot_of l.slot) ≡ word_of l.words (slot_of l.slot)
