use Rattle.std.proofs.Common.{◌≡◌, drop}
use Rattle.file_forms.specs.Forms.{word_literals}
use Rattle.file_forms.specs.Slots.{is_any}
use Rattle.file_values.specs.Reading.{slot_of}
use Rattle.file_values.proofs.words.is_word.Given as goal

abbrev pub invariant-loop-word : goal.invariant-loop-word
invariant-loop-word l = is_any (word_literals (drop l.word-index l.words)) (slot_of l.slot) ≡ is_any (word_literals l.words) (slot_of l.slot)
