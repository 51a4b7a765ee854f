use Rattle.std.proofs.Common.{◌≡◌, drop}
use Rattle.file_forms.specs.Forms.{word_literals}
use Rattle.file_forms.specs.Slots.{literal_slot, is_any}
use Rattle.file_forms.proofs.words.is_any.Given as goal

abbrev pub invariant-loop-word : goal.invariant-loop-word
invariant-loop-word l =
    is_any (word_literals (drop l.word-index l.words)) (literal_slot l.literal) ≡ is_any (word_literals l.words) (literal_slot l.literal)
